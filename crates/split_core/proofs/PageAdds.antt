-- What stands after a request to read a page is added.
use Rattle.std.proofs.Common.{◌≡◌, ℕ, ◌<◌, ◌≤◌, List, [], ◌∷◌, length, map, false, Option, None, ap, sym, subst, ◌∙◌}
use Rattle.std.proofs.Common.{arith}
use Rattle.std.proofs.lemmas.Bool.{both_ways}
use Rattle.std.proofs.lemmas.Bool.Decides.{nat_tests}
use Rattle.split_types.specs.declared.ids.Pid.{Pid}
use Rattle.split_types.specs.declared.ids.Serial.{Serial}
use Rattle.split_types.specs.declared.buf.Buf.TheVariants.{Page}
use Rattle.split_types.specs.declared.actor.Actor.{Actor}
use Rattle.split_types.specs.declared.request.ReqKind.{ReqKind}
use Rattle.split_types.specs.declared.request.ReqKind.TheVariants.{Read}
use Rattle.split_types.specs.declared.request.Request.{Request}
use Rattle.split_types.specs.declared.workload.Workload.{Workload}
use Rattle.split_types.specs.declared.event.Event.{Event}
use Rattle.split_types.specs.declared.event.Event.TheVariants.{Add}
use Rattle.split_types.specs.History.{◌▹◌}
use Rattle.split_types.specs.Sets.{union_of}
use Rattle.split_types.specs.Parents.{parents_of}
use Rattle.split_types.specs.Blame.{own_blame, blame}
use Rattle.split_types.specs.Requests.{is_write}
use Rattle.split_types.specs.HeldPages.{held_pages, is_full}
use Rattle.split_types.proofs.Shared.{one-is_set, union-one}
use Rattle.split_types.proofs.Shared.{blame-new}
use Rattle.cause_set.specs.Tags.{Tags, same, use_in}
use Rattle.page_cache.specs.Held.{Held}
use Rattle.page_cache.specs.Cached.{page_of, tag_in, held_in}
use Rattle.page_cache.specs.Changes.{BeginsLoad}
use Rattle.split_core.specs.declared.note.pages.Pages.{Pages as Kept}
use Rattle.split_core.specs.declared.note.pages.Taken.{Taken}
use Rattle.split_core.specs.Fits.{AddsKind, LoadFits}
use Rattle.split_core.specs.Pages.{PagesBefore, PagesAfter}
use Rattle.split_core.specs.Takings.{IsTaken}
use Rattle.split_core.proofs.PageTags.{tags_kept}
use Rattle.split_core.proofs.PageLoads.{writes_none, none_held, pages_load}

-- what is known of a request to read that comes next
pub record LoadOf (w : Workload) (h : List Event) (r : Request) (p : Pid) (s : Serial) (g : ℕ) (q : Kept) : Type 0 where
  pub fits : LoadFits w h s g r.n r.first
  pub few : g < 1008
  pub empty : page_of q.cache (Page s g) ≡ None
  pub free : held_in q.cache < q.cache.limit
  pub first : 1 ≤ p.0
  pub last : p.0 ≤ 256

pub load_of : (w : Workload) (h : List Event) (by : Actor) (r : Request) (p : Pid) (s : Serial) (g : ℕ) (q : Kept)
    (tags : Tags) → PagesBefore w q tags h (Add by r) → r.kind ≡ Read p s g → LoadOf w h r p s g q
load_of w h by r p s g q tags before is =
    let known = subst (λ (k : ReqKind). AddsKind w h by k r.n r.first) is before.fits.kind.kind
    in let fits : LoadFits w h s g r.n r.first = known.1
    in let full : is_full w h ≡ false = fits.free
    in let low : length (held_pages w h) < w.cache = grind (arith, nat_tests)
    in let client = before.fits.by p known.0
    in record {
      fits = fits;
      few = fits.page.page;
      empty = none_held (page_of q.cache (Page s g)) (before.stands.held_are s g ∙ fits.absent);
      free = omega (arith, low, before.stands.limit, before.stands.held_counted);
      first = client.first;
      last = omega (arith, client.last, before.fits.procs);
    }

pub after_load : (w : Workload) (h : List Event) (by : Actor) (r : Request) (p : Pid) (s : Serial) (g : ℕ)
    (q n : Kept) (tags : Tags) → PagesBefore w q tags h (Add by r) → r.kind ≡ Read p s g
    → BeginsLoad q.cache n.cache (Page s g) p → PagesAfter w q n tags tags (h ▹ Add by r)
after_load w h by r p s g q n tags before is begins =
    let of = load_of w h by r p s g q tags before is
    in record {
      stands = pages_load w h by r p s g q.cache n.cache tags before.accepted before.fits.legal is of.fits begins
          before.stands;
      tags = tags_kept tags q.cache n.cache (λ i. omega (
        arith,
        begins.page.tags i,
        ap (λ (x : Option Held). use_in same (tag_in x) i) of.empty,
      ));
    }

-- the process for which it reads is to blame
load_blame : (h : List Event) (by : Actor) (r : Request) (p : Pid) (s : Serial) (g : ℕ) → r.kind ≡ Read p s g
    → 1 ≤ p.0 → p.0 ≤ 256 → blame (h ▹ Add by r) (length h) ≡ p.0 ∷ []
load_blame h by r p s g is least most = blame-new h (Add by r) ∙ own
  where
    own : union_of (own_blame (Add by r) ∷ map (blame h) (parents_of h (Add by r))) ≡ p.0 ∷ []
    own = rw is (union-one (p.0 ∷ []) (one-is_set p.0 least most))

pub taken_load : (w : Workload) (h : List Event) (by : Actor) (r : Request) (p : Pid) (s : Serial) (g : ℕ) (q : Kept)
    (tags : Tags) (t : Taken) → PagesBefore w q tags h (Add by r) → r.kind ≡ Read p s g → t.tag ≡ p.0 ∷ []
    → IsTaken w h (Add by r) t
taken_load w h by r p s g q tags t before is tag =
    let of = load_of w h by r p s g q tags before is
    in record {
      bytes = λ writes. absurd (both_ways (is_write r) (writes_none r p s g is) writes);
      tag = tag ∙ sym (load_blame h by r p s g is of.first of.last);
    }
