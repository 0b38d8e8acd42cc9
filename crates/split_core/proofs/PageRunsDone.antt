-- What is known of a request that writes pages, and is done.
use Rattle.std.proofs.Common.{◌≡◌, ℕ, ◌+◌, ◌<◌, ◌^◌, List, Bool, true, false, ◌&&◌, refl, ap, sym, subst, ◌∙◌, arith}
use Rattle.std.specs.List.{list_any}
use Rattle.std.proofs.lemmas.Bool.Decides.{nat_tests}
use Rattle.std.proofs.lemmas.Option.{same_Some}
use Rattle.split_types.specs.declared.ids.Serial.{Serial}
use Rattle.split_types.specs.declared.buf.Buf.{Buf}
use Rattle.split_types.specs.declared.buf.Buf.TheVariants.{Page}
use Rattle.split_types.specs.declared.request.ReqKind.{ReqKind}
use Rattle.split_types.specs.declared.request.ReqKind.TheVariants.{Pages}
use Rattle.split_types.specs.declared.request.Request.{Request}
use Rattle.split_types.specs.declared.workload.Workload.{Workload}
use Rattle.split_types.specs.declared.event.Event.{Event}
use Rattle.split_types.specs.declared.event.Event.TheVariants.{Done}
use Rattle.split_types.specs.History.{◌▹◌}
use Rattle.split_types.specs.Hooks.{maker, covers, is_among}
use Rattle.split_types.specs.Requests.{unfinished}
use Rattle.split_types.specs.Files.{is_live}
use Rattle.split_types.specs.Pages.{is_busy}
use Rattle.split_types.specs.Proving.Came.{Came}
use Rattle.split_types.specs.Proving.Came.Came.{came_done}
use Rattle.split_types.proofs.Shared.{list_any_here, came, IsKnown, is_known, flying}
use Rattle.cause_set.specs.Tags.{Tags}
use Rattle.split_core.specs.declared.note.pages.Pages.{Pages as Kept}
use Rattle.split_core.specs.Fits.{HaveBlocks, DoneKind}
use Rattle.split_core.specs.Pages.{PagesBefore, PagesAfter, IsDoneOf, Releases}
use Rattle.split_core.proofs.PageKinds.{before_as, after_as}
use Rattle.split_core.proofs.PageTags.{tags_kept}
use Rattle.split_core.proofs.PageSettles.{covers_run, pages_settled}
use Rattle.split_core.proofs.PageDones.{done_of}

-- a request in flight is one of those that aren't done well
left_over : (w : Workload) (h : List Event) (e : Event) (r : Request) (b : Buf) → IsKnown w h → Came w h e
    → IsDoneOf h e r → covers r b ≡ true → list_any (λ x. covers x b) (unfinished h) ≡ true
left_over w h e r b f (came_done k q at) is writes =
    let fly = flying w h k q f at
    in let one : q ≡ r = same_Some q r (sym fly.added ∙ is)
    in let covered : covers q b ≡ true = ap (λ (x : Request). covers x b) one ∙ writes
    in list_any_here (λ x. covers x b) (unfinished h) fly.place q fly.left covered
left_over w h e r b f c is writes = absurd is

run_of : (w : Workload) (h : List Event) (r : Request) (s : Serial) (g : ℕ) → DoneKind w h r.kind r.n r.first
    → r.kind ≡ Pages s g → HaveBlocks w h s g r.n r.first
run_of w h r s g kind is = subst (λ (q : ReqKind). DoneKind w h q r.n r.first) is kind

pub run_small : (w : Workload) (h : List Event) (e : Event) (r : Request) (s : Serial) (g : ℕ) (q : Kept) (tags : Tags)
    → PagesBefore w q tags h e → IsDoneOf h e r → r.kind ≡ Pages s g → g + r.n < 2 ^ 32
run_small w h e r s g q tags before done is =
    let run = run_of w h r s g (done_of w h e r q tags before done).kind is in omega (arith, run.within)

-- so the pages that it writes are busy while their file is there
run_busy : (w : Workload) (h : List Event) (e : Event) (r : Request) (s : Serial) (g : ℕ) (q : Kept) (tags : Tags)
    → PagesBefore w q tags h e → IsDoneOf h e r → r.kind ≡ Pages s g → (k : ℕ) → k < r.n
    → is_busy w h (Page s (g + k)) ≡ is_live w h s.0
run_busy w h e r s g q tags before done is k below =
    let legal = before.fits.legal
    in let left : list_any (λ x. covers x (Page s (g + k))) (unfinished h) ≡ true =
    left_over w h e r (Page s (g + k)) (is_known w h before.accepted legal.1) (came w h (maker e) e legal.0) done
    (covers_run r s g (Page s (g + k)) is ∙ within r.n below)
    in ap (λ t. is_live w h s.0 && t) left ∙ and_true (is_live w h s.0)
  where
    within : (n : ℕ) → k < n → is_among s g n (Page s (g + k)) ≡ true
    within n low = grind (arith, nat_tests)

    and_true : (t : Bool) → (t && true) ≡ t
    and_true true = refl
    and_true false = refl

pub after_run_done : (w : Workload) (h : List Event) (e : Event) (r : Request) (s : Serial) (g : ℕ) (q n : Kept)
    (tags : Tags) → PagesBefore w q tags h e → IsDoneOf h e r → r.kind ≡ Pages s g
    → Releases q.cache n.cache s g r.n → PagesAfter w q n tags tags (h ▹ e)
after_run_done w h e r s g q n tags before done kind releases =
    let d = done_of w h e r q tags before done
    in let b = before_as w q tags h e (Done d.k d.id d.ok) d.is before
    in after_as w q n tags tags h e (Done d.k d.id d.ok) d.is record {
      stands = pages_settled w h d.k d.id d.ok r s g q.cache n.cache tags
          (record {
            accepted = b.accepted;
            legal = b.fits.legal;
            at = d.at;
            kind = kind;
            busy = run_busy w h e r s g q tags before done kind;
          }) releases b.stands;
      tags = tags_kept tags q.cache n.cache releases.tags;
    }
