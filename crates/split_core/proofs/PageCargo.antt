-- What a request for pages takes: their bytes, and the processes to blame for them.
use Rattle.std.proofs.Common.{◌≡◌, ℕ, zero, suc, ◌+◌, ◌^◌, ◌<◌, ◌≤◌, List, [], ◌∷◌, map, Bool, true, false, not, ◌&&◌}
use Rattle.std.proofs.Common.{◌||◌, Option, Some, None, is_some, refl, ap, sym, subst, ◌∙◌, arith}
use Rattle.std.proofs.lemmas.Bool.{and_parts, both_ways}
use Rattle.std.specs.List.{flat_map, range_with_len}
use Rattle.split_types.specs.declared.ids.Serial.{Serial}
use Rattle.split_types.specs.declared.buf.Buf.{Buf}
use Rattle.split_types.specs.declared.buf.Buf.TheVariants.{Page}
use Rattle.split_types.specs.declared.actor.Actor.{Actor}
use Rattle.split_types.specs.declared.request.ReqKind.{ReqKind}
use Rattle.split_types.specs.declared.request.ReqKind.TheVariants.{Pages}
use Rattle.split_types.specs.declared.request.Request.{Request}
use Rattle.split_types.specs.declared.workload.Workload.{Workload}
use Rattle.split_types.specs.declared.event.Event.{Event}
use Rattle.split_types.specs.declared.event.Event.TheVariants.{Add}
use Rattle.split_types.specs.History.{◌▹◌}
use Rattle.split_types.specs.Hooks.{is_among}
use Rattle.split_types.specs.Parents.{pages_of}
use Rattle.split_types.specs.Sets.{union_of}
use Rattle.split_types.specs.Blame.{causes}
use Rattle.split_types.specs.Pages.{is_ready, is_dirty, is_busy}
use Rattle.split_types.specs.Reads.{is_loading}
use Rattle.split_types.specs.PageBytes.{page_bytes}
use Rattle.split_types.specs.DiskBytes.{carried}
use Rattle.split_types.specs.PagesInCache.{IsThere}
use Rattle.split_types.specs.Accepted.{IsAccepted}
use Rattle.split_types.specs.Legal.{IsLegal}
use Rattle.split_types.proofs.Shared.{running_causes}
use Rattle.split_types.proofs.Shared.{unsettled_are_held, loading_pages}
use Rattle.cause_set.specs.Tags.{Tags, Moved}
use Rattle.page_cache.specs.Held.{Held}
use Rattle.page_cache.specs.Cached as cached
use Rattle.page_cache.specs.Cached.{Cached, page_of, causes_of}
use Rattle.page_cache.specs.Changes.{ChangesEach, IsReady, bytes_in, taken_among}
use Rattle.split_core.specs.declared.note.pages.Pages.{Pages as Kept}
use Rattle.split_core.specs.declared.note.pages.Taken.{Taken}
use Rattle.split_core.specs.Fits.{AddsKind, RunFits}
use Rattle.split_core.specs.Pages.{CacheStands, PagesBefore, PagesAfter, held_by_pages}
use Rattle.split_core.specs.Takings.{IsTaken}
use Rattle.split_core.proofs.PageTakes.{TakesIs, pages_taken}

-- ---- page by page
pub map_pages : (f c : Buf → List ℕ) (s : Serial) (g n : ℕ) → ((k : ℕ) → f (Page s k) ≡ c (Page s k))
    → map f (pages_of s g n) ≡ map c (pages_of s g n)
map_pages f c s g zero same = refl
map_pages f c s g (suc n) same =
    let first : f (Page s g) ≡ c (Page s g) = same g
    in let rest = map_pages f c s (g + 1) n same
    in cc

bytes_pages : (f : Buf → List ℕ) (c : ℕ → List ℕ) (s : Serial) (g at j n : ℕ) → at ≡ g + j
    → ((k : ℕ) → k < j + n → f (Page s (g + k)) ≡ c k)
    → flat_map f (pages_of s at n) ≡ flat_map c (range_with_len j n)
bytes_pages f c s g at j zero is same = refl
bytes_pages f c s g at j (suc n) is same =
    let first : f (Page s at) ≡ c j = ap (λ i. f (Page s i)) is ∙ same j (omega arith)
    in let rest = bytes_pages f c s g (at + 1) (j + 1) n (omega (arith, is)) (λ k lt. same k (omega (arith, lt)))
    in cc

-- ---- what is known of the request
pub record RunOf (w : Workload) (h : List Event) (by : Actor) (r : Request) (s : Serial) (g : ℕ) (q : Kept) : Type 0
  where
    pub takes : TakesIs w h by r s g
    pub some : 1 ≤ r.n
    pub few : r.n ≤ 16
    pub ready : (k : ℕ) → k < r.n → IsReady q.cache (Page s (g + k))
    pub within : g + r.n < 2 ^ 32

-- a page is ready in the cache where it is by the history
ready_by : (x : Option Held) → cached.is_ready x ≡ (is_some (cached.tag_in x) && not (cached.is_busy x))
ready_by None = refl
ready_by (Some p) = refl

pub ready_is : (w : Workload) (h : List Event) (c : Cached) (tags : Tags) (s : Serial) (g : ℕ) → CacheStands w c tags h
    → cached.is_ready (page_of c (Page s g)) ≡ is_ready w h (Page s g)
ready_is w h c tags s g stands =
    ready_by (page_of c (Page s g)) ∙ ap (λ b. b && not (cached.is_busy (page_of c (Page s g)))) (stands.dirty_are s g)
    ∙ ap (λ b. is_dirty w h (Page s g) && not b) (stands.busy_are s g)

pub run_of : (w : Workload) (h : List Event) (by : Actor) (r : Request) (s : Serial) (g : ℕ) (q : Kept) (tags : Tags)
    → PagesBefore w q tags h (Add by r) → r.kind ≡ Pages s g → RunOf w h by r s g q
run_of w h by r s g q tags before is =
    let fits : RunFits w h s g r.n r.first =
    (subst (λ (k : ReqKind). AddsKind w h by k r.n r.first) is before.fits.kind.kind).1
    in record {
      takes = record { accepted = before.accepted; legal = before.fits.legal; kind = is; ready = fits.ready };
      some = fits.blocks.some;
      few = fits.blocks.most;
      ready = λ k low. ready_is w h q.cache tags s (g + k) before.stands ∙ fits.ready k low;
      within = omega (arith, fits.blocks.within);
    }

-- ---- what stands
pub after_run : (w : Workload) (h : List Event) (by : Actor) (r : Request) (s : Serial) (g : ℕ) (q n : Kept)
    (before after : Tags) → PagesBefore w q before h (Add by r) → r.kind ≡ Pages s g
    → ChangesEach q.cache n.cache (taken_among s g r.n)
    → ((b : Buf) → is_among s g r.n b ≡ false → causes_of after n.cache b ≡ causes_of before q.cache b)
    → Moved before after (held_by_pages q) (held_by_pages n) → PagesAfter w q n before after (h ▹ Add by r)
after_run w h by r s g q n before after b is each set moved = record {
  stands = pages_taken w h by r s g q.cache n.cache before after (run_of w h by r s g q before b is).takes each set
      b.stands;
  tags = moved;
}

-- ---- what is taken
-- a page that is ready is held, and isn't loading
ready_there : (w : Workload) (h : List Event) (b : Buf) → IsAccepted w → IsLegal w h → is_ready w h b ≡ true
    → IsThere w h b
ready_there w h b accepted legal ready =
    let parts = and_parts (is_dirty w h b) (not (is_busy w h b)) ready
    in let held = unsettled_are_held w h b accepted legal (ap (λ t. t || is_busy w h b) parts.0)
    in record { held = held.held; loaded = by_test (is_loading w h b) refl parts.0 }
  where
    by_test : (t : Bool) → is_loading w h b ≡ t → is_dirty w h b ≡ true → is_loading w h b ≡ false
    by_test false is dirty = is
    by_test true is dirty =
        absurd (both_ways (is_dirty w h b) (loading_pages.only w h b accepted legal is).clean dirty)

carried_run : (w : Workload) (h : List Event) (r : Request) (s : Serial) (g i : ℕ) → r.kind ≡ Pages s g
    → carried w h r i ≡ page_bytes w h s (g + i)
carried_run w h r s g i is = rw is refl

pub taken_run : (w : Workload) (h : List Event) (by : Actor) (r : Request) (s : Serial) (g : ℕ) (q : Kept)
    (tags : Tags) (t : Taken) → PagesBefore w q tags h (Add by r) → r.kind ≡ Pages s g
    → t.cargo ≡ flat_map (λ b. bytes_in (page_of q.cache b)) (pages_of s g r.n)
    → t.tag ≡ union_of (map (causes_of tags q.cache) (pages_of s g r.n)) → IsTaken w h (Add by r) t
taken_run w h by r s g q tags t before is bytes set = record {
  bytes = λ writes. bytes
      ∙ bytes_pages (λ b. bytes_in (page_of q.cache b)) (carried w h r) s g g 0 r.n (omega arith)
      (λ k low. before.stands.bytes_are s (g + k)
      (ready_there w h (Page s (g + k)) before.accepted before.fits.legal.1 (of.takes.ready k (omega (arith, low))))
      ∙ sym (carried_run w h r s g k is));
  tag = set
      ∙ ap union_of (map_pages (causes_of tags q.cache) (λ b. causes h (b ∷ [])) s g r.n
      (λ k. before.stands.causes_are s k))
      ∙ sym (running_causes.pages h by r s g is);
}
  where
    of : RunOf w h by r s g q
    of = run_of w h by r s g q tags before is
