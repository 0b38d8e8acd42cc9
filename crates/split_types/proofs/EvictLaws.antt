-- How many pages are evicted: a put or a completion places one page at most, an eviction takes one away at least.
use Rattle.std.proofs.Common.{◌≡◌, ℕ, ◌+◌, ◌≤◌, List, [], ◌∷◌, length, filter, true, false, not, Option, Some, None, refl, arith, subst, inl, inr}
use Rattle.std.specs.List.{list_any}
use Rattle.std.proofs.lemmas.Bool.{or_cases, or_left, or_right, and_parts}
use Rattle.std.proofs.lemmas.List.Filters.{length-filter_both}
use Rattle.std.proofs.lemmas.List.Sums.{length-filter}
use Rattle.split_types.specs.declared.ids.ReqId.{ReqId}
use Rattle.split_types.specs.declared.ids.Serial.{Serial}
use Rattle.split_types.specs.declared.buf.Buf.{Buf}
use Rattle.split_types.specs.declared.buf.Buf.TheVariants.{Page}
use Rattle.split_types.specs.declared.request.ReqKind.{ReqKind}
use Rattle.split_types.specs.declared.request.ReqKind.TheVariants.{Read}
use Rattle.split_types.specs.declared.request.Request.{Request}
use Rattle.split_types.specs.declared.workload.Workload.{Workload}
use Rattle.split_types.specs.declared.event.Event.{Event}
use Rattle.split_types.specs.declared.event.Event.TheVariants.{Put, Done, Evict}
use Rattle.split_types.specs.History.{◌▹◌}
use Rattle.split_types.specs.Hooks.{same_buf}
use Rattle.split_types.specs.Reads.{reads, request_numbered, is_read_of}
use Rattle.split_types.specs.HeldPages.{is_placed}
use Rattle.split_types.specs.Victims.{victim}
use Rattle.split_types.proofs.Lists.{find_some, counted_here, any_in_filter}
use Rattle.split_types.proofs.HeldLaws.{same_buf-is, same_buf-self}
use Rattle.split_types.proofs.VictimLaws.{victims_are_oldest, evictable_placed}

-- the number of evictions
abbrev pub evicts : List Event → ℕ
evicts [] = 0
evicts (h ▹ Evict by s g) = evicts h + 1
evicts (h ▹ e) = evicts h

-- these pages, and with them the one that a request reads
abbrev with_read : ReqKind → List Buf → List Buf
with_read (Read p s g) bufs = Page s g ∷ bufs
with_read _ bufs = bufs

abbrev with_loaded : Option Request → List Buf → List Buf
with_loaded None bufs = bufs
with_loaded (Some r) bufs = with_read r.kind bufs

-- the pages that were put or loaded, and not evicted since, once for each time
abbrev pub placed_pages : List Event → List Buf
placed_pages [] = []
placed_pages (h ▹ Put by s g from to fill) = Page s g ∷ placed_pages h
placed_pages (h ▹ Done k id true) = with_loaded (request_numbered h id) (placed_pages h)
placed_pages (h ▹ Evict by s g) = filter (λ b. not (same_buf b (Page s g))) (placed_pages h)
placed_pages (h ▹ e) = placed_pages h

-- ---- a page that is placed stands among them
read_new : (k : ReqKind) (id : ReqId) (first n : ℕ) (b : Buf) (bufs : List Buf)
    → reads (record { id = id; kind = k; first = first; n = n }) b ≡ true
    → list_any (same_buf b) (with_read k bufs) ≡ true
read_new (Read p s g) id first n b bufs is = or_left (same_buf b (Page s g)) (list_any (same_buf b) bufs) is
read_new k id first n b bufs is = absurd (cc)

loaded_new : (o : Option Request) (b : Buf) (bufs : List Buf)
    → (elim o [ None ↦ false | Some r ↦ reads r b ]) ≡ true → list_any (same_buf b) (with_loaded o bufs) ≡ true
loaded_new None b bufs is = absurd (cc)
loaded_new (Some r) b bufs is = read_new r.kind r.id r.first r.n b bufs is

read_old : (k : ReqKind) (b : Buf) (bufs : List Buf) → list_any (same_buf b) bufs ≡ true
    → list_any (same_buf b) (with_read k bufs) ≡ true
read_old (Read p s g) b bufs is = or_right (same_buf b (Page s g)) (list_any (same_buf b) bufs) is
read_old k b bufs is = is

loaded_old : (o : Option Request) (b : Buf) (bufs : List Buf) → list_any (same_buf b) bufs ≡ true
    → list_any (same_buf b) (with_loaded o bufs) ≡ true
loaded_old None b bufs is = is
loaded_old (Some r) b bufs is = read_old r.kind b bufs is

placed_there : (h : List Event) (b : Buf) → is_placed h b ≡ true → list_any (same_buf b) (placed_pages h) ≡ true
placed_there [] b is = absurd (cc)
placed_there (h ▹ Put by s g from to fill) b is = elim (or_cases (same_buf b (Page s g)) (is_placed h b) is) [
  | inl here ↦ or_left (same_buf b (Page s g)) (list_any (same_buf b) (placed_pages h)) here
  | inr old ↦ or_right (same_buf b (Page s g)) (list_any (same_buf b) (placed_pages h)) (placed_there h b old)
]
placed_there (h ▹ Done k id true) b is = elim (or_cases (is_read_of h id b) (is_placed h b) is) [
  | inl here ↦ loaded_new (request_numbered h id) b (placed_pages h) here
  | inr old ↦ loaded_old (request_numbered h id) b (placed_pages h) (placed_there h b old)
]
placed_there (h ▹ Evict by s g) b is =
    let parts = and_parts (not (same_buf b (Page s g))) (is_placed h b) is
    in any_in_filter (same_buf b) (λ c. not (same_buf c (Page s g))) (placed_pages h)
    (λ c same. subst (λ x. not (same_buf x (Page s g)) ≡ true) (same_buf-is b c same) parts.0)
    (placed_there h b parts.1)
placed_there (h ▹ e) b is = placed_there h b is

-- ---- how many there are
read_more : (k : ReqKind) (bufs : List Buf) → length (with_read k bufs) ≤ length bufs + 1
read_more (Read p s g) bufs = omega arith
read_more k bufs = omega arith

loaded_more : (o : Option Request) (bufs : List Buf) → length (with_loaded o bufs) ≤ length bufs + 1
loaded_more None bufs = omega arith
loaded_more (Some r) bufs = read_more r.kind bufs

-- a completion places one page more at most
pub placed_done : (h : List Event) (k : ℕ) (id : ReqId)
    → length (placed_pages (h ▹ Done k id true)) ≤ length (placed_pages h) + 1
placed_done h k id = loaded_more (request_numbered h id) (placed_pages h)

-- without a page that stands in a list the list is shorter
fewer_without : (b : Buf) (bufs : List Buf) → list_any (same_buf b) bufs ≡ true
    → length (filter (λ c. not (same_buf c b)) bufs) + 1 ≤ length bufs
fewer_without b bufs any =
    let found = find_some (same_buf b) bufs any
    in let passes : same_buf found.element b ≡ true =
    subst (λ x. same_buf x b ≡ true) (same_buf-is b found.element found.passes) (same_buf-self b)
    in omega (
      arith,
      length-filter_both (λ c. same_buf c b) (λ c. not (same_buf c b)) (λ c. refl) bufs,
      length-filter (λ c. same_buf c b) bufs,
      counted_here (λ c. same_buf c b) bufs found.place found.element found.there passes,
    )

-- an eviction takes a page away at least
pub placed_evict : (w : Workload) (h : List Event) (s : Serial) (g : ℕ) → victim w h ≡ Some (Page s g)
    → length (filter (λ b. not (same_buf b (Page s g))) (placed_pages h)) + 1 ≤ length (placed_pages h)
placed_evict w h s g found =
    fewer_without (Page s g) (placed_pages h)
    (placed_there h (Page s g)
    (evictable_placed w h (Page s g) (victims_are_oldest.some w h (Page s g) found).evictable))
