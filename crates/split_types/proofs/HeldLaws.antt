-- Every page that is held, dirty or busy is among the known pages, and each of these stands there once.
use Rattle.std.proofs.Common.{◌≡◌, ℕ, zero, suc, ◌+◌, List, [], ◌∷◌, slice_get, Bool, true, false, not, ◌&&◌, Option, Some, None, refl, arith, sym, subst, inl, inr, ◌∙◌, ap, ◌⊎◌}
use Rattle.std.specs.Prelude.{◌==◌}
use Rattle.std.specs.List.{list_any}
use Rattle.std.proofs.lemmas.Bool.{cases_Bool, cases_lt, or_cases, or_left, or_right, and_parts, cond-true, cond-false, both_ways, eqb-true, eq-eqb}
use Rattle.std.proofs.lemmas.Bool.Decides.{nat_tests}
use Rattle.std.proofs.lemmas.Option.{same_Some}
use Rattle.split_types.specs.declared.ids.ReqId.{ReqId}
use Rattle.split_types.specs.declared.ids.Serial.{Serial}
use Rattle.split_types.specs.declared.buf.Buf.{Buf}
use Rattle.split_types.specs.declared.buf.Buf.TheVariants.{Page, Bitmap, Dir, Inode}
use Rattle.split_types.specs.declared.request.ReqKind.{ReqKind}
use Rattle.split_types.specs.declared.request.ReqKind.TheVariants.{Read, Pages}
use Rattle.split_types.specs.declared.request.Request.{Request}
use Rattle.split_types.specs.declared.workload.Workload.{Workload}
use Rattle.split_types.specs.declared.event.Event.{Event}
use Rattle.split_types.specs.declared.event.Event.TheVariants.{Put, Add, Done, Evict}
use Rattle.split_types.specs.History.{◌▹◌}
use Rattle.split_types.specs.Hooks.{same_buf, is_among, covers}
use Rattle.split_types.specs.Parents.{pages_of}
use Rattle.split_types.specs.Requests.{is_numbered, unfinished}
use Rattle.split_types.specs.Pages.{is_live_page, is_put_since, is_dirty, is_busy}
use Rattle.split_types.specs.Reads.{reads, outstanding, request_numbered, is_read_of, is_loading}
use Rattle.split_types.specs.HeldPages.{is_placed, is_held, is_unsettled, pages_moved, with_page, with_pages, known_pages, PagesAreKnown}
use Rattle.split_types.proofs.Lists.{list_any_here}
use Rattle.split_types.proofs.KeptLists.{any_filter, any_push}

-- ---- buffers that are the same
pub same_buf-is : (b c : Buf) → same_buf b c ≡ true → b ≡ c
same_buf-is (Page s g) (Page t k) same =
    let parts = and_parts (s.0 == t.0) (g == k) same in
    ap (λ n. Page (record { 0 = n }) g) (eqb-true s.0 t.0 parts.0) ∙ ap (Page t) (eqb-true g k parts.1)
same_buf-is Bitmap Bitmap same = refl
same_buf-is (Dir k) (Dir j) same = ap Dir (eqb-true k j same)
same_buf-is (Inode s) (Inode t) same = ap (λ n. Inode (record { 0 = n })) (eqb-true s.0 t.0 same)
same_buf-is b c same = absurd (cc)

pub same_buf-self : (b : Buf) → same_buf b b ≡ true
same_buf-self (Page s g) = grind (arith, nat_tests)
same_buf-self Bitmap = refl
same_buf-self (Dir k) = eq-eqb k k refl
same_buf-self (Inode s) = eq-eqb s.0 s.0 refl

-- ---- lists with one page more
-- the buffer stands in the list
abbrev stands_in : Buf → List Buf → Bool
stands_in b bufs = list_any (same_buf b) bufs

with_page-old : (b c : Buf) (bufs : List Buf) → stands_in c bufs ≡ true → stands_in c (with_page b bufs) ≡ true
with_page-old b c bufs has = elim (cases_Bool (stands_in b bufs)) [
  | inl old ↦ ap (stands_in c) (cond-true (stands_in b bufs) bufs (b ∷ bufs) old) ∙ has
  | inr new ↦
      ap (stands_in c) (cond-false (stands_in b bufs) bufs (b ∷ bufs) new)
      ∙ or_right (same_buf c b) (stands_in c bufs) has
]

with_page-new : (b c : Buf) (bufs : List Buf) → same_buf c b ≡ true → stands_in c (with_page b bufs) ≡ true
with_page-new b c bufs same = elim (cases_Bool (stands_in b bufs)) [
  | inl old ↦
      ap (stands_in c) (cond-true (stands_in b bufs) bufs (b ∷ bufs) old)
      ∙ subst (λ x. stands_in x bufs ≡ true) (sym (same_buf-is c b same)) old
  | inr new ↦
      ap (stands_in c) (cond-false (stands_in b bufs) bufs (b ∷ bufs) new)
      ∙ or_left (same_buf c b) (stands_in c bufs) same
]

pub with_pages-old : (others : List Buf) (c : Buf) (bufs : List Buf) → stands_in c bufs ≡ true
    → stands_in c (with_pages others bufs) ≡ true
with_pages-old [] c bufs has = has
with_pages-old (b ∷ others) c bufs has =
    with_page-old b c (with_pages others bufs) (with_pages-old others c bufs has)

with_pages-new : (others : List Buf) (c : Buf) (bufs : List Buf) → stands_in c others ≡ true
    → stands_in c (with_pages others bufs) ≡ true
with_pages-new [] c bufs is = absurd (cc)
with_pages-new (b ∷ others) c bufs is = elim (or_cases (same_buf c b) (stands_in c others) is) [
  | inl here ↦ with_page-new b c (with_pages others bufs) here
  | inr later ↦ with_page-old b c (with_pages others bufs) (with_pages-new others c bufs later)
]

-- ---- lists in which each page stands once
abbrev IsOnce : List Buf → Type 0
IsOnce bufs = (i j : ℕ) (b : Buf) → slice_get bufs i ≡ Some b → slice_get bufs j ≡ Some b → i ≡ j

-- a page that stands in a list at this place isn't one that doesn't stand there
not_new : (b c : Buf) (bufs : List Buf) (i : ℕ) → stands_in b bufs ≡ false → b ≡ c → slice_get bufs i ≡ Some c → ⊥
not_new b c bufs i new is at =
    both_ways (stands_in b bufs) new
    (list_any_here (same_buf b) bufs i c at (subst (λ x. same_buf b x ≡ true) is (same_buf-self b)))

once-more : (b : Buf) (bufs : List Buf) → stands_in b bufs ≡ false → IsOnce bufs → IsOnce (b ∷ bufs)
once-more b bufs new old zero zero c first second = refl
once-more b bufs new old zero (suc j) c first second = absurd (not_new b c bufs j new (same_Some b c first) second)
once-more b bufs new old (suc i) zero c first second = absurd (not_new b c bufs i new (same_Some b c second) first)
once-more b bufs new old (suc i) (suc j) c first second = ap suc (old i j c first second)

with_page-once : (b : Buf) (bufs : List Buf) → IsOnce bufs → IsOnce (with_page b bufs)
with_page-once b bufs once = elim (cases_Bool (stands_in b bufs)) [
  | inl old ↦ subst IsOnce (sym (cond-true (stands_in b bufs) bufs (b ∷ bufs) old)) once
  | inr new ↦ subst IsOnce (sym (cond-false (stands_in b bufs) bufs (b ∷ bufs) new)) (once-more b bufs new once)
]

with_pages-once : (others bufs : List Buf) → IsOnce bufs → IsOnce (with_pages others bufs)
with_pages-once [] bufs once = once
with_pages-once (b ∷ others) bufs once =
    with_page-once b (with_pages others bufs) (with_pages-once others bufs once)

known_once : (h : List Event) → IsOnce (known_pages h)
known_once [] = λ i j b first second. absurd (cc)
known_once (h ▹ Put by s g from to fill) = with_page-once (Page s g) (known_pages h) (known_once h)
known_once (h ▹ Add by r) = with_pages-once (pages_moved r) (known_pages h) (known_once h)
known_once (h ▹ e) = known_once h

-- ---- pages that requests read and write
read_moved-of : (id : ReqId) (k : ReqKind) (first n : ℕ) (c : Buf)
    → reads (record { id = id; kind = k; first = first; n = n }) c ≡ true
    → stands_in c (pages_moved (record { id = id; kind = k; first = first; n = n })) ≡ true
read_moved-of id (Read p s g) first n c is = or_left (same_buf c (Page s g)) false is
read_moved-of id k first n c is = absurd (cc)

read_moved : (r : Request) (c : Buf) → reads r c ≡ true → stands_in c (pages_moved r) ≡ true
read_moved r c is = read_moved-of r.id r.kind r.first r.n c is

-- a page among the n from page g on is the first of them, or among the others
first_or_later : (s : Serial) (g n : ℕ) (t : Serial) (k : ℕ) → is_among s g (suc n) (Page t k) ≡ true
    → (same_buf (Page t k) (Page s g) ≡ true) ⊎ (is_among s (g + 1) n (Page t k) ≡ true)
first_or_later s g n t k is = elim (cases_lt g k) [
  | inl behind ↦ inr (grind (arith, nat_tests, is, behind))
  | inr first ↦ inl (grind (arith, nat_tests, is, first))
]

pub among_pages : (s : Serial) (g n : ℕ) (c : Buf) → is_among s g n c ≡ true → stands_in c (pages_of s g n) ≡ true
among_pages s g zero (Page t k) is = absurd (grind (arith, nat_tests, is))
among_pages s g (suc n) (Page t k) is = elim (first_or_later s g n t k is) [
  | inl first ↦ or_left (same_buf (Page t k) (Page s g)) (stands_in (Page t k) (pages_of s (g + 1) n)) first
  | inr later ↦
      or_right (same_buf (Page t k) (Page s g)) (stands_in (Page t k) (pages_of s (g + 1) n))
      (among_pages s (g + 1) n (Page t k) later)
]
among_pages s g n c is = absurd (cc)

written_moved-of : (id : ReqId) (k : ReqKind) (first n : ℕ) (c : Buf)
    → covers (record { id = id; kind = k; first = first; n = n }) c ≡ true
    → stands_in c (pages_moved (record { id = id; kind = k; first = first; n = n })) ≡ true
written_moved-of id (Pages s g) first n c is = among_pages s g n c is
written_moved-of id k first n c is = absurd (cc)

written_moved : (r : Request) (c : Buf) → covers r c ≡ true → stands_in c (pages_moved r) ≡ true
written_moved r c is = written_moved-of r.id r.kind r.first r.n c is

-- ---- pages of requests that aren't done, or not done well
loading_known : (h : List Event) (b : Buf) → list_any (λ r. reads r b) (outstanding h) ≡ true
    → stands_in b (known_pages h) ≡ true
loading_known [] b any = absurd (cc)
loading_known (h ▹ Put by s g from to fill) b any =
    with_page-old (Page s g) b (known_pages h) (loading_known h b any)
loading_known (h ▹ Add by r) b any = elim (any_push (λ x. reads x b) (outstanding h) r any) [
  | inl old ↦ with_pages-old (pages_moved r) b (known_pages h) (loading_known h b old)
  | inr new ↦ with_pages-new (pages_moved r) b (known_pages h) (read_moved r b new)
]
loading_known (h ▹ Done k id ok) b any =
    loading_known h b (any_filter (λ r. reads r b) (λ r. not (is_numbered id r)) (outstanding h) any)
loading_known (h ▹ e) b any = loading_known h b any

pub busy_known : (h : List Event) (b : Buf) → list_any (λ r. covers r b) (unfinished h) ≡ true
    → stands_in b (known_pages h) ≡ true
busy_known [] b any = absurd (cc)
busy_known (h ▹ Put by s g from to fill) b any =
    with_page-old (Page s g) b (known_pages h) (busy_known h b any)
busy_known (h ▹ Add by r) b any = elim (any_push (λ x. covers x b) (unfinished h) r any) [
  | inl old ↦ with_pages-old (pages_moved r) b (known_pages h) (busy_known h b old)
  | inr new ↦ with_pages-new (pages_moved r) b (known_pages h) (written_moved r b new)
]
busy_known (h ▹ Done k id true) b any =
    busy_known h b (any_filter (λ r. covers r b) (λ r. not (is_numbered id r)) (unfinished h) any)
busy_known (h ▹ e) b any = busy_known h b any

-- ---- pages that were put
put_known : (h : List Event) (b : Buf) → is_put_since h b ≡ true → stands_in b (known_pages h) ≡ true
put_known [] b is = absurd (cc)
put_known (h ▹ Put by s g from to fill) b is = elim (or_cases (same_buf b (Page s g)) (is_put_since h b) is) [
  | inl here ↦ with_page-new (Page s g) b (known_pages h) here
  | inr old ↦ with_page-old (Page s g) b (known_pages h) (put_known h b old)
]
put_known (h ▹ Add by r) b is =
    with_pages-old (pages_moved r) b (known_pages h)
    (put_known h b (and_parts (not (covers r b)) (is_put_since h b) is).1)
put_known (h ▹ e) b is = put_known h b is

-- ---- pages that were read
abbrev newer : Bool → Request → Option Request → Option Request
newer t r old = elim t [ true ↦ Some r | false ↦ old ]

-- the request, if there is one, reads the page
abbrev pub reads_some : Option Request → Buf → Bool
reads_some o b = elim o [ None ↦ false | Some r ↦ reads r b ]

read_either : (t : Bool) (r : Request) (old : Option Request) (b : Buf) → reads_some (newer t r old) b ≡ true
    → (reads r b ≡ true) ⊎ (reads_some old b ≡ true)
read_either true r old b is = inl is
read_either false r old b is = inr is

read_known : (h : List Event) (id : ReqId) (b : Buf) → is_read_of h id b ≡ true → stands_in b (known_pages h) ≡ true
read_known [] id b is = absurd (cc)
read_known (h ▹ Put by s g from to fill) id b is =
    with_page-old (Page s g) b (known_pages h) (read_known h id b is)
read_known (h ▹ Add by r) id b is = elim (read_either (is_numbered id r) r (request_numbered h id) b is) [
  | inl here ↦ with_pages-new (pages_moved r) b (known_pages h) (read_moved r b here)
  | inr old ↦ with_pages-old (pages_moved r) b (known_pages h) (read_known h id b old)
]
read_known (h ▹ e) id b is = read_known h id b is

placed_known : (h : List Event) (b : Buf) → is_placed h b ≡ true → stands_in b (known_pages h) ≡ true
placed_known [] b is = absurd (cc)
placed_known (h ▹ Put by s g from to fill) b is = elim (or_cases (same_buf b (Page s g)) (is_placed h b) is) [
  | inl here ↦ with_page-new (Page s g) b (known_pages h) here
  | inr old ↦ with_page-old (Page s g) b (known_pages h) (placed_known h b old)
]
placed_known (h ▹ Add by r) b is =
    with_pages-old (pages_moved r) b (known_pages h) (placed_known h b is)
placed_known (h ▹ Done k id true) b is = elim (or_cases (is_read_of h id b) (is_placed h b) is) [
  | inl here ↦ read_known h id b here
  | inr old ↦ placed_known h b old
]
placed_known (h ▹ Evict by s g) b is =
    placed_known h b (and_parts (not (same_buf b (Page s g))) (is_placed h b) is).1
placed_known (h ▹ e) b is = placed_known h b is

-- ---- all known pages
pub held_known : (w : Workload) (h : List Event) (b : Buf) → is_held w h b ≡ true
    → stands_in b (known_pages h) ≡ true
held_known w h b held = elim (or_cases (is_loading w h b) (is_live_page w h b && is_placed h b) held) [
  | inl loading ↦
      loading_known h b (and_parts (is_live_page w h b) (list_any (λ r. reads r b) (outstanding h)) loading).1
  | inr placed ↦ placed_known h b (and_parts (is_live_page w h b) (is_placed h b) placed).1
]

unsettled_known : (w : Workload) (h : List Event) (b : Buf) → is_unsettled w h b ≡ true
    → stands_in b (known_pages h) ≡ true
unsettled_known w h b unsettled = elim (or_cases (is_dirty w h b) (is_busy w h b) unsettled) [
  | inl dirty ↦ put_known h b (and_parts (is_live_page w h b) (is_put_since h b) dirty).1
  | inr busy ↦ busy_known h b (and_parts (is_live_page w h b) (list_any (λ r. covers r b) (unfinished h)) busy).1
]

pub pages_are_known : PagesAreKnown
pages_are_known = record { held = held_known; unsettled = unsettled_known; once = known_once }
