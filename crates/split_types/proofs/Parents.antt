-- The parents of an event, said by the places of events.
use Rattle.std.proofs.Common.{◌≡◌, ◌↔◌, ℕ, zero, suc, ◌+◌, ◌==◌, ◌<◌, ◌≤◌, List, [], ◌∷◌, ◌++◌, length, map, Bool, true, refl, arith, subst, sym, inl, inr, ◌∙◌, ap, if◌then◌else◌}
use Rattle.std.specs.List.{list_any, flat_map, range_with_len}
use Rattle.std.proofs.lemmas.Bool.{cases_Bool, or_cases, or_left, or_right, cond-true, cond-false, cases_lt}
use Rattle.std.proofs.lemmas.Bool.Decides.{nat_tests}
use Rattle.std.proofs.lemmas.List.Folds.{list_any-append}
use Rattle.split_types.specs.declared.ids.ReqId.{ReqId}
use Rattle.split_types.specs.declared.ids.Serial.{Serial}
use Rattle.split_types.specs.declared.ids.Txn.{Txn}
use Rattle.split_types.specs.declared.actor.Actor.{Actor}
use Rattle.split_types.specs.declared.buf.Buf.{Buf}
use Rattle.split_types.specs.declared.buf.Buf.TheVariants.{Page, Bitmap, Dir, Inode}
use Rattle.split_types.specs.declared.request.ReqKind.{ReqKind}
use Rattle.split_types.specs.declared.request.ReqKind.TheVariants.{Read, Pages, Log, Commit, Home, Clear}
use Rattle.split_types.specs.declared.request.Request.{Request}
use Rattle.split_types.specs.declared.event.Event.{Event}
use Rattle.split_types.specs.declared.event.Event.TheVariants.{Serve, Map, Seal, Add}
use Rattle.split_types.specs.History.{◌▹◌, older}
use Rattle.split_types.specs.OpenDirtyings.{open_at}
use Rattle.split_types.specs.Rounds.{seal_place, round_of}
use Rattle.split_types.specs.Parents.{pages_of, metadata_buffers, buffer_at, last_serve, parents_of}
use Rattle.split_types.specs.Sets.{has}
use Rattle.split_types.specs.ByPlace.{IsOpenPage, IsOpenMetadata, IsMetadata, IsLast, IsOpenInRound, IsParent, is_serve, is_seal_of, ParentsAreParents, ParentsAreOlder}
use Rattle.split_types.proofs.Members.{has-flat_map}
use Rattle.split_types.proofs.History.{event_at-within, length-older}
use Rattle.split_types.proofs.OpenDirtyings.{is_open, open_is_there}
use Rattle.split_types.proofs.RoundLaws.{last_more, last_new, last_here, last_before, round_in, in_round_of}

-- ---- one of some numbered buffers
-- one of n numbers from a on passes
range_any : {X : Type 0} (test : X → Bool) (f : ℕ → X) (a n : ℕ) → list_any test (map f (range_with_len a n)) ≡ true
    → (k : ℕ) × ((a ≤ k) × (k < a + n)) × (test (f k) ≡ true)
range_any test f a zero any = absurd (cc)
range_any test f a (suc n) any = elim (or_cases (test (f a)) (list_any test (map f (range_with_len (a + 1) n))) any) [
  | inl here ↦ (a, (omega arith, omega arith), here)
  | inr later ↦
      (let rest = range_any test f (a + 1) n later
      in (rest.0, (omega (arith, rest.1.0), omega (arith, rest.1.1)), rest.2))
]

any_range : {X : Type 0} (test : X → Bool) (f : ℕ → X) (a n k : ℕ) → a ≤ k → k < a + n → test (f k) ≡ true
    → list_any test (map f (range_with_len a n)) ≡ true
any_range test f a zero k least most passes = absurd (omega arith)
any_range test f a (suc n) k least most passes = elim (cases_lt a k) [
  | inl past ↦
      or_right (test (f a)) (list_any test (map f (range_with_len (a + 1) n)))
      (any_range test f (a + 1) n k (omega arith) (omega arith) passes)
  | inr here ↦
      or_left (test (f a)) (list_any test (map f (range_with_len (a + 1) n)))
      (subst (λ j. test (f j) ≡ true) (omega arith) passes)
]

-- ---- pages and blocks of metadata
page_open : (h : List Event) (s : Serial) (g n j : ℕ) → has (flat_map (open_at h) (pages_of s g n)) j ≡ true
    → IsOpenPage h s g n j
page_open h s g n j is =
    let page =
    range_any (λ b. has (open_at h b) j) (Page s) g n (sym (has-flat_map (open_at h) (pages_of s g n) j) ∙ is)
    in record { page = page.0; least = page.1.0; below = page.1.1; open_there = is_open h (Page s page.0) j page.2 }

open_page : (h : List Event) (s : Serial) (g n j : ℕ) → IsOpenPage h s g n j
    → has (flat_map (open_at h) (pages_of s g n)) j ≡ true
open_page h s g n j o =
    has-flat_map (open_at h) (pages_of s g n) j
    ∙ any_range (λ b. has (open_at h b) j) (Page s) g n o.page o.least o.below
    (open_is_there h (Page s o.page) j o.open_there)

slot_of : ℕ → Buf
slot_of slot = Inode (record { 0 = slot })

pub metadata_any : (test : Buf → Bool) → list_any test metadata_buffers ≡ true → (b : Buf) × IsMetadata b × (test b ≡ true)
unfolding metadata_buffers slot_of
metadata_any test any =
    elim (or_cases (test Bitmap) (list_any test (map Dir (range_with_len 0 4) ++ map slot_of (range_with_len 0 256)))
    any) [
      | inl here ↦ (Bitmap, tt, here)
      | inr later ↦ elim (or_cases (list_any test (map Dir (range_with_len 0 4)))
          (list_any test (map slot_of (range_with_len 0 256)))
          (sym (list_any-append test (map Dir (range_with_len 0 4)) (map slot_of (range_with_len 0 256))) ∙ later)) [
            | inl dir ↦ (let k = range_any test Dir 0 4 dir in (Dir k.0, omega (arith, k.1.1), k.2))
            | inr inode ↦ (let k = range_any test slot_of 0 256 inode in (slot_of k.0, omega (arith, k.1.1), k.2))
          ]
    ]

pub any_metadata : (test : Buf → Bool) (b : Buf) → IsMetadata b → test b ≡ true → list_any test metadata_buffers ≡ true
unfolding metadata_buffers slot_of
any_metadata test (Page s g) is passes = absurd is
any_metadata test Bitmap is passes =
    or_left (test Bitmap)
    (list_any test (map Dir (range_with_len 0 4) ++ map slot_of (range_with_len 0 256))) passes
any_metadata test (Dir k) is passes =
    or_right (test Bitmap) (list_any test (map Dir (range_with_len 0 4) ++ map slot_of (range_with_len 0 256)))
    (list_any-append test (map Dir (range_with_len 0 4)) (map slot_of (range_with_len 0 256))
    ∙ or_left (list_any test (map Dir (range_with_len 0 4))) (list_any test (map slot_of (range_with_len 0 256)))
    (any_range test Dir 0 4 k (omega arith) (omega arith) passes))
any_metadata test (Inode slot) is passes =
    or_right (test Bitmap) (list_any test (map Dir (range_with_len 0 4) ++ map slot_of (range_with_len 0 256)))
    (list_any-append test (map Dir (range_with_len 0 4)) (map slot_of (range_with_len 0 256))
    ∙ or_right (list_any test (map Dir (range_with_len 0 4))) (list_any test (map slot_of (range_with_len 0 256)))
    (any_range test slot_of 0 256 slot.0 (omega arith) (omega arith) passes))

metadata_open : (h : List Event) (j : ℕ) → has (flat_map (open_at h) metadata_buffers) j ≡ true → IsOpenMetadata h j
metadata_open h j is =
    let b = metadata_any (λ c. has (open_at h c) j) (sym (has-flat_map (open_at h) metadata_buffers j) ∙ is)
    in record { buffer = b.0; metadata = b.1; open_there = is_open h b.0 j b.2 }

open_metadata : (h : List Event) (j : ℕ) → IsOpenMetadata h j → has (flat_map (open_at h) metadata_buffers) j ≡ true
open_metadata h j o =
    has-flat_map (open_at h) metadata_buffers j
    ∙ any_metadata (λ c. has (open_at h c) j) o.buffer o.metadata (open_is_there h o.buffer j o.open_there)

-- ---- the last event that passes a test
last_by : (Event → Bool) → List Event → List ℕ
last_by test [] = []
last_by test (h ▹ e) = if test e then length h ∷ [] else last_by test h

last_is : (test : Event → Bool) (h : List Event) (j : ℕ) → has (last_by test h) j ≡ true → IsLast test h j
unfolding last_by
last_is test [] j is = absurd (cc)
last_is test (h ▹ e) j is = elim (cases_Bool (test e)) [
  | inl here ↦
      (let one : has (length h ∷ []) j ≡ true =
      sym (ap (λ l. has l j) (cond-true (test e) (length h ∷ []) (last_by test h) here)) ∙ is
      in let at : length h ≡ j = grind (arith, nat_tests)
      in subst (IsLast test (h ▹ e)) at (last_new test h e here))
  | inr past ↦
      last_more test h e j past
      (last_is test h j (sym (ap (λ l. has l j) (cond-false (test e) (length h ∷ []) (last_by test h) past)) ∙ is))
]

is_last : (test : Event → Bool) (h : List Event) (j : ℕ) → IsLast test h j → has (last_by test h) j ≡ true
unfolding last_by
is_last test [] j l = absurd (let at = l.there in cc)
is_last test (h ▹ e) j l = elim (cases_Bool (test e)) [
  | inl here ↦
      ap (λ l. has l j) (cond-true (test e) (length h ∷ []) (last_by test h) here)
      ∙ own (last_here test h e j here l)
  | inr past ↦
      ap (λ l. has l j) (cond-false (test e) (length h ∷ []) (last_by test h) past)
      ∙ is_last test h j (last_before test h e j past l)
]
  where
    own : j ≡ length h → has (length h ∷ []) j ≡ true
    own at = grind (arith, nat_tests)

serve_last : (h : List Event) → last_serve h ≡ last_by is_serve h
unfolding last_by
serve_last [] = refl
serve_last (h ▹ Serve s g n) = refl
serve_last (h ▹ e) = serve_last h

seal_last : (h : List Event) (t : Txn) → seal_place h t ≡ last_by (is_seal_of t) h
unfolding last_by
seal_last [] t = refl
seal_last (h ▹ Seal u k) t = ap (λ l. if u.0 == t.0 then length h ∷ [] else l) (seal_last h t)
seal_last (h ▹ e) t = seal_last h t

seal_is : (h : List Event) (t : Txn) (j : ℕ) → has (seal_place h t) j ≡ true ↔ IsLast (is_seal_of t) h j
seal_is h t j = (
  λ is. last_is (is_seal_of t) h j (sym (ap (λ l. has l j) (seal_last h t)) ∙ is),
  λ l. ap (λ l. has l j) (seal_last h t) ∙ is_last (is_seal_of t) h j l,
)

-- ---- rounds
round_open : (h : List Event) (t : Txn) (b : Buf) (j : ℕ)
    → has (flat_map (λ s. open_at s.before b) (round_of h t)) j ≡ true → IsOpenInRound h t b j
round_open h t b j is =
    let r = round_in (λ g. has (open_at g b) j) h t (sym (has-flat_map (λ s. open_at s.before b) (round_of h t) j) ∙ is)
    in record { seal = r.place; in_round = r.in_round; open_there = is_open (older h r.place) b j r.passes }

open_round : (h : List Event) (t : Txn) (b : Buf) (j : ℕ) → IsOpenInRound h t b j
    → has (flat_map (λ s. open_at s.before b) (round_of h t)) j ≡ true
open_round h t b j o =
    has-flat_map (λ s. open_at s.before b) (round_of h t) j
    ∙ in_round_of (λ g. has (open_at g b) j) h t
    (record { place = o.seal; in_round = o.in_round; passes = open_is_there (older h o.seal) b j o.open_there })

-- ---- parents
abbrev added : ReqId → ReqKind → ℕ → ℕ → Request
added id kind first n = record { id = id; kind = kind; first = first; n = n }

add_is : (h : List Event) (by : Actor) (id : ReqId) (kind : ReqKind) (first n j : ℕ)
    → has (parents_of h (Add by (added id kind first n))) j ≡ true ↔ IsParent h (Add by (added id kind first n)) j
add_is h by id (Read p s g) first n j = (λ is. absurd (cc), λ is. absurd is)
add_is h by id (Pages s g) first n j = (page_open h s g n j, open_page h s g n j)
add_is h by id (Log t) first n j = seal_is h t j
add_is h by id (Commit t) first n j = seal_is h t j
add_is h by id (Home t) first n j = (round_open h t (buffer_at first) j, open_round h t (buffer_at first) j)
add_is h by id (Clear t) first n j = seal_is h t j

pub parents_are_parents : ParentsAreParents
parents_are_parents h (Add by r) j = add_is h by r.id r.kind r.first r.n j
parents_are_parents h (Serve s g n) j = (page_open h s g n j, open_page h s g n j)
parents_are_parents h (Map slot s g n block new size) j = (
  λ is. last_is is_serve h j (sym (ap (λ l. has l j) (serve_last h)) ∙ is),
  λ l. ap (λ l. has l j) (serve_last h) ∙ is_last is_serve h j l,
)
parents_are_parents h (Seal t k) j = (metadata_open h j, open_metadata h j)
parents_are_parents h e j = (λ is. absurd (cc), λ is. absurd is)

-- each of them stands before the event
last_below : (test : Event → Bool) (h : List Event) (j : ℕ) → IsLast test h j → j < length h
last_below test h j l = event_at-within h l.event j l.there

add_below : (h : List Event) (by : Actor) (id : ReqId) (kind : ReqKind) (first n j : ℕ)
    → IsParent h (Add by (added id kind first n)) j → j < length h
add_below h by id (Read p s g) first n j is = absurd is
add_below h by id (Pages s g) first n j is = is.open_there.within
add_below h by id (Log t) first n j is = last_below (is_seal_of t) h j is
add_below h by id (Commit t) first n j is = last_below (is_seal_of t) h j is
add_below h by id (Home t) first n j is = omega (arith, is.open_there.within, length-older h is.seal)
add_below h by id (Clear t) first n j is = last_below (is_seal_of t) h j is

parent_below : (h : List Event) (e : Event) (j : ℕ) → IsParent h e j → j < length h
parent_below h (Add by r) j is = add_below h by r.id r.kind r.first r.n j is
parent_below h (Serve s g n) j is = is.open_there.within
parent_below h (Map slot s g n block new size) j is = last_below is_serve h j is
parent_below h (Seal t k) j is = is.open_there.within
parent_below h e j is = absurd is

pub parents-below : ParentsAreOlder
parents-below h e j is = parent_below h e j ((parents_are_parents h e j).0 is)
