-- How many buffers of metadata are marked, and how many await their home, after each event.
use Rattle.std.proofs.Common.{◌≡◌, ℕ, zero, suc, ◌+◌, ◌/◌, ◌==◌, ◌<◌, ◌≤◌, List, [], ◌∷◌, ◌++◌, length, map, count_by, nat_lt, Bool, true, false, ◌&&◌, ◌||◌, Some, refl, arith, sym, inl, inr, cond, if◌then◌else◌}
use Rattle.std.specs.List.{range_with_len, list_any}
use Rattle.std.proofs.lemmas.Bool.{and_from, and_parts, both_ways, cases_Bool, eq-eqb, eqb-true, false_from_ne_true}
use Rattle.std.proofs.lemmas.Bool.Decides.{nat_tests}
use Rattle.std.proofs.lemmas.List.Sums.{length-filter, sum_by-append, sum_by-cons}
use Rattle.split_types.specs.declared.ids.Pid.{Pid}
use Rattle.split_types.specs.declared.ids.Serial.{Serial}
use Rattle.split_types.specs.declared.ids.Slot.{Slot}
use Rattle.split_types.specs.declared.ids.Txn.{Txn}
use Rattle.split_types.specs.declared.actor.Actor.{Actor}
use Rattle.split_types.specs.declared.buf.Buf.{Buf}
use Rattle.split_types.specs.declared.buf.Buf.TheVariants.{Page, Bitmap, Dir, Inode}
use Rattle.split_types.specs.declared.request.Request.{Request}
use Rattle.split_types.specs.declared.event.Event.{Event}
use Rattle.split_types.specs.declared.event.Event.TheVariants.{Make, Put, Drop, Map, Seal, Add}
use Rattle.split_types.specs.History.{◌▹◌}
use Rattle.split_types.specs.Hooks.{same_buf, is_dirtied, is_freed, is_out}
use Rattle.split_types.specs.OpenDirtyings.{open_at}
use Rattle.split_types.specs.Parents.{metadata_buffers, home_block}
use Rattle.split_types.specs.ByPlace.{IsMetadata}
use Rattle.split_types.specs.Transactions.{is_marked, marked_buffers, brings_home, awaiting_at, awaits_home, next_home}
use Rattle.split_types.proofs.Lists.{count_yes, count_no, count_none, find_there, list_any_here}
use Rattle.split_types.proofs.Parents.{metadata_any}
use Rattle.split_types.proofs.SumLaws.{count_by_either, count_by_less, count_by_fewer}

-- ---- each buffer of metadata is there once
-- no numbered buffer from lo on is this one, or one at most
lacks_one : (f : ℕ → Buf) (d : Buf) (k lo m : ℕ) → ((j : ℕ) → same_buf (f j) d ≡ true → j ≡ k) → k < lo
    → count_by (λ b. same_buf b d) (map f (range_with_len lo m)) ≡ 0
lacks_one f d k lo zero one below = refl
lacks_one f d k lo (suc m) one below =
    omega (
      arith,
      count_no (λ b. same_buf b d) (f lo) (map f (range_with_len (lo + 1) m))
          (false_from_ne_true (same_buf (f lo) d) (λ is. let at = one lo is in absurd (omega arith))),
      lacks_one f d k (lo + 1) m one (omega arith),
    )

one_at_most : (f : ℕ → Buf) (d : Buf) (k lo m : ℕ) → ((j : ℕ) → same_buf (f j) d ≡ true → j ≡ k)
    → count_by (λ b. same_buf b d) (map f (range_with_len lo m)) ≤ 1
one_at_most f d k lo zero one = omega arith
one_at_most f d k lo (suc m) one = elim (cases_Bool (same_buf (f lo) d)) [
  | inl here ↦
      (let at = one lo here
      in omega (
        arith,
        count_yes (λ b. same_buf b d) (f lo) (map f (range_with_len (lo + 1) m)) here,
        lacks_one f d k (lo + 1) m one (omega (arith, at)),
      ))
  | inr past ↦
      omega (
        arith,
        count_no (λ b. same_buf b d) (f lo) (map f (range_with_len (lo + 1) m)) past,
        one_at_most f d k (lo + 1) m one,
      )
]

none_of : (f : ℕ → Buf) (d : Buf) (lo m : ℕ) → ((j : ℕ) → same_buf (f j) d ≡ false)
    → count_by (λ b. same_buf b d) (map f (range_with_len lo m)) ≡ 0
none_of f d lo zero none = refl
none_of f d lo (suc m) none =
    omega (
      arith,
      count_no (λ b. same_buf b d) (f lo) (map f (range_with_len (lo + 1) m)) (none lo),
      none_of f d (lo + 1) m none,
    )

inode_of : ℕ → Buf
inode_of slot = Inode (record { 0 = slot })

-- the parts of a count over them
split_count : {X : Type 0} (p : X → Bool) (x : X) (xs ys : List X)
    → count_by p (x ∷ xs ++ ys) ≡ cond (p x) 1 0 + (count_by p xs + count_by p ys)
split_count p x xs ys =
    omega (
      arith,
      sum_by-cons (λ y. cond (p y) 1 0) x (xs ++ ys),
      sum_by-append (λ y. cond (p y) 1 0) xs ys,
    )

parts : (d : Buf)
    → count_by (λ b. same_buf b d) metadata_buffers
    ≡ cond (same_buf Bitmap d) 1 0 + (count_by (λ b. same_buf b d) (map Dir (range_with_len 0 4))
    + count_by (λ b. same_buf b d) (map inode_of (range_with_len 0 256)))
unfolding metadata_buffers inode_of
parts d =
    split_count (λ b. same_buf b d) Bitmap (map Dir (range_with_len 0 4)) (map inode_of (range_with_len 0 256))

pub once_in_metadata : (d : Buf) → count_by (λ b. same_buf b d) metadata_buffers ≤ 1
unfolding inode_of
once_in_metadata Bitmap =
    omega (arith, parts Bitmap, none_of Dir Bitmap 0 4 (λ j. refl), none_of inode_of Bitmap 0 256 (λ j. refl))
once_in_metadata (Dir k) =
    omega (
      arith,
      parts (Dir k),
      one_at_most Dir (Dir k) k 0 4 (λ j is. eqb-true j k is),
      none_of inode_of (Dir k) 0 256 (λ j. refl),
    )
once_in_metadata (Inode slot) =
    omega (
      arith,
      parts (Inode slot),
      none_of Dir (Inode slot) 0 4 (λ j. refl),
      one_at_most inode_of (Inode slot) slot.0 0 256 (λ j is. eqb-true j slot.0 is),
    )
once_in_metadata (Page s g) =
    omega (
      arith,
      parts (Page s g),
      none_of Dir (Page s g) 0 4 (λ j. refl),
      none_of inode_of (Page s g) 0 256 (λ j. refl),
    )

-- no page is among them
pub no_page_in_metadata : (s : Serial) (g : ℕ) → count_by (λ b. same_buf b (Page s g)) metadata_buffers ≡ 0
unfolding inode_of
no_page_in_metadata s g =
    omega (
      arith,
      parts (Page s g),
      none_of Dir (Page s g) 0 4 (λ j. refl),
      none_of inode_of (Page s g) 0 256 (λ j. refl),
    )

-- ---- marked buffers
-- the number of marked buffers
abbrev pub marks : List Event → ℕ
marks h = count_by (is_marked h) metadata_buffers

pub marks_are : (h : List Event) → marks h ≡ length (marked_buffers h)
marks_are h = sym (length-filter (is_marked h) metadata_buffers)

-- what is marked after an event was marked before, or the event dirties it
marked_or : (h : List Event) (e : Event) (b : Buf) → is_marked (h ▹ e) b ≡ true
    → (is_dirtied e b || is_marked h b) ≡ true
marked_or h e b is = go (is_dirtied e b) (is_freed e b || is_out e b) (open_at h b) is
  where
    go : (d out : Bool) (places : List ℕ)
        → nat_lt 0 (length ((if d then length h ∷ [] else []) ++ (if out then [] else places))) ≡ true
        → (d || nat_lt 0 (length places)) ≡ true
    go true out places is = refl
    go false true places is = absurd (cc)
    go false false places is = is

pub marks_more : (h : List Event) (e : Event) → marks (h ▹ e) ≤ count_by (is_dirtied e) metadata_buffers + marks h
marks_more h e =
    count_by_either (is_marked (h ▹ e)) (is_dirtied e) (is_marked h) metadata_buffers (λ b is. marked_or h e b is)

-- an event that dirties nothing
none_passes : {X : Type 0} (test : X → Bool) (xs : List X) → ((x : X) → test x ≡ false) → count_by test xs ≡ 0
none_passes test [] none = refl
none_passes test (x ∷ xs) none = omega (arith, count_no test x xs (none x), none_passes test xs none)

pub marks_stay : (h : List Event) (e : Event) → ((b : Buf) → is_dirtied e b ≡ false) → marks (h ▹ e) ≤ marks h
marks_stay h e none = omega (arith, marks_more h e, none_passes (is_dirtied e) metadata_buffers none)

-- a put dirties a page
pub marks_put : (h : List Event) (by : Pid) (s : Serial) (g from to fill : ℕ)
    → marks (h ▹ Put by s g from to fill) ≤ marks h
marks_put h by s g from to fill =
    omega (
      arith,
      marks_more h (Put by s g from to fill),
      count_by_less (is_dirtied (Put by s g from to fill)) (λ b. same_buf b (Page s g)) metadata_buffers
          (λ b is. one (same_buf b (Page s g)) is),
      no_page_in_metadata s g,
    )
  where
    one : (a : Bool) → (a || false) ≡ true → a ≡ true
    one true is = refl
    one false is = is

-- the buffers that an event dirties are as many at most
one_of_two : (a b : Bool) → (a || (b || false)) ≡ true → (a || b) ≡ true
one_of_two true b is = refl
one_of_two false true is = refl
one_of_two false false is = is

one_of_one : (a : Bool) → (a || false) ≡ true → a ≡ true
one_of_one true is = refl
one_of_one false is = is

pub marks_make : (h : List Event) (by : Pid) (slot : Slot) (s : Serial) → marks (h ▹ Make by slot s) ≤ marks h + 2
marks_make h by slot s =
    omega (
      arith,
      marks_more h (Make by slot s),
      count_by_either (is_dirtied (Make by slot s)) (λ b. same_buf b (Dir (slot.0 / 64))) (λ b. same_buf b (Inode slot))
          metadata_buffers (λ b is. one_of_two (same_buf b (Dir (slot.0 / 64))) (same_buf b (Inode slot)) is),
      once_in_metadata (Dir (slot.0 / 64)),
      once_in_metadata (Inode slot),
    )

pub marks_drop : (h : List Event) (by : Pid) (slot : Slot) (s : Serial) → marks (h ▹ Drop by slot s) ≤ marks h + 3
marks_drop h by slot s =
    omega (
      arith,
      marks_more h (Drop by slot s),
      count_by_either (is_dirtied (Drop by slot s)) (λ b. same_buf b (Dir (slot.0 / 64)))
          (λ b. same_buf b (Inode slot) || same_buf b Bitmap) metadata_buffers
          (λ b is. three (same_buf b (Dir (slot.0 / 64))) (same_buf b (Inode slot)) (same_buf b Bitmap) is),
      count_by_either (λ b. same_buf b (Inode slot) || same_buf b Bitmap) (λ b. same_buf b (Inode slot))
          (λ b. same_buf b Bitmap) metadata_buffers (λ b is. is),
      once_in_metadata (Dir (slot.0 / 64)),
      once_in_metadata (Inode slot),
      once_in_metadata Bitmap,
    )
  where
    three : (a b c : Bool) → (a || (b || (c || false))) ≡ true → (a || (b || c)) ≡ true
    three true b c is = refl
    three false true c is = refl
    three false false true is = refl
    three false false false is = is

pub marks_map : (h : List Event) (slot : Slot) (s : Serial) (g n block : ℕ) (new : Bool) (size : ℕ)
    → marks (h ▹ Map slot s g n block new size) ≤ marks h + 2
marks_map h slot s g n block true size =
    omega (
      arith,
      marks_more h (Map slot s g n block true size),
      count_by_either (is_dirtied (Map slot s g n block true size)) (λ b. same_buf b (Inode slot))
          (λ b. same_buf b Bitmap) metadata_buffers
          (λ b is. one_of_two (same_buf b (Inode slot)) (same_buf b Bitmap) is),
      once_in_metadata (Inode slot),
      once_in_metadata Bitmap,
    )
marks_map h slot s g n block false size =
    omega (
      arith,
      marks_more h (Map slot s g n block false size),
      count_by_less (is_dirtied (Map slot s g n block false size)) (λ b. same_buf b (Inode slot)) metadata_buffers
          (λ b is. one_of_one (same_buf b (Inode slot)) is),
      once_in_metadata (Inode slot),
    )

-- a seal takes all that is marked
metadata_out : (h : List Event) (t : Txn) (k : ℕ) (b : Buf) → IsMetadata b → is_marked (h ▹ Seal t k) b ≡ false
metadata_out h t k (Page s g) metadata = absurd (metadata)
metadata_out h t k Bitmap metadata = refl
metadata_out h t k (Dir j) metadata = refl
metadata_out h t k (Inode slot) metadata = refl

pub marks_seal : (h : List Event) (t : Txn) (k : ℕ) → marks (h ▹ Seal t k) ≡ 0
marks_seal h t k =
    count_none (is_marked (h ▹ Seal t k)) metadata_buffers
    (false_from_ne_true (list_any (is_marked (h ▹ Seal t k)) metadata_buffers)
    (λ any. let b = metadata_any (is_marked (h ▹ Seal t k)) any in
    both_ways (is_marked (h ▹ Seal t k) b.0) (metadata_out h t k b.0 b.1) b.2))

-- ---- buffers that await their home
abbrev pub awaits : List Event → ℕ
awaits h = count_by (awaits_home h) metadata_buffers

-- what a seal takes awaits its home
pub awaits_seal : (h : List Event) (t : Txn) (k : ℕ) → awaits (h ▹ Seal t k) ≤ marks h + awaits h
awaits_seal h t k =
    count_by_either (awaits_home (h ▹ Seal t k)) (is_marked h) (awaits_home h) metadata_buffers
    (λ b is. either (open_at h b) (awaiting_at h b) is)
  where
    either : (xs ys : List ℕ) → nat_lt 0 (length (xs ++ ys)) ≡ true
        → (nat_lt 0 (length xs) || nat_lt 0 (length ys)) ≡ true
    either [] ys is = is
    either (x ∷ xs) ys is = grind (arith, nat_tests)

-- no request makes a buffer await its home
awaited : (h : List Event) (by : Actor) (r : Request) (b : Buf) → awaits_home (h ▹ Add by r) b ≡ true
    → awaits_home h b ≡ true
awaited h by r b is = go (brings_home r b) (awaiting_at h b) is
  where
    go : (t : Bool) (places : List ℕ) → nat_lt 0 (length {A = ℕ} (elim t [ true ↦ [] | false ↦ places ])) ≡ true
        → nat_lt 0 (length places) ≡ true
    go true places is = absurd (cc)
    go false places is = is

pub awaits_add : (h : List Event) (by : Actor) (r : Request) → awaits (h ▹ Add by r) ≤ awaits h
awaits_add h by r =
    count_by_less (awaits_home (h ▹ Add by r)) (awaits_home h) metadata_buffers (λ b is. awaited h by r b is)

-- a request that brings the next one home leaves one less
pub awaits_home_add : (h : List Event) (by : Actor) (r : Request) (b : Buf) → next_home h ≡ Some b
    → ((c : Buf) → home_block c ≡ home_block b → brings_home r c ≡ true) → awaits (h ▹ Add by r) + 1 ≤ awaits h
awaits_home_add h by r b next brings =
    let there = find_there (awaits_home h) metadata_buffers b next
    in count_by_fewer (awaits_home (h ▹ Add by r)) (awaits_home h)
    (λ c. awaits_home h c && home_block c == home_block b) metadata_buffers (λ c is. awaited h by r c is)
    (λ c is. let both = and_parts (awaits_home h c) (home_block c == home_block b) is in (
      both.0,
      gone (brings_home r c) (awaiting_at h c)
          (brings c (eqb-true (home_block c) (home_block b) both.1)),
    ))
    (list_any_here (λ c. awaits_home h c && home_block c == home_block b) metadata_buffers there.0 b there.1
    (and_from (awaits_home h b) (home_block b == home_block b) there.2 (eq-eqb (home_block b) (home_block b) refl)))
  where
    gone : (t : Bool) (places : List ℕ) → t ≡ true
        → nat_lt 0 (length {A = ℕ} (elim t [ true ↦ [] | false ↦ places ])) ≡ false
    gone true places is = refl
    gone false places is = absurd (cc)

-- ---- before any event
pub no_marks : marks [] ≡ 0
no_marks = none_passes (is_marked []) metadata_buffers (λ b. refl)

pub no_awaits : awaits [] ≡ 0
no_awaits = none_passes (awaits_home []) metadata_buffers (λ b. refl)
