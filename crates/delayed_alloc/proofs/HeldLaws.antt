-- What becomes of the blocks in memory when one is taken, waits or is freed.
use Rattle.std.proofs.Common.{◌≡◌, ◌≢◌, ℕ, ◌+◌, ◌<◌, ◌≤◌, Bool, true, false, cond, List, [], ◌∷◌, length, map, get_or, set, Option, Some, None, IfNone, IsSome, count_by, refl, sym, ap, ◌∙◌, subst, inl, inr, arith, length-set, get_or-set_same, get_or-set_other}
use Rattle.std.specs.Prelude.{◌==◌, slice_get, if◌then◌else◌}
use Rattle.std.specs.List.{range_with_len}
use Rattle.std.proofs.lemmas.Bool.{cases_eq, cases_lt, false_from_ne_true}
use Rattle.std.proofs.lemmas.Bool.Decides.{eqb_tells, nat_tests}
use Rattle.std.proofs.lemmas.List.{same_lists}
use Rattle.std.proofs.lemmas.List.FromFn.{get_or-map-range_with_len, length-map-range_with_len}
use Rattle.std.proofs.lemmas.List.Sums.{sum_by-set, sum_by-cons}
use Rattle.std.proofs.lemmas.Option.{slice_get_within, slice_get_past, slice_get-get_or, get_or_from_slice_get}
use Rattle.split_types.specs.declared.ids.Txn.{Txn}
use Rattle.delayed_alloc.specs.Bits.{is_set, IsFirstSet, IsEmptySet}
use Rattle.delayed_alloc.specs.Blocks.{State, Taken, Free, Waiting, is_free, IsLeastRun}
use Rattle.delayed_alloc.specs.Held.{state_of, states_of, AreHeld}

pub length-states_of : (words waits : List ℕ) (txns : List Txn) → length (states_of words waits txns) ≡ length txns
length-states_of words waits txns = length-map-range_with_len (state_of words waits txns) 0 (length txns)

-- the state of a block, within the disk
pub read_within : (words waits : List ℕ) (txns : List Txn) (block : ℕ) (d : State) → block < length txns
    → get_or (states_of words waits txns) block d ≡ state_of words waits txns block
read_within words waits txns block d within =
    get_or-map-range_with_len (state_of words waits txns) 0 (length txns) block block d within (omega arith)

-- the state of a block within the disk, and none past its end
pub found : (words waits : List ℕ) (txns : List Txn) (block : ℕ) → block < length txns
    → slice_get (states_of words waits txns) block ≡ Some (state_of words waits txns block)
found words waits txns block within =
    let len = length-states_of words waits txns in
    slice_get-get_or (states_of words waits txns) block Taken (omega arith)
    ∙ ap (λ s. Some s) (read_within words waits txns block Taken within)

pub none_past : (words waits : List ℕ) (txns : List Txn) (block : ℕ) → length txns ≤ block
    → slice_get (states_of words waits txns) block ≡ None
none_past words waits txns block past = let len = length-states_of words waits txns in
    slice_get_past (states_of words waits txns) block (omega arith)

-- the state that is found
pub found-state : (words waits : List ℕ) (txns : List Txn) (block : ℕ) (s : State)
    → slice_get (states_of words waits txns) block ≡ Some s
    → (block < length txns) × (state_of words waits txns block ≡ s)
found-state words waits txns block s h =
    let inside = slice_get_within (states_of words waits txns) block s h in
    let within : block < length txns = let len = length-states_of words waits txns in omega arith in (
      within,
      sym (read_within words waits txns block Taken within)
          ∙ get_or_from_slice_get (states_of words waits txns) block s Taken h,
    )

-- the states where one block changes
pub states-set : (words words' waits waits' : List ℕ) (txns txns' : List Txn) (block : ℕ) (s : State)
    → length txns' ≡ length txns → block < length txns
    → state_of words' waits' txns' block ≡ s
    → ((k : ℕ) → k ≢ block → state_of words' waits' txns' k ≡ state_of words waits txns k)
    → states_of words' waits' txns' ≡ set (states_of words waits txns) block s
states-set words words' waits waits' txns txns' block s len within here others =
    let old_len = length-states_of words waits txns in
    let new_len = length-states_of words' waits' txns' in
    same_lists (states_of words' waits' txns') (set (states_of words waits txns) block s) (new_len ∙ len ∙ sym old_len
    ∙ sym (length-set (states_of words waits txns) block s)) (λ k d inside.
    let inside' : k < length txns' = omega arith in
    read_within words' waits' txns' k d inside' ∙ (elim (cases_eq k block) [
      | inl same ↦
          let room : block < length (states_of words waits txns) = omega arith in
          rw same (here ∙ sym (get_or-set_same (states_of words waits txns) block s d room))
      | inr other ↦
          let old_inside : k < length txns = omega arith in
          others k other ∙ sym (read_within words waits txns k d old_inside)
          ∙ sym (get_or-set_other (states_of words waits txns) block k s d other)
    ]))

-- what the number of free blocks becomes where one block changes
pub counted-set : (states : List State) (block : ℕ) (s was : State) → block < length states
    → get_or states block s ≡ was
    → count_by is_free (set states block s) + (if is_free was then 1 else 0)
    ≡ count_by is_free states + (if is_free s then 1 else 0)
counted-set states block s was within is =
    let sum = sum_by-set (λ x. cond (is_free x) 1 0) states block s s within in
    rw (← is) sum

-- a block that is taken isn't free, and waits for nothing
pub taken-parts : (words waits : List ℕ) (txns : List Txn) (block : ℕ) → state_of words waits txns block ≡ Taken
    → (is_set words block ≡ false) × (is_set waits block ≡ false)
taken-parts words waits txns block h =
    go (is_set words block) (is_set waits block) (get_or txns block (record { 0 = 0 })) h where
      go : (set wait : Bool) (t : Txn) → (if set then Free else (if wait then Waiting t else Taken)) ≡ Taken
          → (set ≡ false) × (wait ≡ false)
      go true wait t h = absurd (cc)
      go false true t h = absurd (cc)
      go false false t h = (refl, refl)

-- a taken block waits
module _ (words waits waits' : List ℕ) (txns : List Txn) (block : ℕ) (t : Txn)
    (taken : slice_get (states_of words waits txns) block ≡ Some Taken)
    (bits : (k : ℕ) → is_set waits' k ≡ (if k == block then true else is_set waits k)) where
  within : block < length txns
  within = (found-state words waits txns block Taken taken).0

  unfree : is_set words block ≡ false
  unfree = (taken-parts words waits txns block (found-state words waits txns block Taken taken).1).0

  bits_here : is_set waits' block ≡ true
  bits_here = rw (bits block) (grind (arith, nat_tests))

  bits_other : (k : ℕ) → k ≢ block → is_set waits' k ≡ is_set waits k
  bits_other k other = rw (bits k) (elim (eqb_tells k block) [
    | inl same ↦ absurd (other same.1)
    | inr apart ↦ rw apart.0 refl
  ])

  pub states-waiting : states_of words waits' (set txns block t) ≡ set (states_of words waits txns) block (Waiting t)
  states-waiting =
      states-set words words waits waits' txns (set txns block t) block (Waiting t) (length-set txns block t) within
      (rw (unfree, bits_here, get_or-set_same txns block t (record { 0 = 0 }) within) refl)
      (λ k other. rw (bits_other k other, get_or-set_other txns block k t (record { 0 = 0 }) other) refl)

  pub held-waiting : (unused reserved : ℕ) → AreHeld words waits txns unused reserved → length waits' ≡ length waits
      → AreHeld words waits' (set txns block t) unused reserved
  held-waiting unused reserved held waits_len =
      let len = length-set txns block t in
      let was : get_or (states_of words waits txns) block (Waiting t) ≡ Taken =
      read_within words waits txns block (Waiting t) within ∙ (found-state words waits txns block Taken taken).1 in
      let inside : block < length (states_of words waits txns) = let e = length-states_of words waits txns in
      let w = within in omega arith in
      let count = counted-set (states_of words waits txns) block (Waiting t) Taken inside was in
      let states = states-waiting in
      record {
        few = rw len held.few;
        room = rw len held.room;
        waits_room = rw (len, waits_len) held.waits_room;
        outside = λ k past. held.outside k (rw len at past);
        waits_outside = λ k past.
            let beyond : length txns ≤ k = rw len at past in
            let w = within in
            rw (bits_other k (omega arith)) (held.waits_outside k beyond);
        apart = λ k set. elim (cases_eq k block) [
          | inl same ↦ let on : is_set words block ≡ true = subst (λ j. is_set words j ≡ true) same set in
              let off = unfree in absurd (cc)
          | inr other ↦ rw (bits_other k other) (held.apart k set)
        ];
        counted = held.counted ∙ rw states (omega arith);
        enough = held.enough;
      }

-- a waiting block is within the disk, and isn't free
pub waiting-within : (words waits : List ℕ) (txns : List Txn) (unused reserved block : ℕ)
    → AreHeld words waits txns unused reserved → is_set waits block ≡ true → block < length txns
waiting-within words waits txns unused reserved block held waiting =
    elim (cases_lt block (length txns)) [
      | inl inside ↦ inside
      | inr past ↦ let off = held.waits_outside block past in absurd (cc)
    ]

pub waiting-unset : (words waits : List ℕ) (txns : List Txn) (unused reserved block : ℕ)
    → AreHeld words waits txns unused reserved → is_set waits block ≡ true → is_set words block ≡ false
waiting-unset words waits txns unused reserved block held waiting =
    false_from_ne_true (is_set words block) (λ on. let off = held.apart block on in absurd (cc))

-- a waiting block is freed
module _ (words words' waits waits' : List ℕ) (txns : List Txn) (unused reserved block : ℕ)
    (held : AreHeld words waits txns unused reserved) (waiting : is_set waits block ≡ true)
    (bits : (k : ℕ) → is_set words' k ≡ (if k == block then true else is_set words k))
    (waits_bits : (k : ℕ) → is_set waits' k ≡ (if k == block then false else is_set waits k)) where
  inside : block < length txns
  inside = waiting-within words waits txns unused reserved block held waiting

  pub state-waits : state_of words waits txns block ≡ Waiting (get_or txns block (record { 0 = 0 }))
  state-waits = rw (waiting-unset words waits txns unused reserved block held waiting, waiting) refl

  pub states-freed : states_of words' waits' txns ≡ set (states_of words waits txns) block Free
  states-freed =
      states-set words words' waits waits' txns txns block Free refl inside
      (rw (bits block) (grind (arith, nat_tests)))
      (λ k other. rw (bits k, waits_bits k) (elim (eqb_tells k block) [
        | inl same ↦ absurd (other same.1)
        | inr apart ↦ rw apart.0 refl
      ]))

  pub held-freed : length words' ≡ length words → length waits' ≡ length waits
      → AreHeld words' waits' txns (unused + 1) reserved
  held-freed words_len waits_len =
      let within = inside in
      let was : get_or (states_of words waits txns) block Free ≡ Waiting (get_or txns block (record { 0 = 0 })) =
      read_within words waits txns block Free within ∙ state-waits in
      let room : block < length (states_of words waits txns) = let e = length-states_of words waits txns in
      omega arith in
      let count = counted-set (states_of words waits txns) block Free (Waiting (get_or txns block (record { 0 = 0 })))
      room was in
      let states = states-freed in
      record {
        few = held.few;
        room = rw words_len held.room;
        waits_room = rw waits_len held.waits_room;
        outside = λ k past. rw (bits k) (elim (eqb_tells k block) [
          | inl same ↦ absurd (omega (arith, past, within, same.1))
          | inr apart ↦ rw apart.0 (held.outside k past)
        ]);
        waits_outside = λ k past. rw (waits_bits k) (elim (eqb_tells k block) [
          | inl same ↦ rw same.0 refl
          | inr apart ↦ rw apart.0 (held.waits_outside k past)
        ]);
        apart = λ k set. rw (waits_bits k) (elim (eqb_tells k block) [
          | inl same ↦ rw same.0 refl
          | inr other ↦ rw other.0 (held.apart k (let e = bits k in let t = other.0 in sym (rw t at e) ∙ set))
        ]);
        counted = let was_counted = held.counted in rw states (omega arith);
        enough = let was_enough = held.enough in omega arith;
      }

-- where no block is in the set, none is free
none-free : (words waits : List ℕ) (txns : List Txn) → IsEmptySet words
    → count_by is_free (states_of words waits txns) ≡ 0
none-free words waits txns none = go (range_with_len 0 (length txns)) where
  unfree : (block : ℕ) → is_free (state_of words waits txns block) ≡ false
  unfree block = rw (none block) (by_wait (is_set waits block)) where
    by_wait : (wait : Bool) → is_free (if wait then Waiting (get_or txns block (record { 0 = 0 })) else Taken) ≡ false
    by_wait true = refl
    by_wait false = refl

  go : (blocks : List ℕ) → count_by is_free (map (state_of words waits txns) blocks) ≡ 0
  go [] = refl
  go (b ∷ bs) =
      sum_by-cons (λ x. cond (is_free x) 1 0) (state_of words waits txns b) (map (state_of words waits txns) bs)
      ∙ rw (unfree b, go bs) refl

-- where blocks are promised, some block is free
pub some-free : (words waits : List ℕ) (txns : List Txn) (unused reserved : ℕ) (first : Option ℕ)
    → AreHeld words waits txns unused reserved → 0 < reserved
    → IfNone first (IsEmptySet words) → IsSome first
some-free words waits txns unused reserved (Some block) held some none = refl
some-free words waits txns unused reserved None held some none =
    let no = none-free words waits txns none in
    let counted = held.counted in
    let enough = held.enough in
    absurd (omega arith)

-- a block is free exactly where it is in the set
pub free-set : (words waits : List ℕ) (txns : List Txn) (block : ℕ)
    → slice_get (states_of words waits txns) block ≡ Some Free → is_set words block ≡ true
free-set words waits txns block h = go (is_set words block) (is_set waits block)
    (get_or txns block (record { 0 = 0 })) (found-state words waits txns block Free h).1 where
      go : (set wait : Bool) (t : Txn) → (if set then Free else (if wait then Waiting t else Taken)) ≡ Free
          → set ≡ true
      go true wait t h = refl
      go false true t h = absurd (cc)
      go false false t h = absurd (cc)

pub set-within : (words waits : List ℕ) (txns : List Txn) (unused reserved block : ℕ)
    → AreHeld words waits txns unused reserved → is_set words block ≡ true → block < length txns
set-within words waits txns unused reserved block held on =
    elim (cases_lt block (length txns)) [
      | inl inside ↦ inside
      | inr past ↦ let off = held.outside block past in absurd (cc)
    ]

pub set-free : (words waits : List ℕ) (txns : List Txn) (unused reserved block : ℕ)
    → AreHeld words waits txns unused reserved → is_set words block ≡ true
    → slice_get (states_of words waits txns) block ≡ Some Free
set-free words waits txns unused reserved block held on = found words waits txns block
    (set-within words waits txns unused reserved block held on) ∙ rw on refl

pub least_run : (words waits : List ℕ) (txns : List Txn) (unused reserved n first m : ℕ)
    → AreHeld words waits txns unused reserved → 1 ≤ n
    → IsFirstSet words first → m ≤ n → ((b : ℕ) → first ≤ b → b < first + m → is_set words b ≡ true)
    → (m < n → is_set words (first + m) ≡ false)
    → IsLeastRun (record { states = states_of words waits txns; reserved = reserved }) n first m
least_run words waits txns unused reserved n first m held some least most run ends =
    record {
      some = elim (cases_lt 0 m) [
        | inl more ↦ more
        | inr none ↦
            let on = least.set in
            let off : is_set words (first + m) ≡ false = ends (omega arith) in
            let here : first + m ≡ first = omega arith in
            let off_here : is_set words first ≡ false = subst (λ k. is_set words k ≡ false) here off in
            absurd (cc)
      ];
      most = most;
      free = λ b from to. set-free words waits txns unused reserved b held (run b from to);
      least = λ block free. elim (cases_lt block first) [
        | inl before ↦
            let on = free-set words waits txns block free in
            let off = least.least block before in
            absurd (cc)
        | inr after ↦ after
      ];
      longest = elim (cases_lt m n) [
        | inl shorter ↦ inr (λ free.
            let on = free-set words waits txns (first + m) free in
            let off = ends shorter in
            absurd (cc))
        | inr full ↦ inl (omega arith)
      ];
    }
