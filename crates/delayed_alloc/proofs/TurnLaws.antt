-- What becomes of all blocks when a run is taken, and at the start.
use Rattle.std.proofs.Common.{◌≡◌, ◌≢◌, ◌⊎◌, ℕ, zero, suc, ◌+◌, ◌-◌, ◌*◌, ◌^◌, ◌<◌, ◌≤◌, true, false, cond, List, ◌++◌, length, replicate, get_or, set, Some, count_by, refl, sym, ap, ◌∙◌, inl, inr, arith, length-set, length-append, get_or-set_same, get_or-set_other}
use Rattle.std.specs.Prelude.{◌==◌, nat_le, nat_lt, ◌&&◌, if◌then◌else◌}
use Rattle.std.proofs.lemmas.Bool.{cases_eq, cases_lt, false_from_ne_true}
use Rattle.std.proofs.lemmas.Bool.Decides.{eqb_tells, nat_tests}
use Rattle.std.proofs.lemmas.List.{same_lists, get_or_past, get_or_append_left, get_or-append_right, get_or-replicate, length-replicate}
use Rattle.std.proofs.lemmas.List.Sums.{sum_by-append}
use Rattle.std.proofs.lemmas.List.Folds.{sum_by-replicate}
use Rattle.split_types.specs.declared.ids.Txn.{Txn}
use Rattle.delayed_alloc.specs.Bits.{is_set, IsEmptySet}
use Rattle.delayed_alloc.specs.Blocks.{State, Blocks, Taken, Free, is_free, new_blocks, IsLeastRun, TakesRun}
use Rattle.delayed_alloc.specs.Held.{state_of, states_of, AreHeld}
use Rattle.delayed_alloc.proofs.HeldLaws.{length-states_of, read_within, found, none_past, found-state, counted-set, free-set, set-within}

-- the free blocks that a run takes
count-run : (old new : List State) (first m : ℕ) → length new ≡ length old → first + m ≤ length old
    → ((i : ℕ) (d : State) → i < m → get_or old (first + i) d ≡ Free)
    → ((i : ℕ) (d : State) → i < m → get_or new (first + i) d ≡ Taken)
    → ((k : ℕ) (d : State) → (k < first) ⊎ (first + m ≤ k) → get_or new k d ≡ get_or old k d)
    → count_by is_free new + m ≡ count_by is_free old
count-run old new first zero len within free taken others =
    let same : new ≡ old = same_lists new old len (λ k d inside. elim (cases_lt k first) [
      | inl before ↦ others k d (inl before)
      | inr after ↦ others k d (inr (omega arith))
    ]) in
    let count = ap (count_by is_free) same in
    omega arith
count-run old new first (suc m) len within free taken others =
    let at = first + m in
    let last = set new at Free in
    let last_len = length-set new at Free in
    let inside : at < length new = omega arith in
    let before = count-run old last first m (last_len ∙ len) (omega arith)
    (λ i d lower. free i d (omega arith))
    (λ i d lower. let apart : first + i ≢ at = omega arith in get_or-set_other new at (first + i) Free d apart
    ∙ taken i d (omega arith))
    (λ k d outside. elim (cases_eq k at) [
      | inl same ↦ rw same (get_or-set_same new at Free d inside ∙ sym (free m d (omega arith)))
      | inr apart ↦ get_or-set_other new at k Free d apart ∙ others k d (elim outside [
        | inl low ↦ inl low
        | inr high ↦ inr (omega (arith, high, apart))
      ])
    ]) in
    let more = counted-set new at Free Taken inside (taken m Free (omega arith)) in
    omega arith

run-set : (words waits : List ℕ) (txns : List Txn) (unused reserved n first m : ℕ)
    → AreHeld words waits txns unused reserved
    → IsLeastRun (record { states = states_of words waits txns; reserved = reserved }) n first m → (b : ℕ) → first ≤ b
    → b < first + m → is_set words b ≡ true
run-set words waits txns unused reserved n first m held run b from to =
    free-set words waits txns b (run.free b from to)

-- the least run is within the disk
pub run-within : (words waits : List ℕ) (txns : List Txn) (unused reserved n first m : ℕ)
    → AreHeld words waits txns unused reserved
    → IsLeastRun (record { states = states_of words waits txns; reserved = reserved }) n first m
    → first + m ≤ length txns
run-within words waits txns unused reserved n first m held run =
    let some = run.some in
    let last = set-within words waits txns unused reserved (first + (m - 1)) held
    (run-set words waits txns unused reserved n first m held run (first + (m - 1)) (omega arith) (omega arith)) in
    omega arith

state-cleared : (words words' waits : List ℕ) (txns : List Txn) (block : ℕ) → is_set words' block ≡ false
    → is_set waits block ≡ false → state_of words' waits txns block ≡ Taken
state-cleared words words' waits txns block off none = rw (off, none) refl

-- the run that was least is taken
module _ (words words' waits : List ℕ) (txns : List Txn) (unused reserved n first m : ℕ)
    (held : AreHeld words waits txns unused reserved)
    (run : IsLeastRun (record { states = states_of words waits txns; reserved = reserved }) n first m)
    (promised : n ≤ reserved) (len : length words' ≡ length words)
    (cleared : (b : ℕ) → first ≤ b → b < first + m → is_set words' b ≡ false) (others : (b : ℕ)
    → (b < first) ⊎ (first + m ≤ b) → is_set words' b ≡ is_set words b) where
  within : first + m ≤ length txns
  within = run-within words waits txns unused reserved n first m held run

  taken : (b : ℕ) → first ≤ b → b < first + m → state_of words' waits txns b ≡ Taken
  taken b from to =
      let on = run-set words waits txns unused reserved n first m held run b from to in
      state-cleared words words' waits txns b (cleared b from to) (held.apart b on)

  stays : (k : ℕ) → (k < first) ⊎ (first + m ≤ k) → state_of words' waits txns k ≡ state_of words waits txns k
  stays k outside = rw (others k outside) refl

  new_bits : (k : ℕ) → is_set words' k ≡ true → is_set words k ≡ true
  new_bits k on =
      elim (cases_lt k first) [
        | inl before ↦ sym (others k (inl before)) ∙ on
        | inr from ↦ elim (cases_lt k (first + m)) [
          | inl inside ↦ let off = cleared k from inside in absurd (cc)
          | inr after ↦ sym (others k (inr after)) ∙ on
        ]
      ]

  fewer : count_by is_free (states_of words' waits txns) + m ≡ count_by is_free (states_of words waits txns)
  fewer =
      let old_len = length-states_of words waits txns in
      let new_len = length-states_of words' waits txns in
      count-run (states_of words waits txns) (states_of words' waits txns) first m (new_len ∙ sym old_len)
      (let w = within in
      omega arith)
      (λ i d lower. let w = within in
      read_within words waits txns (first + i) d (omega arith)
      ∙ (found-state words waits txns (first + i) Free (run.free (first + i) (omega arith) (omega arith))).1)
      (λ i d lower. let w = within in read_within words' waits txns (first + i) d (omega arith)
      ∙ taken (first + i) (omega arith) (omega arith))
      (λ k d outside. elim (cases_lt k (length txns)) [
        | inl inside ↦ read_within words' waits txns k d inside ∙ stays k outside
            ∙ sym (read_within words waits txns k d inside)
        | inr past ↦ get_or_past (states_of words' waits txns) k d (omega arith)
            ∙ sym (get_or_past (states_of words waits txns) k d (omega arith))
      ])

  pub held-taken : AreHeld words' waits txns (unused - m) (reserved - m)
  held-taken = record {
    few = held.few;
    room = rw len held.room;
    waits_room = held.waits_room;
    waits_outside = held.waits_outside;
    outside = λ k past. false_from_ne_true (is_set words' k) (λ on. let was = new_bits k on in
        let off = held.outside k past in absurd (cc));
    apart = λ k on. held.apart k (new_bits k on);
    counted = let f = fewer in let c = held.counted in omega arith;
    enough = let e = held.enough in let r = run.most in omega arith;
  }

  pub takes_run : TakesRun (record { states = states_of words waits txns; reserved = reserved })
      (record { states = states_of words' waits txns; reserved = reserved - m }) first m
  takes_run =
      let w = within in
      record {
        blocks = length-states_of words' waits txns ∙ sym (length-states_of words waits txns);
        run = λ b from to. found words' waits txns b (omega arith) ∙ ap (λ s. Some s) (taken b from to);
        others = λ k outside. elim (cases_lt k (length txns)) [
          | inl inside ↦ found words' waits txns k inside ∙ ap (λ s. Some s) (stays k outside)
              ∙ sym (found words waits txns k inside)
          | inr past ↦ none_past words' waits txns k past ∙ sym (none_past words waits txns k past)
        ];
        promised = let r = run.most in omega arith;
      }

-- one number more of those from a first one on
pub range-more : (first at k : ℕ) → first ≤ at → (if k == at then true else (nat_le first k && nat_lt k at))
    ≡ (nat_le first k && nat_lt k (at + 1))
range-more first at k from =
    elim (eqb_tells k at) [
      | inl same ↦ rw same.0 (rw same.1 (grind (arith, nat_tests)))
      | inr other ↦ rw other.0 (grind (arith, nat_tests))
    ]

-- at the start
started : (words waits : List ℕ) (device first : ℕ) → first ≤ device
    → ((k : ℕ) → is_set words k ≡ (nat_le first k && nat_lt k device)) → IsEmptySet waits
    → states_of words waits (replicate device (record { 0 = 0 }))
    ≡ replicate first Taken ++ replicate (device - first) Free
started words waits device first within bits none =
    let txns : List Txn = replicate device (record { 0 = 0 }) in
    let len : length txns ≡ device = length-replicate device (record { 0 = 0 }) in
    let taken_len : length (replicate first Taken) ≡ first = length-replicate first Taken in
    let free_len : length (replicate (device - first) Free) ≡ device - first = length-replicate (device - first) Free in
    let right_len = length-append (replicate first Taken) (replicate (device - first) Free) in
    let left_len = length-states_of words waits txns in
    same_lists (states_of words waits txns) (replicate first Taken ++ replicate (device - first) Free) (omega arith)
    (λ k d inside.
    let k_within : k < device = omega arith in
    read_within words waits txns k d (omega arith) ∙ (elim (cases_lt k first) [
      | inl before ↦
          let off : is_set words k ≡ false = bits k ∙ grind (arith, nat_tests) in
          rw (off, none k) (sym (get_or_append_left (replicate first Taken) (replicate (device - first) Free) d k
          (omega arith) ∙ get_or-replicate first k Taken d before))
      | inr from ↦
          let on : is_set words k ≡ true = bits k ∙ grind (arith, nat_tests) in
          rw on (sym (get_or-append_right (replicate first Taken) (replicate (device - first) Free) first k d taken_len
          from ∙ get_or-replicate (device - first) (k - first) Free d (omega arith)))
    ]))

pub held-started : (words waits : List ℕ) (device first : ℕ) → first ≤ device → device < 2 ^ 32
    → device ≤ 64 * length words → device ≤ 64 * length waits
    → ((k : ℕ) → is_set words k ≡ (nat_le first k && nat_lt k device)) → IsEmptySet waits
    → AreHeld words waits (replicate device (record { 0 = 0 })) (device - first) 0
held-started words waits device first within few room waits_room bits none =
    let txns : List Txn = replicate device (record { 0 = 0 }) in
    let len : length txns ≡ device = length-replicate device (record { 0 = 0 }) in
    let states = started words waits device first within bits none in
    record {
      few = rw len few;
      room = rw len room;
      waits_room = rw len waits_room;
      outside = λ k past. let beyond : device ≤ k = rw len at past in bits k ∙ grind (arith, nat_tests);
      waits_outside = λ k past. none k;
      apart = λ k on. none k;
      counted = rw states (sym (sum_by-append (λ s. cond (is_free s) 1 0) (replicate first Taken)
          (replicate (device - first) Free)
          ∙ (let taken = sum_by-replicate (λ s. cond (is_free s) 1 0) first Taken in
          let free = sum_by-replicate (λ s. cond (is_free s) 1 0) (device - first) Free in
          omega arith)));
      enough = omega arith;
    }

pub states-started : (words waits : List ℕ) (device first : ℕ) → first ≤ device
    → ((k : ℕ) → is_set words k ≡ (nat_le first k && nat_lt k device)) → IsEmptySet waits
    → (let a : Blocks = record {
      states = states_of words waits (replicate device (record { 0 = 0 }));
      reserved = 0;
    } in
    a ≡ new_blocks device first)
states-started words waits device first within bits none =
    rw (started words waits device first within bits none) refl
