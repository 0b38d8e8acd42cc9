-- What becomes of the blocks, and of the marks of what they wait for, when a transaction is settled.
use Rattle.std.proofs.Common.{◌≡◌, ◌≢◌, ℕ, ◌+◌, ◌-◌, ◌*◌, ◌/◌, ◌%◌, ◌^◌, ◌<◌, ◌≤◌, Bool, true, false, List, length, map, get_or, set, Some, refl, sym, ap, ◌∙◌, inl, inr, arith, length-set, get_or-set_same, get_or-set_other}
use Rattle.std.specs.Prelude.{◌==◌, slice_get, if◌then◌else◌}
use Rattle.std.specs.Int.{bit_at, trailing_zeros, w64}
use Rattle.std.proofs.lemmas.Bool.{cases_lt, cases_eq, ne_eqb, cases_Bool}
use Rattle.std.proofs.lemmas.Bool.Decides.{nat_tests}
use Rattle.std.proofs.lemmas.Nat.Bits.{bit_at-zero, bit_at_above}
use Rattle.std.proofs.lemmas.Option.{slice_get-get_or, get_or_from_slice_get}
use Rattle.std.proofs.lemmas.List.{ext_get_or, get_or-map, get_or_past, length-map}
use Rattle.split_types.specs.declared.ids.Txn.{Txn}
use Rattle.delayed_alloc.specs.Bits.{is_set, IsEmptySet}
use Rattle.delayed_alloc.specs.Blocks.{State, Blocks, Taken, Free, Waiting, settled, TakesRun}
use Rattle.delayed_alloc.specs.Held.{states_of, AreHeld}
use Rattle.delayed_alloc.specs.Marks.{is_marked, AreMarked, AllMarked, KeepsMarks}
use Rattle.delayed_alloc.specs.Settling.{SettlesRun, is_waiting, waits_at}
use Rattle.delayed_alloc.proofs.HeldLaws.{length-states_of, read_within, waiting-within, waiting-unset, state-waits, states-freed}
use Rattle.delayed_alloc.proofs.BitLaws.{rest-after, lowest-of}

-- where a run is settled and then the next one, both are
pub settles-joined : (t : Txn) (old mid new : Blocks) (first at end : ℕ) → first ≤ at → at ≤ end
    → SettlesRun t old mid first at → SettlesRun t mid new at end → SettlesRun t old new first end
settles-joined t old mid new first at end from to one two =
    record {
      blocks = two.blocks ∙ one.blocks;
      run = λ block low high. elim (cases_lt block at) [
        | inl before ↦ two.others block (inl before) ∙ one.run block low before
        | inr after ↦ two.run block after high ∙ ap (settled t) (one.others block (inr after))
      ];
      others = λ block outside. elim outside [
        | inl low ↦ two.others block (inl (omega arith)) ∙ one.others block (inl low)
        | inr high ↦ two.others block (inr high) ∙ one.others block (inr (omega arith))
      ];
      promised = two.promised ∙ one.promised;
    }

-- before the first block
pub settles-empty : (t : Txn) (a : Blocks) (at : ℕ) → SettlesRun t a a at at
settles-empty t a at = record {
  blocks = refl;
  run = λ block low high. absurd (omega arith);
  others = λ block outside. refl;
  promised = refl;
}

-- behind the last block
pub settles-all : (t : Txn) (old new : Blocks) (end : ℕ) → SettlesRun t old new 0 end → length old.states ≤ end
    → new ≡ record old { states = map (settled t) old.states }
settles-all t old new end run enough =
    let len = length-map old.states (settled t) in
    let states : new.states ≡ map (settled t) old.states =
    ext_get_or Taken new.states (map (settled t) old.states) (run.blocks ∙ sym len) (λ k inside.
    let b = run.blocks in
    run.run k (omega arith) (omega arith) ∙ sym (get_or-map (settled t) old.states k Taken Taken (omega arith))) in
    rw (← states, ← run.promised) refl

-- a block that doesn't wait for the transaction stays
state-kept : (t : Txn) (s : State) → ((u : Txn) → s ≡ Waiting u → u.0 ≢ t.0) → settled t s ≡ s
state-kept t Taken other = refl
state-kept t Free other = refl
state-kept t (Waiting u) other = rw (ne_eqb u.0 t.0 (other u refl)) refl

-- where no block of a run waits for the transaction, all stay
pub settles-kept : (t : Txn) (a : Blocks) (first end : ℕ)
    → ((block : ℕ) (u : Txn) → first ≤ block → block < end → get_or a.states block Taken ≡ Waiting u → u.0 ≢ t.0)
    → SettlesRun t a a first end
settles-kept t a first end other = record {
  blocks = refl;
  run = λ block from to. sym (state-kept t (get_or a.states block Taken) (λ u waits. other block u from to waits));
  others = λ block outside. refl;
  promised = refl;
}

-- a block that waits for the transaction becomes free
pub settles-freed : (words words' waits waits' : List ℕ) (txns : List Txn) (unused reserved block : ℕ) (t : Txn)
    → AreHeld words waits txns unused reserved → is_set waits block ≡ true
    → ((k : ℕ) → is_set words' k ≡ (if k == block then true else is_set words k))
    → ((k : ℕ) → is_set waits' k ≡ (if k == block then false else is_set waits k))
    → (get_or txns block (record { 0 = 0 })).0 ≡ t.0
    → SettlesRun t (record { states = states_of words waits txns; reserved = reserved })
    (record { states = states_of words' waits' txns; reserved = reserved }) block (block + 1)
settles-freed words words' waits waits' txns unused reserved block t held waiting bits waits_bits same =
    let old = states_of words waits txns in
    let within = waiting-within words waits txns unused reserved block held waiting in
    let len = length-states_of words waits txns in
    let room : block < length old = omega arith in
    let was : get_or old block Taken ≡ Waiting (get_or txns block (record { 0 = 0 })) =
    read_within words waits txns block Taken within
    ∙ state-waits words words' waits waits' txns unused reserved block held waiting bits waits_bits in
    let free : settled t (get_or old block Taken) ≡ Free = rw was (rw same (grind (arith, nat_tests))) in
    rw (states-freed words words' waits waits' txns unused reserved block held waiting bits waits_bits) (record {
      blocks = length-set old block Free;
      run = λ k from to.
          let here : k ≡ block = omega arith in
          rw here (get_or-set_same old block Free Taken room ∙ sym free);
      others = λ k outside. get_or-set_other old block k Free Taken (elim outside [
        | inl low ↦ omega (arith, low)
        | inr high ↦ omega (arith, high)
      ]);
      promised = refl;
    })

waiting-is : (s : State) (u : Txn) → s ≡ Waiting u → is_waiting s ≡ true
waiting-is s u h = rw h refl

-- a block that doesn't wait waits for no transaction
waits-not : (s : State) (u : Txn) → is_waiting s ≡ false → s ≢ Waiting u
waits-not s u off h = let on = waiting-is s u h in absurd (cc)

-- a block that isn't in the set of those that wait doesn't
pub unset-unwaiting : (words waits : List ℕ) (txns : List Txn) (block : ℕ) → is_set waits block ≡ false
    → is_waiting (get_or (states_of words waits txns) block Taken) ≡ false
unset-unwaiting words waits txns block off =
    elim (cases_lt block (length txns)) [
      | inl inside ↦ rw (read_within words waits txns block Taken inside, off) (by_bits (is_set words block))
      | inr past ↦ let len = length-states_of words waits txns in
          rw (get_or_past (states_of words waits txns) block Taken (omega arith)) refl
    ] where
      by_bits : (free : Bool)
          → is_waiting (if free then Free
          else (if false then Waiting (get_or txns block (record { 0 = 0 })) else Taken)) ≡ false
      by_bits true = refl
      by_bits false = refl

-- what a block of the set of those that wait waits for
pub set-waits : (words waits : List ℕ) (txns : List Txn) (unused reserved block : ℕ)
    → AreHeld words waits txns unused reserved → is_set waits block ≡ true
    → get_or (states_of words waits txns) block Taken ≡ Waiting (get_or txns block (record { 0 = 0 }))
set-waits words waits txns unused reserved block held on =
    read_within words waits txns block Taken (waiting-within words waits txns unused reserved block held on)
    ∙ rw (waiting-unset words waits txns unused reserved block held on, on) refl

-- a block waits exactly where it is in the set of those that wait
pub waiting-read : (words waits : List ℕ) (txns : List Txn) (unused reserved : ℕ)
    → AreHeld words waits txns unused reserved → (block : ℕ)
    → is_waiting (get_or (states_of words waits txns) block Taken) ≡ is_set waits block
waiting-read words waits txns unused reserved held block =
    elim (cases_Bool (is_set waits block)) [
      | inl on ↦ rw (set-waits words waits txns unused reserved block held on, on) refl
      | inr off ↦ unset-unwaiting words waits txns block off ∙ sym off
    ]

-- the same of the blocks as contracts see them
pub waits-read : (words waits : List ℕ) (txns : List Txn) (unused reserved : ℕ) (a : Blocks)
    → AreHeld words waits txns unused reserved
    → record { states = states_of words waits txns; reserved = reserved } ≡ a → (block : ℕ)
    → waits_at a block ≡ is_set waits block
waits-read words waits txns unused reserved a held view block =
    ap (λ (b : Blocks). waits_at b block) (sym view) ∙ waiting-read words waits txns unused reserved held block

-- and what a block waits for
pub state-read : (words waits : List ℕ) (txns : List Txn) (unused reserved : ℕ) (a : Blocks) (block : ℕ) (v : Txn)
    → AreHeld words waits txns unused reserved
    → record { states = states_of words waits txns; reserved = reserved } ≡ a → is_set waits block ≡ true
    → v ≡ get_or txns block (record { 0 = 0 }) → get_or a.states block Taken ≡ Waiting v
state-read words waits txns unused reserved a block v held view on is =
    ap (λ (b : Blocks). get_or b.states block Taken) (sym view)
    ∙ set-waits words waits txns unused reserved block held on ∙ ap (λ u. Waiting u) (sym is)

-- a block that waits for another transaction stays
pub settles-other : (t : Txn) (a : Blocks) (block : ℕ) (v : Txn) → get_or a.states block Taken ≡ Waiting v → v.0 ≢ t.0
    → SettlesRun t a a block (block + 1)
settles-other t a block v waits apart = settles-kept t a block (block + 1) (λ k u from to other same.
    let here : k ≡ block = omega arith in
    let is : Waiting v ≡ Waiting u = sym waits ∙ ap (λ j. get_or a.states j Taken) (sym here) ∙ other in
    let which : v ≡ u = cc in
    apart (ap (λ (x : Txn). x.0) which ∙ same))

-- and has the mark that it needs
pub marked-other : (states : List State) (bits block : ℕ) (v : Txn) → get_or states block Taken ≡ Waiting v
    → is_marked bits v ≡ true → AreMarked states bits block (block + 1)
marked-other states bits block v waits on = λ k u from to other.
    let here : k ≡ block = omega arith in
    let is : Waiting v ≡ Waiting u = sym waits ∙ ap (λ j. get_or states j Taken) (sym here) ∙ other in
    let which : v ≡ u = cc in
    rw (← which) on

-- blocks that don't wait stay, and need no marks
pub settles-unwaiting : (t : Txn) (a : Blocks) (first end : ℕ)
    → ((b : ℕ) → first ≤ b → b < end → waits_at a b ≡ false) → SettlesRun t a a first end
settles-unwaiting t a first end none = settles-kept t a first end (λ k u from to waits.
    absurd (waits-not (get_or a.states k Taken) u (none k from to) waits))

pub marked-unwaiting : (states : List State) (bits first end : ℕ)
    → ((b : ℕ) → first ≤ b → b < end → is_waiting (get_or states b Taken) ≡ false) → AreMarked states bits first end
marked-unwaiting states bits first end none = λ k u from to waits.
    absurd (waits-not (get_or states k Taken) u (none k from to) waits)

-- before the first block nothing has to be marked
pub marked-empty : (states : List State) (bits at : ℕ) → AreMarked states bits at at
marked-empty states bits at = λ block t from to waits. absurd (omega arith)

-- the marks of a run of blocks stay right while later blocks are settled and marks come
marked-later : (t : Txn) (old new : Blocks) (old_bits new_bits first at end : ℕ)
    → AreMarked old.states old_bits first at → SettlesRun t old new at end → KeepsMarks old_bits new_bits
    → AreMarked new.states new_bits first at
marked-later t old new old_bits new_bits first at end marked run kept = λ block u from to waits.
    kept u (marked block u from to (sym (run.others block (inl to)) ∙ waits))

-- where two runs of blocks have their marks, both have
marked-joined : (states : List State) (bits first at end : ℕ) → AreMarked states bits first at
    → AreMarked states bits at end → AreMarked states bits first end
marked-joined states bits first at end one two = λ block t from to waits.
    elim (cases_lt block at) [
      | inl before ↦ one block t from before waits
      | inr after ↦ two block t after to waits
    ]

-- some blocks that don't wait, and then a run that is settled
pub settles-next : (t : Txn) (old mid new : Blocks) (mid_bits new_bits first at next end : ℕ) → first ≤ at → at ≤ next
    → next ≤ end
    → SettlesRun t old mid first at → AreMarked mid.states mid_bits first at
    → ((b : ℕ) → at ≤ b → b < next → waits_at mid b ≡ false)
    → SettlesRun t mid new next end → AreMarked new.states new_bits next end → KeepsMarks mid_bits new_bits
    → SettlesRun t old new first end × AreMarked new.states new_bits first end
settles-next t old mid new mid_bits new_bits first at next end one two three run marked none step new_marked kept =
    let before = settles-joined t old mid mid first at next one two run (settles-unwaiting t mid at next none) in
    let here = marked-joined mid.states mid_bits first at next marked
    (marked-unwaiting mid.states mid_bits at next none) in
    let from : first ≤ next = omega arith in (
      settles-joined t old mid new first next end from three before step,
      marked-joined new.states new_bits first next end
          (marked-later t mid new mid_bits new_bits first next end here step kept) new_marked,
    )

-- some blocks that don't wait, at the end
pub settles-last : (t : Txn) (old mid : Blocks) (bits first at end : ℕ) → first ≤ at → at ≤ end
    → SettlesRun t old mid first at → AreMarked mid.states bits first at
    → ((b : ℕ) → at ≤ b → b < end → waits_at mid b ≡ false)
    → SettlesRun t old mid first end × AreMarked mid.states bits first end
settles-last t old mid bits first at end one two run marked none = (
  settles-joined t old mid mid first at end one two run (settles-unwaiting t mid at end none),
  marked-joined mid.states bits first at end marked (marked-unwaiting mid.states bits at end none),
)

-- all blocks of a disk have their marks
pub marked-all : (states : List State) (bits end : ℕ) → length states ≤ end → AreMarked states bits 0 end
    → AllMarked states bits
marked-all states bits end enough marked = λ block t waits.
    elim (cases_lt block end) [
      | inl inside ↦ marked block t (omega arith) inside waits
      | inr past ↦
          let none : is_waiting (get_or states block Taken) ≡ false =
          rw (get_or_past states block Taken (omega arith)) refl in
          absurd (waits-not (get_or states block Taken) t none waits)
    ]

-- where no block waits, none needs a mark
pub marked-none : (words waits : List ℕ) (txns : List Txn) (bits : ℕ) → IsEmptySet waits
    → AllMarked (states_of words waits txns) bits
marked-none words waits txns bits none = λ block t waiting.
    absurd (waits-not (get_or (states_of words waits txns) block Taken) t
    (unset-unwaiting words waits txns block (none block)) waiting)

-- a transaction without its mark has no block that waits for it
pub unmarked-settles : (t : Txn) (a : Blocks) (bits : ℕ) → AllMarked a.states bits → is_marked bits t ≡ false
    → a ≡ record a { states = map (settled t) a.states }
unmarked-settles t a bits marked off =
    settles-all t a a (length a.states) (settles-kept t a 0 (length a.states) (λ block u from to waits same.
    let on : is_marked bits u ≡ true = marked block u waits in
    let place : is_marked bits u ≡ is_marked bits t = ap (λ n. bit_at bits (n % 64) == 1) same in
    absurd (cc))) (omega arith)

-- marks stay right where a block becomes free or taken
pub marked-set : (states : List State) (bits block : ℕ) (s : State) → AllMarked states bits → is_waiting s ≡ false
    → AllMarked (set states block s) bits
marked-set states bits block s marked off = λ k t waits.
    elim (cases_eq k block) [
      | inl same ↦ elim (cases_lt block (length states)) [
        | inl inside ↦
            let here : get_or (set states block s) k Taken ≡ s =
            rw same (get_or-set_same states block s Taken inside) in
            absurd (waits-not s t off (sym here ∙ waits))
        | inr past ↦
            let len = length-set states block s in
            let none : get_or (set states block s) k Taken ≡ Taken =
            get_or_past (set states block s) k Taken (omega arith) in
            absurd (waits-not Taken t refl (sym none ∙ waits))
      ]
      | inr other ↦ marked k t (sym (get_or-set_other states block k s Taken other) ∙ waits)
    ]

-- and where a block waits for a transaction that has its mark
pub marked-waiting : (states : List State) (old_bits bits block : ℕ) (t : Txn) → AllMarked states old_bits
    → KeepsMarks old_bits bits → is_marked bits t ≡ true → block < length states
    → AllMarked (set states block (Waiting t)) bits
marked-waiting states old_bits bits block t marked kept on inside = λ k u waits.
    elim (cases_eq k block) [
      | inl same ↦
          let here : get_or (set states block (Waiting t)) k Taken ≡ Waiting t =
          rw same (get_or-set_same states block (Waiting t) Taken inside) in
          let is : Waiting t ≡ Waiting u = sym here ∙ waits in
          let which : t ≡ u = cc in
          rw (← which) on
      | inr other ↦ kept u (marked k u (sym (get_or-set_other states block k (Waiting t) Taken other) ∙ waits))
    ]

-- marks stay right where a run of blocks is taken
pub marked-taken : (old new : Blocks) (bits first m : ℕ) → TakesRun old new first m → AllMarked old.states bits
    → AllMarked new.states bits
marked-taken old new bits first m takes marked = λ block t waits.
    elim (cases_lt block (length new.states)) [
      | inl inside ↦
          let is : slice_get new.states block ≡ Some (Waiting t) =
          slice_get-get_or new.states block Taken inside ∙ ap (λ s. Some s) waits in
          elim (cases_lt block first) [
            | inl before ↦ kept block t (sym (takes.others block (inl before)) ∙ is)
            | inr from ↦ elim (cases_lt block (first + m)) [
              | inl within ↦ let taken = takes.run block from within in absurd (cc)
              | inr after ↦ kept block t (sym (takes.others block (inr after)) ∙ is)
            ]
          ]
      | inr past ↦ absurd (waits-not Taken t refl (sym (get_or_past new.states block Taken past) ∙ waits))
    ] where
      kept : (block : ℕ) (t : Txn) → slice_get old.states block ≡ Some (Waiting t) → is_marked bits t ≡ true
      kept block t found = marked block t (get_or_from_slice_get old.states block (Waiting t) Taken found)

-- a word of blocks is settled up to one, and the rest has a bit for each of the others that waits
pub record IsPartWay (t : Txn) (old : Blocks) (old_bits at : ℕ) (new : Blocks) (bits block rest : ℕ) : Type 0 where
  pub low : 64 * at ≤ block
  pub high : block ≤ 64 * at + 64
  pub settled : SettlesRun t old new (64 * at) block
  pub marked : AreMarked new.states bits (64 * at) block
  pub kept : KeepsMarks old_bits bits
  pub waiting : (k : ℕ) → block + k < 64 * at + 64 → waits_at new (block + k) ≡ (bit_at rest k == 1)
  pub none : (k : ℕ) → 64 * at + 64 ≤ block + k → bit_at rest k ≡ 0

pub word-start : (t : Txn) (a : Blocks) (bits at word : ℕ) → word < 2 ^ 64
    → ((k : ℕ) → k < 64 → waits_at a (64 * at + k) ≡ (bit_at word k == 1))
    → IsPartWay t a bits at a bits (64 * at) word
word-start t a bits at word fits waiting = record {
  low = omega arith;
  high = omega arith;
  settled = settles-empty t a (64 * at);
  marked = marked-empty a.states bits (64 * at);
  kept = λ u on. on;
  waiting = λ k inside. waiting k (omega arith);
  none = λ k past. bit_at_above word 64 k fits (omega arith);
}

-- the next block of the rest
module _ (t : Txn) (old mid : Blocks) (old_bits at bits block rest zeros : ℕ)
    (way : IsPartWay t old old_bits at mid bits block rest) (some : 0 < rest) (fits : rest < 2 ^ 64)
    (lowest : zeros ≡ trailing_zeros w64 rest) where
  here : bit_at rest zeros ≡ 1
  here = (lowest-of rest zeros some fits lowest).0

  within : block + zeros < 64 * at + 64
  within = elim (cases_lt (block + zeros) (64 * at + 64)) [
    | inl inside ↦ inside
    | inr past ↦ let on = here in let off = way.none zeros past in absurd (omega arith)
  ]

  pub word-waits : waits_at mid (block + zeros) ≡ true
  word-waits = way.waiting zeros within ∙ ap (λ d. d == 1) here

  passed : (b : ℕ) → block ≤ b → b < block + zeros → waits_at mid b ≡ false
  passed b from to =
      let w = within in
      let place : b ≡ block + (b - block) = omega arith in
      let lower : b - block < zeros = omega arith in
      rw place (way.waiting (b - block) (omega arith)
      ∙ ap (λ d. d == 1) ((lowest-of rest zeros some fits lowest).1 (b - block) lower))

  pub word-step : (new : Blocks) (new_bits : ℕ) → SettlesRun t mid new (block + zeros) (block + zeros + 1)
      → AreMarked new.states new_bits (block + zeros) (block + zeros + 1) → KeepsMarks bits new_bits
      → IsPartWay t old old_bits at new new_bits (block + (zeros + 1)) (rest / 2 ^ zeros / 2)
  word-step new new_bits run marked kept =
      let w = within in
      let low = way.low in
      let end : block + (zeros + 1) ≡ block + zeros + 1 = omega arith in
      let both = settles-next t old mid new bits new_bits (64 * at) block (block + zeros) (block + zeros + 1) way.low
      (omega arith) (omega arith) way.settled way.marked passed run marked kept in
      rw end (record {
        low = omega arith;
        high = omega arith;
        settled = both.0;
        marked = both.1;
        kept = λ u on. kept u (way.kept u on);
        waiting = λ k inside.
            let place : block + zeros + 1 + k ≡ block + (zeros + 1 + k) = omega arith in
            ap is_waiting (run.others (block + zeros + 1 + k) (inr (omega arith)))
            ∙ rw (place, rest-after rest zeros k) (way.waiting (zeros + 1 + k) (omega arith));
        none = λ k past. rest-after rest zeros k ∙ way.none (zeros + 1 + k) (omega arith);
      })

-- where the rest is 0, the word is settled
pub word-end : (t : Txn) (old mid : Blocks) (old_bits at bits block rest : ℕ)
    → IsPartWay t old old_bits at mid bits block rest → rest ≡ 0
    → SettlesRun t old mid (64 * at) (64 * at + 64) × AreMarked mid.states bits (64 * at) (64 * at + 64)
word-end t old mid old_bits at bits block rest way clear =
    settles-last t old mid bits (64 * at) block (64 * at + 64) way.low way.high way.settled way.marked (λ b from to.
    let place : b ≡ block + (b - block) = omega arith in
    rw place (way.waiting (b - block) (omega arith) ∙ rw (clear, bit_at-zero (b - block)) refl))
