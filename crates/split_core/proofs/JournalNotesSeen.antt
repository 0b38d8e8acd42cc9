-- What is seen of a journal with the members of its tags is what is seen with their numbers, and stays as long as its
-- tags are held.
use Rattle.std.proofs.Common.{◌≡◌, ℕ, zero, suc, ◌+◌, ◌≤◌, ◌==◌, List, [], ◌∷◌, length, get_or, replicate}
use Rattle.std.proofs.Common.{Bool, true, false, ◌&&◌, ◌||◌, not, nat_lt, if◌then◌else◌, Option, Some, None, refl, ap, ◌∙◌, arith}
use Rattle.std.specs.Prelude.{slice_get}
use Rattle.std.specs.Option.{option_map}
use Rattle.std.proofs.lemmas.List.{length-map}
use Rattle.cause_set.specs.Tags.{Tags, Moved, same, use_in, held}
use Rattle.cause_set.proofs.TagLaws.{held-cons, one_use-same}
use Rattle.proxies.specs.declared.commit.Commit.{Commit}
use Rattle.proxies.specs.declared.commit.Commit.TheVariants.{Idle, Log, Marking, Homes, Clear}
use Rattle.journal_core.specs.declared.work.Due.{Due}
use Rattle.journal_core.specs.Causes.{causes_in, causes_at}
use Rattle.journal_core.specs.Places.{blocks_from, blocks_of, place_in}
use Rattle.journal_core.specs.Work.{is_idle, begun, due_in}
use Rattle.journal_core.specs.Journaled.{Journaled, seen, held_by, marked_count, can_seal, next_due, next_home, carried, carried_in, due_for, due_for_in}

-- ---- what a call of a store leaves

-- the members of the tag of a place
place_keeps : (old new : Tags) (gone come : ℕ → ℕ) (place : Option ℕ) → Moved old new gone come
    → ((n : ℕ) → gone n + use_in same place n ≤ old.uses n) → causes_in same new place ≡ causes_in same old place
place_keeps old new gone come None moved live = refl
place_keeps old new gone come (Some t) moved live =
    ap Some (moved.keeps t (omega (arith, live t, one_use-same t)))

places_keep : (old new : Tags) (gone come : ℕ → ℕ) (places : List (Option ℕ)) → Moved old new gone come
    → ((n : ℕ) → gone n + held same places n ≤ old.uses n) → causes_at same new places ≡ causes_at same old places
places_keep old new gone come [] moved live = refl
places_keep old new gone come (place ∷ places) moved live =
    let here : causes_in same new place ≡ causes_in same old place =
    place_keeps old new gone come place moved (λ n. omega (arith, live n, held-cons same place places n)) in
    let rest : causes_at same new places ≡ causes_at same old places =
    places_keep old new gone come places moved (λ n. omega (arith, live n, held-cons same place places n)) in
    rw (here, rest) refl

-- a journal that is held beside what went is seen as before
pub seen_keeps : (old new : Tags) (gone come : ℕ → ℕ) (j : Journaled ℕ) → Moved old new gone come
    → ((n : ℕ) → gone n + held_by j n ≤ old.uses n) → seen new j ≡ seen old j
seen_keeps old new gone come j moved live =
    let marks : causes_at same new j.marks ≡ causes_at same old j.marks =
    places_keep old new gone come j.marks moved (λ n. omega (arith, live n)) in
    let round : causes_at same new j.round ≡ causes_at same old j.round =
    places_keep old new gone come j.round moved (λ n. omega (arith, live n)) in
    let slots : causes_at same new j.slots ≡ causes_at same old j.slots =
    places_keep old new gone come j.slots moved (λ n. omega (arith, live n)) in
    rw (marks, round, slots) refl

-- ---- places

pub seen_empty : (tags : Tags) (count : ℕ) → causes_at same tags (replicate count None) ≡ replicate count None
seen_empty tags zero = refl
seen_empty tags (suc count) = ap (λ places. None ∷ places) (seen_empty tags count)

blocks_seen : (tags : Tags) (block : ℕ) (places : List (Option ℕ))
    → blocks_from block (causes_at same tags places) ≡ blocks_from block places
blocks_seen tags block [] = refl
blocks_seen tags block (None ∷ places) = blocks_seen tags (block + 1) places
blocks_seen tags block (Some t ∷ places) = ap (λ blocks. block ∷ blocks) (blocks_seen tags (block + 1) places)

place_seen : (tags : Tags) (places : List (Option ℕ)) (at : ℕ)
    → get_or (causes_at same tags places) at None ≡ option_map tags.members (get_or places at None)
place_seen tags [] at = refl
place_seen tags (None ∷ places) zero = refl
place_seen tags (Some t ∷ places) zero = refl
place_seen tags (place ∷ places) (suc at) = place_seen tags places at

-- ---- what comes next

pub can_seal_seen : (tags : Tags) (j : Journaled ℕ) → can_seal (seen tags j) ≡ can_seal j
can_seal_seen tags j =
    ap (λ (blocks : List ℕ). is_idle j.work.stage && nat_lt 0 (length blocks)
    && nat_lt j.work.used (length (causes_at same tags j.slots))) (blocks_seen tags 1 j.marks)
    ∙ ap (λ n. is_idle j.work.stage && nat_lt 0 (length (blocks_of j.marks)) && nat_lt j.work.used n)
    (length-map j.slots (causes_in same tags))

pub count_seen : (tags : Tags) (j : Journaled ℕ) → marked_count (seen tags j) ≡ marked_count j
count_seen tags j = ap length (blocks_seen tags 1 j.marks)

-- the next request, by the numbers and blocks that it depends on
abbrev due_by : Journaled ℕ → Bool → ℕ → List ℕ → List ℕ → Option Due
due_by j all slots marked homes =
    if is_idle j.work.stage && not (nat_lt 0 j.work.used && (j.work.used == slots || (all && length marked == 0)))
    then None
    else due_in (begun j.work) j.work.unfinished (length j.logged) (slice_get homes 0)

pub due_seen : (tags : Tags) (j : Journaled ℕ) (all : Bool) → next_due (seen tags j) all ≡ next_due j all
due_seen tags j all =
    ap (λ n. due_by j all n (blocks_of (causes_at same tags j.marks)) (blocks_of (causes_at same tags j.round)))
    (length-map j.slots (causes_in same tags))
    ∙ ap (λ marked. due_by j all (length j.slots) marked (blocks_of (causes_at same tags j.round)))
    (blocks_seen tags 1 j.marks)
    ∙ ap (λ homes. due_by j all (length j.slots) (blocks_of j.marks) homes) (blocks_seen tags 1 j.round)

home_seen : (tags : Tags) (j : Journaled ℕ) → next_home (seen tags j) ≡ next_home j
home_seen tags j = ap (λ blocks. slice_get blocks 0) (blocks_seen tags 1 j.round)

pub carried_seen : (tags : Tags) (j : Journaled ℕ) → carried (seen tags j) ≡ carried j
carried_seen tags j = by_stage (begun j.work)
  where
    by_stage : (stage : Commit ℕ) → carried_in (seen tags j) stage ≡ carried_in j stage
    by_stage Idle = refl
    by_stage (Log t slot) = refl
    by_stage (Marking t slot) = refl
    by_stage (Homes t slot added) = ap (λ home. get_or j.images (place_in home) []) (home_seen tags j)
    by_stage (Clear t slot) = refl

pub for_seen : (tags : Tags) (j : Journaled ℕ) → due_for (seen tags j) ≡ option_map tags.members (due_for j)
for_seen tags j = by_stage (begun j.work)
  where
    by_stage : (stage : Commit ℕ) → due_for_in (seen tags j) stage ≡ option_map tags.members (due_for_in j stage)
    by_stage Idle = refl
    by_stage (Log t slot) = place_seen tags j.slots slot
    by_stage (Marking t slot) = place_seen tags j.slots slot
    by_stage (Homes t slot added) =
        ap (λ home. get_or (causes_at same tags j.round) (place_in home) None) (home_seen tags j)
        ∙ place_seen tags j.round (place_in (next_home j))
    by_stage (Clear t slot) = place_seen tags j.slots slot

-- a request that is due is due where all calls have returned, too
pub due_always : {C : Type 0} (j : Journaled C) (all : Bool) (due : Due) → next_due j all ≡ Some due → next_due j true ≡ Some due
due_always j true due is = is
due_always j false due is =
    by_tests (is_idle j.work.stage) (nat_lt 0 j.work.used) (j.work.used == length j.slots)
    (length (blocks_of j.marks) == 0)
    (due_in (begun j.work) j.work.unfinished (length j.logged) (next_home j)) is
  where
    by_tests : (idle some full none : Bool) (o : Option Due)
        → (if idle && not (some && (full || (false && none))) then None else o) ≡ Some due
        → (if idle && not (some && (full || (true && none))) then None else o) ≡ Some due
    by_tests false some full none o is = is
    by_tests true false full none o is = absurd (cc)
    by_tests true true true none o is = is
    by_tests true true false none o is = absurd (cc)
