-- Laws of a journal: what is kept when a request is added or done, or a transaction sealed, and what is seen then.
use Rattle.std.proofs.Common.{◌≡◌, ℕ, ◌+◌, ◌<◌, ◌≤◌, Bool, true, List, length, length-set, get_or, set, replicate, Option, Some, None, refl, ap, sym, ◌∙◌, arith, below_more}
use Rattle.std.specs.Prelude.{IsSome, IsTrue, nat_lt, slice_get}
use Rattle.std.specs.Option.{option_map}
use Rattle.std.proofs.lemmas.List.{length-map, length-replicate, get_or-set_same, get_or-set_other}
use Rattle.std.proofs.lemmas.Bool.Decides.{nat_tests}
use Rattle.split_types.specs.LiveFiles.{Slots, metadata_block}
use Rattle.split_types.specs.Parents.{buffer_at}
use Rattle.cause_set.specs.Tags.{Tags, Moved, no_use, same, use_in}
use Rattle.journal_core.specs.Causes.{Covered, causes_at, joined_all, whole_of}
use Rattle.journal_core.specs.Places.{blocks_of, place_in, taken_from}
use Rattle.journal_core.specs.Work.{begun, slot_in, cleared_slot, added_work, done_work, sealed_work, is_idle}
use Rattle.journal_core.specs.Journaled.{Journaled, seen, held_by, can_seal, marked_count, next_due, next_home, without, carried_place, after_added, after_done, after_seal, first_used, IsJournal}
use Rattle.journal_core.proofs.PlaceLaws.{blocks-at_most, blocks-map, some-left}
use Rattle.journal_core.proofs.LogLaws.{home-less, blocks-described, taken-map}
use Rattle.journal_core.proofs.StageLaws.{due-next, due-home, due-used, work-added, used-added, idle-first, all-three, work-done}
use Rattle.journal_core.proofs.SeenLaws.{carried-seen, cleared-seen}

within-of : (used slots : ℕ) → nat_lt used slots ≡ true → used < slots
within-of used slots is = grind (arith, nat_tests)

-- one more slot is filled
filled-at : (slots : List (Option ℕ)) (used c : ℕ) → used < length slots
    → IsSome (get_or (set slots used (Some c)) used None)
filled-at slots used c within = rw (get_or-set_same slots used (Some c) None within) refl

filled-below : (slots : List (Option ℕ)) (used c k : ℕ) → ((i : ℕ) → i < used → IsSome (get_or slots i None)) → k < used
    → IsSome (get_or (set slots used (Some c)) k None)
filled-below slots used c k below less =
    let other : get_or (set slots used (Some c)) k None ≡ get_or slots k None =
    get_or-set_other slots used k (Some c) None (λ same. absurd (omega (arith, same, less))) in
    rw other (below k less)

filled-of : (slots : List (Option ℕ)) (used c : ℕ) → used < length slots
    → ((i : ℕ) → i < used → IsSome (get_or slots i None))
    → (k : ℕ) → k < used + 1 → IsSome (get_or (set slots used (Some c)) k None)
filled-of slots used c within below =
    below_more (λ k. IsSome (get_or (set slots used (Some c)) k None)) used (λ k less.
    filled-below slots used c k below less)
    (filled-at slots used c within)

-- ---- a request is added

pub added-by : (room : ℕ) (j : Journaled ℕ) (slot : Option ℕ) → slot_in (begun j.work) ≡ slot → IsJournal room j
    → IsSome (next_due j true)
    → IsJournal room (record j { round = without (carried_place slot (next_home j)) j.round; work = added_work j.work })
added-by room j None is kept due =
    let home = due-home j due is in
    let few : length (blocks_of j.round) ≤ 261 = omega (arith, blocks-at_most j.round, kept.round) in
    record {
      marks = kept.marks;
      round = length-set j.round (place_in (next_home j)) None ∙ kept.round;
      slots = kept.slots;
      images = kept.images;
      enough = kept.enough;
      used = kept.used;
      work =
          work-added j.work (length (blocks_of j.round))
          (length (blocks_of (set j.round (place_in (next_home j)) None)))
          (length j.logged) (next_home j)
          kept.work (due-used j (length (blocks_of j.round)) kept.work due) few (λ none. home-less j.round home)
          (due-next j true due);
      logged = kept.logged;
      filled = λ k from below. kept.filled k (omega (arith, used-added j.work, from)) below;
    }
added-by room j (Some slot) is kept due =
    let few : length (blocks_of j.round) ≤ 261 = omega (arith, blocks-at_most j.round, kept.round) in
    record {
      marks = kept.marks;
      round = kept.round;
      slots = kept.slots;
      images = kept.images;
      enough = kept.enough;
      used = kept.used;
      work =
          work-added j.work (length (blocks_of j.round)) (length (blocks_of j.round)) (length j.logged) (next_home j)
          kept.work
          (due-used j (length (blocks_of j.round)) kept.work due) few (λ none. cc) (due-next j true due);
      logged = kept.logged;
      filled = λ k from below. kept.filled k (omega (arith, used-added j.work, from)) below;
    }

-- the next home is seen alike
home-seen : (tags : Tags) (j : Journaled ℕ) → next_home (seen tags j) ≡ next_home j
home-seen tags j = ap (λ blocks. slice_get blocks 0) (blocks-map (λ n. tags.members n) 1 j.round)

pub home-added : (old new : Tags) (j : Journaled ℕ) → slot_in (begun j.work) ≡ None
    → place_in (next_home j) < length j.round
    → Covered (held_by j) old → Moved old new (use_in same (get_or j.round (place_in (next_home j)) None)) no_use
    → seen new (record j { round = set j.round (place_in (next_home j)) None; work = added_work j.work })
    ≡ after_added (seen old j)
home-added old new j is within covers m =
    let at : ◌≡◌ {A = Option ℕ} (Some (place_in (next_home j)))
    (carried_place (slot_in (begun j.work)) (next_home (seen old j))) =
    ap (λ home. Some (place_in home)) (sym (home-seen old j))
    ∙ ap (λ slot. carried_place slot (next_home (seen old j))) (sym is) in
    ap {A = Journaled (List ℕ)} (λ s. record s { work = added_work j.work })
    (carried-seen old new j (place_in (next_home j)) within covers m)
    ∙ ap (λ q. record (seen old j) { round = without q (seen old j).round; work = added_work j.work }) at

pub slot-added : (tags : Tags) (j : Journaled ℕ) (slot : ℕ) → slot_in (begun j.work) ≡ Some slot
    → seen tags (record j { work = added_work j.work }) ≡ after_added (seen tags j)
slot-added tags j slot is =
    let at : ◌≡◌ {A = Option ℕ} None (carried_place (slot_in (begun j.work)) (next_home (seen tags j))) =
    ap (λ slot. carried_place slot (next_home (seen tags j))) (sym is) in
    ap (λ q. record (seen tags j) { round = without q (seen tags j).round; work = added_work j.work }) at

-- ---- a request is done

-- whether homes are left is seen alike
left-seen : (tags : Tags) (j : Journaled ℕ) → nat_lt 0 (length (blocks_of j.round))
    ≡ nat_lt 0 (length (blocks_of (seen tags j).round))
left-seen tags j = ap (λ blocks. nat_lt 0 (length blocks)) (sym (blocks-map (λ n. tags.members n) 1 j.round))

pub clear-done : (old new : Tags) (j : Journaled ℕ) (slot : ℕ) → cleared_slot j.work.stage ≡ Some slot
    → slot < length j.slots
    → Covered (held_by j) old → Moved old new (use_in same (get_or j.slots slot None)) no_use
    → seen new (record j {
      slots = set j.slots slot None;
      work =
          done_work (nat_lt 0 (length (blocks_of j.round))) j.work;
    }) ≡ after_done (seen old j)
clear-done old new j slot is within covers m =
    ap {A = Journaled (List ℕ)} (λ s. record s { work = done_work (nat_lt 0 (length (blocks_of j.round))) j.work })
    (cleared-seen old new j slot within covers m)
    ∙ ap (λ q. record (seen old j) {
      slots = without q (seen old j).slots;
      work =
          done_work (nat_lt 0 (length (blocks_of j.round))) j.work;
    }) (sym is)
    ∙ ap (λ left. record (seen old j) {
      slots = without (cleared_slot j.work.stage) (seen old j).slots;
      work =
          done_work left j.work;
    }) (left-seen old j)

pub other-done : (tags : Tags) (j : Journaled ℕ) → cleared_slot j.work.stage ≡ None
    → seen tags (record j { work = done_work (nat_lt 0 (length (blocks_of j.round))) j.work })
    ≡ after_done (seen tags j)
other-done tags j is =
    ap (λ q. record (seen tags j) {
      slots = without q (seen tags j).slots;
      work =
          done_work (nat_lt 0 (length (blocks_of j.round))) j.work;
    }) (sym is)
    ∙ ap (λ left. record (seen tags j) {
      slots = without (cleared_slot j.work.stage) (seen tags j).slots;
      work =
          done_work left j.work;
    }) (left-seen tags j)

pub done-kept : (room : ℕ) (j : Journaled ℕ) (left : Bool) → cleared_slot j.work.stage ≡ None → IsJournal room j
    → IsJournal room (record j { work = done_work left j.work })
done-kept room j left none kept =
    let done = work-done j.work (length (blocks_of j.round)) left none kept.work in
    record {
      marks = kept.marks;
      round = kept.round;
      slots = kept.slots;
      images = kept.images;
      enough = kept.enough;
      used = omega (arith, done.same_used, kept.used);
      work = record {
        few = omega (arith, done.same_used, kept.work.few);
        counted = omega (arith, done.same_used, done.same_sealed, kept.work.counted);
        fits = omega (arith, done.same_sealed, kept.work.fits);
        stage = done.stage;
      };
      logged = λ some. rw done.same_sealed (kept.logged (omega (arith, done.same_used, some)));
      filled = λ k from below. kept.filled k (omega (arith, done.same_first, from))
          (omega (arith, done.same_used, below));
    }

-- ---- a seal

pub sealed-kept : (room after : ℕ) (j : Journaled ℕ) (round : List (Option ℕ)) (images : List (List ℕ)) (c : ℕ)
    → IsJournal room j
    → IsTrue (can_seal j) → j.work.sealed < 4294967295 → after ≡ room → length round ≡ length j.round
    → length images ≡ length j.images
    → IsJournal after record {
      marks = replicate (length j.marks) None;
      round = round;
      slots = set j.slots j.work.used (Some c);
      images = images;
      logged = blocks_of j.marks;
      work = sealed_work j.work;
    }
sealed-kept room after j round images c kept due few enough round_len images_len =
    let three = all-three (is_idle j.work.stage) (nat_lt 0 (marked_count j)) (nat_lt j.work.used (length j.slots)) due
    in
    let some : 0 < marked_count j = some-left (marked_count j) three.1 in
    let within : j.work.used < length j.slots = within-of j.work.used (length j.slots) three.2 in
    let first : first_used j.work.stage ≡ 0 = idle-first j.work.stage three.0 in
    record {
      marks = length-replicate {A = Option ℕ} (length j.marks) None ∙ kept.marks;
      round = round_len ∙ kept.round;
      slots = omega (arith, length-set j.slots j.work.used (Some c), kept.slots);
      images = images_len ∙ kept.images;
      enough = omega (arith, enough, kept.enough);
      used = omega (arith, length-set j.slots j.work.used (Some c), within);
      work = record {
        few = omega (arith, within, kept.slots);
        counted = omega (arith, kept.work.counted);
        fits = omega (arith, few);
        stage = (refl, refl, omega arith);
      };
      logged = λ used. blocks-described (j.work.sealed + 1) j.marks (omega arith) (omega (arith, few)) kept.marks some;
      filled = λ k from below. filled-of j.slots j.work.used c within (λ i less.
          kept.filled i (omega (arith, first)) less) k below;
    }

pub seal-within : (j : Journaled ℕ) → IsTrue (can_seal j) → j.work.used < length j.slots
seal-within j due =
    within-of j.work.used (length j.slots)
    (all-three (is_idle j.work.stage) (nat_lt 0 (marked_count j)) (nat_lt j.work.used (length j.slots)) due).2

-- what is seen of a seal
pub sealed-seen : (old new : Tags) (first : ℕ) (files : Slots) (j : Journaled ℕ) (round slots : List (Option ℕ))
    (images : List (List ℕ)) (logged : List ℕ)
    → causes_at same new round ≡ joined_all (causes_at same old j.round) (causes_at same old j.marks)
    → causes_at same new slots ≡ set (causes_at same old j.slots) j.work.used (whole_of (causes_at same old j.marks))
    → images ≡ taken_from (λ block. metadata_block first files (buffer_at block)) 1 j.marks j.images
    → logged ≡ blocks_of j.marks
    → causes_at same new (replicate (length j.marks) None) ≡ replicate (length j.marks) None
    → seen new record {
      marks = replicate (length j.marks) None;
      round = round;
      slots = slots;
      images = images;
      logged = logged;
      work = sealed_work j.work;
    } ≡ after_seal first files (seen old j)
sealed-seen old new first files j round slots images logged of_round of_slots of_images of_logged empty =
    let marks : causes_at same new (replicate (length j.marks) None)
    ≡ replicate (length (causes_at same old j.marks)) None =
    empty ∙ ap (λ n. replicate n None) (sym (length-map j.marks (option_map (λ n. old.members n)))) in
    let pictures : images ≡ taken_from (λ block. metadata_block first files (buffer_at block)) 1
    (causes_at same old j.marks) j.images =
    of_images ∙ sym (taken-map (λ n. old.members n) (λ block. metadata_block first files (buffer_at block)) 1 j.marks
    j.images) in
    let blocks : logged ≡ blocks_of (causes_at same old j.marks) = of_logged
    ∙ sym (blocks-map (λ n. old.members n) 1 j.marks) in
    rw (marks, of_round, of_slots, pictures, blocks) refl
