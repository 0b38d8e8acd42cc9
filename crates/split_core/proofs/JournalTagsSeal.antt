-- The tags of the journal over a seal.
use Rattle.std.proofs.Common.{◌≡◌, ℕ, ◌+◌, ◌==◌, ◌<◌, List, [], ◌∷◌, ◌++◌, length, map, get_or, set, replicate, true, Option, Some, None, refl, arith, subst, sym, inl, inr, ◌∙◌, ap}
use Rattle.std.specs.Prelude.{slice_index_or}
use Rattle.std.specs.List.{flat_map, range_with_len}
use Rattle.std.proofs.lemmas.Bool.{cases_eq, cond-true, cond-false, eq-eqb, ne_eqb}
use Rattle.std.proofs.lemmas.List.{get_or-replicate, length-replicate, get_or-set_same, get_or-set_other, length_push}
use Rattle.std.proofs.lemmas.List.{map-append}
use Rattle.split_types.specs.declared.ids.Txn.{Txn}
use Rattle.split_types.specs.declared.actor.Actor.TheVariants.{Cm}
use Rattle.split_types.specs.declared.buf.Buf.{Buf}
use Rattle.split_types.specs.declared.buf.Buf.TheVariants.{Page, Bitmap, Dir, Inode}
use Rattle.split_types.specs.declared.workload.Workload.{Workload}
use Rattle.split_types.specs.declared.event.Event.{Event}
use Rattle.split_types.specs.declared.event.Event.TheVariants.{Seal}
use Rattle.split_types.specs.History.{◌▹◌}
use Rattle.split_types.specs.ByPlace.{IsMetadata}
use Rattle.split_types.specs.OpenDirtyings.{open_at}
use Rattle.split_types.specs.Parents.{metadata_buffers, buffer_at}
use Rattle.split_types.specs.Sets.{union_of}
use Rattle.split_types.specs.Rounds.{seal_place, open_round, seals, slot_of_txn}
use Rattle.split_types.specs.Blame.{blame}
use Rattle.split_types.specs.Transactions.{in_journal, awaiting_at}
use Rattle.split_types.specs.Accepted.{IsAccepted}
use Rattle.split_types.specs.Legal.{IsLegal}
use Rattle.split_types.specs.Proving.JournalKnown.{JournalKnown}
use Rattle.split_types.proofs.Blame.{blame-new, blame_is_set}
use Rattle.split_types.proofs.CameLaws.{came}
use Rattle.split_types.proofs.CausesLaws.{blames-stay}
use Rattle.split_types.proofs.JournalRounds.{seal_is}
use Rattle.split_types.proofs.JournalStepsAdds.{journal_known}
use Rattle.split_types.proofs.KeptLists.{case_true, case_false}
use Rattle.split_types.proofs.Sets.{union-empty, union-one}
use Rattle.proxies.specs.declared.commit.Commit.{Commit}
use Rattle.proxies.specs.declared.commit.Commit.TheVariants.{Idle, Log, Marking, Homes, Clear}
use Rattle.journal_core.specs.Causes.{joined, joined_all, all_in, together, whole_of}
use Rattle.journal_core.specs.Places.{blocks_of}
use Rattle.journal_core.specs.Work.{is_idle}
use Rattle.journal_core.specs.Journaled.{Journaled}
use Rattle.split_core.specs.Journaling.{after_event}
use Rattle.split_core.proofs.JournalShown.{WorkShown}
use Rattle.split_core.proofs.JournalTagsPlaces.{metadata_at, places, buffers_are, list_is}
use Rattle.split_core.proofs.JournalTagsSets.{joined_is, joined_long, joined_at, whole_is, union_all, map_all, flat_values}
use Rattle.split_core.proofs.JournalTagsKept.{open_stay, MarksAre, RoundIs, SlotsAre, StageIs, TagsAre, IsInJournal, blamed, seal_blame, seal_stays, awaiting_below}
use Rattle.split_core.proofs.JournalTagsSlots.{same_txn, slot_there}
use Rattle.split_core.proofs.JournalTagsNext.{SealsNow, seal_as}

-- ---- marks
metadata_out : (h : List Event) (t : Txn) (k : ℕ) (b : Buf) → IsMetadata b → open_at (h ▹ Seal t k) b ≡ []
metadata_out h t k (Page s g) metadata = absurd metadata
metadata_out h t k Bitmap metadata = refl
metadata_out h t k (Dir j) metadata = refl
metadata_out h t k (Inode slot) metadata = refl

marks_sealed : (h : List Event) (t : Txn) (k : ℕ) (marks : List (Option (List ℕ))) → MarksAre h marks
    → MarksAre (h ▹ Seal t k) (replicate (length marks) None)
marks_sealed h t k marks are = record {
  long = length-replicate (length marks) None ∙ are.long;
  each =
      λ p below. get_or-replicate (length marks) p None None (omega (arith, are.long, below))
      ∙ sym (ap (blamed (h ▹ Seal t k)) (metadata_out h t k (buffer_at (p + 1)) (metadata_at p below)));
}

-- ---- what the round took
round_sealed : (w : Workload) (h : List Event) (t : Txn) (k : ℕ) (marks round : List (Option (List ℕ)))
    → IsAccepted w → IsLegal w h → MarksAre h marks → RoundIs h round → RoundIs (h ▹ Seal t k) (joined_all round marks)
round_sealed w h t k marks round accepted legal are is = record {
  long = joined_long round marks ∙ is.long;
  each =
      λ p below. joined_at round marks p (is.long ∙ sym are.long)
      ∙ ap (λ o. joined o (slice_index_or marks p None)) (is.each p below)
      ∙ ap (joined (blamed h (awaiting_at h (buffer_at (p + 1))))) (are.each p below)
      ∙ joined_is (map (blame h) (awaiting_at h (buffer_at (p + 1)))) (map (blame h) (open_at h (buffer_at (p + 1))))
      ∙ sym (ap together (both (buffer_at (p + 1))));
}
  where
    both : (b : Buf) → map (blame (h ▹ Seal t k)) (open_at h b ++ awaiting_at h b)
        ≡ map (blame h) (open_at h b) ++ map (blame h) (awaiting_at h b)
    both b =
        map-append (blame (h ▹ Seal t k)) (open_at h b) (awaiting_at h b)
        ∙ ap (λ l. l ++ map (blame (h ▹ Seal t k)) (awaiting_at h b)) (open_stay h (Seal t k) b)
        ∙ ap (λ l. map (blame h) (open_at h b) ++ l)
        (blames-stay h (Seal t k) (awaiting_at h b) (awaiting_below w h b accepted legal))

-- ---- the slot of the new transaction
-- it is sealed for all for whom buffers were marked
whole_blame : (h : List Event) (t : Txn) (k : ℕ) (marks : List (Option (List ℕ))) → MarksAre h marks
    → 0 < length (blocks_of marks) → whole_of marks ≡ Some (blame (h ▹ Seal t k) (length h))
whole_blame h t k marks are some =
    whole_is marks some
    ∙ ap Some
    (ap (λ l. union_of (all_in l)) (list_is None marks (λ x. together (opens (buffer_at x))) are.long are.each)
    ∙ union_all (λ x. opens (buffer_at x)) (range_with_len 1 places)
    ∙ ap union_of (flat_values opens buffer_at (range_with_len 1 places)
    ∙ ap (flat_map opens) (sym buffers_are) ∙ map_all (blame h) (open_at h) metadata_buffers)
    ∙ sym (union-empty (map (blame h) (flat_map (open_at h) metadata_buffers)))
    ∙ sym (blame-new h (Seal t k)))
  where
    opens : Buf → List (List ℕ)
    opens b = map (blame h) (open_at h b)

own_seal : (h : List Event) (t : Txn) (k : ℕ)
    → seal_blame (h ▹ Seal t k) t ≡ blame (h ▹ Seal t k) (length h)
own_seal h t k =
    ap (λ l. union_of (map (blame (h ▹ Seal t k)) l))
    (cond-true (t.0 == t.0) (length h ∷ []) (seal_place h t) (eq-eqb t.0 t.0 refl))
    ∙ union-one (blame (h ▹ Seal t k) (length h)) (blame_is_set (h ▹ Seal t k) (length h))

slots_sealed : (w : Workload) (h : List Event) (t : Txn) (k used : ℕ) (marks slots : List (Option (List ℕ)))
    → t.0 ≡ seals h + 1 → JournalKnown w (h ▹ Seal t k) → MarksAre h marks → 0 < length (blocks_of marks)
    → used ≡ length (open_round h) → used < length slots → SlotsAre h slots
    → SlotsAre (h ▹ Seal t k) (set slots used (whole_of marks))
slots_sealed w h t k used marks slots number j marked some place left are u there = elim (cases_eq t.0 u.0) [
  | inl same ↦
      subst (λ x. get_or (set slots used (whole_of marks)) (slot_of_txn (h ▹ Seal t k) x) None
      ≡ Some (seal_blame (h ▹ Seal t k) x)) (same_txn t u same)
      (ap (λ n. get_or (set slots used (whole_of marks)) n None) (own_slot ∙ sym place)
      ∙ get_or-set_same slots used (whole_of marks) None left
      ∙ whole_blame h t k marks marked some ∙ ap Some (sym (own_seal h t k)))
  | inr other ↦
      (let slot : slot_of_txn (h ▹ Seal t k) u ≡ slot_of_txn h u =
      case_false (t.0 == u.0) (length (open_round h)) (slot_of_txn h u) (ne_eqb t.0 u.0 other)
      in let seal : seal_place (h ▹ Seal t k) u ≡ seal_place h u =
      cond-false (t.0 == u.0) (length h ∷ []) (seal_place h u) (ne_eqb t.0 u.0 other)
      in ap (λ n. get_or (set slots used (whole_of marks)) n None) slot
      ∙ get_or-set_other slots used (slot_of_txn h u) (whole_of marks) None (apart other slot)
      ∙ are u (before other)
      ∙ ap Some (sym (seal_stays h (Seal t k) u seal)))
]
  where
    own_slot : slot_of_txn (h ▹ Seal t k) t ≡ length (open_round h)
    own_slot = case_true (t.0 == t.0) (length (open_round h)) (slot_of_txn h t) (eq-eqb t.0 t.0 refl)

    before : (t.0 ≡ u.0 → ⊥) → IsInJournal h u
    before other =
        (omega (arith, number, there.0, other), omega (arith, there.1, length_push (in_journal h) t))

    own_there : IsInJournal (h ▹ Seal t k) t
    own_there = (omega (arith, number), omega (arith, number, length_push (in_journal h) t))

    apart : (t.0 ≡ u.0 → ⊥) → slot_of_txn (h ▹ Seal t k) u ≡ slot_of_txn h u → slot_of_txn h u ≡ used → ⊥
    apart other slot same =
        other (omega (
          arith,
          slot_there w (h ▹ Seal t k) t j own_there,
          slot_there w (h ▹ Seal t k) u j there,
          own_slot,
          slot,
          same,
          place,
        ))

-- ---- the whole
-- commit is idle before it
idle_used : (h : List Event) (used unfinished : ℕ) (s : Commit ℕ) → is_idle s ≡ true → StageIs h used unfinished s
    → used ≡ length (open_round h)
idle_used h used unfinished Idle idle is = is
idle_used h used unfinished (Log t k) idle is = is
idle_used h used unfinished (Marking t k) idle is = is
idle_used h used unfinished (Homes t k n) idle is = is
idle_used h used unfinished (Clear t k) idle is = absurd (cc)

pub tags_seal : (w : Workload) (h : List Event) (t : Txn) (k : ℕ) (j : Journaled (List ℕ)) → IsAccepted w
    → IsLegal w (h ▹ Seal t k) → WorkShown w h j → TagsAre h j
    → TagsAre (h ▹ Seal t k) (after_event w h (Seal t k) j)
tags_seal w h t k j accepted legal shown are =
    let now : SealsNow j = seal_as w h j t k shown legal.0
    in let used = idle_used h j.work.used j.work.unfinished j.work.stage now.idle are.stage
    in record {
      marks = marks_sealed h t k j.marks are.marks;
      round = round_sealed w h t k j.marks j.round accepted legal.1 are.marks are.round;
      slots =
          slots_sealed w h t k j.work.used j.marks j.slots (seal_is w h t k (came w h Cm (Seal t k) legal.0)).txn
          (journal_known w (h ▹ Seal t k) accepted legal) are.marks now.some used now.left are.slots;
      stage = omega (arith, used);
    }
