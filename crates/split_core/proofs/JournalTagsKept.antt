-- What the tags of a journal have to do with a history, and when it stays.
use Rattle.std.proofs.Common.{◌≡◌, ℕ, ◌+◌, ◌<◌, ◌≤◌, List, [], length, map, true, Option, Some, None, refl, arith, sym, ◌∙◌, ap}
use Rattle.std.specs.Prelude.{slice_index_or}
use Rattle.std.proofs.lemmas.List.{get_or-replicate, length-replicate}
use Rattle.split_types.specs.declared.ids.Txn.{Txn}
use Rattle.split_types.specs.declared.actor.Actor.TheVariants.{Cm}
use Rattle.split_types.specs.declared.buf.Buf.{Buf}
use Rattle.split_types.specs.declared.request.ReqKind.TheVariants as kind
use Rattle.split_types.specs.declared.workload.Workload.{Workload}
use Rattle.split_types.specs.declared.event.Event.{Event}
use Rattle.split_types.specs.declared.event.Event.TheVariants.{Add}
use Rattle.split_types.specs.History.{◌▹◌}
use Rattle.split_types.specs.ByPlace.{IsMetadata}
use Rattle.split_types.specs.OpenDirtyings.{open_at}
use Rattle.split_types.specs.Parents.{buffer_at}
use Rattle.split_types.specs.Sets.{has, union_of}
use Rattle.split_types.specs.Rounds.{seal_place, open_round, seals, slot_of_txn}
use Rattle.split_types.specs.Blame.{blame}
use Rattle.split_types.specs.Transactions.{journal_slots, in_journal, awaiting_at}
use Rattle.split_types.specs.Accepted.{IsAccepted}
use Rattle.split_types.specs.Legal.{IsLegal}
use Rattle.split_types.specs.Proving.Came.{journal_request}
use Rattle.split_types.proofs.CausesLaws.{blames-stay}
use Rattle.split_types.proofs.JournalTags.{awaiting_blames}
use Rattle.split_types.proofs.OpenDirtyings.{open_at-below}
use Rattle.split_types.proofs.Parents.{parents-below}
use Rattle.proxies.specs.declared.commit.Commit.{Commit}
use Rattle.proxies.specs.declared.commit.Commit.TheVariants.{Idle, Log, Marking, Homes, Clear}
use Rattle.journal_core.specs.Causes.{together}
use Rattle.journal_core.specs.Journaled.{Journaled}
use Rattle.split_core.specs.Journaling.{empty_journal}
use Rattle.split_core.proofs.JournalTagsPlaces.{metadata_at}

-- ---- what they are
-- those to blame for events at some places together, if there is such a place
abbrev pub blamed : List Event → List ℕ → Option (List ℕ)
blamed h at = together (map (blame h) at)

-- each buffer is marked for those to blame for its open dirtyings
pub record MarksAre (h : List Event) (marks : List (Option (List ℕ))) : Type 0 where
  pub long : length marks ≡ 261
  pub each : (k : ℕ) → k < 261 → slice_index_or marks k None ≡ blamed h (open_at h (buffer_at (k + 1)))

-- the round took it for those to blame for what awaits its home
pub record RoundIs (h : List Event) (round : List (Option (List ℕ))) : Type 0 where
  pub long : length round ≡ 261
  pub each : (k : ℕ) → k < 261 → slice_index_or round k None ≡ blamed h (awaiting_at h (buffer_at (k + 1)))

-- the transaction was sealed, and isn't cleared
abbrev pub IsInJournal : List Event → Txn → Type 0
IsInJournal h t = (t.0 ≤ seals h) × (seals h < t.0 + length (in_journal h))

-- those to blame for its seal
abbrev pub seal_blame : List Event → Txn → List ℕ
seal_blame h t = union_of (map (blame h) (seal_place h t))

abbrev pub SlotsAre : List Event → List (Option (List ℕ)) → Type 0
SlotsAre h slots = (t : Txn) → IsInJournal h t → slice_index_or slots (slot_of_txn h t) None ≡ Some (seal_blame h t)

-- the slots of the round are used in turn until its transactions are cleared; the one whose clear request is under way
-- has this slot
abbrev pub StageIs : List Event → ℕ → ℕ → Commit ℕ → Type 0
StageIs h used unfinished (Clear t slot) = 1 ≤ unfinished → (slot ≡ slot_of_txn h t) × IsInJournal h t
StageIs h used unfinished Idle = used ≡ length (open_round h)
StageIs h used unfinished (Log t slot) = used ≡ length (open_round h)
StageIs h used unfinished (Marking t slot) = used ≡ length (open_round h)
StageIs h used unfinished (Homes t slot added) = used ≡ length (open_round h)

pub record TagsAre (h : List Event) (j : Journaled (List ℕ)) : Type 0 where
  pub marks : MarksAre h j.marks
  pub round : RoundIs h j.round
  pub slots : SlotsAre h j.slots
  pub stage : StageIs h j.work.used j.work.unfinished j.work.stage

-- ---- when they stay
pub open_stay : (h : List Event) (e : Event) (b : Buf) → map (blame (h ▹ e)) (open_at h b) ≡ map (blame h) (open_at h b)
open_stay h e b = blames-stay h e (open_at h b) (open_at-below h b)

pub marks_stay : (h : List Event) (e : Event) (marks : List (Option (List ℕ)))
    → ((b : Buf) → IsMetadata b → open_at (h ▹ e) b ≡ open_at h b) → MarksAre h marks → MarksAre (h ▹ e) marks
marks_stay h e marks same are = record {
  long = are.long;
  each =
      λ k below. are.each k below
      ∙ sym (ap together (ap (map (blame (h ▹ e))) (same (buffer_at (k + 1)) (metadata_at k below))
      ∙ open_stay h e (buffer_at (k + 1))));
}

-- what awaits its home lies before
pub awaiting_below : (w : Workload) (h : List Event) (b : Buf) → IsAccepted w → IsLegal w h
    → (i : ℕ) → has (awaiting_at h b) i ≡ true → i < length h
awaiting_below w h b accepted legal i is = (awaiting_blames w h b i accepted legal is).below

pub round_stays : (w : Workload) (h : List Event) (e : Event) (round : List (Option (List ℕ))) → IsAccepted w
    → IsLegal w h → ((b : Buf) → IsMetadata b → awaiting_at (h ▹ e) b ≡ awaiting_at h b) → RoundIs h round
    → RoundIs (h ▹ e) round
round_stays w h e round accepted legal same is = record {
  long = is.long;
  each =
      λ k below. is.each k below
      ∙ sym (ap together (ap (map (blame (h ▹ e))) (same (buffer_at (k + 1)) (metadata_at k below))
      ∙ blames-stay h e (awaiting_at h (buffer_at (k + 1)))
      (awaiting_below w h (buffer_at (k + 1)) accepted legal)));
}

-- a seal lies before
pub seal_below : (h : List Event) (t : Txn) (i : ℕ) → has (seal_place h t) i ≡ true → i < length h
seal_below h t i is = parents-below h (Add Cm (journal_request 0 (kind.Log t) 0 0)) i is

pub seal_stays : (h : List Event) (e : Event) (t : Txn) → seal_place (h ▹ e) t ≡ seal_place h t
    → seal_blame (h ▹ e) t ≡ seal_blame h t
seal_stays h e t same =
    ap union_of (ap (map (blame (h ▹ e))) same ∙ blames-stay h e (seal_place h t) (seal_below h t))

-- an event that seals nothing leaves those that are in the journal after it
pub record LeavesSlots (h : List Event) (e : Event) : Type 0 where
  pub fewer : (t : Txn) → IsInJournal (h ▹ e) t → IsInJournal h t
  pub slot_is : (t : Txn) → slot_of_txn (h ▹ e) t ≡ slot_of_txn h t
  pub place_is : (t : Txn) → seal_place (h ▹ e) t ≡ seal_place h t

pub slots_stay : (h : List Event) (e : Event) (slots : List (Option (List ℕ))) → LeavesSlots h e → SlotsAre h slots
    → SlotsAre (h ▹ e) slots
slots_stay h e slots leaves are t there =
    ap (λ k. slice_index_or slots k None) (leaves.slot_is t) ∙ are t (leaves.fewer t there)
    ∙ ap Some (sym (seal_stays h e t (leaves.place_is t)))

-- the same for what it is doing
pub stage_stays : (h g : List Event) (used unfinished : ℕ) (s : Commit ℕ) → open_round g ≡ open_round h
    → ((t : Txn) → slot_of_txn g t ≡ slot_of_txn h t) → ((t : Txn) → IsInJournal h t → IsInJournal g t)
    → StageIs h used unfinished s → StageIs g used unfinished s
stage_stays h g used unfinished Idle round slot there is = is ∙ sym (ap length round)
stage_stays h g used unfinished (Log t k) round slot there is = is ∙ sym (ap length round)
stage_stays h g used unfinished (Marking t k) round slot there is = is ∙ sym (ap length round)
stage_stays h g used unfinished (Homes t k n) round slot there is = is ∙ sym (ap length round)
stage_stays h g used unfinished (Clear t k) round slot there is =
    λ some. let was = is some in (was.0 ∙ sym (slot t), there t was.1)

-- an event that leaves all but what is open
pub record LeavesRest (h : List Event) (e : Event) : Type 0 where
  pub awaits : (b : Buf) → awaiting_at (h ▹ e) b ≡ awaiting_at h b
  pub round : open_round (h ▹ e) ≡ open_round h
  pub sealed : seals (h ▹ e) ≡ seals h
  pub journal : in_journal (h ▹ e) ≡ in_journal h
  pub slot : (t : Txn) → slot_of_txn (h ▹ e) t ≡ slot_of_txn h t
  pub place : (t : Txn) → seal_place (h ▹ e) t ≡ seal_place h t

pub in_later : (h g : List Event) (t : Txn) → seals g ≡ seals h → in_journal g ≡ in_journal h → IsInJournal h t
    → IsInJournal g t
in_later h g t sealed journal there =
    (omega (arith, sealed, there.0), omega (arith, sealed, ap length journal, there.1))

pub slots_rest : (h : List Event) (e : Event) (slots : List (Option (List ℕ))) → LeavesRest h e → SlotsAre h slots
    → SlotsAre (h ▹ e) slots
slots_rest h e slots leaves are =
    slots_stay h e slots
    (record {
      fewer = λ t there. in_later (h ▹ e) h t (sym leaves.sealed) (sym leaves.journal) there;
      slot_is = leaves.slot;
      place_is = leaves.place;
    }) are

pub stage_rest : (h : List Event) (e : Event) (used unfinished : ℕ) (s : Commit ℕ) → LeavesRest h e
    → StageIs h used unfinished s → StageIs (h ▹ e) used unfinished s
stage_rest h e used unfinished s leaves is =
    stage_stays h (h ▹ e) used unfinished s leaves.round leaves.slot
    (λ t there. in_later h (h ▹ e) t leaves.sealed leaves.journal there) is

pub tags_stay : (w : Workload) (h : List Event) (e : Event) (j : Journaled (List ℕ)) → IsAccepted w → IsLegal w h
    → ((b : Buf) → IsMetadata b → open_at (h ▹ e) b ≡ open_at h b) → LeavesRest h e → TagsAre h j → TagsAre (h ▹ e) j
tags_stay w h e j accepted legal opens leaves are = record {
  marks = marks_stay h e j.marks opens are.marks;
  round = round_stays w h e j.round accepted legal (λ b metadata. leaves.awaits b) are.round;
  slots = slots_rest h e j.slots leaves are.slots;
  stage = stage_rest h e j.work.used j.work.unfinished j.work.stage leaves are.stage;
}

-- ---- before any event
pub tags_none : (w : Workload) (images : List (List ℕ)) → TagsAre [] (empty_journal (journal_slots w) images)
tags_none w images = record {
  marks = record {
    long = length-replicate {A = Option (List ℕ)} 261 None;
    each = λ k below. get_or-replicate {A = Option (List ℕ)} 261 k None None below;
  };
  round = record {
    long = length-replicate {A = Option (List ℕ)} 261 None;
    each = λ k below. get_or-replicate {A = Option (List ℕ)} 261 k None None below;
  };
  slots = λ t there. absurd (omega (arith, there.0, there.1));
  stage = refl;
}
