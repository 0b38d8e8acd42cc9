-- The slots of the journal that hold a tag are those of the transactions that are in it.
use Rattle.std.proofs.Common.{◌≡◌, ℕ, zero, suc, ◌+◌, ◌==◌, ◌≤◌, List, [], ◌∷◌, length, get_or, set, replicate, nat_lt, Bool, true, false, not, Option, Some, None, is_some, refl, ap, sym, subst, ◌∙◌, arith, inl, inr, if◌then◌else◌}
use Rattle.std.specs.Prelude.{slice_get}
use Rattle.std.proofs.lemmas.Bool.{cases_Bool, cases_eq, both_ways, cond-true, cond-false, eq-eqb, ne_eqb, lt-ltb, not_from_false}
use Rattle.std.proofs.lemmas.List.{get_or-set_other}
use Rattle.split_types.specs.declared.ids.ReqId.{ReqId}
use Rattle.split_types.specs.declared.ids.Txn.{Txn}
use Rattle.split_types.specs.declared.actor.Actor.TheVariants.{Cm}
use Rattle.split_types.specs.declared.buf.Buf.{Buf}
use Rattle.split_types.specs.declared.request.ReqKind.{ReqKind}
use Rattle.split_types.specs.declared.request.ReqKind.TheVariants as kind
use Rattle.split_types.specs.declared.request.Request.{Request}
use Rattle.split_types.specs.declared.workload.Workload.{Workload}
use Rattle.split_types.specs.declared.event.Event.{Event}
use Rattle.split_types.specs.declared.event.Event.TheVariants.{Make, Drop, Map, Seal, Add, Done}
use Rattle.split_types.specs.History.{◌▹◌}
use Rattle.split_types.specs.Hooks.{maker, dirties}
use Rattle.split_types.specs.Blame.{blame}
use Rattle.split_types.specs.Reads.{request_numbered}
use Rattle.split_types.specs.Rounds.{seal_place, open_round, seals, slot_of_txn}
use Rattle.split_types.specs.Transactions.{clears, in_journal, journal_slots, is_of_commit}
use Rattle.split_types.specs.Accepted.{IsAccepted}
use Rattle.split_types.specs.Legal.{IsLegal}
use Rattle.split_types.specs.Proving.Came.{Came}
use Rattle.split_types.specs.Proving.Came.Came.{came_done}
use Rattle.split_types.specs.Proving.Known.{KnownRequests}
use Rattle.split_types.specs.Proving.JournalKnown.{JournalKnown}
use Rattle.split_types.proofs.Shared.{came, journal_known, known_requests, slice_get-push, slice_get-push_old, slice_get-push_new, filter_there, in_filter, case_true, case_false}
use Rattle.split_types.proofs.JournalRounds.{seal_is}
use Rattle.split_types.proofs.JournalRows.{row_length, row_place, row_most}
use Rattle.proxies.specs.declared.commit.Commit.{Commit}
use Rattle.proxies.specs.declared.commit.Commit.TheVariants.{Idle, Log, Marking, Homes, Clear}
use Rattle.journal_core.specs.Causes.{whole_of}
use Rattle.journal_core.specs.Work.{is_idle, cleared_slot}
use Rattle.journal_core.specs.Journaled.{Journaled, IsOf, IsUnderWay, without, after_added, after_done}
use Rattle.tag_table.proofs.PlaceLaws.{emptied-same}
use Rattle.split_core.specs.Journaling.{journal_of, after_event, mark_all, is_commit_request}
use Rattle.split_core.proofs.JournalShown.{WorkShown}
use Rattle.split_core.proofs.JournalTags.{AllShown, tags_are}
use Rattle.split_core.proofs.JournalTagsDirty.{only_marks}
use Rattle.split_core.proofs.JournalTagsKept.{TagsAre, StageIs, IsInJournal, blamed, seal_blame}
use Rattle.split_core.proofs.JournalTagsNext.{SealsNow, seal_as}
use Rattle.split_core.proofs.SetsLists.{blamed_is}

-- ---- transactions in the journal
pub there_in : (w : Workload) (h : List Event) (i : ℕ) (t : Txn) → JournalKnown w h
    → slice_get (in_journal h) i ≡ Some t → IsInJournal h t
there_in w h i t j at = (
  row_most j.cleared (in_journal h) (seals h) i t j.row at,
  omega (
    arith,
    row_place j.cleared (in_journal h) (seals h) i t j.row at,
    row_length j.cleared (in_journal h) (seals h) j.row,
  ),
)

-- each was sealed
seal_some : (h : List Event) (i : ℕ) (t : Txn) → slice_get (in_journal h) i ≡ Some t
    → nat_lt 0 (length (seal_place h t)) ≡ true
seal_some [] i t at = absurd (cc)
seal_some (h ▹ Seal u k) i t at = elim (cases_eq u.0 t.0) [
  | inl is ↦
      ap (λ l. nat_lt 0 (length l)) (cond-true (u.0 == t.0) (length h ∷ []) (seal_place h t) (eq-eqb u.0 t.0 is))
      ∙ lt-ltb 0 1 (omega arith)
  | inr other ↦
      (let old : nat_lt 0 (length (seal_place h t)) ≡ true = elim (slice_get-push (in_journal h) u i t at) [
        | inl old ↦ seal_some h i t old
        | inr new ↦ absurd (other (ap (λ x. x.0) new.1))
      ] in
      ap (λ l. nat_lt 0 (length l)) (cond-false (u.0 == t.0) (length h ∷ []) (seal_place h t) (ne_eqb u.0 t.0 other))
      ∙ old)
]
seal_some (h ▹ Done k id true) i t at =
    let there = filter_there (λ u. not (clears u (request_numbered h id))) (in_journal h) i t at in
    seal_some h there.0 t there.1
seal_some (h ▹ e) i t at = seal_some h i t at

pub seal_blamed : (h : List Event) (i : ℕ) (t : Txn) → slice_get (in_journal h) i ≡ Some t
    → blamed h (seal_place h t) ≡ Some (seal_blame h t)
seal_blamed h i t at = blamed_is h (seal_place h t) (seal_some h i t at)

-- ---- each slot that holds something is that of one of them
pub record SlotHolds (h : List Event) (k : ℕ) : Type 0 where
  pub txn : Txn
  pub place : ℕ
  pub there : slice_get (in_journal h) place ≡ Some txn
  pub slot_is : slot_of_txn h txn ≡ k

abbrev pub SlotsHold : List Event → List (Option (List ℕ)) → Type 0
SlotsHold h slots = (k : ℕ) → is_some (get_or slots k None) ≡ true → SlotHolds h k

hold_still : (h g : List Event) (slots : List (Option (List ℕ))) → in_journal g ≡ in_journal h
    → ((t : Txn) → slot_of_txn g t ≡ slot_of_txn h t) → SlotsHold h slots → SlotsHold g slots
hold_still h g slots journal slot hold k some =
    let old = hold k some in record {
      txn = old.txn;
      place = old.place;
      there = ap (λ l. slice_get l old.place) journal ∙ old.there;
      slot_is = slot old.txn ∙ old.slot_is;
    }

-- ---- a seal
idle_used : (h : List Event) (used unfinished : ℕ) (s : Commit ℕ) → is_idle s ≡ true → StageIs h used unfinished s
    → used ≡ length (open_round h)
idle_used h used unfinished Idle idle is = is
idle_used h used unfinished (Log t k) idle is = is
idle_used h used unfinished (Marking t k) idle is = is
idle_used h used unfinished (Homes t k n) idle is = is
idle_used h used unfinished (Clear t k) idle is = absurd (cc)

hold_sealed : (w : Workload) (h : List Event) (t : Txn) (k used : ℕ) (whole : Option (List ℕ))
    (slots : List (Option (List ℕ))) → t.0 ≡ seals h + 1 → used ≡ length (open_round h) → JournalKnown w h
    → SlotsHold h slots → SlotsHold (h ▹ Seal t k) (set slots used whole)
hold_sealed w h t k used whole slots number place j hold m some = elim (cases_eq m used) [
  | inl is ↦ record {
    txn = t;
    place = length (in_journal h);
    there = slice_get-push_new (in_journal h) t;
    slot_is = case_true (t.0 == t.0) (length (open_round h)) (slot_of_txn h t) (eq-eqb t.0 t.0 refl)
        ∙ sym place ∙ sym is;
  }
  | inr other ↦
      (let old = hold m (ap is_some (sym (get_or-set_other slots used m whole None other)) ∙ some) in
      let most = row_most j.cleared (in_journal h) (seals h) old.place old.txn j.row old.there in record {
        txn = old.txn;
        place = old.place;
        there = slice_get-push_old (in_journal h) t old.place old.txn old.there;
        slot_is = case_false (t.0 == old.txn.0) (length (open_round h)) (slot_of_txn h old.txn)
            (ne_eqb t.0 old.txn.0 (λ (e : t.0 ≡ old.txn.0). omega (arith, number, most, e)))
            ∙ old.slot_is;
      })
]

-- ---- a completion
-- a request that clears no transaction, or another one
clears_no : (r : Request) (u : Txn) (k : ReqKind) → r.kind ≡ k → ((v : Txn) → k ≡ kind.Clear v → v.0 ≡ u.0 → ⊥)
    → clears u (Some r) ≡ false
clears_no r u (kind.Read p s g) is other = rw is refl
clears_no r u (kind.Pages s g) is other = rw is refl
clears_no r u (kind.Log v) is other = rw is refl
clears_no r u (kind.Commit v) is other = rw is refl
clears_no r u (kind.Home v) is other = rw is refl
clears_no r u (kind.Clear v) is other = rw is (ne_eqb v.0 u.0 (λ (e : v.0 ≡ u.0). other v refl e))

-- what it doesn't clear stays
hold_left : (h : List Event) (i k : ℕ) (r : Request) → request_numbered h r.id ≡ Some r → (old : SlotHolds h k)
    → clears old.txn (Some r) ≡ false → SlotHolds (h ▹ Done i r.id true) k
hold_left h i k r named old past =
    let there = in_filter (λ u. not (clears u (request_numbered h r.id))) (in_journal h) old.place old.txn old.there
    (not_from_false (clears old.txn (request_numbered h r.id)) (ap (clears old.txn) named ∙ past)) in record {
      txn = old.txn;
      place = there.0;
      there = there.1;
      slot_is = old.slot_is;
    }

hold_cleared : (h : List Event) (i : ℕ) (r : Request) (j : Journaled (List ℕ)) (used unfinished : ℕ) (s : Commit ℕ)
    (slots : List (Option (List ℕ))) → request_numbered h r.id ≡ Some r → 1 ≤ unfinished
    → IsOf j s r.kind r.first → StageIs h used unfinished s → SlotsHold h slots
    → SlotsHold (h ▹ Done i r.id true) (without (cleared_slot s) slots)
hold_cleared h i r j used unfinished Idle slots named some of is hold = absurd of
hold_cleared h i r j used unfinished (Log t slot) slots named some of is hold =
    λ k here. hold_left h i k r named (hold k here)
    (clears_no r (hold k here).txn (kind.Log t) of.0 (λ v e. absurd (cc)))
hold_cleared h i r j used unfinished (Marking t slot) slots named some of is hold =
    λ k here. hold_left h i k r named (hold k here)
    (clears_no r (hold k here).txn (kind.Commit t) of.0 (λ v e. absurd (cc)))
hold_cleared h i r j used unfinished (Homes t slot added) slots named some of is hold =
    λ k here. hold_left h i k r named (hold k here)
    (clears_no r (hold k here).txn (kind.Home t) of (λ v e. absurd (cc)))
hold_cleared h i r j used unfinished (Clear t slot) slots named some of is hold =
    λ k here. elim (cases_eq k slot) [
      | inl own ↦
          absurd (let none : is_some (get_or (set slots slot None) k None) ≡ false =
          ap (λ n. is_some (get_or (set slots slot None) n None)) own ∙ ap is_some (emptied-same slots slot)
          in both_ways (is_some (get_or (set slots slot None) k None)) none here)
      | inr other ↦
          (let old = hold k (ap is_some (sym (get_or-set_other slots slot k None None other)) ∙ here) in
          hold_left h i k r named old
          (clears_no r old.txn (kind.Clear t) of.0 (λ v e same. other (apart k old v e same))))
    ]
  where
    apart : (k : ℕ) (old : SlotHolds h k) (v : Txn) → kind.Clear t ≡ kind.Clear v → v.0 ≡ old.txn.0 → k ≡ slot
    apart k old v e same =
        let one : t ≡ v = cc in
        let number : Txn → ℕ = slot_of_txn h in
        let txn : ℕ → Txn = λ n. record { 0 = n } in
        sym old.slot_is ∙ ap (λ n. slot_of_txn h (txn n)) (sym same) ∙ ap number (sym one) ∙ sym (is some).0

hold_came : (w : Workload) (h : List Event) (k : ℕ) (id : ReqId) (ok : Bool) (j : Journaled (List ℕ)) → IsAccepted w
    → IsLegal w (h ▹ Done k id ok) → WorkShown w h j → TagsAre h j → Came w h (Done k id ok) → SlotsHold h j.slots
    → SlotsHold (h ▹ Done k id ok) (after_event w h (Done k id ok) j).slots
hold_came w h k id ok j accepted legal shown are (came_done i r at) hold = elim (cases_Bool (is_of_commit r)) [
  | inl commits ↦
      (let under : IsUnderWay j r.kind r.first = shown.done_is i r.id true r legal named commits in
      subst (λ (x : Journaled (List ℕ)). SlotsHold (h ▹ Done i r.id true) x.slots)
      (sym (cond-true (is_commit_request (request_numbered h r.id)) (after_done j) j
      (ap is_commit_request named ∙ commits)))
      (hold_cleared h i r j j.work.used j.work.unfinished j.work.stage j.slots named under.some under.of_stage are.stage
      hold))
  | inr moves ↦
      subst (λ (x : Journaled (List ℕ)). SlotsHold (h ▹ Done i r.id true) x.slots)
      (sym (cond-false (is_commit_request (request_numbered h r.id)) (after_done j) j
      (ap is_commit_request named ∙ moves)))
      (λ m here. hold_left h i m r named (hold m here)
      (clears_no r (hold m here).txn r.kind refl (λ v e same. both_ways (is_of_commit r) moves (rw e refl))))
]
  where
    f : KnownRequests h
    f = known_requests w h accepted legal.1

    named : request_numbered h r.id ≡ Some r
    named = f.named r.id r (f.waiting.flight_of i r at)

-- ---- every legal history
marks_alone : (bs : List Buf) (more : List ℕ) (j : Journaled (List ℕ)) → (mark_all bs more j).slots ≡ j.slots
marks_alone bs more j = ap (λ (x : Journaled (List ℕ)). x.slots) (only_marks bs more j)

hold_marked : (h : List Event) (e : Event) (more : List ℕ) (j : Journaled (List ℕ))
    → in_journal (h ▹ e) ≡ in_journal h → ((t : Txn) → slot_of_txn (h ▹ e) t ≡ slot_of_txn h t)
    → SlotsHold h j.slots → SlotsHold (h ▹ e) (mark_all (dirties e) more j).slots
hold_marked h e more j journal slot hold =
    subst (SlotsHold (h ▹ e)) (sym (marks_alone (dirties e) more j)) (hold_still h (h ▹ e) j.slots journal slot hold)

added_slots : (b : Bool) (j : Journaled (List ℕ)) → (if b then after_added j else j).slots ≡ j.slots
added_slots true j = refl
added_slots false j = refl

hold_next : (w : Workload) (h : List Event) (e : Event) (j : Journaled (List ℕ)) → IsAccepted w → IsLegal w (h ▹ e)
    → WorkShown w h j → TagsAre h j → SlotsHold h j.slots → SlotsHold (h ▹ e) (after_event w h e j).slots
hold_next w h (Make by slot serial) j accepted legal shown are hold =
    hold_marked h (Make by slot serial) (blame (h ▹ Make by slot serial) (length h)) j refl (λ t. refl) hold
hold_next w h (Drop by slot serial) j accepted legal shown are hold =
    hold_marked h (Drop by slot serial) (blame (h ▹ Drop by slot serial) (length h)) j refl (λ t. refl) hold
hold_next w h (Map slot serial page n block new size) j accepted legal shown are hold =
    hold_marked h (Map slot serial page n block new size)
    (blame (h ▹ Map slot serial page n block new size) (length h)) j refl (λ t. refl) hold
hold_next w h (Seal t k) j accepted legal shown are hold =
    let now : SealsNow j = seal_as w h j t k shown legal.0 in
    hold_sealed w h t k j.work.used (whole_of j.marks) j.slots (seal_is w h t k (came w h Cm (Seal t k) legal.0)).txn
    (idle_used h j.work.used j.work.unfinished j.work.stage now.idle are.stage) (journal_known w h accepted legal.1) hold
hold_next w h (Add by r) j accepted legal shown are hold =
    subst (SlotsHold (h ▹ Add by r)) (sym (added_slots (is_of_commit r) j))
    (hold_still h (h ▹ Add by r) j.slots refl (λ t. refl) hold)
hold_next w h (Done k id ok) j accepted legal shown are hold =
    hold_came w h k id ok j accepted legal shown are (came w h (maker (Done k id ok)) (Done k id ok) legal.0) hold
hold_next w h e j accepted legal shown are hold = hold_still h (h ▹ e) j.slots refl (λ t. refl) hold

none_yet : (n k : ℕ) → (let none : List (Option (List ℕ)) = replicate n None in is_some (get_or none k None) ≡ false)
none_yet zero k = refl
none_yet (suc n) zero = refl
none_yet (suc n) (suc k) = none_yet n k

hold_none : (n : ℕ) → SlotsHold [] (replicate n None)
hold_none n k some =
    let none : List (Option (List ℕ)) = replicate n None in
    absurd (both_ways (is_some (get_or none k None)) (none_yet n k) some)

pub slots_hold : (w : Workload) (images : List (List ℕ)) (h : List Event) → IsAccepted w → IsLegal w h
    → AllShown w images → SlotsHold h (journal_of w images h).slots
slots_hold w images [] accepted legal shown = hold_none (journal_slots w)
slots_hold w images (h ▹ e) accepted legal shown =
    hold_next w h e (journal_of w images h) accepted legal (shown h legal.1)
    (tags_are w images h accepted legal.1 shown) (slots_hold w images h accepted legal.1 shown)
