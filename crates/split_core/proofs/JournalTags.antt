-- The tags of the journal after every legal history, and for whom it has the request added that comes next.
use Rattle.std.proofs.Common.{◌≡◌, ℕ, ◌+◌, ◌-◌, ◌==◌, ◌<◌, ◌≤◌, List, [], ◌∷◌, length, map, Option, Some, None, refl, arith, subst, sym, ◌∙◌, ap, true}
use Rattle.std.specs.Prelude.{slice_index_or}
use Rattle.std.specs.List.{flat_map}
use Rattle.std.proofs.lemmas.Bool.{or_left, eq-eqb}
use Rattle.split_types.specs.declared.ids.Pid.{Pid}
use Rattle.split_types.specs.declared.ids.Serial.{Serial}
use Rattle.split_types.specs.declared.ids.Txn.{Txn}
use Rattle.split_types.specs.declared.actor.Actor.TheVariants.{Cm}
use Rattle.split_types.specs.declared.buf.Buf.{Buf}
use Rattle.split_types.specs.declared.buf.Buf.TheVariants.{Page, Bitmap, Dir, Inode}
use Rattle.split_types.specs.declared.request.ReqKind.{ReqKind}
use Rattle.split_types.specs.declared.request.ReqKind.TheVariants as kind
use Rattle.split_types.specs.declared.request.Request.{Request}
use Rattle.split_types.specs.declared.workload.Workload.{Workload}
use Rattle.split_types.specs.declared.event.Event.{Event}
use Rattle.split_types.specs.declared.event.Event.TheVariants.{Make, Put, Drop, Map, Seal, Add, Done}
use Rattle.split_types.specs.History.{◌▹◌, adds}
use Rattle.split_types.specs.ByPlace.{IsMetadata}
use Rattle.split_types.specs.OpenDirtyings.{open_at}
use Rattle.split_types.specs.Parents.{buffer_at, home_block, parents_of}
use Rattle.split_types.specs.Sets.{has, union_of}
use Rattle.split_types.specs.Rounds.{seal_place, open_round, round_of, slot_of_txn, seals, last_txn}
use Rattle.split_types.specs.Blame.{blame}
use Rattle.split_types.specs.Transactions.{awaiting_at}
use Rattle.split_types.specs.Transactions.Stage.{Sealed, Logging}
use Rattle.split_types.specs.Committing.{next_of_commit}
use Rattle.split_types.specs.Accepted.{IsAccepted}
use Rattle.split_types.specs.Legal.{IsLegal}
use Rattle.split_types.specs.Proving.Came.{Came, Journals, IsLogOf, IsCommitOf, IsHomeOf, IsClearOf, journal_request}
use Rattle.split_types.specs.Proving.Came.Came.{came_journal}
use Rattle.split_types.specs.Proving.JournalKnown.{AtStage, JournalKnown}
use Rattle.split_types.proofs.Blame.{blame-new}
use Rattle.split_types.proofs.CameLaws.{came}
use Rattle.split_types.proofs.JournalRounds.{buffer_home, takes_at, taken_in_round, round_of_last}
use Rattle.split_types.proofs.JournalStepsAdds.{journal_known}
use Rattle.split_types.proofs.Sets.{union-empty}
use Rattle.proxies.specs.declared.commit.Commit.{Commit}
use Rattle.proxies.specs.declared.commit.Commit.TheVariants.{Idle, Log, Marking, Homes, Clear}
use Rattle.journal_core.specs.Places.{place_in}
use Rattle.journal_core.specs.Slots.{descriptor_at, commit_at}
use Rattle.journal_core.specs.Work.{begun}
use Rattle.journal_core.specs.Journaled.{Journaled, next_home, due_for, due_for_in}
use Rattle.split_core.specs.Journaling.{journal_of, after_event}
use Rattle.split_core.proofs.JournalShown.{WorkShown}
use Rattle.split_core.proofs.JournalTagsKept.{TagsAre, IsInJournal, blamed, seal_blame, tags_stay, tags_none}
use Rattle.split_core.proofs.JournalTagsWaits.{taken, home_is, home_some, home_takes}
use Rattle.split_core.proofs.JournalTagsDirty.{tags_make, tags_drop, tags_map}
use Rattle.split_core.proofs.JournalTagsNext.{IsDue, due_as}
use Rattle.split_core.proofs.JournalTagsSlots.{same_txn, last_there, oldest_there}
use Rattle.split_core.proofs.JournalTagsSeal.{tags_seal}
use Rattle.split_core.proofs.JournalTagsAdd.{tags_add}
use Rattle.split_core.proofs.JournalTagsDone.{tags_done}

-- ---- every legal history
-- the work of the commit thread is shown after each
abbrev pub AllShown : Workload → List (List ℕ) → Type 0
AllShown w images = (g : List Event) → IsLegal w g → WorkShown w g (journal_of w images g)

-- a put dirties no buffer of metadata
put_opens : (h : List Event) (by : Pid) (s : Serial) (g from to fill : ℕ) (b : Buf) → IsMetadata b
    → open_at (h ▹ Put by s g from to fill) b ≡ open_at h b
put_opens h by s g from to fill (Page t k) metadata = absurd metadata
put_opens h by s g from to fill Bitmap metadata = refl
put_opens h by s g from to fill (Dir k) metadata = refl
put_opens h by s g from to fill (Inode slot) metadata = refl

tags_next : (w : Workload) (h : List Event) (e : Event) (j : Journaled (List ℕ)) → IsAccepted w → IsLegal w (h ▹ e)
    → WorkShown w h j → TagsAre h j → TagsAre (h ▹ e) (after_event w h e j)
tags_next w h (Make by slot serial) j accepted legal shown are = tags_make w h by slot serial j accepted legal are
tags_next w h (Drop by slot serial) j accepted legal shown are = tags_drop w h by slot serial j accepted legal are
tags_next w h (Map slot serial page n block new size) j accepted legal shown are =
    tags_map w h slot serial page n block new size j accepted legal are
tags_next w h (Seal t k) j accepted legal shown are = tags_seal w h t k j accepted legal shown are
tags_next w h (Add by r) j accepted legal shown are = tags_add w h by r j accepted legal shown are
tags_next w h (Done k id ok) j accepted legal shown are = tags_done w h k id ok j accepted legal shown are
tags_next w h (Put by serial page from to fill) j accepted legal shown are =
    tags_stay w h (Put by serial page from to fill) j accepted legal.1 (put_opens h by serial page from to fill)
    (record {
      awaits = λ b. refl;
      round = refl;
      sealed = refl;
      journal = refl;
      slot = λ t. refl;
      place = λ t. refl;
    }) are
tags_next w h e j accepted legal shown are =
    tags_stay w h e j accepted legal.1 (λ b metadata. refl)
    (record {
      awaits = λ b. refl;
      round = refl;
      sealed = refl;
      journal = refl;
      slot = λ t. refl;
      place = λ t. refl;
    }) are

pub tags_are : (w : Workload) (images : List (List ℕ)) (h : List Event) → IsAccepted w → IsLegal w h
    → AllShown w images → TagsAre h (journal_of w images h)
tags_are w images [] accepted legal shown = tags_none w images
tags_are w images (h ▹ e) accepted legal shown =
    tags_next w h e (journal_of w images h) accepted legal (shown h legal.1)
    (tags_are w images h accepted legal.1 shown)

-- ---- for whom a request is added
-- what is due for the slot of its transaction
slot_due : (h : List Event) (j : Journaled (List ℕ)) (r : Request) (t : Txn) (slot : ℕ) → TagsAre h j → IsInJournal h t
    → slot ≡ slot_of_txn h t → blame (h ▹ Add Cm r) (length h) ≡ seal_blame h t
    → slice_index_or j.slots slot None ≡ Some (blame (h ▹ Add Cm r) (length h))
slot_due h j r t slot are there same blames =
    ap (λ n. slice_index_or j.slots n None) same ∙ are.slots t there ∙ ap Some (sym blames)

-- the transaction that was sealed last has this slot
last_slot : (h : List Event) (t : Txn) → t.0 ≡ seals h → slot_of_txn h (last_txn h) ≡ slot_of_txn h t
last_slot h t last = ap (slot_of_txn h) (sym (same_txn t (last_txn h) last))

log_due : (w : Workload) (h : List Event) (j : Journaled (List ℕ)) (t : Txn) (first n slot : ℕ) → TagsAre h j
    → JournalKnown w h → IsLogOf h t first n → first ≡ descriptor_at slot
    → slice_index_or j.slots slot None
    ≡ Some (blame (h ▹ Add Cm (journal_request (adds h) (kind.Log t) first n)) (length h))
log_due w h j t first n slot are known is place =
    let at : AtStage h known.cleared (Sealed t is.buffers) = subst (AtStage h known.cleared) is.before known.stands
    in let e = Add Cm (journal_request (adds h) (kind.Log t) first n)
    in slot_due h j (journal_request (adds h) (kind.Log t) first n) t slot are (last_there w h t known at.1 at.2)
    (omega (arith, place, is.place, last_slot h t at.1))
    (blame-new h e ∙ union-empty (map (blame h) (seal_place h t)))

commit_due : (w : Workload) (h : List Event) (j : Journaled (List ℕ)) (t : Txn) (first n slot : ℕ) → TagsAre h j
    → JournalKnown w h → IsCommitOf h t first n → first ≡ commit_at slot
    → slice_index_or j.slots slot None
    ≡ Some (blame (h ▹ Add Cm (journal_request (adds h) (kind.Commit t) first n)) (length h))
commit_due w h j t first n slot are known is place =
    let at : AtStage h known.cleared (Logging t) = subst (AtStage h known.cleared) is.before known.stands
    in let e = Add Cm (journal_request (adds h) (kind.Commit t) first n)
    in slot_due h j (journal_request (adds h) (kind.Commit t) first n) t slot are (last_there w h t known at.1 at.2)
    (omega (arith, place, is.place, last_slot h t at.1))
    (blame-new h e ∙ union-empty (map (blame h) (seal_place h t)))

clear_due : (w : Workload) (h : List Event) (j : Journaled (List ℕ)) (t : Txn) (first n slot : ℕ) → TagsAre h j
    → JournalKnown w h → IsClearOf h t first n → first ≡ commit_at slot
    → slice_index_or j.slots slot None
    ≡ Some (blame (h ▹ Add Cm (journal_request (adds h) (kind.Clear t) first n)) (length h))
clear_due w h j t first n slot are known is place =
    let e = Add Cm (journal_request (adds h) (kind.Clear t) first n)
    in slot_due h j (journal_request (adds h) (kind.Clear t) first n) t slot are (oldest_there w h t known is.oldest)
    (omega (arith, place, is.place))
    (blame-new h e ∙ union-empty (map (blame h) (seal_place h t)))

-- ---- a home request
-- where there are such places, those to blame for them have something together
some_blamed : (h : List Event) (places : List ℕ) → 0 < length places
    → blamed h places ≡ Some (union_of (map (blame h) places))
some_blamed h [] some = absurd (omega (arith, some))
some_blamed h (i ∷ places) some = refl

-- the buffer that goes home next, its place, and an event that it awaits its home for
pub record Home (w : Workload) (h : List Event) (t : Txn) (first : ℕ) : Type 0 where
  pub buffer : Buf
  pub metadata : IsMetadata buffer
  pub some : 1 ≤ first
  pub most : first ≤ 261
  pub buffer_is : buffer_at first ≡ buffer
  pub awaits : 0 < length (awaiting_at h buffer)
  pub takes : awaiting_at h buffer ≡ taken h buffer
  pub round : round_of h t ≡ open_round h

first_of : (places : List ℕ) → 0 < length places → (i : ℕ) × (has places i ≡ true)
first_of [] some = absurd (omega (arith, some))
first_of (i ∷ places) some = (i, or_left (i == i) (has places i) (eq-eqb i i refl))

block_most : (b : Buf) → IsMetadata b → home_block b ≤ 261
block_most (Page s g) metadata = absurd metadata
block_most Bitmap metadata = omega arith
block_most (Dir k) metadata = omega arith
block_most (Inode slot) metadata = omega arith

pub home_at : (w : Workload) (h : List Event) (t : Txn) (first n : ℕ) → IsAccepted w → IsLegal w h
    → IsHomeOf w h t first n → Home w h t first
home_at w h t first n accepted legal is =
    let c = home_is h is.buffer is.awaits
    in let i = first_of (awaiting_at h c.0) c.3
    in let among = taken_in_round w h c.0 i.0 legal c.1 i.1
    in record {
      buffer = c.0;
      metadata = c.1;
      some = omega (arith, is.place, home_some h is.buffer is.awaits);
      most = omega (arith, is.place, c.2, block_most c.0 c.1);
      buffer_is = ap buffer_at (is.place ∙ sym c.2) ∙ buffer_home c.0 c.1;
      awaits = c.3;
      takes = home_takes w h c.0 i.0 accepted legal c.1 is.before i.1;
      round = ap (round_of h) is.last ∙ round_of_last w h (takes_at c.0 i.0) legal among;
    }

home_due : (w : Workload) (h : List Event) (j : Journaled (List ℕ)) (t : Txn) (first n : ℕ) → IsAccepted w
    → IsLegal w h → TagsAre h j → IsHomeOf w h t first n
    → slice_index_or j.round (first - 1) None
    ≡ Some (blame (h ▹ Add Cm (journal_request (adds h) (kind.Home t) first n)) (length h))
home_due w h j t first n accepted legal are is =
    are.round.each (first - 1) (omega (arith, home.some, home.most))
    ∙ ap (λ b. blamed h (awaiting_at h b))
    (ap buffer_at (let at : first - 1 + 1 ≡ first = omega (arith, home.some) in at) ∙ home.buffer_is)
    ∙ some_blamed h (awaiting_at h home.buffer) home.awaits
    ∙ ap (λ l. Some (union_of (map (blame h) l))) (home.takes ∙ sym parents)
    ∙ ap Some (sym (blame-new h e ∙ union-empty (map (blame h) (parents_of h e))))
  where
    e : Event
    e = Add Cm (journal_request (adds h) (kind.Home t) first n)

    home : Home w h t first
    home = home_at w h t first n accepted legal is

    parents : flat_map (λ seal. open_at seal.before (buffer_at first)) (round_of h t) ≡ taken h home.buffer
    parents =
        ap (λ b. flat_map (λ seal. open_at seal.before b) (round_of h t)) home.buffer_is
        ∙ ap (flat_map (λ seal. open_at seal.before home.buffer)) home.round

-- ---- whichever comes next
pub due_is : (w : Workload) (h : List Event) (j : Journaled (List ℕ)) (k : ReqKind) (first n logged : ℕ) (s : Commit ℕ)
    → IsAccepted w → IsLegal w h → TagsAre h j → Journals w h k first n → IsDue s logged (next_home j) k first n
    → due_for_in j s ≡ Some (blame (h ▹ Add Cm (journal_request (adds h) k first n)) (length h))
due_is w h j k first n logged s accepted legal are next due = by_stage s due
  where
    Says : Option (List ℕ) → ReqKind → Type 0
    Says due kind = due ≡ Some (blame (h ▹ Add Cm (journal_request (adds h) kind first n)) (length h))

    by_stage : (s : Commit ℕ) → IsDue s logged (next_home j) k first n → Says (due_for_in j s) k
    by_stage Idle due = absurd due
    by_stage (Log t slot) due =
        subst (Says (slice_index_or j.slots slot None)) (sym due.0)
        (log_due w h j t first n slot are (journal_known w h accepted legal)
        (subst (λ x. Journals w h x first n) due.0 next) due.1)
    by_stage (Marking t slot) due =
        subst (Says (slice_index_or j.slots slot None)) (sym due.0)
        (commit_due w h j t first n slot are (journal_known w h accepted legal)
        (subst (λ x. Journals w h x first n) due.0 next) due.1)
    by_stage (Homes t slot added) due =
        subst (Says (slice_index_or j.round (place_in (next_home j)) None)) (sym due.0)
        (ap (λ o. slice_index_or j.round (place_in o) None) due.1
        ∙ home_due w h j t first n accepted legal are (subst (λ x. Journals w h x first n) due.0 next))
    by_stage (Clear t slot) due =
        subst (Says (slice_index_or j.slots slot None)) (sym due.0)
        (clear_due w h j t first n slot are (journal_known w h accepted legal)
        (subst (λ x. Journals w h x first n) due.0 next) due.1)

-- a request of the commit thread is one of the journal
pub record NextRequest (w : Workload) (h : List Event) (r : Request) : Type 0 where
  pub request_is : r ≡ journal_request (adds h) r.kind r.first r.n
  pub next : Journals w h r.kind r.first r.n

pub next_request : (w : Workload) (h : List Event) (r : Request) → Came w h (Add Cm r) → NextRequest w h r
next_request w h r (came_journal k first n next) = record { request_is = refl; next = next }

pub for_is : (w : Workload) (images : List (List ℕ)) (h : List Event) (r : Request) → IsAccepted w → IsLegal w h
    → AllShown w images → next_of_commit w h ≡ Some (Add Cm r)
    → due_for (journal_of w images h) ≡ Some (blame (h ▹ Add Cm r) (length h))
for_is w images h r accepted legal shown is =
    let j = journal_of w images h
    in let request = next_request w h r (came w h Cm (Add Cm r) is)
    in subst (λ x. due_for j ≡ Some (blame (h ▹ Add Cm x) (length h))) (sym request.request_is)
    (due_is w h j r.kind r.first r.n (length j.logged) (begun j.work) accepted legal
    (tags_are w images h accepted legal shown) request.next (due_as w h j r (shown h legal) is))
