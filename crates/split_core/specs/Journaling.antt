-- The journal as events come, and what the one that is kept has to do with a history.
use Rattle.std.specs.Prelude.{◌≡◌, ℕ, ◌+◌, ◌&&◌, List, [], ◌∷◌, length, replicate, Bool, false, not, Option, Some, None, if◌then◌else◌}
use Rattle.split_types.specs.declared.actor.Actor.TheVariants.{Cm}
use Rattle.split_types.specs.declared.buf.Buf.{Buf}
use Rattle.split_types.specs.declared.request.Request.{Request}
use Rattle.split_types.specs.declared.workload.Workload.{Workload}
use Rattle.split_types.specs.declared.event.Event.{Event}
use Rattle.split_types.specs.declared.event.Event.TheVariants.{Make, Drop, Map, Seal, Add, Done}
use Rattle.split_types.specs.History.{◌▹◌}
use Rattle.split_types.specs.Hooks.{dirties}
use Rattle.split_types.specs.Blame.{blame}
use Rattle.split_types.specs.Reads.{request_numbered}
use Rattle.split_types.specs.Workloads.{first_block}
use Rattle.split_types.specs.FileSlots.{live_files}
use Rattle.split_types.specs.Transactions.{journal_slots, is_of_commit}
use Rattle.cause_set.specs.Tags.{Tags}
use Rattle.journal_core.specs.declared.work.Due.{Due}
use Rattle.journal_core.specs.Places.{place_of}
use Rattle.journal_core.specs.Work.{no_work, txn}
use Rattle.journal_core.specs.Journaled.{Journaled, seen, held_by, with_mark, after_seal, after_added, after_done, next_due, can_seal, marked_count}
use Rattle.split_core.specs.declared.note.journaling.Journaling.{Journaling}

-- ---- the journal as events come

-- nothing was marked or sealed yet, in a journal of so many slots
abbrev pub empty_journal : ℕ → List (List ℕ) → Journaled (List ℕ)
empty_journal slots images = record {
  marks = replicate 261 None;
  round = replicate 261 None;
  slots = replicate slots None;
  images = images;
  logged = [];
  work = no_work;
}

-- these buffers of metadata were marked for further processes
abbrev pub mark_all : List Buf → List ℕ → Journaled (List ℕ) → Journaled (List ℕ)
mark_all [] more j = j
mark_all (b ∷ bs) more j = mark_all bs more (with_mark (place_of b) more j)

-- the request of a number, if there is one, is one of the commit thread
abbrev pub is_commit_request : Option Request → Bool
is_commit_request None = false
is_commit_request (Some r) = is_of_commit r

-- the journal after an event: a change of files marks the buffers that it dirties for those to blame for it, a seal takes
-- all that are marked, and each request of the commit thread is added and done
abbrev pub after_event : Workload → List Event → Event → Journaled (List ℕ) → Journaled (List ℕ)
after_event w h (Make by slot serial) j =
    mark_all (dirties (Make by slot serial)) (blame (h ▹ Make by slot serial) (length h)) j
after_event w h (Drop by slot serial) j =
    mark_all (dirties (Drop by slot serial)) (blame (h ▹ Drop by slot serial) (length h)) j
after_event w h (Map slot serial page n block new size) j =
    mark_all (dirties (Map slot serial page n block new size))
    (blame (h ▹ Map slot serial page n block new size) (length h)) j
after_event w h (Seal t k) j = after_seal (first_block w) (live_files w h) j
after_event w h (Add by r) j = if is_of_commit r then after_added j else j
after_event w h (Done k id ok) j = if is_commit_request (request_numbered h id) then after_done j else j
after_event w h e j = j

-- the journal after a history; before any event it has these images
abbrev pub journal_of : Workload → List (List ℕ) → List Event → Journaled (List ℕ)
journal_of w images [] = empty_journal (journal_slots w) images
journal_of w images (h ▹ e) = after_event w h e (journal_of w images h)

-- ---- the journal that is kept

-- it is the journal after the history, with the members of its tags
pub record JournalStands (w : Workload) (j : Journaling) (tags : Tags) (h : List Event) : Type 0 where
  pub images : List (List ℕ)
  pub many : length images ≡ 261
  pub journal_is : seen tags j.journal ≡ journal_of w images h

-- the uses of tags that it holds
abbrev pub held_by_journal : Journaling → ℕ → ℕ
held_by_journal j n = held_by j.journal n

-- ---- what comes next

-- the request that is due is added
abbrev pub add_of_due : ℕ → Due → Event
add_of_due adds due =
    Add Cm (record { id = record { 0 = adds }; kind = due.kind; first = due.first; n = due.n })

-- the seal of the next transaction, where one is due, and no map waits for its request
abbrev pub seal_of : {C : Type 0} → Journaled C → Bool → Option Event
seal_of j map_waits =
    if can_seal j && not map_waits then Some (Seal (txn (j.work.sealed + 1)) (marked_count j)) else None

-- the next event of the commit thread by what the journal is: the request that is due, or else a seal
abbrev pub next_by : {C : Type 0} → Journaled C → Bool → Bool → ℕ → Option Event
next_by j all_returned map_waits adds =
    elim (next_due j all_returned) [ Some due ↦ Some (add_of_due adds due) | None ↦ seal_of j map_waits ]
