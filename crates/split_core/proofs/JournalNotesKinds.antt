-- What the journal that is kept stands for after each kind of event.
use Rattle.std.proofs.Common.{◌≡◌, ℕ, ◌<◌, List, [], ◌∷◌, slice_get, inl, inr, ◌⊎◌, Bool, true, false, Some, option_map, refl, ap, sym, ◌∙◌, subst, arith}
use Rattle.std.specs.Prelude.{All}
use Rattle.std.proofs.lemmas.Bool.{cond-true, cond-false}
use Rattle.split_types.specs.declared.ids.Pid.{Pid}
use Rattle.split_types.specs.declared.ids.Serial.{Serial}
use Rattle.split_types.specs.declared.ids.Slot.{Slot}
use Rattle.split_types.specs.declared.ids.Txn.{Txn}
use Rattle.split_types.specs.declared.ids.ReqId.{ReqId}
use Rattle.split_types.specs.declared.actor.Actor.{Actor}
use Rattle.split_types.specs.declared.request.Request.{Request}
use Rattle.split_types.specs.declared.workload.Workload.{Workload}
use Rattle.split_types.specs.declared.event.Event.{Event}
use Rattle.split_types.specs.declared.event.Event.TheVariants.{Make, Drop, Map, Seal, Add, Done}
use Rattle.split_types.specs.History.{◌▹◌}
use Rattle.split_types.specs.Hooks.{dirties}
use Rattle.split_types.specs.Workloads.{first_block}
use Rattle.split_types.specs.Requests.{requests}
use Rattle.split_types.specs.Reads.{request_numbered}
use Rattle.split_types.specs.Transactions.{is_of_commit}
use Rattle.split_types.specs.Accepted.{IsAccepted}
use Rattle.split_types.specs.Legal.{IsLegal}
use Rattle.split_types.proofs.Shared.{known_requests}
use Rattle.cause_set.specs.Tags.{Tags}
use Rattle.proxies.specs.declared.commit.Commit.{Commit}
use Rattle.proxies.specs.declared.commit.Commit.TheVariants.{Idle, Log, Marking, Homes, Clear}
use Rattle.proxies.specs.Causes.{causes_of_writeback}
use Rattle.small_fs.specs.Files.{Files}
use Rattle.small_fs.specs.Metadata.{IsMetadata}
use Rattle.tag_table.specs.declared.table.TableTag.{TableTag}
use Rattle.journal_core.specs.Journaled.{seen, can_seal, after_seal, after_added, after_done, IsOf, IsUnderWay}
use Rattle.split_core.specs.declared.note.journaling.Journaling.{Journaling}
use Rattle.split_core.specs.declared.note.service.Served.{Served}
use Rattle.split_core.specs.Filing.{FilesAre}
use Rattle.split_core.specs.Fits.{Fits}
use Rattle.split_core.specs.Served.{ServedStands, served_for}
use Rattle.split_core.specs.Journaling.{JournalStands, mark_all, is_commit_request}
use Rattle.split_core.proofs.JournalNotes.{stands_next, shown, few_sealed, seal_comes}
use Rattle.split_core.proofs.JournalNotesBlame.{blame_make, blame_drop, blame_map, slot_free, metadata_make, metadata_drop}
use Rattle.split_core.proofs.FilingFilesNotes.{slot_within}

-- ---- changes of files
pub journal_make : (w : Workload) (h : List Event) (by : Pid) (slot : Slot) (serial : Serial) (old new : Journaling)
    (before after : Tags) → Fits w h (Make by slot serial) → JournalStands w old before h
    → seen after new.journal ≡ mark_all (dirties (Make by slot serial)) (by.0 ∷ []) (seen before old.journal)
    → JournalStands w new after (h ▹ Make by slot serial)
journal_make w h by slot serial old new before after fits s marked =
    let client = fits.by by refl
    in let blamed = blame_make h by slot serial client.first (omega (arith, client.last, fits.procs))
    in stands_next w h (Make by slot serial) old new before after s
    (marked ∙ ap (λ set. mark_all (dirties (Make by slot serial)) set (seen before old.journal)) (sym blamed))

pub journal_drop : (w : Workload) (h : List Event) (by : Pid) (slot : Slot) (serial : Serial) (old new : Journaling)
    (before after : Tags) → Fits w h (Drop by slot serial) → JournalStands w old before h
    → seen after new.journal ≡ mark_all (dirties (Drop by slot serial)) (by.0 ∷ []) (seen before old.journal)
    → JournalStands w new after (h ▹ Drop by slot serial)
journal_drop w h by slot serial old new before after fits s marked =
    let client = fits.by by refl
    in let blamed = blame_drop h by slot serial client.first (omega (arith, client.last, fits.procs))
    in stands_next w h (Drop by slot serial) old new before after s
    (marked ∙ ap (λ set. mark_all (dirties (Drop by slot serial)) set (seen before old.journal)) (sym blamed))

-- the event makes or drops a file
abbrev pub MakesOrDrops : Event → Pid → Type 0
MakesOrDrops e by =
    ((slot : Slot) × (serial : Serial) × (e ≡ Make by slot serial))
    ⊎ ((slot : Slot) × (serial : Serial) × (e ≡ Drop by slot serial))

pub changes_metadata : (w : Workload) (h : List Event) (e : Event) (by : Pid) → IsAccepted w → Fits w h e
    → MakesOrDrops e by → All IsMetadata (dirties e)
changes_metadata w h e by accepted fits (inl (slot, serial, is)) =
    let made = subst (Fits w h) is fits
    in subst (λ x. All IsMetadata (dirties x)) (sym is)
    (metadata_make by slot serial (slot_free w h slot.0 made.kind.slot_is))
changes_metadata w h e by accepted fits (inr (slot, serial, is)) =
    let dropped = subst (Fits w h) is fits
    in subst (λ x. All IsMetadata (dirties x)) (sym is)
    (metadata_drop by slot serial (slot_within w h slot serial accepted dropped.legal.1 dropped.kind))

pub journal_changed : (w : Workload) (h : List Event) (e : Event) (by : Pid) (old new : Journaling)
    (before after : Tags) → Fits w h e → JournalStands w old before h
    → seen after new.journal ≡ mark_all (dirties e) (by.0 ∷ []) (seen before old.journal) → MakesOrDrops e by
    → JournalStands w new after (h ▹ e)
journal_changed w h e by old new before after fits s marked (inl (slot, serial, is)) =
    let makes = ap (λ x. mark_all (dirties x) (by.0 ∷ []) (seen before old.journal)) is
    in subst (λ x. JournalStands w new after (h ▹ x)) (sym is)
    (journal_make w h by slot serial old new before after (subst (Fits w h) is fits) s (marked ∙ makes))
journal_changed w h e by old new before after fits s marked (inr (slot, serial, is)) =
    let drops = ap (λ x. mark_all (dirties x) (by.0 ∷ []) (seen before old.journal)) is
    in subst (λ x. JournalStands w new after (h ▹ x)) (sym is)
    (journal_drop w h by slot serial old new before after (subst (Fits w h) is fits) s (marked ∙ drops))

-- the tag of the run that is served
served_by : (h : List Event) (service : Served) (tags : Tags) (t : TableTag) → ServedStands service tags h
    → Some t ≡ causes_of_writeback service.state → served_for h ≡ Some (tags.members t.number)
served_by h service tags t s is =
    sym s.causes_are ∙ ap (option_map (λ (x : TableTag). tags.members x.number)) (sym is)

pub journal_map : (w : Workload) (h : List Event) (slot : Slot) (s : Serial) (g n block : ℕ) (is_new : Bool) (size : ℕ)
    (old new : Journaling) (before after : Tags) (service : Served) (t : TableTag)
    → Fits w h (Map slot s g n block is_new size) → JournalStands w old before h → ServedStands service before h
    → Some t ≡ causes_of_writeback service.state
    → seen after new.journal ≡ mark_all (dirties (Map slot s g n block is_new size)) (before.members t.number)
    (seen before old.journal)
    → JournalStands w new after (h ▹ Map slot s g n block is_new size)
journal_map w h slot s g n block is_new size old new before after service t fits stands serves tag marked =
    let e = Map slot s g n block is_new size
    in let blamed = blame_map h slot s g n block is_new size fits.kind.run (before.members t.number) fits.kind.served
    (served_by h service before t serves tag)
    in stands_next w h e old new before after stands
    (marked ∙ ap (λ set. mark_all (dirties e) set (seen before old.journal)) (sym blamed))

-- ---- the commit thread
pub may_seal : (w : Workload) (h : List Event) (t : Txn) (k : ℕ) (j : Journaling) (tags : Tags) → IsAccepted w
    → Fits w h (Seal t k) → JournalStands w j tags h → can_seal j.journal ≡ true
may_seal w h t k j tags accepted fits s =
    seal_comes w h j tags t k (shown w h j tags accepted fits.legal.1 s) fits.kind.next

pub sealed_few : (w : Workload) (h : List Event) (e : Event) (j : Journaling) (tags : Tags) → IsAccepted w
    → Fits w h e → JournalStands w j tags h → j.journal.work.sealed < 4294967295
sealed_few w h e j tags accepted fits s =
    few_sealed w h (seen tags j.journal) (shown w h j tags accepted fits.legal.1 s) fits.short

pub journal_seal : (w : Workload) (h : List Event) (t : Txn) (k : ℕ) (old new : Journaling) (before after : Tags)
    (fs : Files) → FilesAre w fs h → JournalStands w old before h
    → seen after new.journal ≡ after_seal fs.first fs.slots (seen before old.journal)
    → JournalStands w new after (h ▹ Seal t k)
journal_seal w h t k old new before after fs files s sealed =
    stands_next w h (Seal t k) old new before after s
    (sealed ∙ ap (λ n. after_seal n fs.slots (seen before old.journal)) files.first
    ∙ ap (λ slots. after_seal (first_block w) slots (seen before old.journal)) files.slots)

pub journal_added : (w : Workload) (h : List Event) (by : Actor) (r : Request) (old new : Journaling)
    (before after : Tags) → JournalStands w old before h → is_of_commit r ≡ true
    → seen after new.journal ≡ after_added (seen before old.journal) → JournalStands w new after (h ▹ Add by r)
journal_added w h by r old new before after s of added =
    stands_next w h (Add by r) old new before after s
    (added ∙ sym (cond-true (is_of_commit r) (after_added (seen before old.journal)) (seen before old.journal) of))

-- the request that is done
numbered : (w : Workload) (h : List Event) (id : ReqId) (r : Request) → IsAccepted w → IsLegal w h
    → slice_get (requests h) id.0 ≡ Some r → request_numbered h id ≡ Some r
numbered w h id r accepted legal at = (known_requests w h accepted legal).named id r at

-- the journal waits for it
pub under_way : (w : Workload) (h : List Event) (k : ℕ) (id : ReqId) (ok : Bool) (r : Request) (j : Journaling)
    (tags : Tags) → IsAccepted w → IsLegal w (h ▹ Done k id ok) → JournalStands w j tags h
    → slice_get (requests h) id.0 ≡ Some r → is_of_commit r ≡ true → IsUnderWay j.journal r.kind r.first
under_way w h k id ok r j tags accepted legal s at of =
    let way = (shown w h j tags accepted legal.1 s).done_is k id ok r legal (numbered w h id r accepted legal.1 at) of
    in record { some = way.some; of_stage = by_stage j.journal.work.stage way.of_stage }
  where
    by_stage : (stage : Commit ℕ) → IsOf (seen tags j.journal) stage r.kind r.first
        → IsOf j.journal stage r.kind r.first
    by_stage Idle of = of
    by_stage (Log t slot) of = of
    by_stage (Marking t slot) of = of
    by_stage (Homes t slot added) of = of
    by_stage (Clear t slot) of = of

pub journal_done : (w : Workload) (h : List Event) (k : ℕ) (id : ReqId) (ok : Bool) (r : Request) (old new : Journaling)
    (before after : Tags) → IsAccepted w → IsLegal w h → JournalStands w old before h
    → slice_get (requests h) id.0 ≡ Some r → is_of_commit r ≡ true
    → seen after new.journal ≡ after_done (seen before old.journal) → JournalStands w new after (h ▹ Done k id ok)
journal_done w h k id ok r old new before after accepted legal s at of done =
    stands_next w h (Done k id ok) old new before after s
    (done ∙ sym (cond-true (is_commit_request (request_numbered h id)) (after_done (seen before old.journal))
    (seen before old.journal) (ap is_commit_request (numbered w h id r accepted legal at) ∙ of)))

pub journal_undone : (w : Workload) (h : List Event) (k : ℕ) (id : ReqId) (ok : Bool) (r : Request) (j : Journaling)
    (tags : Tags) → IsAccepted w → IsLegal w h → JournalStands w j tags h
    → slice_get (requests h) id.0 ≡ Some r → is_of_commit r ≡ false → JournalStands w j tags (h ▹ Done k id ok)
journal_undone w h k id ok r j tags accepted legal s at other =
    stands_next w h (Done k id ok) j j tags tags s
    (sym (cond-false (is_commit_request (request_numbered h id)) (after_done (seen tags j.journal))
    (seen tags j.journal) (ap is_commit_request (numbered w h id r accepted legal at) ∙ other)))
