-- A request of the commit thread is added by that thread, and is the one that the journal has due.
use Rattle.std.proofs.Common.{◌≡◌, ℕ, List, length, true, Some, refl, ap, sym, ◌∙◌}
use Rattle.std.specs.Prelude.{IsSome, Result, Ok, Err, IfOk}
use Rattle.split_types.specs.declared.actor.Actor.TheVariants.{Cm}
use Rattle.split_types.specs.declared.workload.Workload.{Workload}
use Rattle.split_types.specs.declared.event.Event.{Event}
use Rattle.split_types.specs.declared.event.Event.TheVariants.{Add}
use Rattle.split_types.specs.History.{◌▹◌}
use Rattle.split_types.specs.Hooks.{maker}
use Rattle.split_types.specs.Blame.{blame}
use Rattle.split_types.specs.Next.{next}
use Rattle.split_types.specs.Committing.{next_of_commit}
use Rattle.split_types.specs.Accepted.{IsAccepted}
use Rattle.split_types.specs.Legal.{IsLegal}
use Rattle.split_types.specs.Proving.Came.{Came}
use Rattle.split_types.specs.Proving.Came.Came.{came_enter, came_admit, came_changed, came_exists, came_no_slot}
use Rattle.split_types.specs.Proving.Came.Came.{came_make, came_drop, came_no_file, came_too_big, came_wrote, came_read}
use Rattle.split_types.specs.Proving.Came.Came.{came_fault, came_no_space, came_put, came_get, came_zeros, came_evict}
use Rattle.split_types.specs.Proving.Came.Came.{came_load, came_flushed, came_synced, came_serve, came_skip, came_map}
use Rattle.split_types.specs.Proving.Came.Came.{came_grow, came_add, came_seal, came_journal, came_send, came_done}
use Rattle.split_types.proofs.Shared.{came}
use Rattle.cause_set.specs.Tags.{Tags}
use Rattle.journal_core.specs.Journaled.{next_due, carried, due_for}
use Rattle.split_core.specs.declared.note.journaling.Journaling.{Journaling}
use Rattle.split_core.specs.Journaling.{JournalStands}
use Rattle.split_core.specs.Takings.{Brings, IsTagged, is_commit_add}
use Rattle.split_core.proofs.JournalNotes.{shows, due_comes, carried_is, tag_is}

commit_maker : (w : Workload) (h : List Event) (e : Event) → Came w h e → is_commit_add e ≡ true → maker e ≡ Cm
commit_maker w h e (came_enter p c call out) is = absurd (cc)
commit_maker w h e (came_admit p c call in' out may) is = absurd (cc)
commit_maker w h e (came_changed p c admitted names acted) is = absurd (cc)
commit_maker w h e (came_exists p name admitted idle taken) is = absurd (cc)
commit_maker w h e (came_no_slot p name admitted idle unused none) is = absurd (cc)
commit_maker w h e (came_make p name slot admitted idle unused at) is = absurd (cc)
commit_maker w h e (came_drop p name s working idle) is = absurd (cc)
commit_maker w h e (came_no_file p c admitted none) is = absurd (cc)
commit_maker w h e (came_too_big p name off len fill s working big) is = absurd (cc)
commit_maker w h e (came_wrote p name off len fill s working none) is = absurd (cc)
commit_maker w h e (came_read p name off len s working none) is = absurd (cc)
commit_maker w h e (came_fault p c s piece working left bad) is = absurd (cc)
commit_maker w h e (came_no_space p name off len fill s piece here out none) is = absurd (cc)
commit_maker w h e (came_put p name off len fill s piece here may) is = absurd (cc)
commit_maker w h e (came_get p name off len s piece here held) is = absurd (cc)
commit_maker w h e (came_zeros p name off len s piece here absent none) is = absurd (cc)
commit_maker w h e (came_evict p c s piece here absent t g found) is = absurd (cc)
commit_maker w h e (came_load p c s piece here absent block at) is = absurd (cc)
commit_maker w h e (came_flushed p name s working idle down) is = absurd (cc)
commit_maker w h e (came_synced p name s working acted safe) is = absurd (cc)
commit_maker w h e (came_serve run idle found) is = absurd (cc)
commit_maker w h e (came_skip run at gone) is = absurd (cc)
commit_maker w h e (came_map run free serves there none at) is = absurd (cc)
commit_maker w h e (came_grow run block serves there at short) is = absurd (cc)
commit_maker w h e (came_add run block at there placed long) is = absurd (cc)
commit_maker w h e (came_seal may) is = absurd (cc)
commit_maker w h e (came_journal kind first n j) is = refl
commit_maker w h e (came_send r free picked) is = absurd (cc)
commit_maker w h e (came_done k r flies) is = absurd (cc)

-- it is the next event of the commit thread
pub commit_comes : (w : Workload) (h : List Event) (e : Event) → IsLegal w (h ▹ e) → is_commit_add e ≡ true
    → next_of_commit w h ≡ Some e
commit_comes w h e legal is =
    ap (next w h) (sym (commit_maker w h e (came w h (maker e) e legal.0) is)) ∙ legal.0

-- the journal has a request due
pub due_some : (w : Workload) (h : List Event) (e : Event) (j : Journaling) (tags : Tags) → IsAccepted w
    → IsLegal w (h ▹ e) → JournalStands w j tags h → is_commit_add e ≡ true → IsSome (next_due j.journal true)
due_some w h (Add by r) j tags accepted legal s is =
    let cm : by ≡ Cm = commit_maker w h (Add by r) (came w h by (Add by r) legal.0) is
    in due_comes w h j tags r (shows w h j tags accepted legal.1 s).work
    (commit_comes w h (Add by r) legal is ∙ ap (λ a. Some (Add a r)) cm)
due_some w h e j tags accepted legal s is = absurd (cc)

-- what it carries is what such a request brings
pub brings_carried : (w : Workload) (h : List Event) (e : Event) (j : Journaling) (tags : Tags) (bytes : List ℕ)
    → IsAccepted w → IsLegal w (h ▹ e) → JournalStands w j tags h → is_commit_add e ≡ true
    → bytes ≡ carried j.journal → Brings w h e bytes
brings_carried w h (Add by r) j tags bytes accepted legal s is carries =
    let cm : by ≡ Cm = commit_maker w h (Add by r) (came w h by (Add by r) legal.0) is
    in λ writes. carries ∙ carried_is w h j tags r (shows w h j tags accepted legal.1 s).due
    (commit_comes w h (Add by r) legal is ∙ ap (λ a. Some (Add a r)) cm)
brings_carried w h e j tags bytes accepted legal s is carries = absurd (cc)

-- and the members of its tag are those to blame
pub tagged : (w : Workload) (h : List Event) (e : Event) (j : Journaling) (tags : Tags) (t : ℕ) (set : List ℕ)
    → IsAccepted w → IsLegal w (h ▹ e) → JournalStands w j tags h → is_commit_add e ≡ true
    → Some t ≡ due_for j.journal → set ≡ tags.members t → IsTagged h e set
tagged w h (Add by r) j tags t set accepted legal s is for members =
    let cm : by ≡ Cm = commit_maker w h (Add by r) (came w h by (Add by r) legal.0) is
    in members ∙ tag_is w h j tags r t (shows w h j tags accepted legal.1 s).due
    (commit_comes w h (Add by r) legal is ∙ ap (λ a. Some (Add a r)) cm) for
    ∙ ap (λ a. blame (h ▹ Add a r) (length h)) (sym cm)
tagged w h e j tags t set accepted legal s is for members = absurd (cc)

-- so are the bytes that are made of it, if there is memory for them
pub content_brings : {T E : Type 0} (w : Workload) (h : List Event) (e : Event) (j : Journaling) (tags : Tags)
    (made : Result T E) (bytes : T → List ℕ) → IsAccepted w → IsLegal w (h ▹ e) → JournalStands w j tags h
    → IfOk made (λ x. bytes x ≡ carried j.journal)
    → IfOk made (λ x. is_commit_add e ≡ true → Brings w h e (bytes x))
content_brings w h e j tags (Ok x) bytes accepted legal s carries =
    λ is. brings_carried w h e j tags (bytes x) accepted legal s is carries
content_brings w h e j tags (Err x) bytes accepted legal s carries = tt
