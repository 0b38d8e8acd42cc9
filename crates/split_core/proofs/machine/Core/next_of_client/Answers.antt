-- A process that awaits a read of a file that is there has no next event.
use Rattle.std.proofs.Common.{◌≡◌, ◌≤◌, true, Option, Some, None, is_some, length, refl, ap, sym, ◌∙◌, subst, arith}
use Rattle.split_types.specs.declared.ids.Serial.{Serial}
use Rattle.split_types.specs.declared.ids.ReqId.{ReqId}
use Rattle.split_types.specs.declared.actor.Actor.TheVariants.{Client}
use Rattle.split_types.specs.FileSizes.{if_live, working_file}
use Rattle.split_types.specs.Clients.{client_state}
use Rattle.split_types.specs.Next.{next}
use Rattle.split_types.specs.Accepted.{IsAccepted}
use Rattle.split_types.specs.History.{adds}
use Rattle.tag_table.specs.Tags.{tags_of}
use Rattle.split_core.specs.declared.note.clients.Client.{Client as Kept}
use Rattle.split_core.specs.StandsFor.{Simulation}
use Rattle.split_core.specs.Awaits.{awaits}
use Rattle.split_core.proofs.AwaitLaws.{awaits_none}
use Rattle.split_core.proofs.NextReads.{adds_small}
use Rattle.split_core.proofs.JournalNotes.{shown}
use Rattle.split_core.proofs.ClientViews.{Synced, seen_from, shows, shows_call, client_next}
use Rattle.split_core.proofs.machine.Core.next_of_client.Goals as goal

-- a file that is found
found : (o : Option Serial) → is_some o ≡ true → (s : Serial) × (o ≡ Some s)
found None is = absurd (cc is)
found (Some s) is = (s, refl)

pub returns-then-is_there : goal.returns-then-is_there
returns-then-is_there c =
    let i = c.self.inside in
    let w = i.workload in
    let h = i.history.events in
    let p = c.args.p in
    let awaiting : awaits h p.0 ≡ true =
    ap (λ (x : Kept). x.awaits) (sym c.client-client.ensures) ∙ c.if-client.true in
    let there : is_some (working_file w h p.0) ≡ true =
    ap (λ (x : Kept). is_some (if_live w h x.file)) (sym c.client-client.ensures)
    ∙ ap (λ (v : Simulation). is_some (if_live v.workload v.history c.client-client.result.now.file)) c.self.view_is
    ∙ sym c.is_there.ensures ∙ c.if-is_there.true in
    let file = found (working_file w h p.0) there in
    sym (awaits_none w h p file.0 c.self.invariant.accepted c.self.invariant.legal awaiting file.1)
    ∙ ap (λ (v : Simulation). next v.workload v.history (Client p)) c.self.view_is

-- the call isn't let in yet
pub returns-in-Some : goal.returns-in-Some
returns-in-Some c =
    let v = c.args.self.now in
    let p = c.args.p in
    let accepted : IsAccepted v.workload =
    subst (λ (s : Simulation). IsAccepted s.workload) c.self.view_is c.self.invariant.accepted in
    c.in-Some.ensures.next (client_state v.workload v.history p)
    (shows_call v.workload v.history p c.progress-progress.result accepted c.progress-progress.ensures)
    ∙ sym (client_next v.workload v.history p c.requires.first c.requires.last)

pub overflow_cast-view-2 : goal.overflow_cast-view-2
overflow_cast-view-2 c =
    let i = c.self.inside in
    omega (
      arith,
      c.len-2.ensures,
      c.self.invariant.parts.book.added,
      adds_small i.workload i.history.events c.self.invariant.accepted c.self.invariant.legal,
    )

-- the journal says which transactions are committed
pub is_safe-requires-clause-committed : goal.is_safe-requires-clause-committed
is_safe-requires-clause-committed c =
    let i = c.self.inside in
    let s = c.self.invariant in
    λ t. (shown i.workload i.history.events i.parts.journaling (tags_of i.parts.tags) s.accepted s.legal
    s.parts.journaling).committed_is t

pub returns : goal.returns
returns c =
    let i = c.self.inside in
    let w = i.workload in
    let h = i.history.events in
    let p = c.args.p in
    let s = client_state w h p in
    let x = c.progress-progress.result in
    let id : ReqId = record { 0 = c.len-2.result } in
    let tags = tags_of i.parts.tags in
    let number : id.0 ≡ adds h = omega (arith, c.len-2.ensures, c.self.invariant.parts.book.added) in
    let run = c.mapped.result in
    let sync : Synced = record { flushable = c.is_written.result; committed = c.is_safe.result } in
    let seen = seen_from w i.parts.pages i.parts.filing tags h p c.len.result run x id sync c.args.self.now
    c.self.view_is c.self.invariant.accepted c.self.invariant.legal c.self.invariant.parts.pages
    c.self.invariant.parts.filing c.progress-progress.ensures c.len.ensures c.mapped.ensures number
    (record { flushable = c.is_written.ensures; committed = c.is_safe.ensures }) in
    let last : p.0 ≤ length w.procs =
    omega (arith, c.requires.last, ap (λ (v : Simulation). length v.workload.procs) c.self.view_is) in
    c.next_event.ensures s (shows w i.parts.pages i.parts.filing tags h p c.len.result run x id sync seen)
    ∙ sym (client_next w h p c.requires.first last)
    ∙ ap (λ (v : Simulation). next v.workload v.history (Client p)) c.self.view_is
