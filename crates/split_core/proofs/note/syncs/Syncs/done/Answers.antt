-- Where no process has an fsync, none is changed.
use Rattle.std.proofs.Common.{◌≡◌, ap, sym, ◌∙◌, arith}
use Rattle.split_core.specs.declared.note.syncs.Syncs.{Syncs}
use Rattle.split_core.specs.Syncs.{call_done}
use Rattle.split_core.proofs.SyncNotes.{map_none, undone}
use Rattle.split_core.proofs.note.syncs.Syncs.done.Goals as goal
use Rattle.split_core.proofs.note.syncs.Syncs.done.Goals.{in-Some, in_default}

pub returns-else-self-gt0-clause-calls : goal.returns-else-self-gt0-clause-calls
returns-else-self-gt0-clause-calls c =
    let kept : c.match-at.self.calls ≡ c.args.self.now.calls = elim c.match-at.branch [
      | in-Some w ↦ ap (λ (s : Syncs). s.calls) w.self-is
      | in_default w ↦ ap (λ (s : Syncs). s.calls) w.self-is
    ]
    in let same : c.match-at.self.admitted ≡ c.args.self.now.admitted = elim c.match-at.branch [
      | in-Some w ↦ ap (λ (s : Syncs). s.admitted) w.self-is
      | in_default w ↦ ap (λ (s : Syncs). s.admitted) w.self-is
    ]
    in ap (λ v. v.items) kept
    ∙ sym (map_none (call_done c.args.serial c.args.page c.args.n) c.args.self.now.calls.items
    (omega (arith, c.requires.admitted, c.if-self-gt0.false, same)) (undone c.args.serial c.args.page c.args.n))
