-- No process has made an event.
use Rattle.std.proofs.Common.{◌≡◌, replicate, arith, ◌∙◌, ap}
use Rattle.std.specs.Prelude.{length, slice_get}
use Rattle.std.proofs.lemmas.Grind.{common_steps}
use Rattle.split_core.proofs.ClientNotes.{clients_none}
use Rattle.split_core.proofs.note.clients.Clients.new.Goals as goal

pub returns : goal.returns
returns c =
    let made : c.in_ok-clients.clients.items ≡ replicate c.len.result c.new.result =
    c.in_ok-clients.ensures.items_if_clones_equal (λ y h. grind (arith, common_steps)) in
    let items : c.in_ok-clients.clients.items ≡ replicate (length c.args.w.now.procs) c.new.result = made
    ∙ ap (λ n. replicate n c.new.result) c.len.ensures in
    clients_none c.args.w.now (record { clients = c.in_ok-clients.clients; finished = c.finished_from-finished.result })
    c.new.result items (c.new.ensures c.args.w.now)
    c.finished_from-finished.ensures.most
    (λ i x low below at. c.finished_from-finished.ensures.finished i x low below
    (ap (λ l. slice_get l i) c.deref.ensures.value ∙ at))
    (λ x at. c.finished_from-finished.ensures.left x
    (ap (λ l. slice_get l c.finished_from-finished.result) c.deref.ensures.value ∙ at))
