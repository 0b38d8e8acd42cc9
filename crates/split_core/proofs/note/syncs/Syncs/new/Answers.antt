-- No page was put, and no call was admitted.
use Rattle.std.proofs.Common.{◌≡◌, replicate, arith, refl, ◌∙◌, ap}
use Rattle.std.specs.Prelude.{length}
use Rattle.std.proofs.lemmas.Grind.{common_steps}
use Rattle.split_core.proofs.SyncSteps.{syncs_none}
use Rattle.split_core.proofs.note.syncs.Syncs.new.Goals as goal

pub returns : goal.returns
returns c =
    let files : c.in_ok-files.files.items ≡ replicate 256 c.new.result =
    c.in_ok-files.ensures.items_if_clones_equal (λ y h. grind (arith, common_steps)) in
    let calls : c.in_ok-calls.calls.items ≡ replicate c.len.result c.none.result =
    c.in_ok-calls.ensures.items_if_clones_equal (λ y h. grind (arith, common_steps)) in
    syncs_none c.args.w.now _ (files ∙ ap (replicate 256) c.new.ensures)
    (calls ∙ ap (λ n. replicate n c.none.result) c.len.ensures ∙ ap (replicate (length c.args.w.now.procs)) c.none.ensures)
    refl
