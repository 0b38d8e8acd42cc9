-- One block of metadata more, up to the last.
use Rattle.std.proofs.Common.{◌≡◌, ◌+◌, ap, ◌++◌, ◌∙◌, sym, map, arith}
use Rattle.std.specs.List.{flat_map, range_with_len}
use Rattle.split_types.specs.History.{older}
use Rattle.split_types.specs.OpenDirtyings.{open_at}
use Rattle.split_types.specs.Parents.{buffer_at}
use Rattle.provenance.proofs.Runs.{run-more, all-metadata}
use Rattle.provenance.proofs.parentage.open_metadata.Goals as goal

pub loop-k-preserved : goal.loop-k-preserved
loop-k-preserved g c =
    let walk = open_at (older c.args.h.now.events c.args.count) in
    run-more walk buffer_at 1 c.loop-k.k (c.loop-k.k + 1) c.loop-k.places c.open_before.new.places
    (c.in_ok-open_before.ensures ∙ ap (λ b. c.loop-k.places ++ walk b) c.block_target.ensures) c.loop-k.invariant
    (omega arith)

pub returns : goal.returns
returns g c =
    let walk = open_at (older c.args.h.now.events c.args.count) in
    let all : c.loop-k.k ≡ 261 = omega arith in
    c.loop-k.invariant ∙ ap (λ n. flat_map walk (map buffer_at (range_with_len 1 n))) all
    ∙ ap (flat_map walk) (sym all-metadata)
