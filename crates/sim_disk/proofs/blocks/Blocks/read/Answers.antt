use Rattle.std.proofs.Common.{◌≡◌, ◌+◌, ◌-◌, ◌*◌, ◌<◌, length, arith, ap, sym, ◌∙◌}
use Rattle.std.proofs.lemmas.List.{length-map}
use Rattle.sim_disk.specs.Bytes.{block_of}
use Rattle.sim_disk.specs.Runs.{bytes_in, content}
use Rattle.sim_disk.proofs.Filled.{length-filled}
use Rattle.sim_disk.proofs.RunLaws.{block_at-content}
use Rattle.sim_disk.proofs.blocks.Blocks.read.Goals as goal

pub returns-in-Filled-clause-len : goal.returns-in-Filled-clause-len
returns-in-Filled-clause-len c = ap length c.of.ensures ∙ length-filled c.in-Filled.byte

pub returns-in-Within-clause-bytes : goal.returns-in-Within-clause-bytes
returns-in-Within-clause-bytes c =
    let at = c.in-Within.at in
    let from : at * 4096 ≡ 4096 * at = omega arith in
    let len : at * 4096 + 4096 - at * 4096 ≡ 4096 = omega arith in
    let places = c.self.inside.places.items in
    let runs = c.self.inside.runs in
    let inside : c.args.b < length places = omega (
      arith,
      c.requires,
      ap (λ s. length s.blocks) c.self.view_is,
      length-map places (content runs),
    ) in
    rw (len, from, c.deref.ensures.value, ← c.self.view_is)
    (sym (block_at-content places runs c.args.b c.index.result.now inside c.index.ensures
    ∙ ap (content runs) c.in-Within.is ∙ ap (λ run. block_of (bytes_in run) at) c.index-in-Within.ensures))
