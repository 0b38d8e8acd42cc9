use Rattle.std.proofs.Common.{◌≡◌, ◌+◌, ◌*◌, ◌/◌, ◌<◌, ◌∙◌, length, get_or, set, None, ap, arith, length-set}
use Rattle.std.proofs.lemmas.Grind.{common_steps}
use Rattle.std.proofs.lemmas.List.{drop-set-lt, get_or_default}
use Rattle.fixed_places.proofs.TreeLaws.{node_made, node_before}
use Rattle.fixed_places.proofs.least.mend.Goals as goal

pub returns-clause-len : goal.returns-clause-len
returns-clause-len g c = length-set c.args.nodes.now.items c.args.at _ ∙ c.requires.len

pub returns-clause-leaves : goal.returns-clause-leaves
returns-clause-leaves g c = drop-set-lt c.args.places c.args.nodes.now.items c.args.at _ c.requires.within

pub returns-clause-others : goal.returns-clause-others
returns-clause-others g c =
    let nodes = c.args.nodes.now.items in
    let at = c.args.at in
    let left : c.index.result.now ≡ get_or nodes (2 * at) None = grind (arith, common_steps) in
    let right : c.index-2.result.now ≡ get_or nodes (2 * at + 1) None = grind (arith, common_steps) in
    let lesser = rw (left, right) at c.lesser-made.ensures in
    rw c.replace.ensures.after
    (node_made g.K.Ord.cmp nodes c.args.places at c.lesser-made.result c.requires.some c.requires.within c.requires.len
    lesser c.requires.others)

pub returns-clause-parent : goal.returns-clause-parent
returns-clause-parent g c =
    let nodes = c.args.nodes.now.items in
    let at = c.args.at in
    let inside : at < length nodes = omega (arith, c.requires.within, c.requires.len) in
    let was : c.replace.result ≡ get_or nodes at None = c.replace.ensures.value ∙ c.index_mut.ensures.value
    ∙ get_or_default nodes at c.index_mut.result.now None inside in
    λ some. node_before g.K.Ord.cmp nodes c.args.places at c.replace.new.dest c.replace.result some
    (omega (arith, c.requires.within)) was c.requires.others
