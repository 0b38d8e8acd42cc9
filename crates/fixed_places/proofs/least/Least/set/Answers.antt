use Rattle.std.proofs.Common.{◌∙◌, ◌≡◌, ◌+◌, ◌<◌, ◌/◌, None, ap, drop, length, get_or, set, sym, subst, arith}
use Rattle.std.proofs.lemmas.List.{drop-set-add, length-drop, get_or_default}
use Rattle.std.proofs.lemmas.Grind.{common_steps}
use Rattle.fixed_places.proofs.TreeLaws.{node_before}
use Rattle.fixed_places.proofs.least.Least.set.Goals as goal

pub climb-requires-clause-parent : goal.climb-requires-clause-parent
climb-requires-clause-parent g c =
    let i = c.self.inside in
    let nodes = i.nodes.items in
    let leaf = i.places + c.args.at in
    let within : leaf < length nodes =
    omega (arith, ap length c.self.view_is, length-drop i.places nodes, c.requires, c.self.invariant.len) in
    let was : c.replace-was.result ≡ get_or nodes leaf None = c.replace-was.ensures.value ∙ c.index_mut.ensures.value
    ∙ get_or_default nodes leaf c.index_mut.result.now None within in
    λ some. node_before g.K.Ord.cmp nodes i.places leaf c.replace-was.new.dest c.replace-was.result some
    (omega (arith, within, c.self.invariant.len)) was
    (λ n first last apart. c.self.invariant.node n first last)

pub returns : goal.returns
returns g c =
    c.climb.ensures.leaves
    ∙ ap (λ key. drop c.self.inside.places (set c.self.inside.nodes.items (c.self.inside.places + c.args.at) key))
    c.replace-was.ensures.after
    ∙ drop-set-add c.self.inside.places c.self.inside.nodes.items c.args.at c.args.key
    ∙ ap (λ keys. set keys c.args.at c.args.key) c.self.view_is
