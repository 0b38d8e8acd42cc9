use Rattle.std.proofs.Common.{None, ap, ◌∙◌, length-set, get_or-set_same}
use Rattle.std.specs.Option.{option_map}
use Rattle.std.proofs.lemmas.List.{set-set}
use Rattle.fixed_places.specs.Chains.{Chained}
use Rattle.page_cache.specs.Pins.{chain_of}
use Rattle.page_cache.proofs.PinLaws.{pins-set, pins-inside}
use Rattle.page_cache.proofs.pins.Pins.set.Goals as goal

pub unlink-requires : goal.unlink-requires
unlink-requires c =
    pins-inside c.self.inside.chains c.self.inside.pins.items c.args.at c.self.invariant (rw c.self.view_is c.requires)

pub link-requires-clause-place : goal.link-requires-clause-place
link-requires-clause-place c =
    rw (c.unlink.ensures, length-set c.self.inside.chains.places c.args.at None)
    (pins-inside c.self.inside.chains c.self.inside.pins.items c.args.at c.self.invariant
    (rw c.self.view_is c.requires))

pub link-requires-clause-empty : goal.link-requires-clause-empty
link-requires-clause-empty c =
    rw c.unlink.ensures
    (get_or-set_same c.self.inside.chains.places c.args.at None None
    (pins-inside c.self.inside.chains c.self.inside.pins.items c.args.at c.self.invariant
    (rw c.self.view_is c.requires)))

pub link-requires-clause-count : goal.link-requires-clause-count
link-requires-clause-count c = ap (λ (v : Chained). v.count) c.unlink.ensures ∙ c.self.invariant.count

pub invariant_of-self : goal.invariant_of-self
invariant_of-self c =
    rw (
      c.link.ensures,
      c.unlink.ensures,
      set-set c.self.inside.chains.places c.args.at None
          (option_map chain_of c.args.pin),
    )
    (pins-set c.self.inside.chains c.self.inside.pins.items c.args.at c.args.pin c.self.invariant)
