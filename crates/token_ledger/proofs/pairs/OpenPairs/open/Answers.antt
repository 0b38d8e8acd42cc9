use Rattle.std.proofs.Common.{◌≡◌, ap, subst, arith, Option, IfSome, ℕ}
use Rattle.fixed_places.specs.Groups.{HasKey}
use Rattle.token_ledger.specs.declared.place.Place.TheVariants.{Free}
use Rattle.token_ledger.specs.Places.{OpenOnes}
use Rattle.token_ledger.proofs.PlaceLaws.{some_free, pair_opened, places_opened}
use Rattle.token_ledger.proofs.pairs.OpenPairs.open.Goals as goal

pub unwrap-at-requires : goal.unwrap-at-requires
unwrap-at-requires c =
    let i = c.self.inside in
    let free : i.free ≡ c.args.self.now.spare = ap (λ (p : OpenOnes). p.spare) c.self.view_is in
    some_free i.places i.owed.items i.free c.take.result c.self.invariant
    (omega (arith, free, c.requires)) c.take.ensures.none

pub invariant_of-self : goal.invariant_of-self
invariant_of-self c =
    let i = c.self.inside in
    let q = c.args.pair in
    let here : HasKey i.places Free c.unwrap-at.result =
    subst (λ (found : Option ℕ). IfSome found (HasKey i.places Free)) c.unwrap-at.ensures c.take.ensures.place in
    let rest = rw c.unwrap-at.ensures at c.take.ensures.rest in
    rw (c.put.ensures, rest)
    (places_opened i.places i.owed.items i.free c.unwrap-at.result q.buf q.mark
    (record { by = q.by; estimate = q.estimate }) c.self.invariant here)

pub returns-clause-pairs : goal.returns-clause-pairs
returns-clause-pairs c =
    let i = c.self.inside in
    let here : HasKey i.places Free c.unwrap-at.result =
    subst (λ (found : Option ℕ). IfSome found (HasKey i.places Free)) c.unwrap-at.ensures c.take.ensures.place in
    let rest = rw c.unwrap-at.ensures at c.take.ensures.rest in
    rw (c.put.ensures, rest, ← c.self.view_is)
    (pair_opened i.places i.owed.items c.unwrap-at.result c.args.pair c.self.invariant.owed_len here)
