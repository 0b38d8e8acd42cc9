use Rattle.std.proofs.Common.{◌≡◌, ◌<◌, ◌≤◌, length, ◌∙◌, arith}
use Rattle.token_ledger.proofs.PlaceLaws.{freed_none, freed_empty, freed_more, freed_all, length-freed}
use Rattle.token_ledger.proofs.pairs.free_from.Goals as goal

pub loop-at-init : goal.loop-at-init
loop-at-init c = freed_none c.args.places.now c.args.from

pub put-requires-clause-place : goal.put-requires-clause-place
put-requires-clause-place c =
    let places = c.args.places.now in
    let within : c.loop-at.at < length places = omega (arith, c.loop-at-test.true, c.places-at-end.ensures) in
    let low : c.args.from ≤ c.loop-at.at = omega arith in
    rw c.loop-at.invariant (omega (arith, length-freed places c.args.from c.loop-at.at low (omega arith), within))

pub put-requires-clause-empty : goal.put-requires-clause-empty
put-requires-clause-empty c =
    let places = c.args.places.now in
    let within : c.loop-at.at < length places = omega (arith, c.loop-at-test.true, c.places-at-end.ensures) in
    let low : c.args.from ≤ c.loop-at.at = omega arith in
    rw c.loop-at.invariant (freed_empty places c.args.from c.loop-at.at low within ∙ c.requires.empty c.loop-at.at low)

pub loop-at-preserved : goal.loop-at-preserved
loop-at-preserved c =
    let places = c.args.places.now in
    let within : c.loop-at.at < length places = omega (arith, c.loop-at-test.true, c.places-at-end.ensures) in
    let low : c.args.from ≤ c.loop-at.at = omega arith in
    rw (c.put.ensures, c.loop-at.invariant) (freed_more places c.args.from c.loop-at.at low within)

pub returns : goal.returns
returns c =
    let places = c.args.places.now in
    let end : c.loop-at.at ≡ length places =
    omega (arith, c.loop-at-test.false, c.places-at-end.ensures, c.requires.within) in
    c.loop-at.invariant ∙ freed_all places c.args.from c.loop-at.at end
