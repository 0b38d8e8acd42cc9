use Rattle.std.proofs.Common.{ap, sym, ◌∙◌, map}
use Rattle.token_ledger.specs.Books.{marked}
use Rattle.token_ledger.specs.Places.{OpenOnes}
use Rattle.token_ledger.proofs.PlaceLaws.{pair_marked, places_marked, all_marked, fewer_unmarked}
use Rattle.token_ledger.proofs.pairs.OpenPairs.mark.Goals as goal

pub loop-at-init : goal.loop-at-init
loop-at-init c =
    record {
      places = c.self.invariant;
      pairs = ap (λ (p : OpenOnes). map (marked c.args.buf c.args.id) p.pairs) c.self.view_is;
      spare = ap (λ (p : OpenOnes). p.spare) c.self.view_is;
    }

pub loop-at-preserved : goal.loop-at-preserved
loop-at-preserved c =
    let i = c.loop-at.self-inside in
    let kept = c.loop-at.invariant in
    rw (c.put.ensures, c.in-Some.ensures.rest)
    (record {
      places = places_marked i.places i.owed.items i.free c.in-Some.at c.args.buf c.args.id kept.places
          c.in-Some.ensures.place;
      pairs = pair_marked i.places i.owed.items c.in-Some.at c.args.buf c.args.id kept.places.owed_len
          c.in-Some.ensures.place ∙ kept.pairs;
      spare = kept.spare;
    })

pub loop-at-smaller : goal.loop-at-smaller
loop-at-smaller c =
    let i = c.loop-at.self-inside in
    rw (c.put.ensures, c.in-Some.ensures.rest)
    (fewer_unmarked i.places c.in-Some.at c.args.buf c.args.id c.in-Some.ensures.place)

pub returns-clause-pairs : goal.returns-clause-pairs
returns-clause-pairs c =
    let i = c.loop-at.self-inside in
    rw (c.in_default.ensures.same)
    (sym (all_marked i.places i.owed.items c.args.buf c.args.id c.in_default.ensures.none) ∙ c.loop-at.invariant.pairs)
