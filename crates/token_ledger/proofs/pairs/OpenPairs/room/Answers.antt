use Rattle.std.proofs.Common.{◌≡◌, ◌+◌, ◌≤◌, ◌^◌, length, ap, arith}
use Rattle.token_ledger.specs.declared.pairs.Owed.{Owed}
use Rattle.token_ledger.specs.Places.{OpenOnes}
use Rattle.token_ledger.proofs.PlaceLaws.{wider_places, wider_owed, places_wider, pairs_wider}
use Rattle.token_ledger.proofs.pairs.OpenPairs.room.Goals as goal

pub invariant_of-self-2 : goal.invariant_of-self-2
invariant_of-self-2 c =
    let i = c.self.inside in
    let n = c.max-more.result in
    let nothing : Owed = record { by = record { 0 = 0 }; estimate = 0 } in
    let owed_len = c.self.invariant.owed_len in
    let len : c.places-places.result ≡ length i.places = c.places-places.ensures in
    let few : length i.places + n ≤ 2 ^ 32 = omega (arith, len, c.if-more-places.false, c.self.invariant.few) in
    rw (
      wider_places i.places c.in_ok-wider.wider c.free_from.new.places c.places-places.result n len
          c.in_ok-wider.ensures c.free_from.ensures,
      wider_owed i.owed.items c.resize.new.self.items c.places-places.result n i.owed.len nothing (omega arith)
          (omega (arith, i.owed.ok.0)) c.in_ok-resize.ensures.items,
    )
    (places_wider i.places i.owed.items i.free n nothing c.self.invariant few)

pub returns-clause-pairs : goal.returns-clause-pairs
returns-clause-pairs c =
    let i = c.self.inside in
    let n = c.max-more.result in
    let nothing : Owed = record { by = record { 0 = 0 }; estimate = 0 } in
    let owed_len = c.self.invariant.owed_len in
    let len : c.places-places.result ≡ length i.places = c.places-places.ensures in
    rw (
      wider_places i.places c.in_ok-wider.wider c.free_from.new.places c.places-places.result n len
          c.in_ok-wider.ensures c.free_from.ensures,
      wider_owed i.owed.items c.resize.new.self.items c.places-places.result n i.owed.len nothing (omega arith)
          (omega (arith, i.owed.ok.0)) c.in_ok-resize.ensures.items,
      pairs_wider i.places i.owed.items n nothing owed_len,
    )
    (ap (λ (p : OpenOnes). p.pairs) c.self.view_is)
