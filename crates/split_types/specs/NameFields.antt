-- The fields of a name.
use Rattle.std.specs.Prelude.{◌≡◌, length, take}
use Rattle.std.proofs.Common.{ap, ◌∙◌}
use Rattle.split_types.specs.Names.{padded, IsPadded, length-front, padded-front}
use Rattle.split_types.specs.declared.name.Name.TheInside.{Inside}

-- the fields that a name's bytes give back
pub fields_back : (a : Inside) → IsPadded a.bytes a.len
    → (let b : Inside = record { bytes = padded (take a.len a.bytes); len = length (take a.len a.bytes) } in b ≡ a)
fields_back a h =
    let first =
    ap (λ bytes. let b : Inside = record { bytes = bytes; len = length (take a.len a.bytes) } in b)
    (padded-front a.bytes a.len h)
    in
    first ∙ ap (λ len. let b : Inside = record { bytes = a.bytes; len = len } in b) (length-front a.bytes a.len h)
