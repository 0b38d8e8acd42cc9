-- What reading all of an input and writing all of an output do.
use Rattle.std.specs.Prelude.{◌≡◌, ℕ, ◌+◌, List, ◌++◌, length, Option}
use Rattle.std.specs.Io.KnownBytes.{Consumes, Appends}

-- n more bytes were taken, and kept at the end
abbrev pub TakesMore : Option (List ℕ) → Option (List ℕ) → List ℕ → List ℕ → ℕ → Type 0
TakesMore left_before left_now old new n = (more : List ℕ) × Consumes left_before left_now more × (new ≡ old ++ more)
    × (length more ≡ n)

-- one byte more than the limit was taken
abbrev pub TakesOver : Option (List ℕ) → Option (List ℕ) → ℕ → Type 0
TakesOver before now limit = (taken : List ℕ) × Consumes before now taken × (length taken ≡ limit + 1)

-- a front of the bytes was appended
abbrev pub AppendsFront : Option (List ℕ) → Option (List ℕ) → List ℕ → Type 0
AppendsFront old new bytes = (front : List ℕ) × (rest : List ℕ) × (bytes ≡ front ++ rest) × Appends old new front
