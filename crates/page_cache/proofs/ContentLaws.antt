-- What holds of bytes that are all the same.
use Rattle.std.proofs.Common.{◌≡◌, ℕ, ◌+◌, ◌-◌, ◌*◌, ◌≤◌, List, [], ◌++◌, take, drop, length, replicate, arith, refl, ap, sym, ◌∙◌}
use Rattle.std.specs.Prelude.{sum, slice_range, Result, Ok, Err, IsOk, is_ok, if◌then◌else◌}
use Rattle.std.proofs.lemmas.List.{take-replicate, drop-replicate, replicate-append-replicate, drop_all, take_all, append-nil}
use Rattle.std.proofs.lemmas.List.Folds.{sum_by-replicate}
use Rattle.page_cache.specs.Bytes.{filled}

-- bytes that are filled whole
pub filled-whole : (bytes : List ℕ) (from to byte : ℕ) → length bytes ≡ 4096 → to ≤ 4096 → to - from ≡ 4096
    → replicate 4096 byte ≡ filled bytes from to byte
filled-whole bytes from to byte len within all =
    let first : from ≡ 0 = omega (arith, within, all) in
    let last : to ≡ 4096 = omega (arith, within, all) in
    let rest : drop 4096 bytes ≡ [] = drop_all 4096 bytes (omega (arith, len)) in
    rw (first, last, rest, append-nil (replicate 4096 byte)) refl

-- bytes that are filled with what they are
pub filled-same : (from to byte : ℕ) → from ≤ to → to ≤ 4096
    → replicate 4096 byte ≡ filled (replicate 4096 byte) from to byte
filled-same from to byte order within =
    let whole : from + (to - from) + (4096 - to) ≡ 4096 = omega (arith, order, within) in
    let all = replicate 4096 byte in
    let first : take from all ≡ replicate from byte = take-replicate from 4096 byte (omega (arith, order, within)) in
    let last : drop to all ≡ replicate (4096 - to) byte = drop-replicate to 4096 byte in
    sym
    (ap (λ xs. xs ++ replicate (to - from) byte ++ drop to all) first
    ∙ ap (λ xs. replicate from byte ++ replicate (to - from) byte ++ xs) last
    ∙ ap (λ xs. xs ++ replicate (4096 - to) byte) (replicate-append-replicate from (to - from) byte)
    ∙ replicate-append-replicate (from + (to - from)) (4096 - to) byte
    ∙ ap (λ n. replicate n byte) whole)

-- the sum of some of them
pub sum-range : (from to byte : ℕ) → from ≤ to → to ≤ 4096
    → (to - from) * byte ≡ sum (slice_range (replicate 4096 byte) from to)
sum-range from to byte order within =
    let rest : take (to - from) (drop from (replicate 4096 byte)) ≡ replicate (to - from) byte =
    ap (take (to - from)) (drop-replicate from 4096 byte)
    ∙ take-replicate (to - from) (4096 - from) byte (omega (arith, order, within)) in
    sym (ap sum rest ∙ sum_by-replicate (λ n. n) (to - from) byte)

-- a list that is filled up
pub resized : {X E : Type 0} (r : Result X E) (old new : List ℕ) (len n count byte : ℕ)
    → new ≡ (if is_ok r then take n old ++ replicate (n - len) byte else old)
    → IsOk r → n ≡ len + count → len ≡ length old → new ≡ old ++ replicate count byte
resized (Err e) old new len n count byte is ok more is_len = absurd (cc)
resized (Ok x) old new len n count byte is ok more is_len =
    let whole : take n old ≡ old = take_all n old (omega (arith, more, is_len)) in
    let rest : n - len ≡ count = omega (arith, more) in
    is ∙ ap (λ xs. xs ++ replicate (n - len) byte) whole ∙ ap (λ m. old ++ replicate m byte) rest
