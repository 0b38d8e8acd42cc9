-- Numbers one after another.
use Rattle.std.proofs.Common.{◌≡◌, ℕ, ◌+◌, ◌*◌, ◌^◌, ◌<◌, ◌≤◌, List, [], ◌∷◌, ◌++◌, length, get_or, take, drop, All, refl, sym, ap, ◌∙◌, arith}
use Rattle.std.proofs.Math.Seq.{take-add}
use Rattle.std.proofs.lemmas.List.{take_more, take_at, drop_at, drop-drop, append_assoc, length-append, length-take-le}
use Rattle.std.proofs.lemmas.List.Elements.{All-head, All-tail}
use Rattle.std.proofs.lemmas.List.Concat.{flat_map-append}
use Rattle.split_types.specs.DiskLayout.{number, numbers}
use Rattle.fs_layout.specs.Fields.{number_at, with_bytes}
use Rattle.fs_layout.proofs.FieldLaws.{AreBytes, number_again, number_splits}

pub length-numbers : (ns : List ℕ) → length (numbers ns) ≡ 4 * length ns
length-numbers [] = refl
length-numbers (n ∷ ns) = let more = length-numbers ns in omega arith

-- numbers that fit into their four bytes
abbrev pub AllFit : List ℕ → Type 0
AllFit ns = All (λ n. n < 2 ^ 32) ns

same_front : (m n : ℕ) (xs ys : List ℕ) → m < 2 ^ 32 → n < 2 ^ 32 → number m ++ xs ≡ number n ++ ys → m ≡ n
same_front m n xs ys p q e = sym (number_again m p) ∙ ap (λ (b : List ℕ). number_at b 0) e ∙ number_again n q

same_rest : (m n : ℕ) (xs ys : List ℕ) → number m ++ xs ≡ number n ++ ys → xs ≡ ys
same_rest m n xs ys e = ap (drop 4) e

-- no two lists of numbers are spelled alike
pub same_numbers : (ms ns : List ℕ) → AllFit ms → AllFit ns → numbers ms ≡ numbers ns → ms ≡ ns
same_numbers [] [] p q e = refl
same_numbers [] (n ∷ ns) p q e = absurd cc
same_numbers (m ∷ ms) [] p q e = absurd cc
same_numbers (m ∷ ms) (n ∷ ns) p q e =
    let first = same_front m n (numbers ms) (numbers ns) (All-head (λ k. k < 2 ^ 32) m ms p)
    (All-head (λ k. k < 2 ^ 32) n ns q) e in
    let rest = same_numbers ms ns (All-tail (λ k. k < 2 ^ 32) m ms p) (All-tail (λ k. k < 2 ^ 32) n ns q)
    (same_rest m n (numbers ms) (numbers ns) e) in
    cc

-- ---- writing

pub with_bytes-then : (b x y : List ℕ) (at next : ℕ) → at + length x + length y ≤ length b → next ≡ at + length x
    → with_bytes (with_bytes b at x) next y ≡ with_bytes b at (x ++ y)
with_bytes-then b x y at next within is =
    let front : List ℕ = take at b ++ x in
    let len : length front ≡ at + length x = omega (arith, length-append (take at b) x, length-take-le at b) in
    let first : take next (with_bytes b at x) ≡ front = take_at front (drop (at + length x) b) next (omega arith) in
    let last : drop (next + length y) (with_bytes b at x) ≡ drop (at + length (x ++ y)) b =
    sym (drop-drop (length y) next (with_bytes b at x))
    ∙ ap (λ (z : List ℕ). drop (length y) z) (drop_at front (drop (at + length x) b) next (omega arith))
    ∙ drop-drop (length y) (at + length x) b ∙ ap (λ (n : ℕ). drop n b) (omega (arith, length-append x y)) in
    ap (λ (z : List ℕ). z ++ y ++ drop (next + length y) (with_bytes b at x)) first
    ∙ ap (λ (z : List ℕ). front ++ y ++ z) last ∙ ap (λ (z : List ℕ). z ++ drop (at + length (x ++ y)) b)
    (append_assoc (take at b) x y)

pub put_numbers_more : (old out new vs : List ℕ) (at i v : ℕ) → i < length vs → at + 4 * length vs ≤ length old
    → v ≡ get_or vs i 0 → out ≡ with_bytes old at (numbers (take i vs)) → new ≡ with_bytes out (at + 4 * i) (number v)
    → new ≡ with_bytes old at (numbers (take (i + 1) vs))
put_numbers_more old out new vs at i v lt within is before put =
    let len : length (numbers (take i vs)) ≡ 4 * i = length-numbers (take i vs)
    ∙ ap (λ (n : ℕ). 4 * n) (length-take-le i vs (omega arith)) in
    let more : numbers (take (i + 1) vs) ≡ numbers (take i vs) ++ number v = ap numbers (take_more vs i 0 lt)
    ∙ flat_map-append number (take i vs) (get_or vs i 0 ∷ []) ∙ ap (λ (n : ℕ). numbers (take i vs) ++ number n)
    (sym is) in
    put ∙ ap (λ (b : List ℕ). with_bytes b (at + 4 * i) (number v)) before
    ∙ with_bytes-then old (numbers (take i vs)) (number v) at (at + 4 * i) (omega arith) (omega arith)
    ∙ ap (with_bytes old at) (sym more)

-- ---- reading

pub numbers_more : (b vs ws : List ℕ) (at i v : ℕ) → AreBytes b → at + 4 * i + 4 ≤ length b
    → take (4 * i) (drop at b) ≡ numbers vs → v ≡ number_at b (at + 4 * i) → ws ≡ vs ++ v ∷ []
    → take (4 * (i + 1)) (drop at b) ≡ numbers ws
numbers_more b vs ws at i v bytes within before is more =
    let place : drop (4 * i) (drop at b) ≡ drop (at + 4 * i) b = drop-drop (4 * i) at b in
    let here : take 4 (drop (4 * i) (drop at b)) ≡ number v = ap (take 4) (place
    ∙ number_splits b (at + 4 * i) bytes within) ∙ ap number (sym is) in
    let next : 4 * (i + 1) ≡ 4 * i + 4 = omega arith in
    let spelled : numbers ws ≡ numbers vs ++ number v = ap numbers more ∙ flat_map-append number vs (v ∷ []) in
    ap (λ (n : ℕ). take n (drop at b)) next ∙ take-add (4 * i) 4 (drop at b)
    ∙ ap (λ (x : List ℕ). x ++ take 4 (drop (4 * i) (drop at b))) before
    ∙ ap (λ (x : List ℕ). numbers vs ++ x) here ∙ sym spelled
