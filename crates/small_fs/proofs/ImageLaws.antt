-- The blocks of metadata.
use Rattle.std.proofs.Common.{◌≡◌, ℕ, ◌+◌, ◌*◌, ◌<◌, ◌≤◌, List, [], ◌++◌, ◌∷◌, length, get_or, take, sym, ap, ◌∙◌, arith}
use Rattle.std.specs.Prelude.{flat_map}
use Rattle.std.proofs.lemmas.List.{take_more, append-nil}
use Rattle.std.proofs.lemmas.List.Concat.{flat_map-append}
use Rattle.std.proofs.lemmas.Slice.{take-put_mid}
use borrow.Rule.Slice.PartMut.{put_mid}

-- one entry more was written
pub entries_more : {X : Type 0} (spelling : X → List ℕ) (es : List X) (out new ys : List ℕ) (j k : ℕ) (e : X)
    → j < length es → e ≡ get_or es j e → ys ≡ spelling e → length ys ≡ 64 → 64 * j ≤ length out
    → new ≡ put_mid (64 * j) k out ys
    → take (64 * j) out ≡ flat_map spelling (take j es)
    → take (64 * (j + 1)) new ≡ flat_map spelling (take (j + 1) es)
entries_more {X} spelling es out new ys j k e lt is spelled len within put before =
    let last : flat_map spelling (take (j + 1) es) ≡ flat_map spelling (take j es) ++ spelling e =
    ap (flat_map spelling) (take_more es j e lt) ∙ flat_map-append spelling (take j es) (get_or es j e ∷ [])
    ∙ ap (λ (x : List ℕ). flat_map spelling (take j es) ++ x)
    (append-nil (spelling (get_or es j e)) ∙ ap spelling (sym is))
    in
    ap (take (64 * (j + 1))) put ∙ take-put_mid (64 * j) k out ys (64 * (j + 1)) (omega arith) within
    ∙ ap (λ (x : List ℕ). x ++ ys) before ∙ ap (λ (x : List ℕ). flat_map spelling (take j es) ++ x) spelled
    ∙ sym last
