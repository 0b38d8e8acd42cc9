-- The fields of a set of pages.
use Rattle.std.specs.Prelude.{◌≡◌}
use Rattle.std.proofs.Common.{ap, ◌∙◌}
use Rattle.split_core.specs.PageSets.{pages_of, words_of, number_of, IsPageSet}
use Rattle.split_core.specs.declared.note.page_set.PageSet.TheInside.{Inside}

-- the fields that a set's pages give back
pub fields_back : (a : Inside) → IsPageSet a.words a.count
    → (let b : Inside = record { words = words_of (pages_of a.words); count = number_of (pages_of a.words) } in b ≡ a)
fields_back a is =
    let first =
    ap (λ words. let b : Inside = record { words = words; count = number_of (pages_of a.words) } in b) is.words_are
    in
    first ∙ ap (λ count. let b : Inside = record { words = a.words; count = count } in b) is.count_is
