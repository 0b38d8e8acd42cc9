-- What holds of rows and their index after each change.
use Rattle.std.proofs.Common.{◌≡◌, ℕ, ◌≤◌, List, ◌++◌, length, set, replicate, Option, Some, None, arith, ap, sym, ◌∙◌, inl, inr}
use Rattle.std.proofs.lemmas.Bool.{cases_eq}
use Rattle.std.proofs.lemmas.List.{get_or-set_same, get_or-set_other, length-set}
use Rattle.std.specs.Option.{option_map}
use Rattle.tag_table.specs.declared.row.Row.{Row}
use Rattle.tag_table.specs.declared.set_key.SetKey.{SetKey}
use Rattle.tag_table.specs.Rows.{row_at, set_at, key_of, AreIndexed}
use Rattle.tag_table.proofs.PlaceLaws.{some-within, emptied-same, get_or-widened}

-- another count of uses leaves the set of each number
pub set_at-counted : (rows : List (Option Row)) (number uses n : ℕ) (row : Row) → row_at rows number ≡ Some row
    → set_at (set rows number (Some (record { set = row.set; uses = uses }))) n ≡ set_at rows n
set_at-counted rows number uses n row here =
    let counted : Row = record { set = row.set; uses = uses } in
    let sets : Option Row → Option (List ℕ) = option_map (λ row. row.set) in
    elim (cases_eq n number) [
      | inl same ↦
          let now : row_at (set rows number (Some counted)) number ≡ Some counted =
          get_or-set_same rows number (Some counted) None (some-within rows number row here)
          in
          rw same (ap sets now ∙ sym (ap sets here))
      | inr apart ↦ ap sets (get_or-set_other rows number n (Some counted) None apart)
    ]

-- where each number keeps its set, the index serves
pub indexed-same : (old new : List (Option Row)) (index : List (Option SetKey)) (capacity : ℕ)
    → AreIndexed old index capacity → ((n : ℕ) → set_at new n ≡ set_at old n) → AreIndexed new index capacity
indexed-same old new index capacity a same = record {
  indexed = λ n. a.indexed n ∙ ap (option_map key_of) (sym (same n));
  distinct = λ set m n h k. a.distinct set m n (sym (same m) ∙ h) (sym (same n) ∙ k);
  places = a.places;
}

pub indexed-counted : (rows : List (Option Row)) (index : List (Option SetKey)) (capacity number uses : ℕ) (row : Row)
    → AreIndexed rows index capacity → row_at rows number ≡ Some row
    → AreIndexed (set rows number (Some (record { set = row.set; uses = uses }))) index capacity
indexed-counted rows index capacity number uses row a here =
    let counted : Row = record { set = row.set; uses = uses } in
    indexed-same rows (set rows number (Some counted)) index capacity a
    (λ n. set_at-counted rows number uses n row here)

-- a row fewer
pub indexed-removed : (rows : List (Option Row)) (index : List (Option SetKey)) (capacity number : ℕ)
    → AreIndexed rows index capacity → AreIndexed (set rows number None) (set index number None) capacity
indexed-removed rows index capacity number a = record {
  indexed = λ n. elim (cases_eq n number) [
    | inl same ↦ rw same (emptied-same index number ∙ sym (ap keys (emptied-same rows number)))
    | inr apart ↦
        get_or-set_other index number n None None apart ∙ a.indexed n
        ∙ sym (ap keys (get_or-set_other rows number n None None apart))
  ];
  distinct = λ set m n h k. a.distinct set m n (stood m set h) (stood n set k);
  places = omega (arith, a.places, length-set index number None);
}
  where
    keys : Option Row → Option SetKey
    keys row = option_map key_of (option_map (λ row. row.set) row)

    stood : (n : ℕ) (held : List ℕ) → set_at (set rows number None) n ≡ Some held → set_at rows n ≡ Some held
    stood n held h =
        elim (cases_eq n number) [
          | inl same ↦
              let gone : row_at (set rows number None) n ≡ None = rw same (emptied-same rows number) in
              absurd (cc)
          | inr apart ↦ sym (ap (option_map (λ row. row.set)) (get_or-set_other rows number n None None apart)) ∙ h
        ]

-- more places
pub indexed-wider : (rows : List (Option Row)) (index : List (Option SetKey)) (capacity wider more : ℕ)
    → AreIndexed rows index capacity → wider ≤ length (index ++ replicate more None)
    → AreIndexed rows (index ++ replicate more None) wider
indexed-wider rows index capacity wider more a places = record {
  indexed = λ n. get_or-widened index more n ∙ a.indexed n;
  distinct = a.distinct;
  places = places;
}
