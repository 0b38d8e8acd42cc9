-- What the rows of a table say of tags.
use Rattle.std.specs.Prelude.{◌≡◌, ◌↔◌, ℕ, ◌+◌, ◌^◌, ◌≤◌, List, [], length, Option, Some, Contains}
use Rattle.std.specs.List.Sorted.{IsStrictlyIncreasing}
use Rattle.std.specs.Option.{option_map_or}
use Rattle.cause_set.specs.Tags.{Tags}
use Rattle.tag_table.specs.declared.row.Row.{Row}
use Rattle.tag_table.specs.Rows.{Numbered, row_at}

-- how often a number is in use, by its row
abbrev pub uses_at : List (Option Row) → ℕ → ℕ
uses_at rows n = option_map_or (λ row. row.uses) (row_at rows n) 0

-- the members of a number, by its row; without a row, nobody
abbrev pub members_at : List (Option Row) → ℕ → List ℕ
members_at rows n = option_map_or (λ row. row.set) (row_at rows n) []

-- the rows as tags
abbrev pub tags_of : Numbered → Tags
tags_of table = record { uses = uses_at table.rows; members = members_at table.rows; spare = table.spare }

-- equal sets have one number: two numbers in use with the same members are one
abbrev pub AreShared : Tags → Type 0
AreShared tags = (m n : ℕ) → 1 ≤ tags.uses m → 1 ≤ tags.uses n → tags.members m ≡ tags.members n → m ≡ n

-- so many numbers are in use: these, each listed once
pub record AreInUse (tags : Tags) (count : ℕ) : Type 0 where
  pub numbers : List ℕ
  pub once : IsStrictlyIncreasing numbers
  pub in_use : (n : ℕ) → Contains numbers n ↔ (1 ≤ tags.uses n)
  pub counted : count ≡ length numbers

-- each row has a use, and none more uses than were given
pub record AreCounted (rows : List (Option Row)) (left : ℕ) : Type 0 where
  pub used : (n : ℕ) (row : Row) → row_at rows n ≡ Some row → 1 ≤ row.uses
  pub given : (n : ℕ) → uses_at rows n + left ≤ 2 ^ 63
