-- The events that numbers make.
use Rattle.std.proofs.Common.{◌≡◌, ℕ, zero, suc, ◌+◌, ◌≤◌, ◌∙◌, Bool, true, false, ◌&&◌, List, [], ◌∷◌, length, map, take, drop, get_or, if◌then◌else◌, Some, ap, refl, sym, subst, arith}
use Rattle.std.proofs.lemmas.Bool.{false≢true}
use Rattle.std.proofs.lemmas.List.{drop_more}
use Rattle.std.specs.List.{list_all}
use Rattle.split_types.specs.declared.ids.Pid.{Pid}
use Rattle.split_types.specs.declared.actor.Actor.TheVariants as actor
use Rattle.split_types.specs.Hooks.{maker}
use Rattle.split_types.specs.EventText.{flag}
use Rattle.workload_reader.specs.Fields.{IsWithin}
use Rattle.workload_reader.specs.Table.{IsActorOf}
use Rattle.trace_text.specs.declared.numbers.Numbers.{Numbers}
use Rattle.trace_text.specs.declared.row.ClientRow.{ClientRow}
use Rattle.trace_text.specs.declared.row.ClientRow.TheVariants as client
use Rattle.trace_text.specs.EventLines.{Shown, is_small, is_wide, smalls, wides, AreInRange, IsInRange}
use Rattle.trace_text.specs.Numbers.{LineNumbers, HasCounts, wide_of, Holds}
use Rattle.trace_text.specs.Rows.{client_count, client_is_wide, client_event}
use Rattle.trace_text.specs.Tails.{Says}

-- numbers by their places, from i on
abbrev pub from : ℕ → ℕ → List ℕ → List ℕ
from i zero xs = []
from i (suc k) xs = get_or xs i 0 ∷ from (i + 1) k xs

from_take : (i k : ℕ) (xs : List ℕ) → i + k ≤ length xs → from i k xs ≡ take k (drop i xs)
from_take i zero xs few = refl
from_take i (suc k) xs few =
    ap (λ l. get_or xs i 0 ∷ l) (from_take (i + 1) k xs (omega arith))
    ∙ ap (take (suc k)) (sym (drop_more xs i 0 (omega arith)))

take_whole : (xs : List ℕ) (k : ℕ) → length xs ≡ k → take k xs ≡ xs
take_whole [] zero is = refl
take_whole [] (suc k) is = refl
take_whole (x ∷ xs) zero is = absurd (omega arith)
take_whole (x ∷ xs) (suc k) is = ap (λ l. x ∷ l) (take_whole xs k (omega arith))

-- the first numbers
first_of_them : (k : ℕ) (xs : List ℕ) → k ≤ length xs → from 0 k xs ≡ take k xs
first_of_them k xs few = from_take 0 k xs (omega arith)

-- all of them
pub all_of_them : (k : ℕ) (xs : List ℕ) → length xs ≡ k → from 0 k xs ≡ xs
all_of_them k xs is = first_of_them k xs (omega arith) ∙ take_whole xs k is

-- numbers that fit are kept
kept : (p : ℕ → Bool) (ns : List ℕ) → list_all p ns ≡ true → map (λ n. if p n then n else 0) ns ≡ ns
kept p [] fits = refl
kept p (n ∷ ns) fits = kept_at (p n) refl fits (kept p ns) where
  kept_at : (first : Bool) → p n ≡ first → (first && list_all p ns) ≡ true
      → (list_all p ns ≡ true → map (λ m. if p m then m else 0) ns ≡ ns)
      → (if p n then n else 0) ∷ map (λ m. if p m then m else 0) ns ≡ n ∷ ns
  kept_at true is all others = ap (λ b. (if b then n else 0) ∷ map (λ m. if p m then m else 0) ns) is
      ∙ ap (λ l. n ∷ l) (others all)
  kept_at false is all others = absurd (false≢true all)

both : (p q : Bool) → (p && q) ≡ true → (p ≡ true) × (q ≡ true)
both true true e = (refl, refl)
both true false e = absurd (false≢true e)
both false q e = absurd (false≢true e)

-- numbers that were read and fit are in their ranges
pub in_range : {count : ℕ} {has_wide : Bool} {x : LineNumbers} {n : Numbers} → Holds count has_wide x n
    → n.within ≡ true → AreInRange x.0 x.1
in_range {count} {has_wide} {x} {n} h fits = let all =
    both (list_all is_small x.0) (list_all is_wide x.1) (sym h.within ∙ fits) in record { small = all.0; wide = all.1 }

-- and else they aren't
pub out_of_range : {count : ℕ} {has_wide : Bool} {x : LineNumbers} {n : Numbers} → Holds count has_wide x n
    → n.within ≡ false → AreInRange x.0 x.1 → ⊥
out_of_range {count} {has_wide} {x} {n} h unfit range =
    false≢true (sym unfit ∙ h.within ∙ ap (λ b. b && list_all is_wide x.1) range.small ∙ range.wide)

-- they are the numbers at the first places
pub smalls_are : {count : ℕ} {has_wide : Bool} {x : LineNumbers} {n : Numbers} → Holds count has_wide x n
    → n.within ≡ true → count ≤ 7 → x.0 ≡ from 0 count n.small
smalls_are {count} {has_wide} {x} {n} h fits few =
    sym (first_of_them count n.small (omega (arith, h.places)) ∙ h.small ∙ kept is_small x.0 (in_range h fits).small)

pub wides_are : {count : ℕ} {has_wide : Bool} {x : LineNumbers} {n : Numbers} → Holds count has_wide x n
    → n.within ≡ true → x.1 ≡ wide_of has_wide n
wides_are {count} {has_wide} {x} {n} h fits = sym (h.wide ∙ kept is_wide x.1 (in_range h fits).wide)

pub none_left : (ws : List ℕ) → length ws ≡ 0 → [] ≡ ws
none_left [] is = refl
none_left (w ∷ ws) is = absurd (omega arith)

-- the event of a client has these numbers
pub client_smalls : (row : ClientRow) (by : Pid) (ns ws : List ℕ) → length ns ≡ client_count row
    → smalls (Shown (client_event row by ns ws)) ≡ ns
client_smalls client.Enter by ns ws is = all_of_them 1 ns is
client_smalls client.Admit by ns ws is = all_of_them 0 ns is
client_smalls client.Make by ns ws is = all_of_them 2 ns is
client_smalls client.Put by ns ws is = all_of_them 5 ns is
client_smalls client.Get by ns ws is = all_of_them 4 ns is
client_smalls client.Drop by ns ws is = all_of_them 2 ns is
client_smalls client.Flushed by ns ws is = all_of_them 0 ns is
client_smalls client.Evict by ns ws is = all_of_them 2 ns is

pub client_wides : (row : ClientRow) (by : Pid) (ns ws : List ℕ) → length ws ≡ flag (client_is_wide row)
    → wides (Shown (client_event row by ns ws)) ≡ ws
client_wides client.Get by ns ws is = all_of_them 1 ws is
client_wides client.Enter by ns ws is = none_left ws is
client_wides client.Admit by ns ws is = none_left ws is
client_wides client.Make by ns ws is = none_left ws is
client_wides client.Put by ns ws is = none_left ws is
client_wides client.Drop by ns ws is = none_left ws is
client_wides client.Flushed by ns ws is = none_left ws is
client_wides client.Evict by ns ws is = none_left ws is

pub client_maker : (row : ClientRow) (by : Pid) (ns ws : List ℕ) → maker (client_event row by ns ws) ≡ actor.Client by
client_maker client.Enter by ns ws = refl
client_maker client.Admit by ns ws = refl
client_maker client.Make by ns ws = refl
client_maker client.Put by ns ws = refl
client_maker client.Get by ns ws = refl
client_maker client.Drop by ns ws = refl
client_maker client.Flushed by ns ws = refl
client_maker client.Evict by ns ws = refl

client_few : (row : ClientRow) → client_count row ≤ 7
client_few client.Enter = omega arith
client_few client.Admit = omega arith
client_few client.Make = omega arith
client_few client.Put = omega arith
client_few client.Get = omega arith
client_few client.Drop = omega arith
client_few client.Flushed = omega arith
client_few client.Evict = omega arith

-- it takes them from the first places
client_first : (row : ClientRow) (by : Pid) (n : Numbers)
    → client_event row by (from 0 (client_count row) n.small) (wide_of (client_is_wide row) n)
    ≡ client_event row by n.small (n.wide ∷ [])
client_first client.Enter by n = refl
client_first client.Admit by n = refl
client_first client.Make by n = refl
client_first client.Put by n = refl
client_first client.Get by n = refl
client_first client.Drop by n = refl
client_first client.Flushed by n = refl
client_first client.Evict by n = refl

-- the process is one of so many
one_of : {most p : ℕ} → IsWithin 1 most p → IsActorOf most (actor.Client (record { 0 = p }))
one_of in_it = record { least = in_it.0; most = in_it.1 }

client_range : (row : ClientRow) (p most : ℕ) (x : LineNumbers) → HasCounts (client_count row) (client_is_wide row) x
    → IsInRange most (Shown (client_event row (record { 0 = p }) x.0 x.1))
    → IsWithin 1 most p × AreInRange x.0 x.1
client_range row p most x counts range =
    let by : Pid = record { 0 = p } in
    let one : IsActorOf most (actor.Client by) = subst (IsActorOf most) (client_maker row by x.0 x.1) range.0 in (
      (one.least, one.most),
      subst (λ ns. AreInRange ns x.1) (client_smalls row by x.0 x.1 counts.0)
          (subst (λ ws. AreInRange (smalls (Shown (client_event row by x.0 x.1))) ws)
          (client_wides row by x.0 x.1 counts.1) range.1),
    )

pub client_none : (row : ClientRow) (p most : ℕ) (x : LineNumbers) → (IsWithin 1 most p → ⊥)
    → HasCounts (client_count row) (client_is_wide row) x
    → IsInRange most (Shown (client_event row (record { 0 = p }) x.0 x.1)) → ⊥
client_none row p most x never counts range = never (client_range row p most x counts range).0

pub client_out : (row : ClientRow) (p most : ℕ) (x : LineNumbers) (n : Numbers)
    → HasCounts (client_count row) (client_is_wide row) x → Holds (client_count row) (client_is_wide row) x n
    → n.within ≡ false → IsInRange most (Shown (client_event row (record { 0 = p }) x.0 x.1)) → ⊥
client_out row p most x n counts holds unfit range = out_of_range holds unfit (client_range row p most x counts range).1

pub client_made : (row : ClientRow) (p q most : ℕ) (x : LineNumbers) (n : Numbers) → (q ≡ p) × IsWithin 1 most p
    → HasCounts (client_count row) (client_is_wide row) x → Holds (client_count row) (client_is_wide row) x n
    → n.within ≡ true → Says most (Shown (client_event row (record { 0 = p }) x.0 x.1))
    (Some (client_event row (record { 0 = q }) n.small (n.wide ∷ [])))
client_made row p q most x n in_it counts holds fits =
    let by : Pid = record { 0 = p } in
    let them = ap (λ ns. Shown (client_event row by ns x.1)) (smalls_are holds fits (client_few row))
    ∙ ap (λ ws. Shown (client_event row by (from 0 (client_count row) n.small) ws)) (wides_are holds fits)
    ∙ ap (λ e. Shown e) (client_first row by n) in (
      them ∙ ap (λ k. Shown (client_event row (record { 0 = k }) n.small (n.wide ∷ []))) (sym in_it.0),
      (
        subst (IsActorOf most) (sym (client_maker row by x.0 x.1)) (one_of in_it.1),
        subst (λ ns. AreInRange ns (wides (Shown (client_event row by x.0 x.1))))
            (sym (client_smalls row by x.0 x.1 counts.0))
            (subst (AreInRange x.0) (sym (client_wides row by x.0 x.1 counts.1)) (in_range holds fits)),
      ),
    )
