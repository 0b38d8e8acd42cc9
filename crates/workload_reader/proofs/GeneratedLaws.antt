-- Laws of what is made from a number.
use Rattle.std.proofs.Common.{◌≡◌, ℕ, ◌+◌, ◌*◌, ◌/◌, ◌%◌, ◌^◌, ◌<◌, ◌≤◌, ◌==◌, ◌∙◌, true, false, cond, [], ◌∷◌, ◌++◌}
use Rattle.std.proofs.Common.{map, ap, refl, sym, arith, add-one}
use Rattle.std.proofs.lemmas.Bool.Decides.{nat_tests}
use Rattle.std.proofs.lemmas.List.FromFn.{map-range_with_len_more}
use Rattle.std.proofs.lemmas.List.Sums.{sum_by_push}
use Rattle.std.specs.List.{range_with_len, count_by}
use Rattle.split_types.specs.declared.call.Call.{Call}
use Rattle.split_types.specs.Lines.{numeral}
use Rattle.split_types.specs.Names.{is_name}
use Rattle.split_types.proofs.Shared.{numeral_digit, numeral_more}
use Rattle.workload_reader.specs.Generated.{state, drawn, caller, action, target, step, logged, log_call, mail_call}
use Rattle.workload_reader.specs.Generated.{numbered, call, calls}
use Rattle.workload_reader.specs.Making.{AreDrawn, HasMade}

-- one draw more
pub state_more : (n i : ℕ) → state n (i + 1) ≡ (1664525 * state n i + 1013904223) % 2 ^ 32
unfolding state
state_more n i = rw add-one refl

state_first : (n : ℕ) → state n 0 ≡ n
unfolding state
state_first n = refl

-- one call more
pub calls_more : (n i : ℕ) → calls n (i + 1) ≡ calls n i ++ call n i ∷ []
unfolding calls
calls_more n i = map-range_with_len_more (call n) 0 i i (omega arith)

pub calls_none : (n : ℕ) → calls n 0 ≡ []
unfolding calls
calls_none n = refl

pub logged_more : (n i : ℕ) → logged n (i + 1) ≡ logged n i + cond (caller n i == 8) 1 0
logged_more n i =
    ap (count_by (λ p. p == 8)) (map-range_with_len_more (caller n) 0 i i (omega arith))
    ∙ sum_by_push (λ p. cond (p == 8) 1 0) (map (caller n) (range_with_len 0 i)) (caller n i)

pub starts : (n : ℕ) → HasMade n 0 n 0
starts n = record { state_is = sym (state_first n); log_is = refl }

-- the words of the numbered files
pub numbered_one : (d : ℕ) → d < 10 → numbered d ≡ 109 ∷ (48 + d) ∷ []
numbered_one d small = ap (λ l. 109 ∷ l) (numeral_digit d small)

pub numbered_two : (k : ℕ) → 10 ≤ k → k < 100 → numbered k ≡ 109 ∷ (48 + k / 10) ∷ (48 + k % 10) ∷ []
numbered_two k least most =
    let whole : k ≡ k / 10 * 10 + k % 10 = omega arith in
    ap (λ m. 109 ∷ numeral m) whole
    ∙ ap (λ l. 109 ∷ l) (numeral_more (k / 10) (k % 10) (omega arith) (omega arith))
    ∙ ap (λ l. 109 ∷ l ++ (48 + k % 10) ∷ []) (numeral_digit (k / 10) (omega arith))

pub is_name_one : (d : ℕ) → d < 10 → is_name (109 ∷ (48 + d) ∷ []) ≡ true
is_name_one d small = grind (arith, nat_tests)

pub is_name_two : (c d : ℕ) → c < 10 → d < 10 → is_name (109 ∷ (48 + c) ∷ (48 + d) ∷ []) ≡ true
is_name_two c d small low = grind (arith, nat_tests)

pub ruleset numbered_names = (numbered_one, numbered_two, is_name_one, is_name_two)

-- what four draws give
pub four_drawn : (n i by what where_to how_far : ℕ) → by ≡ drawn n (4 * i) 8 → what ≡ drawn n (4 * i + 1) 8
    → where_to ≡ drawn n (4 * i + 2) 32 → how_far ≡ drawn n (4 * i + 3) 8
    → AreDrawn n i (1 + by) what where_to how_far
unfolding caller
four_drawn n i by what where_to how_far b w t s = record {
  by_is = omega arith;
  action_is = w;
  target_is = t;
  step_is = s;
}

abbrev mail : ℕ → ℕ → Call
mail n i = mail_call (action n i) (target n i) (step n i)

-- the next call, where it is one of process 8
pub call_logs : {n i by what where_to how_far : ℕ} (count : ℕ) → AreDrawn n i by what where_to how_far → by ≡ 8
    → count ≡ logged n i → (record { 0 = by }, log_call count) ≡ call n i
unfolding call
call_logs {n} {i} {by} {what} {where_to} {how_far} count a eight counted =
    let test : (caller n i == 8) ≡ true = let e = a.by_is in grind (arith, nat_tests) in
    ap (λ b. (record { 0 = b }, log_call count)) a.by_is
    ∙ ap (λ j. (record { 0 = caller n i }, log_call j)) counted
    ∙ ap (λ t. (record { 0 = caller n i }, cond t (log_call (logged n i)) (mail n i))) (sym test)

-- and where it is one of another
pub call_mails : {n i by what where_to how_far : ℕ} → AreDrawn n i by what where_to how_far → (by ≡ 8 → ⊥)
    → (record { 0 = by }, mail_call what where_to how_far) ≡ call n i
unfolding call
call_mails {n} {i} {by} {what} {where_to} {how_far} a other =
    let test : (caller n i == 8) ≡ false = let e = a.by_is in grind (arith, nat_tests) in
    ap (λ b. (record { 0 = b }, mail_call what where_to how_far)) a.by_is
    ∙ ap (λ w. (record { 0 = caller n i }, mail_call w where_to how_far)) a.action_is
    ∙ ap (λ w. (record { 0 = caller n i }, mail_call (action n i) w how_far)) a.target_is
    ∙ ap (λ w. (record { 0 = caller n i }, mail_call (action n i) (target n i) w)) a.step_is
    ∙ ap (λ t. (record { 0 = caller n i }, cond t (log_call (logged n i)) (mail n i))) (sym test)

-- the count of the log's calls
pub logs : {n i by what where_to how_far : ℕ} (count : ℕ) → AreDrawn n i by what where_to how_far → by ≡ 8
    → count ≡ logged n i → count + 1 ≡ logged n (i + 1)
logs {n} {i} {by} {what} {where_to} {how_far} count a eight counted =
    let test : (caller n i == 8) ≡ true = let e = a.by_is in grind (arith, nat_tests) in
    ap (λ k. k + 1) counted ∙ ap (λ t. logged n i + cond t 1 0) (sym test) ∙ sym (logged_more n i)

pub logs_not : {n i by what where_to how_far : ℕ} (count : ℕ) → AreDrawn n i by what where_to how_far → (by ≡ 8 → ⊥)
    → count ≡ logged n i → count ≡ logged n (i + 1)
logs_not {n} {i} {by} {what} {where_to} {how_far} count a other counted =
    let test : (caller n i == 8) ≡ false = let e = a.by_is in grind (arith, nat_tests) in
    let none : logged n i ≡ logged n i + 0 = omega arith in
    counted ∙ none ∙ ap (λ t. logged n i + cond t 1 0) (sym test) ∙ sym (logged_more n i)
