-- What is made from a number is a workload.
use Rattle.std.proofs.Common.{◌≡◌, ℕ, ◌*◌, ◌/◌, ◌%◌, ◌<◌, ◌≤◌, ◌==◌, ◌∙◌, true, false, Bool, length, ap, arith, rules}
use Rattle.std.proofs.Common.{IsTrue, if◌then◌else◌, ⊎_elim, get_or, nat_lt, All}
use Rattle.std.proofs.lemmas.Bool.{cases_lt}
use Rattle.std.proofs.lemmas.List.FromFn.{length-map-range_with_len}
use Rattle.std.proofs.lemmas.List.Elements.{All-map}
use Rattle.std.proofs.lemmas.List.Sums.{sum_by-le}
use Rattle.std.specs.List.{range_with_len}
use Rattle.split_types.specs.declared.ids.Pid.{Pid}
use Rattle.split_types.specs.declared.call.Call.{Call}
use Rattle.split_types.specs.declared.call.Call.TheVariants.{Creat, Write, Read, Fsync, Unlink}
use Rattle.split_types.specs.Names.{is_name}
use Rattle.split_types.specs.Workloads.{span}
use Rattle.split_types.specs.IsWorkload.{IsAsked, IsCall, IsWorkload}
use Rattle.workload_reader.specs.Generated.{caller, action, target, step, logged, asked, log_call, mail_call}
use Rattle.workload_reader.specs.Generated.{numbered, call, calls, generated}
use Rattle.workload_reader.proofs.GeneratedLaws.{numbered_one, numbered_two, is_name_one, is_name_two}

-- a call that may stand in a workload, and spans at most two pages
record IsShort (c : Call) : Type 0 where
  pub right : IsAsked c
  pub few : span c ≤ 2

either : (b : Bool) (x y : Call) → IsShort x → IsShort y → IsShort (if b then x else y)
either true x y p q = p
either false x y p q = q

numbered_is_name : (k : ℕ) → k < 32 → is_name (numbered k) ≡ true
numbered_is_name k small = ⊎_elim
    (λ (low : k < 10). ap is_name (numbered_one k low) ∙ is_name_one k low)
    (λ (high : 10 ≤ k). ap is_name (numbered_two k high (omega arith))
    ∙ is_name_two (k / 10) (k % 10) (omega arith) (omega arith))
    (cases_lt k 10)

log_short : (j : ℕ) → IsShort (log_call j)
log_short j = record {
  right = (
    record { named = search rules; off_most = omega arith; len_least = omega arith; len_most = omega arith },
    omega arith,
  );
  few = omega arith;
}

mail_short : (a k s : ℕ) → k < 32 → s < 8 → IsShort (mail_call a k s)
mail_short a k s small few =
    let named : IsTrue (is_name (numbered k)) = search (rules, numbered_is_name k small) in
    let creat : IsShort (Creat (numbered k)) = record { right = named; few = omega arith } in
    let write : IsShort (Write (numbered k) (1000 * s) 3000 k) = record {
      right = (
        record { named = named; off_most = omega arith; len_least = omega arith; len_most = omega arith },
        omega arith,
      );
      few = omega arith;
    } in
    let read : IsShort (Read (numbered k) 0 8192) = record {
      right = record { named = named; off_most = omega arith; len_least = omega arith; len_most = omega arith };
      few = omega arith;
    } in
    let fsync : IsShort (Fsync (numbered k)) = record { right = named; few = omega arith } in
    let unlink : IsShort (Unlink (numbered k)) = record { right = named; few = omega arith } in
    either (nat_lt a 2) _ _ creat
    (either (nat_lt a 5) _ _ write (either (a == 5) _ _ read (either (a == 6) _ _ fsync unlink)))

asked_short : (n i : ℕ) → IsShort (asked n i)
asked_short n i =
    either (caller n i == 8) _ _ (log_short (logged n i))
    (mail_short (action n i) (target n i) (step n i) (omega arith) (omega arith))

-- one of eight processes
pub caller_within : (n i : ℕ) → (1 ≤ caller n i) × (caller n i ≤ 8)
unfolding caller
caller_within n i = (omega arith, omega arith)

call_is : (n i : ℕ) → IsCall 8 (call n i)
unfolding call
call_is n i = record {
  by_least = (caller_within n i).0;
  by_most = (caller_within n i).1;
  asked = (asked_short n i).right;
}

call_few : (n i : ℕ) → span (call n i).1 ≤ 2
unfolding call
call_few n i = (asked_short n i).few

calls_are : (n count : ℕ) → All (IsCall 8) (calls n count)
unfolding calls
calls_are n count =
    All-map (IsCall 8) (call n) (range_with_len 0 count) (λ k d within. call_is n (get_or (range_with_len 0 count) k d))

calls_few : (n count : ℕ) → All (λ (c : Pid × Call). span c.1 ≤ 2) (calls n count)
unfolding calls
calls_few n count =
    All-map (λ (c : Pid × Call). span c.1 ≤ 2) (call n) (range_with_len 0 count)
    (λ k d within. call_few n (get_or (range_with_len 0 count) k d))

pub length-calls : (n count : ℕ) → length (calls n count) ≡ count
unfolding calls
length-calls n count = length-map-range_with_len (call n) 0 count

-- every number in its range, every list within its limit, and nothing named that isn't there
pub generated_right : (n : ℕ) → IsWorkload (generated n)
generated_right n =
    let many = length-calls n 4096 in
    let spanned = sum_by-le (λ (c : Pid × Call). span c.1) 2 (calls n 4096) (calls_few n 4096) in
    record {
      machine = search rules;
      accounts = search rules;
      processes = search rules;
      presets = search rules;
      calls = record { few = omega arith; few_pages = omega arith; each = calls_are n 4096 };
      fails = search rules;
      turns = search rules;
    }
