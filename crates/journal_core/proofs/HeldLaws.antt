-- Laws of what a journal holds: a tag that it shows is in use, and a new one holds none.
use Rattle.std.proofs.Common.{◌≡◌, ℕ, ◌≤◌, List, Option, Some, None, get_or, sym, arith}
use Rattle.std.specs.Prelude.{IfSome}
use Rattle.std.specs.Option.{option_map}
use Rattle.cause_set.specs.Tags.{same, use_in, held}
use Rattle.cause_set.proofs.TagLaws.{use_in-held, held-empty, one_use-same}
use Rattle.proxies.specs.declared.commit.Commit.{Commit}
use Rattle.proxies.specs.declared.commit.Commit.TheVariants.{Idle, Log, Marking, Homes, Clear}
use Rattle.journal_core.specs.Places.{place_in}
use Rattle.journal_core.specs.Work.{begun}
use Rattle.journal_core.specs.Journaled.{Journaled, held_by, new_journal, next_home, due_for, due_for_in}

-- a tag in a place is held
place-held : (places : List (Option ℕ)) (at n : ℕ) → get_or places at None ≡ Some n → 1 ≤ held same places n
place-held places at n is =
    let used : use_in same (get_or places at None) n ≡ 1 = rw is (one_use-same n) in
    omega (arith, used, use_in-held same places at n)

-- so is that of a marked buffer
pub marked-held : {X : Type 0} (j : Journaled ℕ) (result : Option X) (number : X → ℕ) (at : ℕ)
    → option_map number result ≡ get_or j.marks at None → IfSome result (λ t. 1 ≤ held_by j (number t))
marked-held j None number at is = tt
marked-held j (Some t) number at is = omega (arith, place-held j.marks at (number t) (sym is))

-- and that of the next request
due-held-in : (j : Journaled ℕ) (stage : Commit ℕ) (n : ℕ) → Some n ≡ due_for_in j stage → 1 ≤ held_by j n
due-held-in j Idle n is = cc
due-held-in j (Log t slot) n is = omega (arith, place-held j.slots slot n (sym is))
due-held-in j (Marking t slot) n is = omega (arith, place-held j.slots slot n (sym is))
due-held-in j (Homes t slot added) n is = omega (arith, place-held j.round (place_in (next_home j)) n (sym is))
due-held-in j (Clear t slot) n is = omega (arith, place-held j.slots slot n (sym is))

pub due-held : (j : Journaled ℕ) (n : ℕ) → Some n ≡ due_for j → 1 ≤ held_by j n
due-held j n is = due-held-in j (begun j.work) n is

-- a new journal holds none
pub new-held : (slots : ℕ) (images : List (List ℕ)) (n : ℕ) → held_by (new_journal slots images) n ≡ 0
new-held slots images n = omega (arith, held-empty same 261 n, held-empty same slots n)
