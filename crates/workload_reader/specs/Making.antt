-- How far the making of calls has come.
use Rattle.std.specs.Prelude.{◌≡◌, ℕ, ◌*◌}
use Rattle.workload_reader.specs.Generated.{state, caller, action, target, step, logged}

-- what is drawn for call i
pub record AreDrawn (n i by what where_to how_far : ℕ) : Type 0 where
  pub by_is : by ≡ caller n i
  pub action_is : what ≡ action n i
  pub target_is : where_to ≡ target n i
  pub step_is : how_far ≡ step n i

-- i calls were made from n: the state of the draws, and how many of the calls were those of process 8
pub record HasMade (n i drawn_from log_calls : ℕ) : Type 0 where
  pub state_is : drawn_from ≡ state n (4 * i)
  pub log_is : log_calls ≡ logged n i
