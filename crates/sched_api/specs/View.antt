-- What a scheduler sees of the stack.
use Rattle.std.specs.Prelude.{ℕ, ℤ, ◌≤◌, List, length, Bool}

-- the clock; whether the stack has stopped; whether the data that the oldest write waits for is done; by process:
-- whether its call
-- waits to be admitted and is no read, and whether it is an admitted fsync; the bills of each process, and those of
-- the event
-- that is told; the balance of each account
pub record View : Type 0 where
  pub clock : ℕ
  pub stopped : Bool
  pub ordered_done : Bool
  pub waiting : List Bool
  pub syncing : List Bool
  pub billed : List ℕ
  pub billing : List ℕ
  pub balances : List ℤ

-- a process of the workload, by its number from 1 on
pub record IsProcess (f : View) (p : ℕ) : Type 0 where
  pub from : 1 ≤ p
  pub to : p ≤ length f.waiting
