-- Memory that is ready for pages.
use Rattle.std.specs.Prelude.{◌≡◌, ℕ, ◌+◌, ◌≤◌, List, [], length, All, vec_capacity}
use Rattle.std.specs.Global.{Vec}

-- for how many pages and runs there is memory ready, and for how many pages more it is reserved
pub record Pooled : Type 0 where
  pub pages : ℕ
  pub runs : ℕ
  pub reserved : ℕ

-- a page's memory has the bytes of a page; a run's is empty, with room for sixteen pages
pub record IsRun (run : Vec ℕ) : Type 0 where
  pub empty : run.items ≡ []
  pub room : 65536 ≤ vec_capacity run

pub record IsPool (ready empty : List (Vec ℕ)) (set_aside : ℕ) : Type 0 where
  pub pages : All (λ page. length page.items ≡ 4096) ready
  pub runs : All IsRun empty
  pub reserved : set_aside ≤ length ready

-- the memory of one page at most is taken
pub record TakesOne (old new : Pooled) : Type 0 where
  pub pages : old.pages ≤ new.pages + 1
  pub runs : new.runs ≡ old.runs
  pub reserved : new.reserved ≡ old.reserved

-- no memory is taken
pub record KeepsAll (old new : Pooled) : Type 0 where
  pub pages : old.pages ≤ new.pages
  pub runs : new.runs ≡ old.runs
  pub reserved : new.reserved ≡ old.reserved
