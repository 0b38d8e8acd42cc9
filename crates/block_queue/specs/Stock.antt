-- What contracts see of the requests that wait in one slice.
use Rattle.std.specs.Prelude.{ℕ, List}
use Rattle.split_types.specs.declared.request.Request.{Request}

-- the requests, the oldest first, and for how many more there is room
pub record Stock : Type 0 where
  pub requests : List Request
  pub spare : ℕ
