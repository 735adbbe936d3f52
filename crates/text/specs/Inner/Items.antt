-- What a contract sees of a list in fixed memory.
use Rattle.std.specs.Prelude.{ℕ, List}

-- The bytes, in order.
pub record Items : Type 0 where
  pub items : List ℕ
