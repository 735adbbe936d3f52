-- Three pegs in some order: how proofs speak of two different pegs and the peg that is neither.
use Rattle.std.specs.Prelude.{ℕ, ◌+◌, ◌<◌, ◌≡◌, ◌≢◌}

-- i, j and k are the pegs 0, 1 and 2 in some order.
pub record Three (i j k : ℕ) : Type 0 where
  pub first : i < 3
  pub second : j < 3
  pub third : k < 3
  pub first_second : i ≢ j
  pub first_third : i ≢ k
  pub second_third : j ≢ k
  pub sum : i + j + k ≡ 3
