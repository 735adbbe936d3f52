-- The third peg by remainders, as the builder's own code steps round the pegs.
use Prim.Native.Nat.{ℕ, ◌-◌, ◌%◌, ◌<◌}
use mathlib.Core.Path.{◌≡◌}
use native.Mathlib.Omega.{arith}
use Rattle.board.specs.Peg.{third}
use Rattle.board.proofs.Pegs.{third_cases}

-- On pegs the third is a remainder by 3, with no test of whether they differ.
pub third_mod : (i j : ℕ) → i < 3 → j < 3 → (6 - i - j) % 3 ≡ third i j
third_mod i j hi hj = third_cases (λ k. (6 - i - j) % 3 ≡ k) i j (λ e. omega arith) (λ n. omega arith)
