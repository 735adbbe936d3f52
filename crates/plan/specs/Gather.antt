-- Gather length (002, Theorem 3; 001, section 2).
use Rattle.std.specs.Prelude.{ℕ, zero, suc, ◌+◌, ◌^◌, cond, eqb}
use Rattle.board.specs.Peg.{third}

-- The moves that stack discs 1 to k on peg j, where disc d + 1 is on `p d`. Disc k has target j, and adds 2 ^ (k − 1) where it
-- is not on it; the next smaller disc's target is the third peg of that target and of this disc's peg.
unfoldable pub gather : (ℕ → ℕ) → ℕ → ℕ → ℕ
gather p zero j = 0
gather p (suc k) j = cond (eqb (p k) j) 0 (2 ^ k) + gather p k (third j (p k))
