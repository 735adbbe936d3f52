-- Disc 1's target in a gathering.
use Rattle.std.specs.Prelude.{ℕ, zero, suc}
use Rattle.board.specs.Peg.{third}

-- The target of disc 1 when discs 1 to k + 1 are gathered on peg j.
unfoldable pub aim : (ℕ → ℕ) → ℕ → ℕ → ℕ
aim u zero j = j
aim u (suc k) j = aim u k (third j (u (suc k)))
