-- What the two steps of the lengths ask, once the faults of a call are ruled out.
use Rattle.std.specs.Prelude.{ℕ, ◌^◌, ◌≤◌, ◌<◌, List, ◌≢◌, get_or}
use Rattle.board.specs.Task.{limit}

-- The lengths of d discs leave room for disc d + 1, on peg j.
pub record Grows (l : List ℕ) (d j : ℕ) : Type 0 where
  pub within : d < limit
  pub target : j < 3
  pub small : (i : ℕ) → i < 3 → get_or l i 0 < 2 ^ d

-- The lengths have disc d + 1, on peg j, among them.
pub record Shrinks (l : List ℕ) (d j : ℕ) : Type 0 where
  pub within : d < limit
  pub target : j < 3
  pub large : (i : ℕ) → i < 3 → i ≢ j → 2 ^ d ≤ get_or l i 0
