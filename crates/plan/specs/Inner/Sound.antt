-- What the functions of this library ask of each other once the faults of a call are ruled out.
use Rattle.std.specs.Prelude.{ℕ, ◌≤◌, ◌<◌, ◌≡◌, List, length}
use Rattle.board.specs.Position.{WellFormed}
use Rattle.board.specs.Task.{limit}

-- The first k discs of p can be gathered on peg j.
pub record Gatherable (p : List ℕ) (k j : ℕ) : Type 0 where
  pub there : k ≤ length p
  pub within : k ≤ limit
  pub formed : WellFormed p
  pub target : j < 3

-- The start and the goal of a task.
pub record Ends (s t : List ℕ) : Type 0 where
  pub same : length s ≡ length t
  pub within : length s ≤ limit
  pub start_formed : WellFormed s
  pub goal_formed : WellFormed t
