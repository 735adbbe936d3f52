-- What the number of a route is found from.
use Rattle.std.specs.Prelude.{ℕ, ◌<◌, List, ◌≡◌}
use Rattle.board.specs.Reply.{pass}
use Rattle.board.specs.Task.{task_check}
use Rattle.route.specs.Answer.{count_of, task_route, letters}

-- The bytes are the letters of one of our routes of an accepted task.
pub record OneOfOurs (t l : List ℕ) : Type 0 where
  pub accepted : task_check t ≡ pass
  pub route : ℕ
  pub there : route < count_of t
  pub same : l ≡ letters (task_route t route)
