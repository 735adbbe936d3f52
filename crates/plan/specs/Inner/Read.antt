-- What is read of the bytes of a task.
use Rattle.std.specs.Prelude.{ℕ, List, Result, Ok, Err}
use Rattle.board.specs.Refusal.{number}
use Rattle.board.specs.Reply.{Reply, refused, answer, ◌>>◌}
use Rattle.board.specs.Task.{start, goal, task_check}
use Rattle.board.specs.declared.refusal.Refusal.{Refusal}
use Rattle.plan.specs.declared.task.Task.{Task}

-- What a reading says: a start and a goal.
abbrev pub read_reply : Result Task Refusal → Reply (List ℕ × List ℕ)
read_reply (Ok t) = answer (t.start.now, t.goal.now)
read_reply (Err r) = refused (number r)

-- Task faults.
unfoldable pub read_answer : List ℕ → Reply (List ℕ × List ℕ)
read_answer t = do
  task_check t
  answer (start t, goal t)
