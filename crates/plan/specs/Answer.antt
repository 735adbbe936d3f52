-- What Gather and Plan answer (document 01, "The operations and when each refuses").
use Rattle.std.specs.Prelude.{ℕ, not, List, ltb, length}
use Rattle.board.specs.Position.{peg}
use Rattle.board.specs.Reply.{Reply, answer, ◌>>◌, check}
use Rattle.board.specs.Task.{start, goal, task_check, position_check}
use Rattle.plan.specs.Gather.{gather}
use Rattle.plan.specs.Plan.{plan_of}
use Rattle.plan.specs.declared.answer.Plan.{Plan}

-- Gather: 2; 3 for a byte or the peg.
unfoldable pub gather_answer : List ℕ → ℕ → Reply ℕ
gather_answer p j = do
  position_check p
  check (not (ltb j 3)) 3
  answer (gather (peg p) (length p) j)

-- Plan: task faults. The answer is still, direct, detour or tie, each with its lengths, in the plan's `way`; and what is left free, the
-- number of discs, the largest that moves and its two pegs.
unfoldable pub plan_answer : List ℕ → Reply Plan
plan_answer t = do
  task_check t
  answer (plan_of (start t) (goal t))
