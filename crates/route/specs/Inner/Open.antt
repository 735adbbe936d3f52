-- What Move, Place, Run, Parts and Wear begin with: a task opened at a route.
use Rattle.std.specs.Prelude.{ℕ, ◌&&◌, List, ltb, Result, Ok, Err}
use Rattle.board.specs.Refusal.{number}
use Rattle.board.specs.Reply.{Reply, refused, answer, ◌>>◌, Check, check}
use Rattle.board.specs.Task.{start, goal}
use Rattle.plan.specs.Plan.{plan_of}
use Rattle.board.specs.declared.refusal.Refusal.{Refusal}
use Rattle.plan.specs.declared.answer.Plan.{Plan}
use Rattle.route.specs.declared.opened.Opened.{Opened}
use Rattle.route.specs.Answer.{length_of, route_check}

-- A task as it was opened: its start and its goal, its plan, and the number of the route.
pub record Opening : Type 0 where
  pub start : List ℕ
  pub goal : List ℕ
  pub plan : Plan
  pub route : ℕ

abbrev pub opening_of : Opened → Opening
opening_of o = record { start = o.task.start.now; goal = o.task.goal.now; plan = o.plan; route = o.route }

abbrev pub opened_reply : Result Opened Refusal → Reply Opening
opened_reply (Ok o) = answer (opening_of o)
opened_reply (Err r) = refused (number r)

abbrev pub opening : List ℕ → ℕ → Opening
opening t r = record { start = start t; goal = goal t; plan = plan_of (start t) (goal t); route = r }

-- The task opened at a route of that number: task faults; 4.
unfoldable pub open_answer : List ℕ → ℕ → Reply Opening
open_answer t r = do
  route_check t r
  answer (opening t r)

-- The checks of a call that writes moves from an index on into so many bytes: task faults; 4; 5; 6, moves remain and there is no room for
-- one.
unfoldable pub list_check : List ℕ → ℕ → ℕ → ℕ → ℕ → Check
list_check t r i room size = do
  route_check t r
  check (ltb (length_of t) i) 5
  check (ltb i (length_of t) && ltb room size) 6

-- The task opened at the route where they pass.
unfoldable pub list_answer : List ℕ → ℕ → ℕ → ℕ → ℕ → Reply Opening
list_answer t r i room size = do
  list_check t r i room size
  answer (opening t r)
