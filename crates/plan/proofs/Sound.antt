-- What an accepted call gives the functions of this library.
use Prim.Native.Nat.{ℕ, ◌<◌, ◌^◌}
use mathlib.Core.List.{List}
use mathlib.Core.Path.{◌≡◌}
use native.Mathlib.Omega.{arith}
use lib.ListN.{length}
use lib.Pow.{pow_mono}
use Rattle.board.specs.Fewest.{fewest}
use Rattle.board.specs.Task.{limit, start, goal}
use Rattle.board.proofs.Tasks.{SoundTask, SoundPosition}
use Rattle.plan.specs.Inner.Sound.{Gatherable, Ends}
use Rattle.plan.specs.Plan.{plan_of, shortest}
use Rattle.plan.proofs.Optimal.{fewest_shortest, shortest_bound}

-- All discs of an accepted position can be gathered on any peg.
pub position_gatherable : {p : List ℕ} {j : ℕ} → SoundPosition p → j < 3 → Gatherable p (length p) j
position_gatherable s hj = record { there = omega arith; within = s.within; formed = s.formed; target = hj }

-- The halves of an accepted task are its ends.
pub task_ends : {t : List ℕ} → SoundTask t → Ends (start t) (goal t)
task_ends s =
    record { same = omega arith; within = omega arith; start_formed = s.start_formed; goal_formed = s.goal_formed }

-- The discs below one of the start's can be gathered on any peg.
pub start_gatherable : {s t : List ℕ} {k j : ℕ} → Ends s t → k < length s → j < 3 → Gatherable s k j
start_gatherable e h hj = record { there = omega arith; within = omega arith; formed = e.start_formed; target = hj }

-- So can those of the goal.
pub goal_gatherable : {s t : List ℕ} {k j : ℕ} → Ends s t → k < length s → j < 3 → Gatherable t k j
goal_gatherable e h hj = record { there = omega arith; within = omega arith; formed = e.goal_formed; target = hj }

-- The fewest moves between two ends are the plan's.
pub ends_fewest : {s t : List ℕ} → Ends s t → fewest s t ≡ shortest (plan_of s t)
ends_fewest e = fewest_shortest _ _ e.same e.start_formed e.goal_formed

-- They are below 2 ^ limit.
pub ends_fit : {s t : List ℕ} → Ends s t → shortest (plan_of s t) < 2 ^ limit
ends_fit {s} {t} e = omega (arith, shortest_bound s t e.same e.start_formed e.goal_formed, pow_mono e.within)
