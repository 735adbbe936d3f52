-- The table of boards.
use mathlib.Core.List.{map}
use mathlib.Core.Path.{◌≡◌, refl}
use Rattle.board.specs.Fewest.{same, legal, any_peg, reaches, first, fewest}
use Rattle.board.specs.Move.{top, moved}
use Rattle.board.specs.Peg.{third}
use Rattle.board.specs.Position.{well_formed}
use Rattle.board.specs.Task.{task_check, position_check}
use Rattle.plan.specs.Answer.{gather_answer, plan_answer}
use Rattle.plan.specs.Gather.{gather}
use Rattle.plan.specs.Plan.{largest, direct, detour, way_of, plan_by, plan_of}
use Rattle.route.specs.Answer.{route_check, move_answer, on_route, lowest_route, located_at, locate_answer}
use Rattle.boards.specs.Table.{reply_to, boards}
use Rattle.route.specs.Route.{gathering, backwards, spreading, direct_route, detour_route, route_by, route_of, after}
use Rattle.wear.specs.Answer.{wear_answer, wear_writes}
use Rattle.wear.specs.Wear.{wear, wears}

-- On every board the rules reply as the documents say.
pub boards_hold : map (λ b. reply_to b.call) boards ≡ map (λ b. b.says) boards
unfolding third well_formed top moved same legal any_peg reaches first fewest task_check position_check gather largest direct detour way_of plan_by plan_of gather_answer plan_answer route_check move_answer on_route lowest_route located_at locate_answer gathering backwards spreading direct_route detour_route route_by route_of after wear wears wear_answer wear_writes
boards_hold = refl
