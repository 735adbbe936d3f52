-- The lines of the routes below `route` are put, each of at most 3,021 bytes.
use Rattle.std.proofs.Common.{◌≡◌, ◌+◌, ◌*◌, ◌++◌, ◌≤◌, length}
use Rattle.board.specs.Task.{start, goal}
use Rattle.text.specs.Report.{route_lines}
use Rattle.text.proofs.report.put_report.Given as goal

abbrev pub invariant-loop-route : goal.invariant-loop-route
invariant-loop-route l =
    (l.page.items ≡ l.initial.page.items ++ route_lines (start l.task) (goal l.task) l.route)
    × (length l.page.items ≤ length l.initial.page.items + 3021 * l.route)
