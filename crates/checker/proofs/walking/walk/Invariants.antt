-- So many moves are made, and the discs keep the position that they lead to.
use mathlib.Core.Path.{◌≡◌}
use Rattle.route.specs.Ours.{read_moves}
use Rattle.checker.proofs.Walks.{Walking}
use Rattle.checker.proofs.walking.walk.Given as goal

abbrev pub invariant-loop-from : goal.invariant-loop-from
invariant-loop-from l = (l.made ≡ l.from-index) × Walking l.task.start.now (read_moves l.letters) l.from-index l.discs
