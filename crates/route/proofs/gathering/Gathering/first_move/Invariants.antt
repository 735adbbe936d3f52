-- The loop's invariant: the first move of the gathering of discs 1 to m, or `first` where it has none, is the first move of the whole.
use Prim.Native.Nat.{◌<◌}
use mathlib.Core.Path.{◌≡◌}
use lib.ListN.{get_or}
use Rattle.board.specs.Position.{peg}
use Rattle.route.specs.Route.{gathering, move_at}
use Rattle.route.proofs.gathering.Gathering.first_move.Given as goal

abbrev pub invariant-loop-m : goal.invariant-loop-m
invariant-loop-m l = (l.goal < 3) × (get_or (gathering (peg l.self.position.now) l.m l.goal) 0 l.first ≡ move_at (gathering (peg l.self.position.now) l.self.discs l.self.target) 0)
