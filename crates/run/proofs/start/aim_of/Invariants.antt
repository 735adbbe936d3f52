-- Disc 1's target in the gathering of discs 1 to d + 1 on `goal` is that of the whole.
use Prim.Native.Nat.{◌<◌}
use mathlib.Core.Path.{◌≡◌}
use Rattle.board.specs.Position.{peg}
use Rattle.route.specs.Inner.Aim.{aim}
use Rattle.run.proofs.start.aim_of.Given as goal

abbrev pub invariant-loop-d : goal.invariant-loop-d
invariant-loop-d l = (l.goal < 3) × (aim (peg l.pegs) l.d l.goal ≡ aim (peg l.pegs) l.k l.target)
