-- The loop's invariant: what is left of the gathering has discs 1 to m where the whole has them, and the array has the others there.
use Prim.Native.Nat.{ℕ, ◌≤◌, ◌<◌}
use mathlib.Core.Path.{◌≡◌}
use lib.ListN.{length, get_or}
use Rattle.board.specs.Position.{peg}
use Rattle.board.specs.Task.{limit}
use Rattle.route.specs.Inner.Along.{along, stacked, IsPeg}
use Rattle.route.proofs.gathering.Gathering.pegs_along.Given as goal

abbrev pub invariant-loop-m : goal.invariant-loop-m
invariant-loop-m l =
    record {
      goal_peg : l.passed.goal < 3;
      tower_peg : IsPeg l.passed.tower;
      size : length l.pegs ≡ limit;
      left : (d : ℕ) → d < l.m → along (stacked l.self.position.now l.passed.tower) l.m l.passed.goal l.passed.rest d ≡ along (peg l.self.position.now) l.self.discs l.self.target l.left d;
      done : (d : ℕ) → l.m ≤ d → d < l.self.discs → get_or l.pegs d 0 ≡ along (peg l.self.position.now) l.self.discs l.self.target l.left d;
    }
