-- What one pass over both positions makes of the gathers of a plan.
use Rattle.std.specs.Prelude.{ℕ, ◌+◌, ◌*◌, ◌^◌, not, List, eqb}
use Rattle.std.specs.Int.{from_bool}
use Rattle.board.specs.Peg.{third}
use Rattle.board.specs.Position.{peg}
use Rattle.plan.specs.Gather.{gather}
use Rattle.plan.specs.declared.together.Gathers.{Gathers}

-- A plan's sum, doubled once for each of k discs, and the lengths to gather these discs on i from the start s and on j from the goal t.
unfoldable pub added : List ℕ → List ℕ → ℕ → ℕ → ℕ → ℕ → ℕ
added s t k i j sum = sum * 2 ^ k + (gather (peg s) k i + gather (peg t) k j)

-- Its gathers after a disc on x in the start and on y in the goal.
abbrev pub after : Gathers → ℕ → ℕ → Gathers
after g x y =
    record {
      start = third g.start x;
      goal = third g.goal y;
      sum = 2 * g.sum + from_bool (not (eqb x g.start)) + from_bool (not (eqb y g.goal));
    }
