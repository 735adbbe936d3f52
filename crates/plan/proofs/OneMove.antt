-- One legal move changes the fewest to a goal by at most one, either way.
use Prim.Native.Nat.{ℕ, ◌+◌, ◌≤◌}
use mathlib.Core.Path.{◌≡◌, ◌∙◌, ap}
use mathlib.Core.List.{List}
use native.Mathlib.Omega.{arith}
use lib.ListN.{length}
use Rattle.board.specs.Position.{peg, WellFormed}
use Rattle.board.specs.Move.{Move, Legal, moved}
use Rattle.board.specs.Fewest.{fewest}
use Rattle.board.proofs.Formed.{formed_pegs}
use Rattle.board.proofs.Top.{length_moved}
use Rattle.plan.proofs.Step.{step_back}
use Rattle.plan.proofs.Distance.{dist, step_dist}
use Rattle.board.proofs.Leads.{formed_moved}
use Rattle.plan.proofs.Moves.{legal_step}
use Rattle.plan.proofs.Optimal.{fewest_dist}

module _ (p q : List ℕ) (m : Move) (same : length p ≡ length q) (hp : WellFormed p) (hq : WellFormed q) (l : Legal p m) where
  -- The fewest after the move, as a distance of the same number of discs.
  moved_dist : fewest (moved p m) q ≡ dist (peg (moved p m)) (peg q) (length p)
  moved_dist =
      fewest_dist (moved p m) q (length_moved p m ∙ same) (formed_moved p m hp l) hq
      ∙ ap (dist (peg (moved p m)) (peg q)) (length_moved p m)

  -- The goal is at most one move further.
  pub moved_further : fewest (moved p m) q ≤ fewest p q + 1
  moved_further =
      omega (
        arith,
        moved_dist,
        fewest_dist p q same hp hq,
        step_dist (length p) (peg p) (peg (moved p m)) (peg q) (formed_pegs p hp) (formed_pegs q hq) (legal_step p m hp l),
      )

  -- And at most one move nearer.
  pub moved_nearer : fewest p q ≤ fewest (moved p m) q + 1
  moved_nearer =
      omega (
        arith,
        moved_dist,
        fewest_dist p q same hp hq,
        step_dist (length p) (peg (moved p m)) (peg p) (peg q) (formed_pegs (moved p m) (formed_moved p m hp l)) (formed_pegs q hq)
            (step_back (legal_step p m hp l)),
      )
