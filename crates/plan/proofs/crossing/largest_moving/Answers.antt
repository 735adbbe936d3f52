use Rattle.std.proofs.Common.{◌≡◌, ◌∙◌, sym, arith}
use Rattle.plan.proofs.Largest.{largest_none}
use Rattle.plan.proofs.crossing.largest_moving.Goals as goal

-- No disc is left.
pub returns : goal.returns
returns c = let none : c.loop-k.k ≡ 0 = omega arith in sym (largest_none _ _) ∙ rw none at c.loop-k.invariant
