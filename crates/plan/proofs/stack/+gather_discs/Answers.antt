use Rattle.std.proofs.Common.{arith}
use Rattle.plan.proofs.Fits.{gather_more}
use Rattle.plan.proofs.stack.+gather_discs.Goals as goal

-- Disc k and the smaller ones.
pub returns : goal.returns
returns t c = cc (gather_more _ _ _ c.if-k-eq0.false (omega arith))
