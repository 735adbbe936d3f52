use Rattle.std.proofs.Common.{◌≢◌, ◌<◌, arith}
use Rattle.board.proofs.Formed.{formed_pegs}
use Rattle.board.proofs.Pegs.{third_peg}
use Rattle.plan.proofs.OnePass.{passing_first, passing_next}
use Rattle.plan.proofs.task.Task.lengths.Goals as goal

pub loop-d-init : goal.loop-d-init
loop-d-init c =
    let ends = c.args.self.now.ends in
    let from = formed_pegs _ ends.start_formed c.args.k in
    let to = formed_pegs _ ends.goal_formed c.args.k in
    let aside : c.third-aside.result < 3 = rw c.third-aside.ensures (third_peg _ _ from) in
    record { direct = passing_first ends c.requires aside aside; detour = passing_first ends c.requires to from }

-- Disc d is passed.
pub loop-d-preserved : goal.loop-d-preserved
loop-d-preserved c =
    let some : c.loop-d.d ≢ 0 = omega arith in
    record {
      direct = rw c.passed-direct.ensures (passing_next c.loop-d.invariant.direct some);
      detour = rw c.passed-detour.ensures (passing_next c.loop-d.invariant.detour some);
    }
