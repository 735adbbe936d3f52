-- One more move is made, and its letters are stored after those before.
use native.Mathlib.Numerals.{add-one}
use native.Mathlib.Omega.{arith}
use Rattle.run.proofs.Gathers.{gather_next_lem, gather_go}
use Rattle.run.proofs.write.write_gathering.Goals as goal

pub loop-i-preserved : goal.loop-i-preserved
loop-i-preserved c =
    let inv = c.loop-i.invariant in
    let is = c.gather_turn.ensures.value in
    record {
      gatherer_after = rw add-one (gather_next_lem _ _ inv.gatherer_after is c.gather_turn.ensures.pegs_after);
      written = rw add-one (gather_go _ _ inv.gatherer_after is _ inv.written (omega (arith, c.loop-i.auto.out)) c.write_step.ensures);
    }
