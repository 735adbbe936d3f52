-- The leg's own move is written, or so many of the gathering, and the stepper goes on.
use mathlib.Core.Path.{ap}
use native.Mathlib.Numerals.{add-one}
use native.Mathlib.Omega.{arith}
use Rattle.run.specs.Inner.Stepper.{Advance}
use Rattle.run.specs.Inner.Written.{steps_from}
use Rattle.run.proofs.Gathers.{gathers_safe, gathered_steps, gathered_letters}
use Rattle.run.proofs.Letters.{go}
use Rattle.run.proofs.Steps.{leg_made}
use Rattle.run.proofs.write.write_moves.Goals as goal

-- The leg's own move is written.
pub loop-i-preserved-then-turn-eq0 : goal.loop-i-preserved-then-turn-eq0
unfolding steps_from
loop-i-preserved-then-turn-eq0 c =
    let inv = c.loop-i.invariant in
    let next = leg_made _ inv.stepper_after c.if-turn-eq0.true c.next_leg-next.ensures c.leg_turn-step.ensures.value c.leg_turn-step.ensures.pegs_after in
    record {
      some = omega arith;
      stepper_after = rw add-one (ap (λ (t : Advance). t.stepper) next);
      written = rw add-one (go _ _ _ _ inv.written c.loop-i.auto.out (omega (arith, c.requires.count_in_bounds)) next c.write_step.ensures);
    }

pub write_gathering-requires-clause-by_index : goal.write_gathering-requires-clause-by_index
write_gathering-requires-clause-by_index c =
    λ j h. gathers_safe _ _ _ j c.loop-i.invariant.stepper_after (omega arith) (c.requires.by_index _ (omega arith))

-- So many moves of the gathering are written.
pub loop-i-preserved : goal.loop-i-preserved
loop-i-preserved c =
    let inv = c.loop-i.invariant in
    record {
      some = omega arith;
      stepper_after = gathered_steps _ _ _ inv.stepper_after _ (omega arith) c.write_gathering.ensures.gatherer_after;
      written =
          gathered_letters _ _ _ inv.stepper_after _ (omega arith) _ inv.written c.loop-i.auto.out (omega (arith, c.requires.count_in_bounds))
          c.write_gathering.ensures.out_after;
    }
