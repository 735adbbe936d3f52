-- Each disc on the way down moves as often as the gaps above it say.
use mathlib.Core.Logic.{◌≢◌}
use mathlib.Core.Path.{◌∙◌}
use native.Mathlib.Omega.{arith}
use Rattle.wear.proofs.Stored.{below_ready, below_stored}
use Rattle.wear.proofs.writing.write_smaller.Goals as goal

pub loop-d-preserved : goal.loop-d-preserved
loop-d-preserved c =
    let inv = c.loop-d.invariant in
    let some : c.loop-d.d ≢ 0 = omega arith in
    record {
      ready = below_ready inv.ready some c.third.ensures c.third-in-loop-d.ensures;
      left = below_stored inv.ready some c.third.ensures c.third-in-loop-d.ensures ∙ inv.left;
    }
