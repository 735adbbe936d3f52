-- The letters of one stretch after another are written, and in the end those of the course.
use native.Mathlib.Omega.{arith}
use lib.Seq.{take_all}
use Rattle.parts.proofs.Stretches.{counted_length}
use Rattle.parts.proofs.Written.{counted_more, written_more}
use Rattle.parts.proofs.course.write_course.Goals as goal

pub loop-part-preserved : goal.loop-part-preserved
loop-part-preserved c =
    rw (counted_more c.stretches-part-items.result c.loop-part.part-index (omega arith))
    (written_more c.loop-part.invariant _ _ (rw c.saturating_sub.ensures at c.lesser-reached.ensures) c.letter.ensures (c.fill.ensures.after (λ y e. e)))

pub returns-clause-value : goal.returns-clause-value
returns-clause-value c =
    let items = c.stretches-part-items.result in
    let all = rw (take_all c.loop-part.part-index items (omega arith)) at c.loop-part.invariant in
    omega (arith, all.count, all.ends, counted_length c.args.course items c.requires.course_bound c.stretches-part-items.ensures)
