-- The letters of the stretches so far are written.
use lib.ListN.{take}
use Rattle.parts.specs.Inner.Course.{counted_parts}
use Rattle.parts.proofs.Written.{Written}
use Rattle.parts.proofs.course.write_course.Given as goal

abbrev pub invariant-loop-part : goal.invariant-loop-part
invariant-loop-part l =
    Written l.first l.initial.out (counted_parts (take l.part-index l.part-items)) l.end l.written l.out
