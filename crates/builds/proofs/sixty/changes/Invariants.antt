-- No more of the changes were as Gather than were made.
use Rattle.std.proofs.Common.{◌≤◌}
use Rattle.builds.proofs.sixty.changes.Given as goal

abbrev pub invariant-loop-digit : goal.invariant-loop-digit
invariant-loop-digit g l = l.times ≤ l.digit-index
