-- The plays that are left, made on the record as it stands, leave what all of them leave.
use Rattle.std.proofs.Common.{◌≡◌, drop}
use Rattle.session.specs.Sessions.{record_after, calls_from}
use Rattle.session.proofs.replaying.replay.Given as goal

abbrev pub invariant-loop-from : goal.invariant-loop-from
invariant-loop-from l = record_after l.session (drop l.from-index (calls_from l.plays)) ≡ record_after l.initial.session (calls_from l.plays)
