-- `example::own::remaining_after` meets its contract: a report after any list of plays says what remains.
use Rattle.std.proofs.Common.{rules}
use mathlib.Core.List.{List}
use mathlib.Core.Path.{◌≡◌}
use Prim.Native.Nat.{ℕ}
use Rattle.board.specs.Fault.{Faultless, task_faults}
use Rattle.board.specs.Fewest.{fewest}
use Rattle.board.specs.Reply.{answer}
use Rattle.board.specs.Task.{goal as goal_of}
use Rattle.board.proofs.Replies.{refused_answer, answer_same}
use Rattle.session.specs.Answer.{begin_answer, opened, session_or, report_answer}
use Rattle.session.specs.Record.{current_of}
use Rattle.session.specs.Sessions.{record_after, calls_from}
use Rattle.session.specs.declared.counting.Figures.{Figures}
use Rattle.session.specs.declared.record.Session.{Session}
use Rattle.session.proofs.Calls.{begin_accepts}
use Rattle.session.proofs.Sessions.{begun_accounted}
use Rattle.example.proofs.own.remaining_after.Goals as goal

-- The record after plays on what Begin answers is reported, and what remains is the fewest from where it stands to the goal.
reported : (t plays : List ℕ) {begun after : Session} → Faultless (task_faults t)
    → begun ≡ session_or (begin_answer t) → after ≡ record_after begun (calls_from plays)
    → (f : Figures) × (report_answer after ≡ answer f) × (f.remaining ≡ fewest (current_of (record_after (opened t) (calls_from plays))) (goal_of t))
reported t plays none begun after =
    let accepted = begin_accepts t none in
    let reports = (begun_accounted t accepted (calls_from plays)).reports in
    (reports.figures, rw (after, begun, accepted) reports.answered, reports.remaining)

pub returns : goal.returns
returns c none =
    let (f, answered, remaining) = reported _ _ none c.begin-begun.ensures.session_value c.replay.ensures in
    search (rules, answered, remaining, refused_answer, answer_same)
