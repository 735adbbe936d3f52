-- The part of the move is answered too.
use mathlib.Core.Path.{ap}
use borrow.Author.Tests.{lt-ltb}
use Rattle.board.specs.Reply.{answer}
use Rattle.route.specs.Answer.{move_answer, part_answer}
use Rattle.route.specs.Part.{part_letter}
use Rattle.route.proofs.Calls.Opened.{opened_length, open_answered}
use Rattle.route.proofs.moves.move_at.Goals as goal

pub returns-clause-part_value : goal.returns-clause-part_value
unfolding move_answer part_answer
returns-clause-part_value c =
    let o = open_answered _ _ c.in_ok-opened.ensures in
    let of_task = rw (o.from, o.to, o.route) at c.route_move.ensures in
    rw (o.passed, opened_length o, ← c.shortest.ensures, lt-ltb _ _ c.if-shortest-index.false) (ap (λ a. answer (part_letter a)) of_task.part_value)
