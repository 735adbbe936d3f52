-- The task is read, and a position of its size and of pegs is located on it.
use mathlib.Core.Path.{◌∙◌, sym}
use borrow.Author.Tests.{eq-eqb, ne_eqb}
use Rattle.plan.proofs.Calls.{read_ends, read_discs}
use Rattle.route.specs.Answer.{locate_answer}
use Rattle.route.proofs.locating.locate.Goals as goal

-- The position has another size.
pub returns-then-position-discs : goal.returns-then-position-discs
unfolding locate_answer
returns-then-position-discs c =
    let o = read_ends _ c.in_ok-task.ensures in
    let size = c.discs.ensures ∙ read_discs o in
    rw (o.accepted, ne_eqb _ _ (λ e. c.if-position-discs.true (e ∙ sym size)))

-- A byte of the position is no peg.
pub returns-then-not-only_pegs : goal.returns-then-not-only_pegs
unfolding locate_answer
returns-then-not-only_pegs c =
    let o = read_ends _ c.in_ok-task.ensures in
    let size = c.if-position-discs.false ∙ c.discs.ensures ∙ read_discs o in
    rw (o.accepted, eq-eqb _ _ size, ← c.only_pegs.ensures, c.if-not-only_pegs.true)

-- The position is located.
pub returns : goal.returns
unfolding locate_answer
returns c =
    let o = read_ends _ c.in_ok-task.ensures in
    let size = c.if-position-discs.false ∙ c.discs.ensures ∙ read_discs o in
    let found = rw (o.from, o.to) at c.locate_on.ensures in
    rw (o.accepted, eq-eqb _ _ size, ← c.only_pegs.ensures, c.if-not-only_pegs.false, found)
