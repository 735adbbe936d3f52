-- Of two routes the first move tells.
use native.Mathlib.Omega.{arith}
use Rattle.checker.proofs.First.{first_there, told}
use Rattle.checker.proofs.numbering.is_first.Goals as goal

-- Move does not refuse.
pub unwrap-requires : goal.unwrap-requires
unwrap-requires c =
    first_there _ _ c.requires.one_of_ours c.requires.routes_value c.if-routes-eq1.false _ c.move_at.ensures.result_value

-- What it answers goes between pegs.
pub overflow_add-first : goal.overflow_add-first
overflow_add-first c =
    let first = told _ _ c.requires.one_of_ours c.requires.routes_value c.if-routes-eq1.false (rw c.unwrap.ensures at c.move_at.ensures.result_value) in
    omega (arith, first.from_peg)

pub overflow_add-first-2 : goal.overflow_add-first-2
overflow_add-first-2 c =
    let first = told _ _ c.requires.one_of_ours c.requires.routes_value c.if-routes-eq1.false (rw c.unwrap.ensures at c.move_at.ensures.result_value) in
    omega (arith, first.to_peg)
