-- The walk, the letters left and the goal tell the first fault.
use mathlib.Core.Logic.{inl}
use mathlib.Core.Path.{refl}
use native.Mathlib.Omega.{arith}
use Rattle.std.proofs.lemmas.Bool.Decides.{nat_tests}
use Rattle.plan.proofs.Parts.{part_to_end}
use Rattle.checker.proofs.Calls.{letters_refuses}
use Rattle.checker.proofs.Ended.{ended_check}
use Rattle.checker.proofs.verdict.letters_verdict.Goals as goal

-- The length is odd.
pub returns-then-letters-eq1 : goal.returns-then-letters-eq1
returns-then-letters-eq1 c = letters_refuses _ _ _ (inl (inl c.if-letters-eq1.true, refl))

-- A move is not legal, and all bytes are letters.
pub returns-then-only_letters : goal.returns-then-only_letters
returns-then-only_letters c =
    let check = ended_check _ _ _ _ c.walk-made.ensures c.if-letters-eq1.false c.args.task.now.ends in
    let left = c.only_letters.ensures in
    grind (arith, nat_tests, part_to_end)

-- Some byte is no letter.
pub returns-else-only_letters : goal.returns-else-only_letters
returns-else-only_letters c =
    let check = ended_check _ _ _ _ c.walk-made.ensures c.if-letters-eq1.false c.args.task.now.ends in
    let left = c.only_letters.ensures in
    grind (arith, nat_tests, part_to_end)

-- The moves are the fewest, and lead to the goal.
pub returns-then-there : goal.returns-then-there
returns-then-there c =
    let check = ended_check _ _ _ _ c.walk-made.ensures c.if-letters-eq1.false c.args.task.now.ends in
    grind (arith, nat_tests)

-- They are not, or lead elsewhere.
pub returns-else-shortest-made : goal.returns-else-shortest-made
returns-else-shortest-made c =
    let check = ended_check _ _ _ _ c.walk-made.ensures c.if-letters-eq1.false c.args.task.now.ends in
    grind (arith, nat_tests)
