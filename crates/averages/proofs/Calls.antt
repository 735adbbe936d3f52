-- What Totals answers, and when: demand 1 of it, and the laws for whoever calls it.
use Prim.Native.Nat.{ℕ, ◌≤◌}
use mathlib.Core.List.{append-nil}
use mathlib.Core.Path.{◌≡◌}
use borrow.Author.Tests.{ltb-true, ltb-false, lt-ltb, le-ltb}
use lib.Dec.{ltb}
use Rattle.board.specs.Fault.{Obeys}
use Rattle.board.specs.Reply.{answer}
use Rattle.board.proofs.Obeys.{answer_obeys, check_obeys, then_obeys}
use Rattle.board.proofs.Replies.{check_answered}
use Rattle.averages.specs.Answer.{totals_limit, totals_of, totals_answer}
use Rattle.averages.specs.Faults.{totals_faults}
use Rattle.averages.specs.Totals.{fewest_sum, tie_count}
use Rattle.averages.specs.declared.answer.Totals.{Totals}

-- Demand 1: Totals is refused as its faults say, and never else.
pub totals_obeys : (n : ℕ) → Obeys (totals_faults n) (totals_answer n)
unfolding totals_answer
totals_obeys n =
    rw (← append-nil (totals_faults n))
    (then_obeys (check_obeys (ltb totals_limit n) 20 (ltb-true totals_limit n, lt-ltb totals_limit n)) (answer_obeys _))

-- A board within the limit is totalled.
pub totals_accepts : (n : ℕ) → n ≤ totals_limit → totals_answer n ≡ answer (totals_of n)
unfolding totals_answer
totals_accepts n h = rw (le-ltb totals_limit n h)

-- What an answer says: the board is within the limit, and the numbers are the sum and the count over all ordered pairs.
pub record TotalsAnswered (n : ℕ) (t : Totals) : Type 0 where
  pub within : n ≤ totals_limit
  pub sum : t.sum ≡ fewest_sum n
  pub ties : t.ties ≡ tie_count n

pub totals_answered : (n : ℕ) {t : Totals} → totals_answer n ≡ answer t → TotalsAnswered n t
unfolding totals_answer
totals_answered n e =
    let (few, same) = check_answered (ltb totals_limit n) 20 _ e in
    record { within = ltb-false totals_limit n few; sum = cc; ties = cc }
