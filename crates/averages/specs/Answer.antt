-- What Totals answers (02, CR 10).
use Rattle.std.specs.Prelude.{ℕ, ltb}
use Rattle.board.specs.Reply.{Reply, answer, ◌>>◌, check}
use Rattle.averages.specs.Totals.{fewest_sum, tie_count}
use Rattle.averages.specs.declared.answer.Totals.{Totals}

-- The most discs of a board that is totalled.
abbrev pub totals_limit : ℕ
totals_limit = 15

-- The totals of n discs.
abbrev pub totals_of : ℕ → Totals
totals_of n = record { sum = fewest_sum n; ties = tie_count n }

-- Totals: 20, more than 15 discs.
unfoldable pub totals_answer : ℕ → Reply Totals
totals_answer n = do
  check (ltb totals_limit n) 20
  answer (totals_of n)
