-- The totals of a board: the fewest moves over all ordered pairs of positions, and the pairs that tie (02, CR 10).
use Rattle.std.specs.Prelude.{ℕ, ◌+◌, List, [], ◌∷◌}
use Rattle.board.specs.Fewest.{fewest}
use Rattle.plan.specs.Plan.{plan_of}
use Rattle.plan.specs.declared.answer.Way.{Way}
use Rattle.plan.specs.declared.answer.Way.TheVariants.{Still, Direct, Detour, Tie}
use Rattle.averages.specs.Positions.{pairs}

-- What f makes of the entries of a list, added up.
unfoldable pub sum_over : {A : Type 0} → (A → ℕ) → List A → ℕ
sum_over f [] = 0
sum_over f (a ∷ l) = f a + sum_over f l

-- The fewest moves of all ordered pairs, added up.
unfoldable pub fewest_sum : ℕ → ℕ
fewest_sum n = sum_over (λ c. fewest c.0 c.1) (pairs n)

-- 1 for a tie, else 0.
abbrev pub is_tie : Way → ℕ
is_tie Still = 0
is_tie (Direct l) = 0
is_tie (Detour l) = 0
is_tie (Tie l) = 1

-- Whether the plan from p to q is a tie.
abbrev pub tie_of : List ℕ → List ℕ → ℕ
tie_of p q = is_tie (plan_of p q).way

-- How many ordered pairs have such a plan, pairs alike at disc n counted too.
unfoldable pub tie_count : ℕ → ℕ
tie_count n = sum_over (λ c. tie_of c.0 c.1) (pairs n)
