-- Request 10 (02, CR 10), said of what Totals answers.
use Rattle.std.specs.Prelude.{ℕ, ◌+◌, ◌-◌, ◌*◌, ◌%◌, ◌^◌, ◌≤◌, ◌<◌, ◌↔◌, ◌≡◌, length}
use mathlib.Core.List.{List, ◌++◌, Mem, Nodup}
use Rattle.board.specs.Fewest.{fewest}
use Rattle.board.specs.Reply.{refused, answer}
use Rattle.plan.specs.Answer.{plan_answer}
use Rattle.plan.specs.Plan.{routes}
use Rattle.plan.specs.declared.answer.Plan.{Plan}
use Rattle.averages.specs.Answer.{totals_answer}
use Rattle.averages.specs.Hinz.{u, sum_by, ties_by}
use Rattle.averages.specs.Positions.{IsPosition, pairs}
use Rattle.averages.specs.Terms.{terms_of, Fits}
use Rattle.averages.specs.Totals.{sum_over, tie_of}
use Rattle.averages.specs.declared.answer.Totals.{Totals}

-- l lists the ordered pairs of positions of n discs for which P holds: these and no others, each once.
pub record Lists (n : ℕ) (P : List ℕ → List ℕ → Type 0) (l : List (List ℕ × List ℕ)) : Type 0 where
  pub once : Nodup l
  pub all : (p q : List ℕ) → Mem (p, q) l ↔ (IsPosition n p × IsPosition n q × P p q)

-- Any pair.
abbrev pub Any : List ℕ → List ℕ → Type 0
Any p q = Unit {0}

-- A pair that ties: Plan answers two shortest routes from p to q.
abbrev pub Ties : List ℕ → List ℕ → Type 0
Ties p q = (r : Plan) × (plan_answer (p ++ q) ≡ answer r) × (routes r ≡ 2)

-- What holds of every n.
pub record Recurrences (n : ℕ) : Type 0 where
  -- All ordered pairs can be listed, and there are 9 ^ n.
  pub listed : Lists n Any (pairs n)
  pub many : length (pairs n) ≡ 9 ^ n
  -- Over any such list, the fewest moves and the plans that are a tie add up to the numbers of Hinz's recurrences.
  pub sum : (l : List (List ℕ × List ℕ)) → Lists n Any l → sum_over (λ c. fewest c.0 c.1) l ≡ sum_by n
  pub ties : (l : List (List ℕ × List ℕ)) → Lists n Any l → sum_over (λ c. tie_of c.0 c.1) l ≡ ties_by n
  -- In the recurrences every quotient is whole, and no difference is below 0.
  pub whole : ((3 ^ n + 1) * (6 ^ n - 1) % 5 ≡ 0) × ((6 ^ n - 1) % 5 ≡ 0) × (6 ^ n * (3 ^ n - 1) % 2 ≡ 0)
  pub above : (1 ≤ 3 ^ n) × (1 ≤ 6 ^ n) × (1 ≤ 2 ^ (n + 2)) × (6 * u n ≤ 3 * sum_by n + 2 * 9 ^ n * (2 ^ (n + 2) - 1))

-- What holds of what Totals answers for n discs.
pub record Request10 (n : ℕ) : Type 0 where
  pub totals : Totals
  pub answered : totals_answer n ≡ answer totals
  -- The sum is that of the fewest moves, over any list of all ordered pairs.
  pub sum : (l : List (List ℕ × List ℕ)) → Lists n Any l → totals.sum ≡ sum_over (λ c. fewest c.0 c.1) l
  -- The ties are the length of any list of the pairs that tie, and there is such a list.
  pub ties : (l : List (List ℕ × List ℕ)) → Lists n Ties l → totals.ties ≡ length l
  pub tied : (l : List (List ℕ × List ℕ)) × Lists n Ties l
  -- Both are the numbers of Hinz's recurrences; every number on the way fits 64 bits.
  pub hinz : Recurrences n
  pub by_hinz : (totals.sum ≡ sum_by n) × (totals.ties ≡ ties_by n)
  pub fits : (k : ℕ) → k < n → Fits (terms_of k)

-- The request's figures, of 0 to 3 discs; besides, those of 4 and of 15, the last size. All larger boards are refused with 20.
pub record GivenTotals : Type 0 where
  pub none : totals_answer 0 ≡ answer (record { sum = 0; ties = 0 })
  pub one : totals_answer 1 ≡ answer (record { sum = 6; ties = 0 })
  pub two : totals_answer 2 ≡ answer (record { sum = 144; ties = 6 })
  pub three : totals_answer 3 ≡ answer (record { sum = 2838; ties = 48 })
  pub four : totals_answer 4 ≡ answer (record { sum = 53160; ties = 282 })
  pub fifteen : totals_answer 15 ≡ answer (record { sum = 3552399764155943718; ties = 7157423256 })
  pub larger : (n : ℕ) → 15 < n → totals_answer n ≡ refused 20
