-- What the C host gets (document 01; 02, CR 5): each reply as one number of 64 bits, refusal k as 2 ^ 64 − k.
use Rattle.std.specs.Prelude.{ℕ, ◌-◌, ◌≤◌, ◌<◌, ◌^◌, List, ◌↔◌, ◌≡◌}
use Rattle.board.specs.Reply.{Reply, refused, answer, ◌>>=◌}
use Rattle.board.specs.Task.{limit}
use Rattle.plan.specs.Answer.{plan_answer}
use Rattle.plan.specs.Plan.{shortest}

abbrev pub word : Reply ℕ → ℕ
word (refused k) = 2 ^ 64 - k
word (answer n) = n

-- The shortest length of a task.
abbrev pub shortest_reply : List ℕ → Reply ℕ
shortest_reply t = do p ← plan_answer t; answer (shortest p)

abbrev pub shortest_word : List ℕ → ℕ
shortest_word t = word (shortest_reply t)

-- The most that a refusal's number is.
abbrev pub last_number : ℕ
last_number = 20

-- A number tells a reply: a refusal has one of the numbers 1 to `last_number`, the number is 2 ^ 64 − k exactly where the reply is refused
-- with such a k, and an answer is itself, below 2 ^ 60.
pub record Tells (w : ℕ) (r : Reply ℕ) : Type 0 where
  pub numbered : (k : ℕ) → r ≡ refused k → (1 ≤ k) × (k ≤ last_number)
  pub refuses : (k : ℕ) → 1 ≤ k → k ≤ last_number → (w ≡ 2 ^ 64 - k) ↔ (r ≡ refused k)
  pub answers : (n : ℕ) → r ≡ answer n → (w ≡ n) × (n < 2 ^ limit)
