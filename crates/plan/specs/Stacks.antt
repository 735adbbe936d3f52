-- Demand 2 of Gather (002, Theorem 3): what it answers is the rule's length, and the fewest moves that stack the position on the peg.
use Rattle.std.specs.Prelude.{ℕ, List, ◌≡◌, length, replicate}
use Rattle.board.specs.Fewest.{Fewest}
use Rattle.board.specs.Position.{peg}
use Rattle.board.specs.Reply.{answer}
use Rattle.plan.specs.Answer.{gather_answer}
use Rattle.plan.specs.Gather.{gather}

pub record Stacks (p : List ℕ) (j : ℕ) : Type 0 where
  pub moves : ℕ
  pub answered : gather_answer p j ≡ answer moves
  pub rule : moves ≡ gather (peg p) (length p) j
  pub fewest : Fewest p (replicate (length p) j) moves
