-- How much Run writes.
use Rattle.std.proofs.Common.{ℕ, List, ◌≡◌, sym, ◌*◌, ◌≤◌, length}
use Rattle.std.proofs.lemmas.List.{length-take-le}
use Rattle.board.specs.Reply.{answer}
use Rattle.route.specs.Answer.{run_answer}
use Rattle.route.proofs.Calls.Answers.{run_answered}

-- The letters of the moves that Run answers fit its buffer.
pub run_fits : (t : List ℕ) (r i : ℕ) (out : List ℕ) {k : ℕ} → answer k ≡ run_answer t r i out → 2 * k ≤ length out
run_fits t r i out e = (run_answered t r i out (sym e)).room

-- So a part of so many bytes of the buffer has them.
pub ruleset run_letters = (run_fits, length-take-le)
