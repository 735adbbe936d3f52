-- What Wear answers, and what it leaves of a lent buffer (02, CR 6).
use Rattle.std.specs.Prelude.{ℕ, List, ltb, length}
use Rattle.board.specs.Reply.{answer, ◌>>◌, Check, check, written}
use Rattle.board.specs.Task.{discs}
use Rattle.route.specs.Answer.{route_check}
use Rattle.wear.specs.Wear.{wears_of}

-- Wear: task faults; 4; 6, fewer than n entries.
unfoldable pub wear_answer : List ℕ → ℕ → List ℕ → Check
wear_answer t r out = do
  route_check t r
  check (ltb (length out) (discs t)) 6

-- What Wear leaves of the buffer: the wears of discs 1 to n, and then the entries that it had.
unfoldable pub wear_writes : List ℕ → ℕ → List ℕ → List ℕ
wear_writes t r out = written (do wear_answer t r out; answer (wears_of t r)) out
