-- What Parts answers, and what it leaves of a lent buffer (02, CR 1).
use Rattle.std.specs.Prelude.{ℕ, ◌-◌, min, ◌&&◌, List, map, ltb, length, take, drop}
use Rattle.board.specs.Reply.{Reply, answer, ◌>>◌, ◌>>=◌, check, written}
use Rattle.board.specs.Task.{start, goal}
use Rattle.route.specs.Answer.{length_of, route_check}
use Rattle.route.specs.Part.{part_letter, parts_of}

-- Parts: task faults; 4; 5, the first index is above the length; 6, moves remain and the buffer is below 1 byte. As many moves as remain
-- or fit, the lesser.
unfoldable pub parts_answer : List ℕ → ℕ → ℕ → List ℕ → Reply ℕ
parts_answer t r i out = do
  route_check t r
  check (ltb (length_of t) i) 5
  check (ltb i (length_of t) && ltb (length out) 1) 6
  answer (min (length_of t - i) (length out))

-- What Parts leaves of the buffer: the letters of the parts of so many moves from the first index on.
unfoldable pub parts_writes : List ℕ → ℕ → ℕ → List ℕ → List ℕ
parts_writes t r i out =
    written (do k ← parts_answer t r i out; answer (map part_letter (take k (drop i (parts_of (start t) (goal t) r))))) out
