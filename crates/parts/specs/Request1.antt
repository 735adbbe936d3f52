-- Request 1 (02, CR 1), said of what Move and Parts answer.
use Rattle.std.specs.Prelude.{ℕ, ◌-◌, ◌≤◌, ◌<◌, min, List, ◌++◌, ◌≡◌, length, drop}
use Rattle.board.specs.Reply.{answer}
use Rattle.route.specs.Annotated.{letters_from, Annotated}
use Rattle.route.specs.Answer.{length_of, count_of}
use Rattle.parts.specs.Answer.{parts_answer, parts_writes}

-- Parts answers how many moves remain or fit, the lesser, and writes the letters that Move answers for these; other bytes stay.
pub record Letters (t : List ℕ) (r i : ℕ) (out : List ℕ) : Type 0 where
  pub count : ℕ
  pub lesser : count ≡ min (length_of t - i) (length out)
  pub answered : parts_answer t r i out ≡ answer count
  pub wrote : parts_writes t r i out ≡ letters_from t r i count ++ drop count out

pub record Request1 (t : List ℕ) : Type 0 where
  -- Move, at every index, and the letters of each whole route.
  pub annotated : Annotated t
  -- Parts, wherever it has no fault.
  pub letters : (r i : ℕ) (out : List ℕ) → r < count_of t → i ≤ length_of t → (i < length_of t → 1 ≤ length out) → Letters t r i out
