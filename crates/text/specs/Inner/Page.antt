-- What the reader and the report promise.
use Rattle.std.specs.Prelude.{ℕ, not, List, [], ◌∷◌, ◌++◌, eqb, length, Result, Ok, Err}
use Rattle.board.specs.Refusal.{number}
use Rattle.board.specs.Reply.{Reply, refused, answer, ◌>>◌, check}
use Rattle.board.specs.declared.refusal.Refusal.{Refusal}
use Rattle.text.specs.Input.{space}
use Rattle.text.specs.Reading.{is_text, start_in, goal_in}

-- What is put onto a list of bytes, or a refusal.
abbrev pub put_reply : Result (Unit {0}) Refusal → List ℕ → Reply (List ℕ)
put_reply (Ok _) items = answer items
put_reply (Err why) items = refused (number why)

-- What is read: 12, other text; 1, unequal counts; else the digits of both lines.
unfoldable pub read_answer : List ℕ → Reply (List ℕ)
read_answer b = do
  check (not (is_text b)) 12
  check (not (eqb (length (start_in b)) (length (goal_in b)))) 1
  answer (start_in b ++ goal_in b)

-- A space before each two of the letters.
unfoldable pub spaced : List ℕ → List ℕ
spaced [] = []
spaced (a ∷ []) = []
spaced (a ∷ b ∷ l) = space ∷ a ∷ b ∷ spaced l
