-- What the task program reads (document 01, "Task program"): two lines, each ending in byte 10, each a position as in 002.
use Rattle.std.specs.Prelude.{ℕ, ◌+◌, ◌≤◌, ◌<◌, ◌≡◌, List, [], ◌∷◌, ◌++◌, length}

-- The most bytes that are read.
abbrev pub most : ℕ
most = 512

-- The bytes of a line that are not digits.
abbrev pub newline : ℕ
newline = 10

abbrev pub space : ℕ
space = 32

abbrev pub comma : ℕ
comma = 44

abbrev pub opening : ℕ
opening = 91

abbrev pub closing : ℕ
closing = 93

-- The byte of a digit.
abbrev pub digit : ℕ → ℕ
digit d = 48 + d

-- What follows the first digit of a line: each further digit after a comma and a space, then the bracket and the line's end.
unfoldable pub further_text : List ℕ → List ℕ
further_text [] = closing ∷ newline ∷ []
further_text (d ∷ p) = comma ∷ space ∷ digit d ∷ further_text p

-- The line of a position; [] has no discs.
unfoldable pub line_text : List ℕ → List ℕ
line_text [] = opening ∷ closing ∷ newline ∷ []
line_text (d ∷ p) = opening ∷ digit d ∷ further_text p

-- Single digits.
pub data Digits : List ℕ → Type 0 where
  none : Digits []
  more : {d : ℕ} {p : List ℕ} → d < 10 → Digits p → Digits (d ∷ p)

-- The bytes b are the text of the start s and the goal t.
pub record Text (b s t : List ℕ) : Type 0 where
  pub fits : length b ≤ most
  pub lines : b ≡ line_text s ++ line_text t
  pub start_digits : Digits s
  pub goal_digits : Digits t
