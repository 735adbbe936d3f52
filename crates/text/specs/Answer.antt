-- What the task program prints for the bytes on its standard input (document 01, "Task program").
use Rattle.std.specs.Prelude.{ℕ, not, List, [], ◌∷◌, ◌++◌, eqb, ltb, length, drop}
use Prim.Native.Char.{code}
use Rattle.board.specs.Position.{well_formed}
use Rattle.board.specs.Reply.{Reply, refused, answer, ◌>>◌, check}
use Rattle.board.specs.Task.{limit}
use Rattle.text.specs.Decimal.{decimal}
use Rattle.text.specs.Input.{space}
use Rattle.text.specs.Reading.{is_text, start_in, goal_in}
use Rattle.text.specs.Report.{line, report_text}

-- 12, other text or more bytes; 1, unequal counts; 2; 3; else the report.
unfoldable pub text_answer : List ℕ → Reply (List ℕ)
text_answer b = do
  check (not (is_text b)) 12
  check (not (eqb (length (start_in b)) (length (goal_in b)))) 1
  check (ltb limit (length (start_in b))) 2
  check (not (well_formed (start_in b ++ goal_in b))) 3
  answer (report_text (start_in b) (goal_in b))

abbrev pub refused_label : List ℕ
refused_label =
    code "r" ∷ code "e" ∷ code "f" ∷ code "u" ∷ code "s" ∷ code "e" ∷ code "d" ∷ space ∷ []

-- "refused " and the number.
unfoldable pub refused_text : ℕ → List ℕ
refused_text k = line refused_label (decimal k)

abbrev pub printed : Reply (List ℕ) → List ℕ
printed (refused k) = refused_text k
printed (answer t) = t

-- What is printed.
unfoldable pub answer_text : List ℕ → List ℕ
answer_text b = printed (text_answer b)

-- A page that it is put onto: the answer, and then the page's own bytes.
unfoldable pub answered_page : List ℕ → List ℕ → List ℕ
answered_page b page = answer_text b ++ drop (length (answer_text b)) page
