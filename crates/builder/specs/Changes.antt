-- A list of changes to a builder, and a plain stack of discs kept beside it, fed the changes and nothing of the builder (02, CR 9).
use Rattle.std.specs.Prelude.{ℕ, List, [], ◌∷◌, eqb, ltb, length}
use Rattle.board.specs.Reply.{refused, answer, ◌>>◌, Check, pass, check}
use Rattle.board.specs.Task.{limit}
use Rattle.builder.specs.Answer.{add_answer, add_leaves, remove_answer, remove_leaves}
use Rattle.builder.specs.declared.record.Builder.{Builder}

-- A new largest disc on a peg, or the largest disc taken out.
pub data Change : Type 0 where
  add : (peg : ℕ) → Change
  remove : Change

-- What a call on the builder answers, and the builder after it.
unfoldable pub builder_reply : Builder → Change → Check
builder_reply b (add j) = add_answer b j
builder_reply b remove = remove_answer b

unfoldable pub builder_next : Builder → Change → Builder
builder_next b (add j) = add_leaves b j
builder_next b remove = remove_leaves b

-- Over a list of changes: the answers in turn, and the builder at the end.
unfoldable pub builder_replies : Builder → List Change → List Check
builder_replies b [] = []
builder_replies b (c ∷ cs) = builder_reply b c ∷ builder_replies (builder_next b c) cs

unfoldable pub builder_after : Builder → List Change → Builder
builder_after b [] = b
builder_after b (c ∷ cs) = builder_after (builder_next b c) cs

-- The stack holds the pegs of the discs, the largest disc on top: an addition is refused with 2 where it is full, then with 3, a removal
-- with 19 where it is empty.
unfoldable pub stack_reply : List ℕ → Change → Check
stack_reply s (add j) = do
  check (eqb (length s) limit) 2
  check (ltb 2 j) 3
stack_reply [] remove = refused 19
stack_reply (i ∷ s) remove = pass

-- A disc is pushed where it is not refused, and popped where there is one.
abbrev pub pushed : Check → ℕ → List ℕ → List ℕ
pushed (refused k) j s = s
pushed (answer u) j s = j ∷ s

unfoldable pub stack_next : List ℕ → Change → List ℕ
stack_next s (add j) = pushed (stack_reply s (add j)) j s
stack_next [] remove = []
stack_next (i ∷ s) remove = s

-- Over a list of changes: the answers in turn, and the stack at the end.
unfoldable pub stack_replies : List ℕ → List Change → List Check
stack_replies s [] = []
stack_replies s (c ∷ cs) = stack_reply s c ∷ stack_replies (stack_next s c) cs

unfoldable pub stack_after : List ℕ → List Change → List ℕ
stack_after s [] = s
stack_after s (c ∷ cs) = stack_after (stack_next s c) cs
