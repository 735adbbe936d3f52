-- Request 9 (02, CR 9), said of what Add and Remove answer and leave.
use Rattle.std.specs.Prelude.{ℕ, ◌+◌, ◌-◌, ◌*◌, ◌^◌, ◌<◌, List, [], reverse, ◌≡◌, length}
use Rattle.board.specs.Held.{padded}
use Rattle.board.specs.Reply.{answer, pass}
use Rattle.plan.specs.Answer.{gather_answer}
use Rattle.builder.specs.Answer.{add_answer, add_leaves, remove_answer, remove_leaves}
use Rattle.builder.specs.Builder.{empty, position_of, length_for, Sound}
use Rattle.builder.specs.Changes.{Change, builder_replies, builder_after, stack_replies, stack_after}
use Rattle.builder.specs.declared.record.Builder.{Builder}

-- The three lengths together.
abbrev pub length_sum : Builder → ℕ
length_sum b = length_for b 0 + length_for b 1 + length_for b 2

-- The builder b holds the stack s.
pub record Holds (b : Builder) (s : List ℕ) : Type 0 where
  -- Its position is the stack's discs in order, the largest last; unused bytes are 0.
  pub discs : b.n ≡ length s
  pub position : b.position ≡ padded (reverse s)
  -- Its three lengths are what Gather answers for that position and the three pegs.
  pub lengths : (i : ℕ) → i < 3 → gather_answer (reverse s) i ≡ answer (length_for b i)
  -- It is sound: no call refuses it with 10.
  pub sounds : Sound b

-- Over any list of changes, refused ones included, b and the stack s beside it answer alike, and the builder at the end holds the stack
-- at the end.
pub record Builds (b : Builder) (s : List ℕ) : Type 0 where
  pub replies : (cs : List Change) → builder_replies b cs ≡ stack_replies s cs
  pub holds : (cs : List Change) → Holds (builder_after b cs) (stack_after s cs)

pub record Request9 : Type 0 where
  -- From the empty builder and the empty stack; and from any sound builder, its position the stack.
  pub built : Builds empty []
  pub onward : (b : Builder) → Sound b → Builds b (reverse (position_of b))
  -- The lengths of every sound builder sum to 2 × (2 ^ n − 1).
  pub sum : (b : Builder) → Sound b → length_sum b ≡ 2 * (2 ^ b.n - 1)
  -- A disc added and then removed leaves all as it was.
  pub back : (b : Builder) (j : ℕ) → add_answer b j ≡ pass → (remove_answer (add_leaves b j) ≡ pass) × (remove_leaves (add_leaves b j) ≡ b)
