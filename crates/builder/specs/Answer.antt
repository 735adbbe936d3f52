-- What Add and Remove answer, and the builder afterwards (02, CR 9).
use Rattle.std.specs.Prelude.{ℕ, ◌+◌, ◌-◌, not, eqb, ltb, set}
use Rattle.board.specs.Position.{peg}
use Rattle.board.specs.Reply.{refused, answer, ◌>>◌, Check, check}
use Rattle.board.specs.Task.{limit}
use Rattle.builder.specs.Builder.{sound}
use Rattle.builder.specs.Lengths.{lengths_with, lengths_without}
use Rattle.builder.specs.declared.record.Builder.{Builder}

-- What a call leaves of a builder: what it makes of it, or all as it stood where the call is refused.
abbrev pub builder_or : Check → Builder → Builder → Builder
builder_or (refused k) after before = before
builder_or (answer u) after before = after

-- Add: 10, not sound; 2, the tower is full already; 3, a peg above 2.
unfoldable pub add_answer : Builder → ℕ → Check
add_answer b j = do
  check (not (sound b)) 10
  check (eqb b.n limit) 2
  check (ltb 2 j) 3

-- A new largest disc on peg j.
unfoldable pub with_disc : Builder → ℕ → Builder
with_disc b j =
    record { n = b.n + 1; position = set b.position b.n j; lengths = lengths_with b.lengths b.n j }

unfoldable pub add_leaves : Builder → ℕ → Builder
add_leaves b j = builder_or (add_answer b j) (with_disc b j) b

-- Remove: 10, not sound; 19, no disc is there.
unfoldable pub remove_answer : Builder → Check
remove_answer b = do
  check (not (sound b)) 10
  check (eqb b.n 0) 19

-- The largest disc is gone: its byte is 0 again.
unfoldable pub without_disc : Builder → Builder
without_disc b =
    record {
      n = b.n - 1;
      position = set b.position (b.n - 1) 0;
      lengths = lengths_without b.lengths (b.n - 1) (peg b.position (b.n - 1));
    }

unfoldable pub remove_leaves : Builder → Builder
remove_leaves b = builder_or (remove_answer b) (without_disc b) b
