-- Request 5 (02, CR 5), said of what Batch answers and writes.
use Rattle.std.specs.Prelude.{ℕ, ◌*◌, ◌-◌, ◌≤◌, ◌<◌, ◌^◌, List, ◌≢◌, ◌≡◌, length, take, drop, get_or}
use Rattle.board.specs.Fault.{AboveTwo}
use Rattle.board.specs.Fewest.{fewest}
use Rattle.board.specs.Position.{WellFormed}
use Rattle.board.specs.Reply.{answer}
use Rattle.word.specs.Words.{shortest_word}
use Rattle.batch.specs.Answer.{batch_answer, batch_writes}

-- Task i: bytes 2ni to 2n(i + 1).
abbrev pub task_at : ℕ → List ℕ → ℕ → List ℕ
task_at n b i = take (2 * n) (drop (2 * n * i) b)

-- Entry i of the buffer after the call.
abbrev pub entry_at : ℕ → List ℕ → List ℕ → ℕ → ℕ
entry_at n b out i = get_or (batch_writes n b out) i 0

-- Two buffers of one length that differ in task j alone.
pub record Beside (n j : ℕ) (b c : List ℕ) : Type 0 where
  pub long : length c ≡ length b
  pub others : (i : ℕ) → i ≢ j → task_at n c i ≡ task_at n b i

pub record Request5 (n : ℕ) (b out : List ℕ) : Type 0 where
  -- The reply is the number of tasks, which make up the whole buffer; of no discs there are none. Each has an entry.
  pub count : ℕ
  pub answered : batch_answer n b out ≡ answer count
  pub whole : length b ≡ count * (2 * n)
  pub none : n ≡ 0 → count ≡ 0
  pub room : count ≤ length out
  -- Each entry is what the single call gives for the bytes of its task.
  pub entry : (i : ℕ) → i < count → entry_at n b out i ≡ shortest_word (task_at n b i)
  -- So it is the fewest moves from the start of its task to the goal, or 2 ^ 64 − 3 where a byte of its task is above 2.
  pub fewest_moves : (i : ℕ) → i < count → WellFormed (task_at n b i) → entry_at n b out i ≡ fewest (take n (task_at n b i)) (drop n (task_at n b i))
  pub bad_byte : (i : ℕ) → i < count → AboveTwo (task_at n b i) → entry_at n b out i ≡ 2 ^ 64 - 3
  -- Whatever the bytes of one task are, a byte above 2 among them: the reply and every other entry are the same.
  pub alone : (j : ℕ) (c : List ℕ) → Beside n j b c →
      (batch_answer n c out ≡ answer count) × ((i : ℕ) → i ≢ j → entry_at n c out i ≡ entry_at n b out i)
  -- Entries beyond the tasks stay.
  pub stay : drop count (batch_writes n b out) ≡ drop count out
  pub sized : length (batch_writes n b out) ≡ length out
