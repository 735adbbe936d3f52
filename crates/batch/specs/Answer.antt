-- What Batch answers, and what it leaves of a lent buffer (02, CR 5).
use Rattle.std.specs.Prelude.{ℕ, ◌*◌, not, List, eqb, ltb, length}
use Rattle.board.specs.Reply.{Reply, answer, ◌>>◌, check, written}
use Rattle.board.specs.Task.{limit}
use Rattle.batch.specs.Tasks.{tasks_in, entries_of}

-- Batch: 2, more than 60 discs; 13, the tasks do not make up the whole buffer; 6, fewer entries than tasks.
unfoldable pub batch_answer : ℕ → List ℕ → List ℕ → Reply ℕ
batch_answer n b out = do
  check (ltb limit n) 2
  check (not (eqb (tasks_in n (length b) * (2 * n)) (length b))) 13
  check (ltb (length out) (tasks_in n (length b))) 6
  answer (tasks_in n (length b))

-- What Batch leaves of the buffer: the entries of the tasks, and then those that it had.
unfoldable pub batch_writes : ℕ → List ℕ → List ℕ → List ℕ
batch_writes n b out = written (do batch_answer n b out; answer (entries_of n b)) out
