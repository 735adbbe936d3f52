-- What the C host gets from each call (document 01; 02, CR 5): its reply as one number of 64 bits, by word/specs/Words.
use Rattle.std.specs.Prelude.{ℕ, List}
use Rattle.board.specs.Reply.{Reply, answer, ◌>>=◌}
use Rattle.batch.specs.Answer.{batch_answer}
use Rattle.plan.specs.Answer.{gather_answer, plan_answer}
use Rattle.plan.specs.Plan.{routes}
use Rattle.route.specs.Answer.{run_answer}
use Rattle.word.specs.Words.{word}

-- How many shortest routes a task has.
abbrev pub routes_reply : List ℕ → Reply ℕ
routes_reply t = do p ← plan_answer t; answer (routes p)

abbrev pub routes_word : List ℕ → ℕ
routes_word t = word (routes_reply t)

-- The gather length.
abbrev pub gather_word : List ℕ → ℕ → ℕ
gather_word p j = word (gather_answer p j)

-- How many moves Run wrote.
abbrev pub run_word : List ℕ → ℕ → ℕ → List ℕ → ℕ
run_word t r i out = word (run_answer t r i out)

-- How many tasks a batch has.
abbrev pub batch_word : ℕ → List ℕ → List ℕ → ℕ
batch_word n b out = word (batch_answer n b out)
