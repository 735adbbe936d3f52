-- Demand 3 (document 01, "What demand 3 speaks of"): nothing is shorter, the shortest lists are our routes, and over any list of calls the
-- session agrees with the tally. All of it is said of what the calls answer.
use Rattle.std.specs.Prelude.{ℕ, ◌+◌, ◌*◌, ◌≤◌, ◌<◌, List, [], ◌∷◌, ◌++◌, map, ◌≢◌, ◌⊎◌, ◌↔◌, ◌≡◌, length, take, drop}
use Rattle.board.specs.Fewest.{fewest}
use Rattle.board.specs.Move.{Move, Leads}
use Rattle.board.specs.Reply.{answer}
use Rattle.board.specs.Task.{start, goal}
use Rattle.plan.specs.Answer.{plan_answer}
use Rattle.plan.specs.Plan.{shortest, routes, Tied}
use Rattle.plan.specs.declared.answer.Plan.{Plan}
use Rattle.route.specs.Answer.{run_answer, run_writes}
use Rattle.route.specs.Ours.{our_route, read_moves}
use Rattle.session.specs.Answer.{begin_answer, report_answer}
use Rattle.session.specs.Counts.{Excess}
use Rattle.session.specs.Record.{current_of}
use Rattle.session.specs.Sessions.{record_replies, record_after, reply_at, Play, accepted_plays, count_marks, count_refused, held_by}
use Rattle.session.specs.Tally.{Call, play, marked, fresh, tally_replies, tally_after}
use Rattle.session.specs.declared.counting.Counts.{Counts}
use Rattle.session.specs.declared.counting.Figures.{Figures}
use Rattle.session.specs.declared.counting.Mark.{Mark}
use Rattle.session.specs.declared.counting.Mark.TheVariants.{Toward, Level, Away}
use Rattle.session.specs.declared.record.Session.{Session}

-- The counts are those of the plays: how many there are, and how many bore each mark, which is every play.
pub record CountsOf (c : Counts) (ps : List Play) : Type 0 where
  pub made : c.made ≡ length ps
  pub sum : c.made ≡ c.toward + c.level + c.away
  pub toward : c.toward ≡ count_marks Toward ps
  pub level : c.level ≡ count_marks Level ps
  pub away : c.away ≡ count_marks Away ps

-- A mark says what became of the fewest to the goal: it fell by one, stayed, or rose by one.
pub record Says (k : Mark) (before after : ℕ) : Type 0 where
  pub toward : (k ≡ Toward) ↔ (before ≡ after + 1)
  pub level : (k ≡ Level) ↔ (before ≡ after)
  pub away : (k ≡ Away) ↔ (after ≡ before + 1)

-- Report answers these counts, the fewest that remain, and their excess (02, CR 2).
pub record Reports (s : Session) (c : Counts) (now first : ℕ) : Type 0 where
  pub figures : Figures
  pub answered : report_answer s ≡ answer figures
  pub counts : figures.counts ≡ c
  pub remaining : figures.remaining ≡ now
  pub excess : Excess figures.excess c now first

-- A list of calls cs on the record s that Begin gives for the task t.
pub record Accounted (t : List ℕ) (s : Session) (cs : List Call) : Type 0 where
  -- The accepted plays lead from the start to the current position, and the counts are theirs.
  pub leads : Leads (start t) (map (λ p. p.move) (accepted_plays cs (record_replies s cs))) (current_of (record_after s cs))
  pub counts : CountsOf (record_after s cs).counts (accepted_plays cs (record_replies s cs))
  -- Each play in the list that is marked: its mark says what became of the fewest.
  pub marks : (before : List Call) (m : Move) (after : List Call) (k : Mark) → cs ≡ before ++ (play m ∷ after)
      → reply_at (record_replies s cs) (length before) ≡ answer (marked k)
      → Says k (fewest (current_of (record_after s before)) (goal t)) (fewest (current_of (record_after s (before ++ (play m ∷ [])))) (goal t))
  -- toward plus the fewest now is away plus the fewest at the start.
  pub balance : (record_after s cs).counts.toward + fewest (current_of (record_after s cs)) (goal t)
      ≡ (record_after s cs).counts.away + fewest (start t) (goal t)
  -- Report answers: the counts, what remains, and the excess.
  pub reports : Reports (record_after s cs) (record_after s cs).counts (fewest (current_of (record_after s cs)) (goal t)) (fewest (start t) (goal t))
  -- The fumbles are how many plays were refused with 8 or 9, and what remains is the fewest now (02, CR 3).
  pub fumbles : (record_after s cs).fumbles ≡ count_refused 8 cs (record_replies s cs) + count_refused 9 cs (record_replies s cs)
  pub remaining : (record_after s cs).remaining ≡ fewest (current_of (record_after s cs)) (goal t)
  -- Every call has replied as the tally did, and the record holds the tally.
  pub replies : record_replies s cs ≡ tally_replies t (fresh t) cs
  pub holds : record_after s cs ≡ held_by t (tally_after t (fresh t) cs)

pub record Demand3 (t : List ℕ) : Type 0 where
  -- Plan answers; our length is the shortest of its plan, and our routes are as many as it says.
  pub plan : Plan
  pub planned : plan_answer t ≡ answer plan
  -- No list of legal moves from start to goal is shorter than our length.
  pub none_shorter : (ms : List Move) → Leads (start t) ms (goal t) → shortest plan ≤ length ms
  -- Each of our routes, what Move answers index by index, is such a list, of that length.
  pub ours_lead : (r : ℕ) → r < routes plan → Leads (start t) (our_route t r (shortest plan)) (goal t)
  pub ours_long : (r : ℕ) → r < routes plan → length (our_route t r (shortest plan)) ≡ shortest plan
  -- Every list of exactly that length is one of them.
  pub no_others : (ms : List Move) → Leads (start t) ms (goal t) → length ms ≡ shortest plan
      → (r : ℕ) × (r < routes plan) × (ms ≡ our_route t r (shortest plan))
  -- There are one or two: two exactly where direct and detour tie, and then they differ.
  pub one_or_two : (routes plan ≡ 1) ⊎ (routes plan ≡ 2)
  pub two_exactly : (routes plan ≡ 2) ↔ Tied plan.way
  pub two_differ : routes plan ≡ 2 → our_route t 0 (shortest plan) ≢ our_route t 1 (shortest plan)
  -- What Run writes, read as moves, is that list from its first index on, as many moves as it returns.
  pub what_run_writes : (r i : ℕ) (out : List ℕ) (k : ℕ) → run_answer t r i out ≡ answer k
      → read_moves (take (2 * k) (run_writes t r i out)) ≡ take k (drop i (our_route t r (shortest plan)))
  -- Begin gives a record, from which every list of calls starts.
  pub begun : Session
  pub begins : begin_answer t ≡ answer begun
  pub sessions : (cs : List Call) → Accounted t begun cs
