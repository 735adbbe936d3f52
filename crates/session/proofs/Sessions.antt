-- Over any list of calls: the session agrees with the tally, its plays lead to where it stands and account for its counts, and its refused
-- plays for its fumbles.
use Prim.Native.Nat.{ℕ, ◌+◌}
use mathlib.Core.List.{List, [], ◌∷◌, ◌++◌, map}
use mathlib.Core.Path.{◌≡◌, ◌∙◌, refl, sym, ap, ap₂, subst}
use native.Mathlib.Omega.{arith}
use lib.ListN.{length}
use Rattle.board.specs.Fewest.{fewest}
use Rattle.board.specs.Move.{Move, Leads, done, next, moved}
use Rattle.board.specs.Reply.{refused, answer, ◌>>◌, Check}
use Rattle.board.specs.Task.{start, goal, task_check}
use Rattle.board.proofs.Replies.{then_answered}
use Rattle.board.proofs.Tasks.{SoundTask, task_accepted}
use Rattle.plan.proofs.OneMove.{moved_further, moved_nearer}
use Rattle.session.specs.Answer.{opened, begin_answer}
use Rattle.session.specs.Counts.{counted}
use Rattle.session.specs.Demand3.{Says, Reports, Accounted}
use Rattle.session.specs.Record.{current_of}
use Rattle.session.specs.Sessions.{record_reply, record_next, record_replies, record_after, reply_at, Play, with_play, accepted_plays, count_marks, is_refused, count_refused}
use Rattle.session.specs.Tally.{Call, play, report, marked, Tally, fresh, tally_check, tally_mark, played_tally, tally_or, tallied, tally_reply, tally_replies, tally_after}
use Rattle.session.specs.declared.counting.Counts.{Counts}
use Rattle.session.specs.declared.counting.Mark.{Mark}
use Rattle.session.specs.declared.counting.Mark.TheVariants.{Toward, Level, Away}
use Rattle.session.specs.declared.record.Session.{Session}
use Rattle.session.proofs.Agrees.{Agrees, tally_accepts, agrees_fresh, agrees_sound, agrees_current, agrees_start, agrees_goal, agrees_reply, agrees_next}
use Rattle.session.proofs.Calls.{sound_reports}
use Rattle.session.proofs.Fumbles.{fumble_both}
use Rattle.session.proofs.Marks.{mark_says}
use Rattle.session.proofs.Soundness.{sound_record}

module _ (t : List ℕ) (task : SoundTask t) where
  -- Where the record and the tally agree, they reply the same to every list of calls.
  agrees_replies : (y : Tally) (s : Session) → Agrees t y s → (cs : List Call) → record_replies s cs ≡ tally_replies t y cs
  unfolding record_replies tally_replies
  agrees_replies y s a [] = refl
  agrees_replies y s a (c ∷ cs) =
      ap₂ ◌∷◌ (agrees_reply t task y s a c) (agrees_replies (tallied t y c) (record_next s c) (agrees_next t task y s a c) cs)

  -- And they agree after it.
  agrees_after : (y : Tally) (s : Session) → Agrees t y s → (cs : List Call) → Agrees t (tally_after t y cs) (record_after s cs)
  unfolding record_after tally_after
  agrees_after y s a [] = a
  agrees_after y s a (c ∷ cs) = agrees_after (tallied t y c) (record_next s c) (agrees_next t task y s a c) cs

-- From any tally, the accepted plays lead from its position to the position at the end.
plays_lead : (t : List ℕ) (y : Tally) (cs : List Call)
    → Leads y.position (map (λ p. p.move) (accepted_plays cs (tally_replies t y cs))) (tally_after t y cs).position
unfolding accepted_plays tally_after tallied tally_replies tally_reply
plays_lead t y [] = done
plays_lead t y (report ∷ cs) = plays_lead t y cs
plays_lead t y (play m ∷ cs) =
    by (tally_check y m) refl (accepted_plays cs (tally_replies t (tallied t y (play m)) cs)) (plays_lead t (tallied t y (play m)) cs)
  where
    k : Mark
    k = tally_mark t y m

    by : (v : Check) → tally_check y m ≡ v → (ps : List Play) {q : List ℕ}
        → Leads (tally_or v (played_tally t y m k) y).position (map (λ p. p.move) ps) q
        → Leads y.position (map (λ p. p.move) (with_play (play m) (v >> answer (marked k)) ps)) q
    by (refused n) e ps w = w
    by (answer u) e ps w = next (tally_accepts y m e).legal w

-- From one count to a later one: it has risen by the plays in between.
record Rises (c d : Counts) (ps : List Play) : Type 0 where
  made : d.made ≡ c.made + length ps
  toward : d.toward ≡ c.toward + count_marks Toward ps
  level : d.level ≡ c.level + count_marks Level ps
  away : d.away ≡ c.away + count_marks Away ps

-- From any tally, the counts rise by the accepted plays.
counts_rise : (t : List ℕ) (y : Tally) (cs : List Call)
    → Rises y.counts (tally_after t y cs).counts (accepted_plays cs (tally_replies t y cs))
unfolding accepted_plays tally_after tallied tally_replies tally_reply count_marks counted
counts_rise t y [] = omega arith
counts_rise t y (report ∷ cs) = counts_rise t y cs
counts_rise t y (play m ∷ cs) = by (tally_check y m) (counts_rise t (tallied t y (play m)) cs)
  where
    k : Mark
    k = tally_mark t y m

    by : (v : Check) → {d : Counts} {ps : List Play} → Rises (tally_or v (played_tally t y m k) y).counts d ps
        → Rises y.counts d (with_play (play m) (v >> answer (marked k)) ps)
    by (refused n) r = r
    by (answer u) r = omega arith

-- And the fumbles rise by the plays that are refused with 8 or 9.
fumbles_rise : (t : List ℕ) (y : Tally) (cs : List Call)
    → (tally_after t y cs).fumbles ≡ y.fumbles + (count_refused 8 cs (tally_replies t y cs) + count_refused 9 cs (tally_replies t y cs))
unfolding count_refused tally_after tallied tally_replies tally_reply
fumbles_rise t y [] = omega arith
fumbles_rise t y (report ∷ cs) = omega (arith, fumbles_rise t y cs)
fumbles_rise t y (play m ∷ cs) = by (tally_check y m) _ _ (fumbles_rise t (tallied t y (play m)) cs)
  where
    k : Mark
    k = tally_mark t y m

    by : (v : Check) → {f : ℕ} (eights nines : ℕ) → f ≡ (tally_or v (played_tally t y m k) y).fumbles + (eights + nines)
        → f ≡ y.fumbles + (is_refused 8 (play m) (v >> answer (marked k)) + eights + (is_refused 9 (play m) (v >> answer (marked k)) + nines))
    by (refused n) eights nines e = omega (arith, fumble_both n)
    by (answer u) eights nines e = omega arith

-- A list of calls and then one more.
after_one : (s : Session) (cs : List Call) (c : Call) → record_after s (cs ++ (c ∷ [])) ≡ record_next (record_after s cs) c
unfolding record_after
after_one s [] c = refl
after_one s (d ∷ cs) c = after_one (record_next s d) cs c

-- The reply after some calls is that of the record which they leave.
replies_at : (s : Session) (before : List Call) (c : Call) (after : List Call)
    → reply_at (record_replies s (before ++ (c ∷ after))) (length before) ≡ record_reply (record_after s before) c
unfolding record_replies record_after
replies_at s [] c after = refl
replies_at s (d ∷ ds) c after = replies_at (record_next s d) ds c after

module _ (t : List ℕ) (task : SoundTask t) where
  -- Where the record agrees with a tally, a play that is marked has the mark that says what becomes of the fewest.
  reply_says : (y : Tally) (s : Session) → Agrees t y s → (m : Move) (k : Mark) → record_reply s (play m) ≡ answer (marked k)
      → Says k (fewest (current_of s) (goal t)) (fewest (current_of (record_next s (play m))) (goal t))
  unfolding tally_reply tallied tally_mark
  reply_says y s a m k e =
      let (passed, mark) = then_answered (tally_check y m) _ (sym (agrees_reply t task y s a (play m)) ∙ e) in
      let legal = (tally_accepts y m passed).legal in
      let same : length y.position ≡ length (goal t) = a.sized ∙ sym task.goal_length in
      let says =
      mark_says (fewest y.position (goal t)) (fewest (moved y.position m) (goal t))
      (moved_further y.position (goal t) m same a.formed task.goal_formed legal)
      (moved_nearer y.position (goal t) m same a.formed task.goal_formed legal) in
      let stands : current_of (record_next s (play m)) ≡ moved y.position m =
      agrees_current t task (tallied t y (play m)) (record_next s (play m)) (agrees_next t task y s a (play m)) ∙ rw passed in
      let marks : tally_mark t y m ≡ k = cc in
      rw (agrees_current t task y s a, stands, ← marks) says

  -- Where the record agrees with a tally, Report says of it what it says of every sound record.
  agrees_reports : (y : Tally) (s : Session) → Agrees t y s
      → Reports s s.counts (fewest (current_of s) (goal t)) (fewest (start t) (goal t))
  agrees_reports y s a =
      rw (agrees_start t task y s a, agrees_goal t task y s a) at (sound_reports s (sound_record s (agrees_sound t task y s a)))

  -- The account of a list of calls on the record that Begin gives.
  accounted : (cs : List Call) → Accounted t (opened t) cs
  accounted cs =
      let a = agrees_after t task (fresh t) (opened t) (agrees_fresh t task) cs in
      let replies = agrees_replies t task (fresh t) (opened t) (agrees_fresh t task) cs in
      let current = agrees_current t task (tally_after t (fresh t) cs) (record_after (opened t) cs) a in
      let rises = counts_rise t (fresh t) cs in
      record {
        leads = rw (replies, current) (plays_lead t (fresh t) cs);
        counts = rw (replies, a.held) (omega (arith, a.account.sum));
        marks = λ before m after k split e.
            rw (after_one (opened t) before (play m))
            (reply_says (tally_after t (fresh t) before) (record_after (opened t) before)
            (agrees_after t task (fresh t) (opened t) (agrees_fresh t task) before) m k
            (sym (replies_at (opened t) before (play m) after) ∙ ap (λ (ds : List Call). reply_at (record_replies (opened t) ds) (length before)) (sym split) ∙ e));
        balance = rw (current, a.held) a.account.marks;
        reports = agrees_reports (tally_after t (fresh t) cs) (record_after (opened t) cs) a;
        fumbles = rw (replies, a.held) (omega (arith, fumbles_rise t (fresh t) cs));
        remaining = rw (current, a.held) a.remaining;
        replies = replies;
        holds = a.held;
      }

-- So of a list of calls on whatever record Begin answers.
pub begun_accounted : (t : List ℕ) {s : Session} → begin_answer t ≡ answer s → (cs : List Call) → Accounted t s cs
unfolding begin_answer
begun_accounted t {s} e cs =
    let (accepted, same) = then_answered (task_check t) _ e in
    let is : opened t ≡ s = cc in
    subst (λ (r : Session). Accounted t r cs) is (accounted t (task_accepted t accepted) cs)
