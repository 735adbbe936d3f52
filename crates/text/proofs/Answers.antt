-- What is answered to the bytes of an input: what is read of them, and then the report of the task that it is.
use Prim.Native.Nat.{ℕ, ◌%◌, ◌≤◌}
use mathlib.Core.Path.{◌≡◌, refl, sym}
use mathlib.Core.Bool.{Bool, true, false, not}
use mathlib.Core.List.{List, ◌++◌}
use mathlib.Core.Logic.{◌≢◌}
use native.Mathlib.Omega.{arith}
use borrow.Author.Tests.{eqb-true, ne_eqb}
use lib.Dec.{eqb, ltb}
use lib.ListN.{length, length-append, take, drop}
use lib.Seq.{sets, sets-eq, take-append_seam}
use Rattle.board.specs.Position.{well_formed}
use Rattle.board.specs.Reply.{Reply, refused, answer, pass, ◌>>◌, ◌>>=◌, check}
use Rattle.board.specs.Task.{limit, start, goal, task_check}
use Rattle.board.proofs.Replies.{then_assoc}
use Rattle.board.proofs.Tasks.{joined_task}
use Rattle.plan.specs.Answer.{plan_answer}
use Rattle.plan.specs.Plan.{plan_of}
use Rattle.plan.specs.declared.answer.Plan.{Plan}
use Rattle.plan.proofs.Calls.{plan_answered, plan_refused}
use Rattle.text.specs.Reading.{is_text, start_in, goal_in}
use Rattle.text.specs.Report.{report_text}
use Rattle.text.specs.Answer.{text_answer, answer_text, answered_page, refused_text}
use Rattle.text.specs.Inner.Page.{read_answer}

-- Two positions of one size are checked as their task is.
joined_check : {A : Type 0} (s g : List ℕ) (r : Reply A) → length s ≡ length g
    → (task_check (s ++ g) >> r) ≡ (check (ltb limit (length s)) 2 >> check (not (well_formed (s ++ g))) 3 >> r)
unfolding task_check
joined_check s g r e =
    let even : length (s ++ g) % 2 ≢ 1 = λ f. omega (arith, length-append s g) in
    rw (ne_eqb (length (s ++ g) % 2) 1 even, (joined_task s g e).0) (then_assoc (check (ltb limit (length s)) 2) (check (not (well_formed (s ++ g))) 3) r)

-- A task is answered by its report.
abbrev pub task_answer : List ℕ → Reply (List ℕ)
task_answer t = do
  task_check t
  answer (report_text (start t) (goal t))

-- After two checks come those of the task, or the task itself.
then_task : (k l : ℕ) (other : Bool) (s g : List ℕ) (same : Bool) → eqb (length s) (length g) ≡ same
    → (check other k >> (check (not same) l >> (check (ltb limit (length s)) 2 >> (check (not (well_formed (s ++ g))) 3 >> answer (report_text s g)))))
    ≡ ((check other k >> (check (not same) l >> answer (s ++ g))) >>= task_answer)
then_task k l true s g same e = refl
then_task k l false s g false e = refl
then_task k l false s g true e =
    let same = eqb-true (length s) (length g) e in
    let (_, first, second) = joined_task s g same in
    rw (joined_check s g _ same, first, second)

-- An input is answered as the task that is read.
pub answer_read : (b : List ℕ) → text_answer b ≡ (read_answer b >>= task_answer)
unfolding text_answer read_answer
answer_read b = then_task _ _ (not (is_text b)) (start_in b) (goal_in b) (eqb (length (start_in b)) (length (goal_in b))) refl

-- What is refused as it is read is refused.
pub unread : (b : List ℕ) {k : ℕ} → refused k ≡ read_answer b → refused k ≡ text_answer b
unread b e = rw (answer_read b, ← e)

-- What is read and has no plan is refused with the plan's number.
pub unplanned : (b : List ℕ) {t : List ℕ} {k : ℕ} → answer t ≡ read_answer b → refused k ≡ plan_answer t → refused k ≡ text_answer b
unplanned b {t} e none = rw (answer_read b, ← e, plan_refused t (sym none))

-- A task that has a plan is accepted ...
pub planned : (t : List ℕ) {p : Plan} → answer p ≡ plan_answer t → (task_check t ≡ pass) × (p ≡ plan_of (start t) (goal t))
planned t e = let o = plan_answered t (sym e) in (o.accepted, sym o.plan)

-- ... and where it is read it is reported.
pub reported : (b : List ℕ) {t : List ℕ} {p : Plan} → answer t ≡ read_answer b → answer p ≡ plan_answer t
    → answer (report_text (start t) (goal t)) ≡ text_answer b
reported b {t} e made = rw (answer_read b, ← e, (planned t made).0)

-- Other text is refused with 12.
pub other_text : (b : List ℕ) → is_text b ≡ false → answer_text b ≡ refused_text 12
unfolding answer_text text_answer
other_text b h = rw h

-- What is put at the start of a page is what is read there.
pub put_read : (page t : List ℕ) → length t ≤ length page → take (length t) (sets page 0 t) ≡ t
put_read page t room = rw (sets-eq t page 0 (omega arith)) (take-append_seam t _)

-- The answer ends on the page that it is put onto.
pub answer_within : (b page : List ℕ) → length (answer_text b) ≤ length (answered_page b page)
unfolding answered_page
answer_within b page = omega (arith, length-append (answer_text b) (drop (length (answer_text b)) page))
