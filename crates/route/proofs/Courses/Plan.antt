-- A plan in which a disc moves gives the course of its routes: which disc crosses, and on which pegs.
use Prim.Native.Nat.{ℕ, zero, suc, ◌-◌, ◌≤◌, ◌<◌}
use mathlib.Core.Path.{◌≡◌, refl}
use mathlib.Core.Bool.{Bool, true, false, cond}
use mathlib.Core.List.{List}
use native.Mathlib.Omega.{arith}
use lib.ListN.{length}
use Rattle.board.specs.Position.{peg}
use Rattle.board.proofs.Formed.{formed_pegs}
use Rattle.board.proofs.Pegs.{third_peg}
use Rattle.plan.specs.Plan.{largest, plan_by, plan_of}
use Rattle.plan.specs.Inner.Sound.{Ends}
use Rattle.plan.proofs.Bounds.{plan_fits}
use Rattle.plan.proofs.Largest.{largest_le}
use Rattle.plan.proofs.Sound.{start_gatherable}
use Rattle.route.specs.Inner.Stage.{first_peg, last_peg, course_by, course_of, CourseFits}
use Rattle.route.specs.declared.course.Course.{Course}

-- The pegs of a plan are those of its largest moving disc at the start and at the goal.
plan_by_pegs : (n : ℕ) (p q : ℕ → ℕ) (m : ℕ) → 0 < (plan_by n p q m).largest
    → ((plan_by n p q m).from ≡ p ((plan_by n p q m).largest - 1)) × ((plan_by n p q m).to ≡ q ((plan_by n p q m).largest - 1))
unfolding plan_by
plan_by_pegs n p q zero h = absurd (omega arith)
plan_by_pegs n p q (suc k) h = let less : suc k - 1 ≡ k = omega arith in (rw less, rw less)

-- So they are in the plan between two positions.
pub plan_pegs : (s t : List ℕ) → 0 < (plan_of s t).largest
    → ((plan_of s t).from ≡ peg s ((plan_of s t).largest - 1)) × ((plan_of s t).to ≡ peg t ((plan_of s t).largest - 1))
unfolding plan_of
plan_pegs s t = plan_by_pegs (length s) (peg s) (peg t) (largest (peg s) (peg t) (length s))

-- The largest moving disc of a plan is the disc that it is of.
plan_by_largest : (n : ℕ) (p q : ℕ → ℕ) (m : ℕ) → (plan_by n p q m).largest ≡ m
unfolding plan_by
plan_by_largest n p q zero = refl
plan_by_largest n p q (suc k) = refl

-- It is one of the discs.
pub plan_largest : (s t : List ℕ) → (plan_of s t).largest ≤ length s
unfolding plan_of
plan_largest s t =
    let m = largest (peg s) (peg t) (length s) in
    rw (plan_by_largest (length s) (peg s) (peg t) m) (largest_le (peg s) (peg t) (length s))

-- The course of any route of such a plan fits: its disc is one of the start's, and its pegs are pegs.
pub course_fits : (s t : List ℕ) (r : ℕ) → Ends s t → 0 < (plan_of s t).largest → CourseFits (course_of s t r) (length s)
unfolding course_of course_by
course_fits s t r e h =
    let from = formed_pegs s e.start_formed ((plan_of s t).largest - 1) in
    record {
      disc_there = omega (arith, plan_largest s t);
      from_peg = from;
      to_peg = formed_pegs t e.goal_formed ((plan_of s t).largest - 1);
      free_peg = third_peg _ _ from;
    }

-- One of two pegs is a peg.
pub either_peg : (t : Bool) {i j : ℕ} → i < 3 → j < 3 → cond t i j < 3
either_peg true hi hj = hi
either_peg false hi hj = hj

-- The smaller discs are gathered on a peg before the first crossing.
pub first_peg_fits : {c : Course} {n : ℕ} → CourseFits c n → first_peg c < 3
first_peg_fits {c} f = either_peg c.detour f.to_peg f.free_peg

-- They are spread from a peg after the last.
pub last_peg_fits : {c : Course} {n : ℕ} → CourseFits c n → last_peg c < 3
last_peg_fits {c} f = either_peg c.detour f.from_peg f.free_peg

-- What a course is made of.
pub ruleset course_ready = (plan_pegs, plan_largest, plan_fits, third_peg, either_peg, start_gatherable)
