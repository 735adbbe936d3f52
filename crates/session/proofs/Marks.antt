-- Laws of marks: what each says of the fewest to the goal, and of the counts.
use Prim.Native.Nat.{ℕ, ◌+◌, ◌≤◌, ◌<◌}
use mathlib.Core.Path.{◌≡◌, refl}
use native.Mathlib.Omega.{arith}
use Rattle.std.proofs.lemmas.Bool.Decides.{nat_tests}
use Rattle.session.specs.Counts.{mark_of, is_mark}
use Rattle.session.specs.Demand3.{Says}
use Rattle.session.specs.declared.counting.Mark.{Mark}
use Rattle.session.specs.declared.counting.Mark.TheVariants.{Toward, Level, Away}

-- Every mark is one of the three.
pub mark_one : (k : Mark) → is_mark Toward k + is_mark Level k + is_mark Away k ≡ 1
mark_one Toward = refl
mark_one Level = refl
mark_one Away = refl

-- A play that brings the goal nearer is toward.
mark_toward : (before after : ℕ) → after < before → mark_of before after ≡ Toward
unfolding mark_of
mark_toward before after h = grind (arith, nat_tests)

-- A play that leaves the goal as far is level.
mark_level : (before after : ℕ) → after ≡ before → mark_of before after ≡ Level
unfolding mark_of
mark_level before after e = grind (arith, nat_tests)

-- A play that takes the goal further is away.
mark_away : (before after : ℕ) → before < after → mark_of before after ≡ Away
unfolding mark_of
mark_away before after h = grind (arith, nat_tests)

module _ (before after : ℕ) (further : after ≤ before + 1) (nearer : before ≤ after + 1) where
  -- A mark makes up for what the play does to the fewest.
  pub mark_balance : is_mark Toward (mark_of before after) + after ≡ is_mark Away (mark_of before after) + before
  mark_balance = grind (arith, mark_toward before after, mark_level before after, mark_away before after)

  -- It says whether the fewest fell by one, stayed, or rose by one.
  pub mark_says : Says (mark_of before after) before after
  mark_says =
      let balance = mark_balance in
      record {
        toward = (λ e. omega (arith, rw e at balance), λ e. mark_toward before after (omega arith));
        level = (λ e. omega (arith, rw e at balance), λ e. mark_level before after (omega arith));
        away = (λ e. omega (arith, rw e at balance), λ e. mark_away before after (omega arith));
      }
