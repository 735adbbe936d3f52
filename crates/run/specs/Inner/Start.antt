-- The stepper at an index of a route.
use Rattle.std.specs.Prelude.{ℕ, ◌-◌, ◌<◌, ◌≡◌, false, cond, List}
use Rattle.board.specs.Position.{peg}
use Rattle.plan.specs.Gather.{gather}
use Rattle.plan.specs.Plan.{largest}
use Rattle.route.specs.declared.course.Course.{Course}
use Rattle.route.specs.declared.course.Stage.{Stage}
use Rattle.route.specs.declared.course.Stage.TheVariants.{Gathering, Shifting, Spreading}
use Rattle.route.specs.Inner.Aim.{aim}
use Rattle.run.specs.Inner.Pegs.{Holds}
use Rattle.run.specs.Inner.Ready.{aside}
use Rattle.run.specs.declared.stepper.Leg.{Leg}
use Rattle.run.specs.declared.stepper.Stepper.{Stepper}

-- The leg at a stage of a course: the first crossing, the second, or the largest of n discs that is not on its goal peg.
unfoldable pub start_leg : Course → Stage → (ℕ → ℕ) → (ℕ → ℕ) → ℕ → Leg
start_leg c (Gathering r) u q n =
    record { disc = c.disc; from = c.from; to = cond c.detour c.free c.to; again = c.detour }
start_leg c (Shifting r) u q n = record { disc = c.disc; from = c.free; to = c.to; again = false }
start_leg c (Spreading i) u q n =
    record { disc = largest u q n - 1; from = u (largest u q n - 1); to = q (largest u q n - 1); again = false }

-- Where the stage is a spreading, some of n discs is not on its goal peg.
abbrev pub Spreads : Stage → (ℕ → ℕ) → (ℕ → ℕ) → ℕ → Type 0
Spreads (Gathering r) u q n = Unit {0}
Spreads (Shifting r) u q n = Unit {0}
Spreads (Spreading i) u q n = 0 < largest u q n

-- A stepper that stands at p before the leg l.
pub record Started (s : Stepper) (p : List ℕ) (l : Leg) : Type 0 where
  pub holds : Holds s.pegs p
  pub small : s.turn.small ≡ peg p 0
  pub aimed : s.turn.aim ≡ aim (peg p) (l.disc - 1) (aside l)
  pub left : s.turn.left ≡ gather (peg p) l.disc (aside l)
  pub leg : s.leg ≡ l
