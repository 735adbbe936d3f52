-- A stepper that starts at an index of a route is ready for the moves from there.
use Prim.Native.Nat.{ℕ, ◌-◌, ◌≤◌, ◌<◌}
use mathlib.Core.Path.{◌≡◌, ◌∙◌, refl, sym, ap}
use mathlib.Core.List.{List}
use native.Mathlib.Omega.{arith}
use lib.ListN.{length, take, drop, length-drop}
use Rattle.board.specs.Position.{peg, WellFormed}
use Rattle.plan.specs.Plan.{largest, plan_of, routes, shortest}
use Rattle.plan.specs.Inner.Sound.{Ends}
use Rattle.route.specs.Inner.Stage.{course_of, stage_of}
use Rattle.route.specs.Route.{route_of, after}
use Rattle.plan.specs.declared.answer.Plan.{Plan}
use Rattle.route.specs.declared.answer.DiscMove.{DiscMove}
use Rattle.route.specs.declared.course.Course.{Course}
use Rattle.route.specs.declared.course.Stage.{Stage}
use Rattle.route.specs.declared.course.Stage.TheVariants.{Gathering, Shifting, Spreading}
use Rattle.route.specs.declared.opened.Opened.{Opened}
use Rattle.route.proofs.Calls.Locating.{route_between}
use Rattle.route.proofs.Shortest.Routes.{route_leads}
use Rattle.route.proofs.Shortest.View.{none, some, largest_view}
use Rattle.run.specs.Inner.Ready.{Ready}
use Rattle.run.specs.Inner.Start.{start_leg, Spreads, Started}
use Rattle.run.specs.declared.stepper.Leg.{Leg}
use Rattle.run.specs.declared.stepper.Stepper.{Stepper}
use Rattle.run.proofs.Ahead.{Ahead, route_ahead}

-- The position after i moves of a route is well formed, and of the start's size.
pub route_formed : (s t : List ℕ) → Ends s t → (r : ℕ) → r < routes (plan_of s t) → (i : ℕ) → i ≤ shortest (plan_of s t)
    → WellFormed (after s (take i (route_of s t r))) × (length (after s (take i (route_of s t r))) ≡ length s)
route_formed s t e r lt i l =
    let at = route_between s t e.same e.start_formed e.goal_formed r lt i l in (at.formed, sym at.sized)

-- The moves of a route from an index on are as many as remain.
pub route_left : (s t : List ℕ) → Ends s t → (r : ℕ) → r < routes (plan_of s t) → (i : ℕ)
    → length (drop i (route_of s t r)) ≡ shortest (plan_of s t) - i
route_left s t e r lt i =
    rw (length-drop, (route_leads s t e.same e.start_formed e.goal_formed r lt).long)

-- The leg of a spreading that goes on is of a disc that is not on its goal peg.
pub ahead_spreads : (c : Course) (g : Stage) {u q : ℕ → ℕ} {n : ℕ} {ms : List DiscMove} → Ahead u q n (start_leg c g u q n) ms → Spreads g u q n
unfolding start_leg
ahead_spreads c (Gathering r) a = tt
ahead_spreads c (Shifting r) a = tt
ahead_spreads c (Spreading i) {u} {q} {n} a =
    elim (largest_view u q n) [
      | none m home ↦ absurd (a.pegs.first_second (home (largest u q n - 1) a.there))
      | some k m b away home d ↦ omega arith
    ]

-- What has started before the leg that lies ahead is ready.
pub ready_start : {s : Stepper} {p : List ℕ} {q : ℕ → ℕ} {n : ℕ} {l : Leg} {ms : List DiscMove} → WellFormed p → length p ≡ n
    → Ahead (peg p) q n l ms → Started s p l → Ready s p q ms
ready_start formed size a w =
    record {
      holds = w.holds;
      formed = formed;
      leg_there = rw (w.leg, size) a.there;
      leg_pegs = rw w.leg a.pegs;
      leg_from = rw w.leg a.from;
      left = rw w.leg w.left;
      rest = rw w.leg a.rest;
      small = w.small;
      aimed = λ odd. rw w.leg w.aimed;
    }

module _ (o : Opened) where
  -- The start, the goal and the route of an opened task.
  abbrev from : List ℕ
  from = o.task.start.now

  abbrev to : List ℕ
  to = o.task.goal.now

  abbrev route : List DiscMove
  route = route_of from to o.route

  -- The moves of its route from an index on are as many as remain.
  pub opened_left : (i : ℕ) → length (drop i route) ≡ shortest o.plan - i
  opened_left i = route_left from to o.task.ends o.route (rw o.planned at o.known) i ∙ sym (ap (λ (p : Plan). shortest p - i) o.planned)

  -- The position at an index is well formed, and of the start's size.
  pub opened_formed : {i : ℕ} → i ≤ shortest o.plan → WellFormed (after from (take i route)) × (length (after from (take i route)) ≡ length from)
  opened_formed h = route_formed from to o.task.ends o.route (rw o.planned at o.known) _ (rw o.planned at h)

  -- The first n of the bytes b are the pegs at an index below its length.
  module _ {i n : ℕ} (h : i < shortest o.plan) (b : List ℕ) (size : n ≡ length from) (read : take (length from) b ≡ after from (take i route)) where
    pub pegs_formed : WellFormed (take n b)
    pegs_formed = rw (size, read) (opened_formed {i = i} (omega arith)).0

    pub pegs_size : length (take n b) ≡ length from
    pegs_size = rw (size, read) (opened_formed {i = i} (omega arith)).1

    -- The leg at its stage has the rest of the route ahead.
    pub leg_ahead : {c : Course} {g : Stage} {l : Leg} → c ≡ course_of from to o.route → g ≡ stage_of c i
        → l ≡ start_leg c g (peg (take n b)) (peg to) (length (take n b))
        → Ahead (peg (take n b)) (peg to) (length (take n b)) l (drop i route)
    leg_ahead course stage leg = rw (leg, stage, course, pegs_size, size, read) (route_ahead from to o.task.ends o.route i (rw o.planned at h))

    -- And what has started before it is ready for it.
    pub leg_ready : {s : Stepper} {l : Leg} → Ahead (peg (take n b)) (peg to) (length (take n b)) l (drop i route) → Started s (take n b) l
        → Ready s (after from (take i route)) (peg to) (drop i route)
    leg_ready a w = rw (← read, ← size) (ready_start pegs_formed refl a w)

    -- In a spreading it is of a disc that is not on its goal peg.
    pub leg_spreads : {c : Course} {g : Stage} → c ≡ course_of from to o.route → g ≡ stage_of c i
        → Spreads g (peg (take n b)) (peg to) (length (take n b))
    leg_spreads {c} {g} course stage = ahead_spreads c g (leg_ahead course stage refl)

    -- Its disc is one of them, and goes between pegs.
    pub leg_within : {c : Course} {g : Stage} {l : Leg} → c ≡ course_of from to o.route → g ≡ stage_of c i
        → l ≡ start_leg c g (peg (take n b)) (peg to) (length (take n b))
        → (l.disc < length (take n b)) × (l.from < 3) × (l.to < 3)
    leg_within course stage leg =
        let a = leg_ahead course stage leg in (a.there, a.pegs.first, a.pegs.second)

-- What is known of the stepper at an index.
pub ruleset started = (pegs_formed, pegs_size, leg_spreads, leg_within, leg_ahead, leg_ready)
