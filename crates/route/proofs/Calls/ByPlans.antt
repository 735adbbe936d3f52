-- What Locate finds by plans: the plan of the task, and those to the position and from it.
use Prim.Native.Nat.{ℕ, ◌+◌, ◌<◌, ◌^◌}
use mathlib.Core.Path.{◌≡◌, ◌∙◌, sym}
use mathlib.Core.Bool.{true, false}
use mathlib.Core.List.{List}
use mathlib.Core.Logic.{◌≢◌}
use native.Mathlib.Omega.{arith}
use borrow.Author.Tests.{eq-eqb, ne_eqb}
use lib.ListN.{length, take}
use Rattle.board.specs.Position.{WellFormed}
use Rattle.board.specs.Fewest.{same}
use Rattle.plan.specs.Plan.{plan_of, shortest, routes, routes_way}
use Rattle.plan.specs.Inner.Sound.{Ends}
use Rattle.plan.specs.declared.answer.Way.{Way}
use Rattle.plan.specs.declared.answer.Way.TheVariants.{Still, Direct, Detour, Tie}
use Rattle.plan.proofs.Sound.{ends_fewest, ends_fit}
use Rattle.route.specs.Answer.{on, off, on_route, lowest_route, located_at}
use Rattle.route.specs.Route.{route_of, after}

-- Every way has a route.
way_some : (w : Way) → 0 < routes_way w
way_some Still = omega arith
way_some (Direct l) = omega arith
way_some (Detour l) = omega arith
way_some (Tie l) = omega arith

-- So has every plan.
pub routes_some : (p q : List ℕ) → 0 < routes (plan_of p q)
routes_some p q = way_some (plan_of p q).way

module _ {s g : List ℕ} (q : List ℕ) (e : Ends s g) (size : length q ≡ length s) (formed : WellFormed q) where
  -- A position of the task's size can be a goal for its start.
  ends_there : Ends s q
  ends_there = record { same = sym size; within = e.within; start_formed = e.start_formed; goal_formed = formed }

  -- And a start for its goal.
  ends_back : Ends q g
  ends_back = record { same = size ∙ e.same; within = rw size e.within; start_formed = formed; goal_formed = e.goal_formed }

  module _ {to from : ℕ} (there : to ≡ shortest (plan_of s q)) (back : from ≡ shortest (plan_of q g)) where
    -- The moves by way of it can be added.
    pub by_way_fits : to + from < 2 ^ 64
    by_way_fits = rw (there, back) (omega (arith, ends_fit ends_there, ends_fit ends_back))

    module _ {whole : ℕ} (all : whole ≡ shortest (plan_of s g)) where
      -- The way by it is longer.
      pub located_off : to + from ≢ whole → off ≡ located_at s g q
      unfolding located_at on_route
      located_off n = rw (ends_fewest ends_there, ends_fewest ends_back, ends_fewest e, ← there, ← back, ← all, ne_eqb _ _ n)

      -- It is on route 0.
      pub located_first : to + from ≡ whole → same q (after s (take to (route_of s g 0))) ≡ true → on to 0 ≡ located_at s g q
      unfolding located_at on_route lowest_route
      located_first sum is = rw (ends_fewest ends_there, ends_fewest ends_back, ends_fewest e, ← there, ← back, ← all, eq-eqb _ _ sum, is)

      -- It is on route 1 only.
      pub located_second : to + from ≡ whole → same q (after s (take to (route_of s g 0))) ≡ false → on to 1 ≡ located_at s g q
      unfolding located_at on_route lowest_route
      located_second sum is = rw (ends_fewest ends_there, ends_fewest ends_back, ends_fewest e, ← there, ← back, ← all, eq-eqb _ _ sum, is)

-- What Locate finds by plans.
pub ruleset by_plans = (by_way_fits, located_off, located_first, located_second)
