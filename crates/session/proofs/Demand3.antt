-- Demand 3 holds of every task without faults.
use Prim.Native.Nat.{ℕ, ◌<◌}
use mathlib.Core.List.{List, map}
use mathlib.Core.Logic.{◌≢◌}
use mathlib.Core.Path.{◌≡◌, ◌∙◌, sym}
use native.Mathlib.Omega.{arith}
use lib.ListN.{length, length-map}
use Rattle.board.specs.Fault.{Faultless, task_faults}
use Rattle.board.specs.Move.{Move, Leads}
use Rattle.board.specs.Task.{start, goal}
use Rattle.board.proofs.Tasks.{SoundTask, task_accepted, faultless_accepted}
use Rattle.plan.specs.Plan.{plan_of}
use Rattle.plan.proofs.Calls.{plan_accepts}
use Rattle.plan.proofs.Optimal.{shortest_fewest}
use Rattle.route.specs.Answer.{length_of, count_of, task_route}
use Rattle.route.specs.Ours.{our_route}
use Rattle.route.specs.Route.{plain}
use Rattle.route.proofs.Calls.Answers.{route_length, run_answered, run_reads}
use Rattle.route.proofs.Calls.Opened.{Routed}
use Rattle.route.proofs.Calls.Ours.{our_route_lem}
use Rattle.route.proofs.Shortest.Distinct.{routes_count, routes_two, routes_differ}
use Rattle.route.proofs.Shortest.Routes.{route_leads, route_only}
use Rattle.session.specs.Answer.{opened}
use Rattle.session.specs.Demand3.{Demand3}
use Rattle.session.proofs.Calls.{begin_accepts}
use Rattle.session.proofs.Sessions.{begun_accounted}

module _ (t : List ℕ) (none : Faultless (task_faults t)) where
  task : SoundTask t
  task = task_accepted t (faultless_accepted t none)

  same : length (start t) ≡ length (goal t)
  same = task.start_length ∙ sym task.goal_length

  -- Our route r is the route of the rules.
  routed : (r : ℕ) → r < count_of t → Routed t r
  routed r known = record { accepted = faultless_accepted t none; sound = task; known = known }

  rules : (r : ℕ) → r < count_of t → our_route t r (length_of t) ≡ map plain (task_route t r)
  rules r known = our_route_lem t r (routed r known)

  no_others : (ms : List Move) → Leads (start t) ms (goal t) → length ms ≡ length_of t → (r : ℕ) × (r < count_of t) × (ms ≡ our_route t r (length_of t))
  no_others ms w e =
      let (r, known, is) = route_only (start t) (goal t) same task.start_formed task.goal_formed ms w e in
      (r, known, is ∙ sym (rules r known))

  two_differ : count_of t ≡ 2 → our_route t 0 (length_of t) ≢ our_route t 1 (length_of t)
  two_differ two =
      rw (rules 0 (omega arith), rules 1 (omega arith)) (routes_differ (start t) (goal t) same task.start_formed task.goal_formed two)

  pub demand_3 : Demand3 t
  demand_3 =
      record {
        plan = plan_of (start t) (goal t);
        planned = plan_accepts t none;
        none_shorter = (shortest_fewest (start t) (goal t) same task.start_formed task.goal_formed).least;
        ours_lead = λ r known. rw (rules r known) (route_leads (start t) (goal t) same task.start_formed task.goal_formed r known).leads;
        ours_long = λ r known. rw (rules r known) (length-map (task_route t r) plain ∙ route_length t r (routed r known));
        no_others = no_others;
        one_or_two = routes_count (start t) (goal t);
        two_exactly = routes_two (start t) (goal t);
        two_differ = two_differ;
        what_run_writes = λ r i out k e.
            let ran = run_answered t r i out e in
            rw (rules r ran.routed.known) (run_reads t r i out ran);
        begun = opened t;
        begins = begin_accepts t none;
        sessions = begun_accounted t (begin_accepts t none);
      }
