-- Demand 2 holds of every task without faults.
use Prim.Native.Nat.{ℕ, ◌≤◌, ◌<◌}
use mathlib.Core.List.{List}
use mathlib.Core.Path.{◌≡◌, ◌∙◌, refl, sym}
use native.Mathlib.Omega.{arith}
use lib.ListN.{length, take}
use Rattle.board.specs.Fault.{Faultless, task_faults}
use Rattle.board.specs.Move.{Leads}
use Rattle.board.specs.Position.{WellFormed}
use Rattle.board.specs.Reply.{pass}
use Rattle.board.specs.Task.{discs, start, goal, task_check}
use Rattle.board.proofs.Leads.{leads_one}
use Rattle.board.proofs.Tasks.{SoundTask, task_accepted, faultless_accepted}
use Rattle.plan.proofs.Calls.{plan_accepts}
use Rattle.route.specs.Answer.{length_of, count_of, task_route, located_at}
use Rattle.route.specs.Demand2.{first_moves, Moves, Places, Runs, Reached, Locates, Demand2}
use Rattle.route.specs.Route.{move_at, after}
use Rattle.route.proofs.Calls.Answers.{route_length, move_accepts, move_disc, place_leads, place_size, place_accepts, place_answered, run_accepts, run_answered, run_reads, run_stays, locate_accepts, place_located}
use Rattle.route.proofs.Calls.Locating.{OnLowest, located_exactly, located_sum}
use Rattle.route.proofs.Calls.Opened.{Routed, accepted_routed}
use Rattle.route.proofs.Shortest.Routes.{route_leads}
use Rattle.route.proofs.Shortest.Ways.{plan_ways, plan_numbered}

module _ (t : List ℕ) (accepted : task_check t ≡ pass) where
  sound : SoundTask t
  sound = task_accepted t accepted

  size : length (start t) ≡ length (goal t)
  size = sound.start_length ∙ sym sound.goal_length

  -- Each route below the count is one.
  routed : (r : ℕ) → r < count_of t → Routed t r
  routed = accepted_routed t accepted

  moves : (r i : ℕ) → r < count_of t → i < length_of t → Moves t r i
  moves r i known index =
      record {
        move = move_at (task_route t r) i;
        answered = move_accepts t r (routed r known) i index;
        entry = refl;
        disc = λ p w. rw (leads_one w (place_leads t r (routed r known) i)) (move_disc t r (routed r known) i index);
      }

  places : (r i : ℕ) (out : List ℕ) → r < count_of t → i ≤ length_of t → discs t ≤ length out → Places t r i out
  places r i out known index room =
      let passes = place_accepts t r (routed r known) i out index room in
      record {
        accepted = passes;
        position = after (start t) (take i (task_route t r));
        sized = place_size t r (routed r known) i;
        leads = place_leads t r (routed r known) i;
        wrote = (place_answered t r i out passes).wrote;
      }

  runs : (r i : ℕ) (out : List ℕ) → r < count_of t → i ≤ length_of t → (i < length_of t → 2 ≤ length out) → Runs t r i out
  runs r i out known index room =
      let answered = run_accepts t r (routed r known) i out index room in
      let ran = run_answered t r i out answered in
      record {
        count = _;
        lesser = refl;
        answered = answered;
        wrote = run_reads t r i out ran;
        stays = run_stays t r i out ran;
      }

  -- The position after i moves is where they lead.
  leads_after : (q : List ℕ) (r i : ℕ) → r < count_of t → Leads (start t) (first_moves t r i) q → after (start t) (take i (task_route t r)) ≡ q
  leads_after q r i known w = leads_one (place_leads t r (routed r known) i) w

  after_leads : (q : List ℕ) (r i : ℕ) → r < count_of t → after (start t) (take i (task_route t r)) ≡ q → Leads (start t) (first_moves t r i) q
  after_leads q r i known e = rw e at (place_leads t r (routed r known) i)

  lowest_reached : (q : List ℕ) (i r : ℕ) → OnLowest (start t) (goal t) q i r → Reached t q i r
  lowest_reached q i r f =
      record {
        index = f.index;
        route = f.route;
        there = after_leads q r i f.route f.there;
        lowest = λ l below w. f.lowest l below (leads_after q l i (omega (arith, f.route)) w);
      }

  reached_lowest : (q : List ℕ) (i r : ℕ) → Reached t q i r → OnLowest (start t) (goal t) q i r
  reached_lowest q i r f =
      record {
        index = f.index;
        route = f.route;
        there = leads_after q r i f.route f.there;
        lowest = λ l below e. f.lowest l below (after_leads q l i (omega (arith, f.route)) e);
      }

  locates : (q : List ℕ) → length q ≡ discs t → WellFormed q → Locates t q
  locates q sized formed =
      let same : length (start t) ≡ length q = sound.start_length ∙ sym sized in
      let exactly = located_exactly (start t) (goal t) q size same sound.start_formed sound.goal_formed formed in
      record {
        place = located_at (start t) (goal t) q;
        answered = locate_accepts t q accepted sized formed;
        exactly = λ i r. ((λ e. lowest_reached q i r ((exactly i r).0 e)), λ l. (exactly i r).1 (reached_lowest q i r l));
        sum = located_sum (start t) (goal t) q size same sound.start_formed sound.goal_formed formed;
      }

-- All of it together.
pub demand_2 : (t : List ℕ) → Faultless (task_faults t) → Demand2 t
demand_2 t none =
    let accepted = faultless_accepted t none in
    let s = sound t accepted in
    record {
      plan = plan_accepts t none;
      ways = plan_ways (start t) (goal t) (size t accepted) s.start_formed s.goal_formed;
      numbered = plan_numbered (start t) (goal t);
      leads = λ r known. (route_leads (start t) (goal t) (size t accepted) s.start_formed s.goal_formed r known).leads;
      long = λ r known. route_length t r (routed t accepted r known);
      moves = moves t accepted;
      places = places t accepted;
      runs = runs t accepted;
      locates = locates t accepted;
      back = λ r i out known index room. place_located t r i out (place_accepts t r (routed t accepted r known) i out index room);
    }
