-- Demand 2: lengths, routes and counts of shortest routes are Hinz's, from a task to each move and position of a route, and from a position
-- back to its index. All of it is said of what the calls answer.
use Rattle.std.specs.Prelude.{ℕ, suc, ◌+◌, ◌*◌, ◌-◌, ◌/◌, ◌≤◌, ◌<◌, min, List, [], ◌++◌, map, ◌↔◌, ◌≡◌, length, take, drop}
use Rattle.board.specs.Fewest.{fewest}
use Rattle.board.specs.Move.{Move, Leads, top}
use Rattle.board.specs.Position.{peg, WellFormed}
use Rattle.board.specs.Reply.{answer, pass}
use Rattle.board.specs.Task.{discs, start, goal}
use Rattle.plan.specs.Answer.{plan_answer}
use Rattle.plan.specs.Plan.{plan_of, HasLengths}
use Rattle.plan.specs.declared.answer.Lengths.{Lengths}
use Rattle.plan.specs.declared.answer.Way.{Way}
use Rattle.plan.specs.declared.answer.Way.TheVariants.{Still, Direct, Detour, Tie}
use Rattle.route.specs.Answer.{length_of, count_of, task_route, move_answer, place_answer, place_writes, run_answer, run_writes, Where, on, locate_answer}
use Rattle.route.specs.Ours.{read_moves}
use Rattle.route.specs.Route.{plain, direct_route, detour_route, move_at}
use Rattle.route.specs.declared.answer.DiscMove.{DiscMove}

-- The first i moves of route r of the rules.
abbrev pub first_moves : List ℕ → ℕ → ℕ → List Move
first_moves t r i = map plain (take i (task_route t r))

-- The direct route and the detour of the largest disc that moves.
abbrev pub direct_of : List ℕ → List ℕ → List DiscMove
direct_of s g = direct_route (peg s) (peg g) ((plan_of s g).largest - 1)

abbrev pub detour_of : List ℕ → List ℕ → List DiscMove
detour_of s g = detour_route (peg s) (peg g) ((plan_of s g).largest - 1)

-- Both lead from start to goal, in as many moves as the lengths say.
pub record Ways (s g : List ℕ) (l : Lengths) : Type 0 where
  pub direct_leads : Leads s (map plain (direct_of s g)) g
  pub direct_long : length (direct_of s g) ≡ l.direct
  pub detour_leads : Leads s (map plain (detour_of s g)) g
  pub detour_long : length (detour_of s g) ≡ l.detour

-- The number of each: a tie's route 0 is direct, its route 1 the detour; any other plan has route 0 alone, a still one's of no moves.
abbrev pub Numbered : Way → (ℕ → List DiscMove) → List DiscMove → List DiscMove → Type 0
Numbered Still route direct detour = route 0 ≡ []
Numbered (Direct l) route direct detour = route 0 ≡ direct
Numbered (Detour l) route direct detour = route 0 ≡ detour
Numbered (Tie l) route direct detour = (route 0 ≡ direct) × (route 1 ≡ detour)

-- Move answers entry i of the route, with the disc that it moves: the smallest on its from-peg where the moves before it lead.
pub record Moves (t : List ℕ) (r i : ℕ) : Type 0 where
  pub move : DiscMove
  pub answered : move_answer t r i ≡ answer move
  pub entry : move ≡ move_at (task_route t r) i
  pub disc : (p : List ℕ) → Leads (start t) (first_moves t r i) p → move.disc ≡ suc (top p move.from)

-- Place accepts, and writes where the first i moves lead into the first n bytes; later bytes stay.
pub record Places (t : List ℕ) (r i : ℕ) (out : List ℕ) : Type 0 where
  pub accepted : place_answer t r i out ≡ pass
  pub position : List ℕ
  pub sized : length position ≡ discs t
  pub leads : Leads (start t) (first_moves t r i) position
  pub wrote : place_writes t r i out ≡ position ++ drop (discs t) out

-- Run answers how many moves remain or fit, the lesser, and writes these from index i on, two letters each; other bytes stay.
pub record Runs (t : List ℕ) (r i : ℕ) (out : List ℕ) : Type 0 where
  pub count : ℕ
  pub lesser : count ≡ min (length_of t - i) (length out / 2)
  pub answered : run_answer t r i out ≡ answer count
  pub wrote : read_moves (take (2 * count) (run_writes t r i out)) ≡ take count (drop i (map plain (task_route t r)))
  pub stays : drop (2 * count) (run_writes t r i out) ≡ drop (2 * count) out

-- q is where the first i moves of route r lead, and those of no lower route.
pub record Reached (t q : List ℕ) (i r : ℕ) : Type 0 where
  pub index : i ≤ length_of t
  pub route : r < count_of t
  pub there : Leads (start t) (first_moves t r i) q
  pub lowest : (l : ℕ) → l < r → ¬ Leads (start t) (first_moves t l i) q

-- Locate answers: an index and a route exactly where q is there, and on exactly if the fewest by way of q are the fewest.
pub record Locates (t q : List ℕ) : Type 0 where
  pub place : Where
  pub answered : locate_answer t q ≡ answer place
  pub exactly : (i r : ℕ) → (place ≡ on i r) ↔ Reached t q i r
  pub sum : ((i : ℕ) × (r : ℕ) × (place ≡ on i r)) ↔ (fewest (start t) q + fewest q (goal t) ≡ fewest (start t) (goal t))

pub record Demand2 (t : List ℕ) : Type 0 where
  -- Plan answers the plan of the rules: its lengths, the lesser, and the count of shortest routes. Its lengths are those of its two ways.
  pub plan : plan_answer t ≡ answer (plan_of (start t) (goal t))
  pub ways : (l : Lengths) → HasLengths (plan_of (start t) (goal t)).way l → Ways (start t) (goal t) l
  pub numbered : Numbered (plan_of (start t) (goal t)).way (task_route t) (direct_of (start t) (goal t)) (detour_of (start t) (goal t))
  -- Each of its routes leads from start to goal in as many moves.
  pub leads : (r : ℕ) → r < count_of t → Leads (start t) (map plain (task_route t r)) (goal t)
  pub long : (r : ℕ) → r < count_of t → length (task_route t r) ≡ length_of t
  -- Move answers every entry of a route: disc, from and to.
  pub moves : (r i : ℕ) → r < count_of t → i < length_of t → Moves t r i
  -- Place and Run, wherever they have no fault.
  pub places : (r i : ℕ) (out : List ℕ) → r < count_of t → i ≤ length_of t → discs t ≤ length out → Places t r i out
  pub runs : (r i : ℕ) (out : List ℕ) → r < count_of t → i ≤ length_of t → (i < length_of t → 2 ≤ length out) → Runs t r i out
  -- Locate, on every position of n discs.
  pub locates : (q : List ℕ) → length q ≡ discs t → WellFormed q → Locates t q
  -- What Place writes leads back to its index, on its route or a lower one.
  pub back : (r i : ℕ) (out : List ℕ) → r < count_of t → i ≤ length_of t → discs t ≤ length out
      → (l : ℕ) × (l ≤ r) × (locate_answer t (take (discs t) (place_writes t r i out)) ≡ answer (on i l))
