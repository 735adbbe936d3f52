-- Request 6 (02, CR 6), said of what Wear answers and writes.
use Rattle.std.specs.Prelude.{ℕ, zero, suc, ◌+◌, ◌-◌, ◌≤◌, ◌<◌, ◌^◌, cond, List, [], ◌∷◌, ◌++◌, ◌≢◌, ◌≡◌, eqb, length, take, drop, get_or, replicate}
use Rattle.board.specs.Reply.{Reply, refused, answer, pass}
use Rattle.board.specs.Task.{discs, start, goal}
use Rattle.plan.specs.Plan.{plan_of}
use Rattle.plan.specs.declared.answer.Way.{Way}
use Rattle.plan.specs.declared.answer.Way.TheVariants.{Still, Direct, Detour, Tie}
use Rattle.route.specs.Answer.{length_of, task_route, move_answer}
use Rattle.route.specs.Route.{gathering}
use Rattle.route.specs.declared.answer.DiscMove.{DiscMove}
use Rattle.wear.specs.Answer.{wear_answer, wear_writes}
use Rattle.wear.specs.Wear.{wear}

-- The entry of disc d after the call.
abbrev pub entry_of : List ℕ → ℕ → List ℕ → ℕ → ℕ
entry_of t r out d = get_or (wear_writes t r out) (d - 1) 0

-- 1 where Move answers a move of disc d, else 0.
abbrev pub is_move_of : ℕ → Reply DiscMove → ℕ
is_move_of d (refused k) = 0
is_move_of d (answer m) = cond (eqb m.disc d) 1 0

-- At how many of the n indexes from i on Move answers a move of disc d.
unfoldable pub moves_said : List ℕ → ℕ → ℕ → ℕ → ℕ → ℕ
moves_said t r d i zero = 0
moves_said t r d i (suc n) = is_move_of d (move_answer t r i) + moves_said t r d (suc i) n

-- Numbers added up.
unfoldable pub total : List ℕ → ℕ
total [] = 0
total (k ∷ ks) = k + total ks

-- How often the largest disc that moves does so on route r of a way: a tie's route 0 is direct, its route 1 the detour.
abbrev pub crossings : Way → ℕ → ℕ
crossings Still r = 0
crossings (Direct l) r = 1
crossings (Detour l) r = 2
crossings (Tie l) zero = 1
crossings (Tie l) (suc r) = 2

-- The closed form of a tower's shift: disc d of a tower of k discs moves 2 ^ (k − d) times.
abbrev pub ShiftWears : Type 0
ShiftWears =
    (k d x y : ℕ) → 1 ≤ d → d ≤ k → x < 3 → y < 3 → x ≢ y → wear d (gathering (λ _. x) k y) ≡ 2 ^ (k - d)

pub record Request6 (t : List ℕ) (r : ℕ) (out : List ℕ) : Type 0 where
  pub accepted : wear_answer t r out ≡ pass
  -- The entry of disc d is how many moves of the route are moves of d.
  pub entry : (d : ℕ) → 1 ≤ d → d ≤ discs t → entry_of t r out d ≡ wear d (task_route t r)
  -- That is at how many indexes below the length Move answers a move of d.
  pub said : (d : ℕ) → 1 ≤ d → d ≤ discs t → entry_of t r out d ≡ moves_said t r d 0 (length_of t)
  -- The entries of discs 1 to n sum to the shortest length.
  pub sum : total (take (discs t) (wear_writes t r out)) ≡ length_of t
  -- The largest disc that moves does so once on a direct route and twice on a detour.
  pub largest : 1 ≤ (plan_of (start t) (goal t)).largest
      → entry_of t r out (plan_of (start t) (goal t)).largest ≡ crossings (plan_of (start t) (goal t)).way r
  -- Larger discs never move.
  pub larger : (d : ℕ) → (plan_of (start t) (goal t)).largest < d → d ≤ discs t → entry_of t r out d ≡ 0
  -- In a still plan no disc moves.
  pub still : (plan_of (start t) (goal t)).way ≡ Still → take (discs t) (wear_writes t r out) ≡ replicate (discs t) 0
  -- From a tower to a tower disc d moves 2 ^ (n − d) times.
  pub tower : (x y : ℕ) → x ≢ y → t ≡ replicate (discs t) x ++ replicate (discs t) y
      → (d : ℕ) → 1 ≤ d → d ≤ discs t → entry_of t r out d ≡ 2 ^ (discs t - d)
  -- Entries beyond the n stay.
  pub stay : drop (discs t) (wear_writes t r out) ≡ drop (discs t) out
  pub sized : length (wear_writes t r out) ≡ length out
