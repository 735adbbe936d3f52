-- Request 6 holds of every call of Wear without faults.
use Prim.Native.Nat.{ℕ, zero, suc, ◌+◌, ◌-◌, ◌≤◌, ◌<◌, ◌^◌}
use mathlib.Core.List.{List, ◌++◌}
use mathlib.Core.Logic.{◌≢◌}
use mathlib.Core.Path.{◌≡◌, ◌∙◌, refl, sym, ap}
use native.Mathlib.Omega.{arith}
use lib.ListN.{length, take, drop, replicate, get_or-append, length-replicate, get_or-replicate}
use lib.Seq.{drop-cons, take_all, take_at, drop_at}
use Rattle.board.specs.Fault.{Faultless}
use Rattle.board.specs.Position.{peg}
use Rattle.board.specs.Task.{discs, start, goal}
use Rattle.board.proofs.Formed.{formed_pegs}
use Rattle.plan.specs.Plan.{plan_of}
use Rattle.plan.specs.declared.answer.Way.TheVariants.{Still}
use Rattle.route.specs.Answer.{length_of, task_route}
use Rattle.route.proofs.Courses.Plan.{plan_largest}
use Rattle.route.proofs.Calls.Answers.{route_length, move_accepts}
use Rattle.route.proofs.Shortest.Routes.{route_walk}
use Rattle.wear.specs.Answer.{wear_writes}
use Rattle.wear.specs.Faults.{wear_faults}
use Rattle.wear.specs.Request6.{entry_of, moves_said, total, Request6}
use Rattle.wear.specs.Wear.{wear, wears, wears_of}
use Rattle.wear.proofs.Calls.{WearAnswered, wear_obeys, wear_answered}
use Rattle.wear.proofs.Routes.{route_largest, route_larger, route_none}
use Rattle.wear.proofs.Total.{walk_total}
use Rattle.wear.proofs.Towers.{tower_route}
use Rattle.wear.proofs.Wears.{wears_length, wears_at}

module _ {t : List ℕ} {r : ℕ} {out : List ℕ} (o : WearAnswered t r out) where
  -- The first n entries are the wears of discs 1 to n.
  written : take (discs t) (wear_writes t r out) ≡ wears_of t r
  written = rw o.wrote (take_at (wears_of t r) (drop (discs t) out) (discs t) (wears_length (discs t) _))

  -- Entry by entry.
  entry : (d : ℕ) → 1 ≤ d → d ≤ discs t → entry_of t r out d ≡ wear d (task_route t r)
  entry zero some l = absurd (omega arith)
  entry (suc d) some l =
      let less : suc d - 1 ≡ d = omega arith in
      let size : length (wears_of t r) ≡ discs t = wears_length (discs t) _ in
      let inside : d < length (wears_of t r) = omega arith in
      rw (less, o.wrote)
      (get_or-append (wears_of t r) (drop (discs t) out) 0 d inside ∙ wears_at (discs t) (task_route t r) d (omega arith))

  -- The moves that Move answers from index i on are the route's.
  moves_said_lem : (d n i : ℕ) → i + n ≤ length_of t → moves_said t r d i n ≡ wear d (take n (drop i (task_route t r)))
  unfolding moves_said wear
  moves_said_lem d zero i l = refl
  moves_said_lem d (suc n) i l =
      let there : i < length (task_route t r) = omega (arith, route_length t r o.routed) in
      rw (
        move_accepts t r o.routed i (omega arith),
        moves_said_lem d n (suc i) (omega arith),
        drop-cons (task_route t r) i (record { disc = 0; from = 0; to = 0 }) there,
      )

  -- From 0 on, all of them.
  said : (d : ℕ) → moves_said t r d 0 (length_of t) ≡ wear d (task_route t r)
  said d = moves_said_lem d (length_of t) 0 (omega arith) ∙ ap (wear d) (take_all (length_of t) (task_route t r) (omega (arith, route_length t r o.routed)))

  -- They sum to the length of the route, which is the plan's shortest.
  sum : total (take (discs t) (wear_writes t r out)) ≡ length_of t
  sum =
      let s = o.routed.sound in
      let walk = (route_walk (start t) (goal t) (s.start_length ∙ sym s.goal_length) s.start_formed s.goal_formed r o.routed.known).walk in
      rw written (ap (λ (n : ℕ). total (wears n (task_route t r))) (sym s.start_length) ∙ walk_total walk ∙ route_length t r o.routed)

  -- A still plan moves nothing.
  still : (plan_of (start t) (goal t)).way ≡ Still → take (discs t) (wear_writes t r out) ≡ replicate (discs t) 0
  still e =
      let s = o.routed.sound in
      written
      ∙ ap (λ (n : ℕ). wears n (task_route t r)) (sym s.start_length)
      ∙ route_none (start t) (goal t) refl r e
      ∙ ap (λ (n : ℕ). replicate n 0) s.start_length

  -- What comes after the entries is as it was.
  stay : drop (discs t) (wear_writes t r out) ≡ drop (discs t) out
  stay = rw o.wrote (drop_at (wears_of t r) (drop (discs t) out) (discs t) (wears_length (discs t) _))

  -- From a tower to a tower.
  tower : (x y : ℕ) → x ≢ y → t ≡ replicate (discs t) x ++ replicate (discs t) y
      → (d : ℕ) → 1 ≤ d → d ≤ discs t → entry_of t r out d ≡ 2 ^ (discs t - d)
  tower x y apart e d some l =
      let n = discs t in
      let s = o.routed.sound in
      let from : start t ≡ replicate n x = ap (take n) e ∙ take_at (replicate n x) (replicate n y) n (length-replicate n x) in
      let to : goal t ≡ replicate n y = ap (drop n) e ∙ drop_at (replicate n x) (replicate n y) n (length-replicate n x) in
      let at_start : (i : ℕ) → i < n → peg (start t) i ≡ x = λ i h. ap (λ (p : List ℕ). peg p i) from ∙ get_or-replicate n i x 0 h in
      let at_goal : (i : ℕ) → i < n → peg (goal t) i ≡ y = λ i h. ap (λ (p : List ℕ). peg p i) to ∙ get_or-replicate n i y 0 h in
      let hx : x < 3 = rw (at_start 0 (omega arith)) at (formed_pegs (start t) s.start_formed 0) in
      let hy : y < 3 = rw (at_goal 0 (omega arith)) at (formed_pegs (goal t) s.goal_formed 0) in
      entry d some l
      ∙ rw s.start_length at (tower_route (start t) (goal t) r x y hx hy apart (rw s.start_length at_start) (rw s.start_length at_goal) d some (rw s.start_length l))

-- All of it together.
pub request_6 : (t : List ℕ) (r : ℕ) (out : List ℕ) → Faultless (wear_faults t r out) → Request6 t r out
request_6 t r out clear =
    let (u, accepted) = (wear_obeys t r out).answers clear in
    let o = wear_answered t r out accepted in
    record {
      accepted = accepted;
      entry = entry o;
      said = λ d some few. entry o d some few ∙ sym (said o d);
      sum = sum o;
      largest = λ moves.
          entry o (plan_of (start t) (goal t)).largest moves (omega (arith, plan_largest (start t) (goal t), o.routed.sound.start_length))
          ∙ route_largest (start t) (goal t) refl r moves;
      larger = λ d l few. entry o d (omega arith) few ∙ route_larger (start t) (goal t) refl r d l;
      still = still o;
      tower = tower o;
      stay = stay o;
      sized = o.sized;
    }
