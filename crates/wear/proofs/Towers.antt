-- The wears of a tower's shift, and of the route from a tower to a tower.
use Prim.Native.Nat.{ℕ, zero, suc, ◌-◌, ◌≤◌, ◌<◌, ◌^◌}
use mathlib.Core.List.{List}
use mathlib.Core.Logic.{◌≢◌}
use mathlib.Core.Path.{◌≡◌, ◌∙◌, sym}
use native.Mathlib.Decide.{ℕ_discrete}
use native.Mathlib.Omega.{arith}
use lib.ListN.{length}
use lib.Pow.{pow_pos}
use Rattle.board.specs.Peg.{third}
use Rattle.board.specs.Position.{peg}
use Rattle.plan.specs.Inner.Three.{Three}
use Rattle.plan.specs.Plan.{largest, direct, detour, lengths_of, way_of}
use Rattle.plan.specs.declared.answer.Way.TheVariants.{Direct}
use Rattle.plan.proofs.Gathering.{Tower, gather_shift}
use Rattle.plan.proofs.Largest.{largest_moves}
use Rattle.plan.proofs.Three.{three, three_swap, three_turn, three_flip, three_third}
use Rattle.route.specs.Route.{direct_route, route_by, route_of}
use Rattle.route.proofs.Gatherings.Gathering.{gathering_cong}
use Rattle.route.proofs.Shortest.View.{WayView, direct_less, detour_less, equal, way_view, route_moving}
use Rattle.wear.specs.Request6.{ShiftWears}
use Rattle.wear.specs.Wear.{wear}
use Rattle.wear.proofs.Gatherings.{tower_wear}
use Rattle.wear.proofs.Crossings.{direct_other, direct_crosses}

-- The closed form, by the number of the disc.
pub shift_wears : ShiftWears
shift_wears k zero x y some l hx hy n = absurd (omega arith)
shift_wears k (suc d) x y some l hx hy n = tower_wear k d (three x y hx hy n) (omega arith)

module _ (p q : ℕ → ℕ) (k : ℕ) {x y z : ℕ} (h : Three x y z) (tp : Tower p (suc k) x) (tq : Tower q (suc k) y) where
  -- The smaller discs are towers too, and the largest is on its peg.
  below_start : Tower p k x
  below_start d l = tp d (omega arith)

  below_goal : Tower q k y
  below_goal d l = tq d (omega arith)

  free : third (p k) (q k) ≡ z
  free = rw (tp k (omega arith), tq k (omega arith)) (three_third h)

  -- The direct route is the shorter.
  less : direct p q k < detour p q k
  unfolding direct detour
  less =
      rw (free, tp k (omega arith), tq k (omega arith))
      (omega (
        arith,
        gather_shift p k (three_flip h) below_start,
        gather_shift q k (three_turn h) below_goal,
        gather_shift p k h below_start,
        gather_shift q k (three_swap h) below_goal,
        pow_pos k,
      ))

  towers_direct : way_of (lengths_of p q k) ≡ Direct (lengths_of p q k)
  towers_direct = at (way_view (lengths_of p q k))
    where
      at : WayView (lengths_of p q k) → way_of (lengths_of p q k) ≡ Direct (lengths_of p q k)
      at (direct_less e c) = e
      at (detour_less e c) = absurd (omega (arith, less))
      at (equal e c) = absurd (omega (arith, less))

  -- On it disc d + 1 moves 2 ^ (n − (d + 1)) times, of n = k + 1 discs.
  towers_wear : (d : ℕ) → d < suc k → wear (suc d) (direct_route p q k) ≡ 2 ^ (suc k - suc d)
  towers_wear d l =
      elim (ℕ_discrete d k) [
        | yes e ↦ let none : suc k - suc k ≡ 0 = omega arith in rw (e, none) (direct_crosses p q k)
        | no n ↦
            let more : suc k - suc d ≡ suc (k - suc d) = omega arith in
            rw (direct_other p q k (suc d) (omega arith), free, gathering_cong k p (λ _. x) z below_start, gathering_cong k q (λ _. y) z below_goal, more)
            (omega (arith, tower_wear k d (three_flip h) (omega arith), tower_wear k d (three_turn h) (omega arith)))
      ]

-- So on every route from a tower to a tower.
pub tower_route : (s t : List ℕ) (r x y : ℕ) → x < 3 → y < 3 → x ≢ y → Tower (peg s) (length s) x → Tower (peg t) (length s) y
    → (d : ℕ) → 1 ≤ d → d ≤ length s → wear d (route_of s t r) ≡ 2 ^ (length s - d)
unfolding route_by
tower_route s t r x y hx hy n ts tt' zero some l = absurd (omega arith)
tower_route s t r x y hx hy n ts tt' (suc d) some l = by (length s - 1) (omega arith)
  where
    by : (k : ℕ) → length s ≡ suc k → wear (suc d) (route_of s t r) ≡ 2 ^ (length s - suc d)
    by k size =
        let ts = rw size at ts in
        let tq = rw size at tt' in
        let away : peg s k ≢ peg t k = λ e. n (sym (ts k (omega arith)) ∙ e ∙ tq k (omega arith)) in
        let m : largest (peg s) (peg t) (length s) ≡ suc k = rw size (largest_moves (peg s) (peg t) k away) in
        rw (route_moving s t r k m, size, towers_direct (peg s) (peg t) k (three x y hx hy n) ts tq)
        (towers_wear (peg s) (peg t) k (three x y hx hy n) ts tq d (omega arith))
