-- The wears of the direct route and of the detour of disc k + 1: of that disc, of the smaller ones, and of the larger ones, which stay.
use Prim.Native.Nat.{ℕ, suc, ◌+◌, ◌-◌, ◌<◌, ◌^◌}
use mathlib.Core.List.{[], ◌∷◌, ◌++◌}
use mathlib.Core.Logic.{◌≢◌}
use mathlib.Core.Path.{◌≡◌}
use native.Mathlib.Nat.{one-mul, zero-mul}
use native.Mathlib.Omega.{arith}
use Rattle.board.specs.Peg.{third}
use Rattle.board.proofs.Pegs.{third_peg}
use Rattle.plan.proofs.Gathering.{Pegs}
use Rattle.plan.proofs.Three.{three, three_swap}
use Rattle.route.specs.Route.{carry, gathering, spreading, direct_route, detour_route}
use Rattle.wear.specs.Inner.Below.{wears_below}
use Rattle.wear.specs.Wear.{wear, wears}
use Rattle.wear.proofs.Gatherings.{gathering_larger, tower_wear}
use Rattle.wear.proofs.Below.{below_counted}
use Rattle.wear.proofs.Wears.{wear_append, wear_backwards, wear_here, wear_other}

-- A spreading wears as the gathering does.
spreading_wear : (q : ℕ → ℕ) (k j d : ℕ) → wear d (spreading q k j) ≡ wear d (gathering q k j)
unfolding spreading
spreading_wear q k j d = wear_backwards d (gathering q k j)

module _ (p q : ℕ → ℕ) (k : ℕ) where
  -- A disc other than the one that crosses, on the direct route.
  pub direct_other : (d : ℕ) → d ≢ suc k →
      let z = third (p k) (q k) in
      wear d (direct_route p q k) ≡ wear d (gathering p k z) + wear d (gathering q k z)
  unfolding direct_route
  direct_other d n =
      let z = third (p k) (q k) in
      omega (
        arith,
        wear_append d (gathering p k z) (carry k (p k) (q k) ∷ spreading q k z),
        wear_other d k (p k) (q k) (spreading q k z) n,
        spreading_wear q k z d,
      )

  -- The disc that crosses.
  pub direct_crosses : wear (suc k) (direct_route p q k) ≡ 1
  unfolding direct_route
  direct_crosses =
      let z = third (p k) (q k) in
      omega (
        arith,
        wear_append (suc k) (gathering p k z) (carry k (p k) (q k) ∷ spreading q k z),
        wear_here k (p k) (q k) (spreading q k z),
        spreading_wear q k z (suc k),
        gathering_larger p k z (suc k) (omega arith),
        gathering_larger q k z (suc k) (omega arith),
      )

  -- The same on the detour: here the tower's shift comes between two crossings.
  pub detour_other : (d : ℕ) → d ≢ suc k
      → wear d (detour_route p q k) ≡ wear d (gathering p k (q k)) + wear d (gathering (λ _. q k) k (p k)) + wear d (gathering q k (p k))
  unfolding detour_route
  detour_other d n =
      let z = third (p k) (q k) in
      let last = carry k z (q k) ∷ spreading q k (p k) in
      let shift = gathering (λ _. q k) k (p k) in
      omega (
        arith,
        wear_append d (gathering p k (q k)) (carry k (p k) z ∷ (shift ++ last)),
        wear_other d k (p k) z (shift ++ last) n,
        wear_append d shift last,
        wear_other d k z (q k) (spreading q k (p k)) n,
        spreading_wear q k (p k) d,
      )

  -- There the disc crosses twice.
  pub detour_crosses : wear (suc k) (detour_route p q k) ≡ 2
  unfolding detour_route
  detour_crosses =
      let z = third (p k) (q k) in
      let last = carry k z (q k) ∷ spreading q k (p k) in
      let shift = gathering (λ _. q k) k (p k) in
      omega (
        arith,
        wear_append (suc k) (gathering p k (q k)) (carry k (p k) z ∷ (shift ++ last)),
        wear_here k (p k) z (shift ++ last),
        wear_append (suc k) shift last,
        wear_here k z (q k) (spreading q k (p k)),
        spreading_wear q k (p k) (suc k),
        gathering_larger p k (q k) (suc k) (omega arith),
        gathering_larger (λ _. q k) k (p k) (suc k) (omega arith),
        gathering_larger q k (p k) (suc k) (omega arith),
      )

  -- Larger discs stay.
  pub direct_larger : (d : ℕ) → suc k < d → wear d (direct_route p q k) ≡ 0
  direct_larger d l =
      let z = third (p k) (q k) in
      omega (arith, direct_other d (omega arith), gathering_larger p k z d (omega arith), gathering_larger q k z d (omega arith))

  -- On the detour too.
  pub detour_larger : (d : ℕ) → suc k < d → wear d (detour_route p q k) ≡ 0
  detour_larger d l =
      omega (
        arith,
        detour_other d (omega arith),
        gathering_larger p k (q k) d (omega arith),
        gathering_larger (λ _. q k) k (p k) d (omega arith),
        gathering_larger q k (p k) d (omega arith),
      )

  module _ (hp : Pegs p) (hq : Pegs q) where
    -- The wears of a direct route: no gap, and one crossing.
    pub direct_wears : wears (suc k) (direct_route p q k) ≡ wears_below p q k (third (p k) (q k)) (third (p k) (q k)) 0 ++ (1 ∷ [])
    unfolding wears
    direct_wears =
        let z = third (p k) (q k) in
        let free = third_peg (p k) (q k) (hp k) in
        rw (
          direct_crosses,
          below_counted p q hp hq (direct_route p q k) k z z 0 free free
              (λ d l. omega (arith, direct_other (suc d) (omega arith), zero-mul (2 ^ (k - suc d)))),
        )

    -- Those of a detour: one gap between two crossings, in which the smaller discs shift as a tower.
    pub detour_wears : p k ≢ q k → wears (suc k) (detour_route p q k) ≡ wears_below p q k (q k) (p k) 1 ++ (2 ∷ [])
    unfolding wears
    detour_wears away =
        let h = three_swap (three (p k) (q k) (hp k) (hq k) away) in
        rw (
          detour_crosses,
          below_counted p q hp hq (detour_route p q k) k (q k) (p k) 1 (hq k) (hp k)
              (λ d l. omega (arith, detour_other (suc d) (omega arith), tower_wear k d h l, one-mul (2 ^ (k - suc d)))),
        )
