-- At every index of a route, its rest is the moves of a leg and of those after it.
use Prim.Native.Nat.{ℕ, zero, suc, ◌+◌, ◌-◌, ◌≤◌, ◌<◌}
use mathlib.Core.Path.{◌≡◌, ◌∙◌, ap, sym, refl, subst, fun_ext}
use mathlib.Core.Bool.{true, false}
use mathlib.Core.List.{List, ◌∷◌, ◌++◌}
use mathlib.Core.Logic.{◌≢◌}
use native.Mathlib.Decide.{ℕ_discrete, dec_le}
use native.Mathlib.Omega.{arith}
use borrow.Author.Tests.{le-leb, lt-leb, lt-ltb, le-ltb, eq-eqb}
use lib.ListN.{length, take, drop}
use lib.Pow.{pow_pos}
use lib.Seq.{drop-append-le, drop-append-add}
use Rattle.board.specs.Peg.{third}
use Rattle.plan.specs.Gather.{gather}
use Rattle.board.specs.Position.{peg}
use Rattle.board.proofs.Formed.{formed_pegs}
use Rattle.plan.specs.Plan.{direct, detour, largest, lengths_of, plan_of, shortest}
use Rattle.plan.specs.Inner.Sound.{Ends}
use Rattle.plan.specs.Tower.{tower_length}
use Rattle.plan.specs.Inner.Three.{Three}
use Rattle.plan.proofs.Three.{three, three_third, three_swap, three_turn, three_flip}
use Rattle.plan.proofs.Gathering.{Pegs, gather_shift}
use Rattle.plan.proofs.Largest.{largest_stays}
use Rattle.route.specs.Inner.Along.{along}
use Rattle.route.specs.Route.{carry, gathering, spreading, direct_route, detour_route, route_of, after}
use Rattle.route.specs.Inner.Stage.{course_by, course_of, after_first, stage_of, stage_peg}
use Rattle.route.specs.declared.answer.DiscMove.{DiscMove}
use Rattle.route.proofs.Along.Along.{along_above}
use Rattle.route.proofs.Courses.Found.{course_is, route_place, moves_some}
use Rattle.route.proofs.Gatherings.Gathering.{gathering_cong, gathering_length}
use Rattle.route.proofs.Along.Middle.{middle}
use Rattle.route.proofs.Along.Spread.{spreading_middle}
use Rattle.route.proofs.Courses.Stages.{straight, roundabout, stage_first, stage_later}
use Rattle.route.proofs.Shortest.Routes.{goes_direct, goes_round, way_route}
use Rattle.route.proofs.Shortest.View.{none, some, largest_view, plan_still, plan_moving, route_moving}
use Rattle.route.proofs.Shortest.Unique.{direct_is, detour_is, direct_sum, detour_sum}
use Rattle.run.specs.Inner.Ready.{aside, leg_rest, leg_moves}
use Rattle.run.specs.Inner.Start.{start_leg}
use Rattle.run.specs.declared.stepper.Leg.{Leg}

-- The moves ms are those of the leg l, from the pegs u, to the goal q.
pub record Ahead (u q : ℕ → ℕ) (n : ℕ) (l : Leg) (ms : List DiscMove) : Type 0 where
  pub there : l.disc < n
  pub pegs : Three l.from l.to (aside l)
  pub from : u l.disc ≡ l.from
  pub rest : ms ≡ leg_moves l u q

-- Discs on their goal pegs above k do not change which is the largest that moves.
largest_grow : (u q : ℕ → ℕ) (k n : ℕ) → ((d : ℕ) → k ≤ d → u d ≡ q d) → k ≤ n → largest u q n ≡ largest u q k
largest_grow u q k zero home l = let e : 0 ≡ k = omega arith in ap (largest u q) e
largest_grow u q k (suc n) home l =
    elim (ℕ_discrete k (suc n)) [
      | yes e ↦ ap (largest u q) (sym e)
      | no m ↦ largest_stays u q n (home n (omega arith)) ∙ largest_grow u q k n home (omega arith)
    ]

-- A list cut before, and after, a move that stands between two others.
module _ (xs : List DiscMove) (m : DiscMove) (ys : List DiscMove) (n : ℕ) (size : length xs ≡ n) where
  drop_before : (i : ℕ) → i ≤ n → drop i (xs ++ (m ∷ ys)) ≡ drop i xs ++ (m ∷ ys)
  drop_before i l = drop-append-le i xs (m ∷ ys) (omega arith)

  drop_after : (i : ℕ) → n < i → drop i (xs ++ (m ∷ ys)) ≡ drop (i - n - 1) ys
  drop_after i l =
      let index : i ≡ length xs + suc (i - n - 1) = omega arith in
      ap (λ (j : ℕ). drop j (xs ++ (m ∷ ys))) index ∙ drop-append-add xs (m ∷ ys) (suc (i - n - 1))

-- The rest of a gathering at an index.
gathering_rest : (u : ℕ → ℕ) → Pegs u → (k j i : ℕ) → j < 3 → i ≤ gather u k j
    → drop i (gathering u k j) ≡ gathering (along u k j (gather u k j - i)) k j
gathering_rest u hu k j i hj l =
    let index : gather u k j - (gather u k j - i) ≡ i = omega arith in
    ap (λ (n : ℕ). drop n (gathering u k j)) (sym index) ∙ middle u hu k j (gather u k j - i) hj (omega arith)

-- In the middle of a spreading the next leg is that of the largest disc that is not on its goal peg.
spread_ahead : (q : ℕ → ℕ) → Pegs q → (k w i n : ℕ) → w < 3 → k ≤ n → i < gather q k w → (m : ℕ) → largest (along q k w i) q n ≡ m
    → Ahead (along q k w i) q n (record { disc = m - 1; from = along q k w i (m - 1); to = q (m - 1); again = false }) (drop i (spreading q k w))
unfolding leg_rest
spread_ahead q hq k w i n hw kn l m em =
    let s = spreading_middle q hq k w i hw l in
    let e : m - 1 ≡ s.disc =
    omega (arith, em, largest_grow (along q k w i) q k n (λ d b. along_above q k w i d b) kn, s.is_largest) in
    rw e (record { there = omega arith; pegs = s.pegs; from = refl; rest = s.moves })

module _ (p q : ℕ → ℕ) (hp : Pegs p) (hq : Pegs q) (k z : ℕ) (h : Three (p k) (q k) z) (n : ℕ) (room : suc k ≤ n) where
  -- While the direct route gathers, its crossing is ahead.
  direct_first : (i : ℕ) → i ≤ gather p k z
      → Ahead (along p k z (gather p k z - i)) q n (record { disc = k; from = p k; to = q k; again = false }) (drop i (direct_route p q k))
  unfolding leg_rest
  direct_first i l =
      let u = along p k z (gather p k z - i) in
      let rest = carry k (p k) (q k) ∷ spreading q k z in
      record {
        there = room;
        pegs = rw (three_third h) h;
        from = along_above p k z (gather p k z - i) k (omega arith);
        rest = rw (direct_is p q k refl refl h, three_third h)
            (drop_before (gathering p k z) (carry k (p k) (q k)) (spreading q k z) (gather p k z) (gathering_length p hp k z h.third) i l
            ∙ ap (λ (a : List DiscMove). a ++ rest) (gathering_rest p hp k z i h.third l));
      }

  -- At every index of the direct route a leg is ahead.
  direct_ahead : (i : ℕ) → i < direct p q k
      → Ahead (stage_peg p q (straight p q k z) (stage_of (straight p q k z) i)) q n
      (start_leg (straight p q k z) (stage_of (straight p q k z) i) (stage_peg p q (straight p q k z) (stage_of (straight p q k z) i)) q n)
      (drop i (direct_route p q k))
  unfolding stage_peg start_leg after_first
  direct_ahead i l =
      let c = straight p q k z in
      let g = gather p k z in
      elim (dec_le i g) [
        | yes b ↦ rw (stage_first c i b) (direct_first i b)
        | no f ↦
            let list : drop i (direct_route p q k) ≡ drop (i - g - 1) (spreading q k z) =
            ap (drop i) (direct_is p q k refl refl h)
            ∙ drop_after (gathering p k z) (carry k (p k) (q k)) (spreading q k z) g (gathering_length p hp k z h.third) i (omega arith) in
            rw (stage_later c i (omega arith), list)
            (spread_ahead q hq k z (i - g - 1) n h.third (omega arith) (omega (arith, direct_sum p q k refl refl h)) _ refl)
      ]

  -- While the detour gathers, its first crossing is ahead, and then the second.
  detour_first : (i : ℕ) → i ≤ gather p k (q k)
      → Ahead (along p k (q k) (gather p k (q k) - i)) q n (record { disc = k; from = p k; to = z; again = true }) (drop i (detour_route p q k))
  unfolding leg_rest
  detour_first i l =
      let g = gather p k (q k) in
      let rest = gathering (λ _. q k) k (p k) ++ (carry k z (q k) ∷ spreading q k (p k)) in
      record {
        there = room;
        pegs = rw (three_third (three_flip h)) (three_flip h);
        from = along_above p k (q k) (g - i) k (omega arith);
        rest = rw (detour_is p q k refl refl h, three_third (three_flip h))
            (drop_before (gathering p k (q k)) (carry k (p k) z) rest g (gathering_length p hp k (q k) (hq k)) i l
            ∙ ap (λ (a : List DiscMove). a ++ (carry k (p k) z ∷ rest)) (gathering_rest p hp k (q k) i (hq k) l));
      }

  -- What is left of the detour after its first crossing.
  later : List DiscMove
  later = gathering (λ _. q k) k (p k) ++ (carry k z (q k) ∷ spreading q k (p k))

  -- The shift is as long as a tower.
  shift : gather (λ _. q k) k (p k) ≡ tower_length k
  shift = omega (arith, gather_shift (λ _. q k) k (three_swap h) (λ d l. refl))

  -- While the detour shifts, its second crossing is ahead.
  detour_shift : (i : ℕ) → i ≤ tower_length k → (u : ℕ → ℕ) → u k ≡ z
      → ((d : ℕ) → d < k → u d ≡ along (λ _. q k) k (p k) (tower_length k - i) d)
      → Ahead u q n (record { disc = k; from = z; to = q k; again = false }) (drop i later)
  unfolding leg_rest later
  detour_shift i l u here below =
      let t = tower_length k in
      let list = gathering (λ _. q k) k (p k) in
      let size = gathering_length (λ _. q k) (λ _. hq k) k (p k) (hp k) ∙ shift in
      let turn : Three z (q k) (p k) = three_swap (three_turn h) in
      let left : drop i list ≡ gathering u k (p k) =
      gathering_rest (λ _. q k) (λ _. hq k) k (p k) i (hp k) (omega (arith, shift))
      ∙ ap (λ (r : ℕ). gathering (along (λ _. q k) k (p k) (r - i)) k (p k)) shift
      ∙ gathering_cong k (along (λ _. q k) k (p k) (t - i)) u (p k) (λ d b. sym (below d b)) in
      record {
        there = room;
        pegs = rw (three_third turn) turn;
        from = here;
        rest = rw (three_third turn)
            (drop_before list (carry k z (q k)) (spreading q k (p k)) t size i l
            ∙ ap (λ (a : List DiscMove). a ++ (carry k z (q k) ∷ spreading q k (p k))) left);
      }

  -- At every index of the detour after its first crossing a leg is ahead.
  later_ahead : (i : ℕ) → i < tower_length k + 1 + gather q k (p k)
      → Ahead (stage_peg p q (roundabout p q k z) (after_first (roundabout p q k z) i)) q n
      (start_leg (roundabout p q k z) (after_first (roundabout p q k z) i) (stage_peg p q (roundabout p q k z) (after_first (roundabout p q k z) i)) q n)
      (drop i later)
  unfolding stage_peg start_leg after_first later
  later_ahead i l =
      let t = tower_length k in
      let list = gathering (λ _. q k) k (p k) in
      let size = gathering_length (λ _. q k) (λ _. hq k) k (p k) (hp k) ∙ shift in
      elim (dec_le i t) [
        | yes b ↦ rw (le-leb i t b)
            (detour_shift i b _ (rw (le-ltb k k (omega arith), eq-eqb k k refl)) (λ d g. rw (lt-ltb d k g)))
        | no f ↦ rw (lt-leb i t (omega arith), drop_after list (carry k z (q k)) (spreading q k (p k)) t size i (omega arith))
            (spread_ahead q hq k (p k) (i - t - 1) n (hp k) (omega arith) (omega arith) _ refl)
      ]

  -- At every index of the detour a leg is ahead.
  detour_ahead : (i : ℕ) → i < detour p q k
      → Ahead (stage_peg p q (roundabout p q k z) (stage_of (roundabout p q k z) i)) q n
      (start_leg (roundabout p q k z) (stage_of (roundabout p q k z) i) (stage_peg p q (roundabout p q k z) (stage_of (roundabout p q k z) i)) q n)
      (drop i (detour_route p q k))
  unfolding stage_peg start_leg later
  detour_ahead i l =
      let c = roundabout p q k z in
      let g = gather p k (q k) in
      elim (dec_le i g) [
        | yes b ↦ rw (stage_first c i b) (detour_first i b)
        | no f ↦
            let list : drop i (detour_route p q k) ≡ drop (i - g - 1) later =
            ap (drop i) (detour_is p q k refl refl h)
            ∙ drop_after (gathering p k (q k)) (carry k (p k) z) later g (gathering_length p hp k (q k) (hq k)) i (omega arith) in
            rw (stage_later c i (omega arith), list)
            (later_ahead (i - g - 1) (omega (arith, detour_sum p q k refl refl h, pow_pos k)))
      ]

-- At every index of a route of disc k + 1 a leg is ahead.
moving_ahead : (s t : List ℕ) → Ends s t → (k : ℕ) → largest (peg s) (peg t) (length s) ≡ suc k → k < length s → peg s k ≢ peg t k
    → (r i : ℕ) → i < shortest (plan_of s t)
    → Ahead (stage_peg (peg s) (peg t) (course_of s t r) (stage_of (course_of s t r) i)) (peg t) (length s)
    (start_leg (course_of s t r) (stage_of (course_of s t r) i) (stage_peg (peg s) (peg t) (course_of s t r) (stage_of (course_of s t r) i)) (peg t) (length s))
    (drop i (route_of s t r))
unfolding course_by
moving_ahead s t e k m room away r i l =
    let hs = formed_pegs s e.start_formed in
    let ht = formed_pegs t e.goal_formed in
    let h = three (peg s k) (peg t k) (hs k) (ht k) away in
    let z = third (peg s k) (peg t k) in
    elim (way_route (lengths_of (peg s) (peg t) k) (peg s) (peg t) k r) [
      | goes_direct f long d ↦
          rw (route_moving s t r k m, f, course_is s t k m r false d)
          (direct_ahead (peg s) (peg t) hs ht k z h (length s) room i (rw (plan_moving s t k m, long) at l))
      | goes_round f long d ↦
          rw (route_moving s t r k m, f, course_is s t k m r true d)
          (detour_ahead (peg s) (peg t) hs ht k z h (length s) room i (rw (plan_moving s t k m, long) at l))
    ]

-- At every index of a route a leg is ahead of the position there, and its moves are the rest of the route.
pub route_ahead : (s t : List ℕ) → Ends s t → (r i : ℕ) → i < shortest (plan_of s t)
    → Ahead (peg (after s (take i (route_of s t r)))) (peg t) (length s)
    (start_leg (course_of s t r) (stage_of (course_of s t r) i) (peg (after s (take i (route_of s t r)))) (peg t) (length s))
    (drop i (route_of s t r))
route_ahead s t e r i l =
    let at = route_place s t e r (moves_some s t (omega arith)) i (omega arith) in
    subst
    (λ (u : ℕ → ℕ). Ahead u (peg t) (length s) (start_leg (course_of s t r) (stage_of (course_of s t r) i) u (peg t) (length s)) (drop i (route_of s t r)))
    (fun_ext λ d. sym (at.pegs d))
    (elim (largest_view (peg s) (peg t) (length s)) [
      | none m home ↦ absurd (omega (arith, rw (plan_still s t m) at l))
      | some k m b away home c ↦ moving_ahead s t e k m b away r i l
    ])
