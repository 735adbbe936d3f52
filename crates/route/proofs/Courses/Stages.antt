-- What a route does at an index is what its stage says.
use Prim.Native.Nat.{ℕ, suc, ◌+◌, ◌-◌, ◌≤◌, ◌<◌}
use mathlib.Core.Path.{◌≡◌, ◌∙◌, ap, sym, refl, fun_ext}
use mathlib.Core.Bool.{true, false}
use mathlib.Core.List.{◌∷◌, ◌++◌}
use native.Mathlib.Decide.{ℕ_discrete, dec_le, dec_lt}
use native.Mathlib.Omega.{arith}
use borrow.Author.Tests.{eq-eqb, ne_eqb, le-leb, lt-leb, lt-ltb, le-ltb}
use lib.ListN.{length, take}
use lib.Pow.{pow_pos}
use Rattle.plan.specs.Gather.{gather}
use Rattle.plan.specs.Plan.{direct, detour}
use Rattle.plan.specs.Tower.{tower_length}
use Rattle.plan.specs.Inner.Three.{Three}
use Rattle.plan.proofs.Three.{three_swap}
use Rattle.plan.proofs.Gathering.{Pegs, gather_shift, gather_cong}
use Rattle.route.specs.Inner.Along.{along}
use Rattle.route.specs.Route.{carry, gathering, spreading, move_at, direct_route, detour_route}
use Rattle.route.specs.Inner.Stage.{first_move_of, after_first, stage_of, stage_move, stage_peg}
use Rattle.route.specs.declared.course.Course.{Course}
use Rattle.route.specs.declared.course.Stage.TheVariants.{Gathering, Shifting}
use Rattle.route.proofs.Along.Along.{along_above, along_cong}
use Rattle.route.proofs.Courses.Between.{entry_before, entry_here, entry_after, take_before, take_after}
use Rattle.route.proofs.Gatherings.Gathering.{gathering_length}
use Rattle.route.proofs.Along.Entries.{gathering_entry, spreading_entry, spreading_take}
use Rattle.route.proofs.Along.Middle.{gathering_take}
use Rattle.route.proofs.Shortest.Unique.{direct_is, detour_is, direct_sum, detour_sum}
use Rattle.route.proofs.Walks.Walk.{Walk, walk_grow}
use Rattle.route.proofs.Walks.Routes.{direct_part, aside, aside_pegs, aside_tower, aside_here, aside_above, aside_part, shift_list, detour_part}

-- The stages of a course, by the index.
module _ (c : Course) where
  pub stage_first : (i : ℕ) → i ≤ c.first → stage_of c i ≡ Gathering (c.first - i)
  unfolding stage_of
  stage_first i l = rw (le-leb i c.first l)

  pub stage_later : (i : ℕ) → c.first < i → stage_of c i ≡ after_first c (i - c.first - 1)
  unfolding stage_of
  stage_later i l = rw (lt-leb i c.first l)

-- The courses of disc k + 1 with the third peg named.
abbrev pub straight : (ℕ → ℕ) → (ℕ → ℕ) → ℕ → ℕ → Course
straight p q k z = record { disc = k; from = p k; to = q k; free = z; detour = false; first = gather p k z }

abbrev pub roundabout : (ℕ → ℕ) → (ℕ → ℕ) → ℕ → ℕ → Course
roundabout p q k z = record { disc = k; from = p k; to = q k; free = z; detour = true; first = gather p k (q k) }

module _ (p q : ℕ → ℕ) (hp : Pegs p) (hq : Pegs q) (k z : ℕ) (h : Three (p k) (q k) z) where
  -- Each move of the direct route is that of its stage.
  pub direct_entry : (i : ℕ) → i < direct p q k
      → move_at (direct_route p q k) i ≡ stage_move p q (straight p q k z) (stage_of (straight p q k z) i)
  unfolding stage_move after_first
  direct_entry i l =
      let c = straight p q k z in
      let g = gather p k z in
      let size = gathering_length p hp k z h.third in
      let mid = carry k (p k) (q k) in
      let tail = spreading q k z in
      rw (direct_is p q k refl refl h)
      (elim (dec_lt i g) [
        | yes b ↦ rw (stage_first c i (omega arith), ne_eqb (g - i) 0 (omega arith))
            (entry_before _ (gathering p k z) mid tail g size i b ∙ gathering_entry p hp k z i h.third (omega arith))
        | no n ↦ elim (ℕ_discrete i g) [
          | yes e ↦ rw (stage_first c i (omega arith), eq-eqb (g - i) 0 (omega arith)) (entry_here _ (gathering p k z) mid tail g size i e)
          | no f ↦ rw (stage_later c i (omega arith))
              (entry_after _ (gathering p k z) mid tail g size i (omega arith)
              ∙ spreading_entry q hq k z (i - g - 1) h.third (omega (arith, direct_sum p q k refl refl h)))
        ]
      ])

  -- The shift is a tower's length.
  pub shift_length : gather (λ _. q k) k (p k) ≡ tower_length k
  shift_length = omega (arith, gather_shift (λ _. q k) k (three_swap h) (λ d l. refl))

  -- The moves of the detour after its first crossing.
  later_entry : (i : ℕ) → i < tower_length k + 1 + gather q k (p k)
      → move_at (gathering (λ _. q k) k (p k) ++ (carry k z (q k) ∷ spreading q k (p k))) i
      ≡ stage_move p q (roundabout p q k z) (after_first (roundabout p q k z) i)
  unfolding stage_move after_first
  later_entry i l =
      let t = tower_length k in
      let size = gathering_length (λ _. q k) (λ _. hq k) k (p k) (hp k) ∙ shift_length in
      let mid = carry k z (q k) in
      let list = gathering (λ _. q k) k (p k) in
      let tail = spreading q k (p k) in
      elim (dec_lt i t) [
        | yes b ↦ rw (le-leb i t (omega arith), ne_eqb (t - i) 0 (omega arith))
            (entry_before _ list mid tail t size i b
            ∙ gathering_entry (λ _. q k) (λ _. hq k) k (p k) i (hp k) (omega (arith, shift_length))
            ∙ ap (λ (n : ℕ). first_move_of (along (λ _. q k) k (p k) (n - i)) k (p k)) shift_length)
        | no n ↦ elim (ℕ_discrete i t) [
          | yes e ↦ rw (le-leb i t (omega arith), eq-eqb (t - i) 0 (omega arith)) (entry_here _ list mid tail t size i e)
          | no f ↦ rw (lt-leb i t (omega arith))
              (entry_after _ list mid tail t size i (omega arith)
              ∙ spreading_entry q hq k (p k) (i - t - 1) (hp k) (omega arith))
        ]
      ]

  -- Each move of the detour is that of its stage.
  pub detour_entry : (i : ℕ) → i < detour p q k
      → move_at (detour_route p q k) i ≡ stage_move p q (roundabout p q k z) (stage_of (roundabout p q k z) i)
  unfolding stage_move
  detour_entry i l =
      let c = roundabout p q k z in
      let g = gather p k (q k) in
      let size = gathering_length p hp k (q k) (hq k) in
      let mid = carry k (p k) z in
      let tail = gathering (λ _. q k) k (p k) ++ (carry k z (q k) ∷ spreading q k (p k)) in
      rw (detour_is p q k refl refl h)
      (elim (dec_lt i g) [
        | yes b ↦ rw (stage_first c i (omega arith), ne_eqb (g - i) 0 (omega arith))
            (entry_before _ (gathering p k (q k)) mid tail g size i b ∙ gathering_entry p hp k (q k) i (hq k) (omega arith))
        | no n ↦ elim (ℕ_discrete i g) [
          | yes e ↦ rw (stage_first c i (omega arith), eq-eqb (g - i) 0 (omega arith)) (entry_here _ (gathering p k (q k)) mid tail g size i e)
          | no f ↦ rw (stage_later c i (omega arith))
              (entry_after _ (gathering p k (q k)) mid tail g size i (omega arith)
              ∙ later_entry (i - g - 1) (omega (arith, detour_sum p q k refl refl h, pow_pos k)))
        ]
      ])

module _ (p q : ℕ → ℕ) (hp : Pegs p) (hq : Pegs q) (k z : ℕ) (h : Three (p k) (q k) z) (same : (d : ℕ) → k < d → p d ≡ q d) where
  -- The first moves of the direct route lead to the pegs of their stage.
  pub direct_place : (i : ℕ) → i ≤ direct p q k
      → Walk (suc k) p (take i (direct_route p q k)) (stage_peg p q (straight p q k z) (stage_of (straight p q k z) i))
  unfolding stage_peg after_first
  direct_place i l =
      let c = straight p q k z in
      let g = gather p k z in
      let size = gathering_length p hp k z h.third in
      let mid = carry k (p k) (q k) in
      let tail = spreading q k z in
      rw (direct_is p q k refl refl h)
      (elim (dec_le i g) [
        | yes b ↦
            let index : g - (g - i) ≡ i = omega arith in
            rw (stage_first c i b, take_before (gathering p k z) mid tail g size i b)
            (walk_grow (omega arith) (rw index at (gathering_take p hp k z (g - i) h.third (omega arith))))
        | no n ↦
            rw (stage_later c i (omega arith), take_after (gathering p k z) mid tail g size i (omega arith))
            (direct_part p q hp hq k z h same
            (spreading_take q hq k z (i - g - 1) h.third (omega (arith, direct_sum p q k refl refl h))))
      ])

  -- The pegs along the shift: the tower's below disc k + 1, that disc on the third peg, the start's above.
  shift_pegs : (r : ℕ) → along (aside p q hp hq k z h same) k (p k) r ≡ stage_peg p q (roundabout p q k z) (Shifting r)
  unfolding stage_peg
  shift_pegs r =
      let v = aside p q hp hq k z h same in
      fun_ext λ d. elim (dec_lt d k) [
        | yes l ↦ rw (lt-ltb d k l) (along_cong k v (λ _. q k) (p k) r d (aside_tower p q hp hq k z h same) (aside_tower p q hp hq k z h same d l))
        | no n ↦ elim (ℕ_discrete d k) [
          | yes e ↦ rw (le-ltb d k (omega arith), eq-eqb d k e)
              (along_above v k (p k) r d (omega arith) ∙ ap v e ∙ aside_here p q hp hq k z h same)
          | no f ↦ rw (le-ltb d k (omega arith), ne_eqb d k f)
              (along_above v k (p k) r d (omega arith) ∙ sym (aside_above p q hp hq k z h same d (omega arith)))
        ]
      ]

  -- The first moves of the detour after its first crossing.
  later_place : (i : ℕ) → i ≤ tower_length k + 1 + gather q k (p k)
      → Walk (suc k) p (gathering p k (q k) ++ (carry k (p k) z ∷ take i (gathering (λ _. q k) k (p k) ++ (carry k z (q k) ∷ spreading q k (p k)))))
      (stage_peg p q (roundabout p q k z) (after_first (roundabout p q k z) i))
  unfolding after_first
  later_place i l =
      let t = tower_length k in
      let v = aside p q hp hq k z h same in
      let list = gathering (λ _. q k) k (p k) in
      let shift : gather v k (p k) ≡ t =
      gather_cong k {p = v} {q = λ _. q k} (p k) (aside_tower p q hp hq k z h same) ∙ shift_length p q hp hq k z h in
      let size : length list ≡ t = gathering_length (λ _. q k) (λ _. hq k) k (p k) (hp k) ∙ shift_length p q hp hq k z h in
      let mid = carry k z (q k) in
      let tail = spreading q k (p k) in
      elim (dec_le i t) [
        | yes b ↦
            let index : gather v k (p k) - (t - i) ≡ i = omega arith in
            rw (le-leb i t b, take_before list mid tail t size i b, ← shift_pegs (t - i), ← shift_list p q hp hq k z h same)
            (aside_part p q hp hq k z h same
            (walk_grow (omega arith) (rw index at (gathering_take v (aside_pegs p q hp hq k z h same) k (p k) (t - i) (hp k) (omega arith)))))
        | no n ↦
            rw (lt-leb i t (omega arith), take_after list mid tail t size i (omega arith))
            (unfold stage_peg in detour_part p q hp hq k z h same (spreading_take q hq k (p k) (i - t - 1) (hp k) (omega arith)))
      ]

  -- The first moves of the detour lead to the pegs of their stage.
  pub detour_place : (i : ℕ) → i ≤ detour p q k
      → Walk (suc k) p (take i (detour_route p q k)) (stage_peg p q (roundabout p q k z) (stage_of (roundabout p q k z) i))
  unfolding stage_peg
  detour_place i l =
      let c = roundabout p q k z in
      let g = gather p k (q k) in
      let size = gathering_length p hp k (q k) (hq k) in
      let mid = carry k (p k) z in
      let tail = gathering (λ _. q k) k (p k) ++ (carry k z (q k) ∷ spreading q k (p k)) in
      rw (detour_is p q k refl refl h)
      (elim (dec_le i g) [
        | yes b ↦
            let index : g - (g - i) ≡ i = omega arith in
            rw (stage_first c i b, take_before (gathering p k (q k)) mid tail g size i b)
            (walk_grow (omega arith) (rw index at (gathering_take p hp k (q k) (g - i) (hq k) (omega arith))))
        | no n ↦
            rw (stage_later c i (omega arith), take_after (gathering p k (q k)) mid tail g size i (omega arith))
            (later_place (i - g - 1) (omega (arith, detour_sum p q k refl refl h, pow_pos k)))
      ])
