-- The distance: the plan's shortest, disc by disc. One move changes it by at most one, and some move lowers it.
use Prim.Native.Nat.{ℕ, zero, suc, ◌+◌, ◌≤◌, ◌<◌, ◌^◌, min}
use mathlib.Core.Path.{◌≡◌, ◌∙◌, sym, refl, subst}
use mathlib.Core.Bool.{cond}
use mathlib.Core.List.{List, ◌++◌}
use mathlib.Core.Logic.{◌≢◌, ⊎_elim}
use native.Mathlib.Decide.{ℕ_discrete}
use native.Mathlib.Omega.{arith}
use lib.Dec.{eqb}
use lib.ListN.{length, get_or-append}
use borrow.Author.Tests.{eq-eqb, ne_eqb}
use Rattle.board.specs.Peg.{third}
use Rattle.board.specs.Position.{peg}
use Rattle.plan.specs.Gather.{gather}
use Rattle.plan.specs.Plan.{direct, detour}
use Rattle.plan.specs.Inner.Three.{Three}
use Rattle.plan.proofs.Three.{three_third, three_swap, three_turn, three_flip, compare_pegs, each_peg_lem}
use Rattle.plan.proofs.Gathering.{Pegs, Tower, gather_home, gather_away, gather_append, gather_tower, gather_shift, gather_bound}
use Rattle.plan.proofs.Step.{Step, Crossing, step_less, step_crossing, step_gather}

-- The fewest moves between the discs 1 to k of p and q, as the plan has it.
pub dist : (ℕ → ℕ) → (ℕ → ℕ) → ℕ → ℕ
dist p q zero = 0
dist p q (suc k) = cond (eqb (p k) (q k)) (dist p q k) (min (direct p q k) (detour p q k))

pub dist_none : (p q : ℕ → ℕ) → dist p q zero ≡ 0
unfolding dist
dist_none p q = refl

-- The largest disc is on its goal peg: it does not move.
pub dist_home : (p q : ℕ → ℕ) (k : ℕ) → p k ≡ q k → dist p q (suc k) ≡ dist p q k
unfolding dist
dist_home p q k e = simp (eq-eqb (p k) (q k) e)

-- The largest disc moves: the lesser of the two plans.
pub dist_plan : (p q : ℕ → ℕ) (k : ℕ) → p k ≢ q k → dist p q (suc k) ≡ min (direct p q k) (detour p q k)
unfolding dist
dist_plan p q k n = simp (ne_eqb (p k) (q k) n)

-- The same with the pegs named: x and y are the largest disc's, z the third.
pub dist_away : (p q : ℕ → ℕ) (k : ℕ) {x y z : ℕ} → p k ≡ x → q k ≡ y → Three x y z
    → dist p q (suc k) ≡ min (gather p k z + 1 + gather q k z) (gather p k y + 2 ^ k + 1 + gather q k x)
unfolding direct detour
dist_away p q k {x} {y} {z} ex ey h =
    dist_plan p q k (λ e. h.first_second (sym ex ∙ e ∙ ey)) ∙ rw (ex, ey, three_third h)

-- What comes after two positions makes no difference to the lengths of the plan of their disc k + 1 ..
pub direct_append : (p q zs ws : List ℕ) (k : ℕ) → k < length p → k < length q → direct (peg (p ++ zs)) (peg (q ++ ws)) k ≡ direct (peg p) (peg q) k
unfolding direct
direct_append p q zs ws k hp hq =
    let lp : k ≤ length p = omega arith in
    let lq : k ≤ length q = omega arith in
    rw (get_or-append p zs 0 k hp, get_or-append q ws 0 k hq, gather_append p zs k, gather_append q ws k)

pub detour_append : (p q zs ws : List ℕ) (k : ℕ) → k < length p → k < length q → detour (peg (p ++ zs)) (peg (q ++ ws)) k ≡ detour (peg p) (peg q) k
unfolding detour
detour_append p q zs ws k hp hq =
    let lp : k ≤ length p = omega arith in
    let lq : k ≤ length q = omega arith in
    rw (get_or-append p zs 0 k hp, get_or-append q ws 0 k hq, gather_append p zs k, gather_append q ws k)

-- .. and so to the distance.
pub dist_append : (p q zs ws : List ℕ) (k : ℕ) → k ≤ length p → k ≤ length q → dist (peg (p ++ zs)) (peg (q ++ ws)) k ≡ dist (peg p) (peg q) k
unfolding dist
dist_append p q zs ws zero hp hq = refl
dist_append p q zs ws (suc k) hp hq =
    rw (
      get_or-append p zs 0 k hp,
      get_or-append q ws 0 k hq,
      direct_append p q zs ws k hp hq,
      detour_append p q zs ws k hp hq,
      dist_append p q zs ws k (omega arith) (omega arith),
    )

-- It is as far back.
pub dist_comm : (p q : ℕ → ℕ) → Pegs p → Pegs q → (k : ℕ) → dist p q k ≡ dist q p k
dist_comm p q hp hq zero = dist_none p q ∙ sym (dist_none q p)
dist_comm p q hp hq (suc k) =
    ⊎_elim
    (λ e. dist_home p q k e ∙ dist_comm p q hp hq k ∙ sym (dist_home q p k (sym e)))
    (λ h. omega (arith, dist_away p q k refl refl h, dist_away q p k refl refl (three_swap h)))
    (compare_pegs (p k) (q k) (hp k) (hq k))

-- From a tower it is what gathering there takes.
pub dist_tower : (p q : ℕ → ℕ) → Pegs q → (k c : ℕ) → c < 3 → Tower p k c → dist p q k ≡ gather q k c
dist_tower p q hq zero c hc t = dist_none p q ∙ unfold gather in refl
dist_tower p q hq (suc k) c hc t =
    let at : p k ≡ c = t k (omega arith) in
    let below : Tower p k c = λ d l. t d (omega arith) in
    ⊎_elim
    (λ e. dist_home p q k (at ∙ sym e) ∙ dist_tower p q hq k c hc below ∙ sym (gather_home q k e))
    (λ h. omega (
      arith,
      dist_away p q k at refl (three_swap h),
      gather_shift p k (three_flip (three_swap h)) below,
      gather_shift p k (three_swap h) below,
      gather_away q k refl h,
      gather_bound q hq k (third (q k) c) h.third,
    ))
    (compare_pegs (q k) c (hq k) hc)

-- A crossing changes the distance by at most one.
crossing_dist : (k : ℕ) {p q : ℕ → ℕ} (t : ℕ → ℕ) → Pegs t → Crossing k p q → dist q t (suc k) ≤ dist p t (suc k) + 1
crossing_dist k {p} {q} t ht s =
    let h = s.pegs in
    let from_p = gather_tower p k s.free s.before in
    let from_q = gather_tower q k s.free s.after in
    each_peg_lem (λ l. t k ≡ l → dist q t (suc k) ≤ dist p t (suc k) + 1) h
    (λ e. omega (
      arith,
      dist_home p t k (sym e),
      dist_tower p t ht k s.free h.third s.before,
      dist_away q t k refl e (three_swap h),
    ))
    (λ e. omega (
      arith,
      dist_home q t k (sym e),
      dist_tower q t ht k s.free h.third s.after,
      dist_away p t k refl e h,
      gather_bound t ht k s.free h.third,
    ))
    (λ e. omega (
      arith,
      dist_away p t k refl e (three_flip h),
      gather_shift p k (three_swap (three_turn h)) s.before,
      dist_away q t k refl e (three_turn h),
      gather_shift q k (three_turn (three_turn h)) s.after,
    ))
    (t k)
    (ht k)
    refl

-- One move changes the distance to t by at most one; step-back gives the other way.
pub step_dist : (k : ℕ) (p q t : ℕ → ℕ) → Pegs p → Pegs t → Step k p q → dist q t k ≤ dist p t k + 1
step_dist zero p q t hp ht s = absurd (omega arith)
step_dist (suc k) p q t hp ht s =
    elim (ℕ_discrete s.disc k) [
      | yes e ↦ crossing_dist k t ht (step_crossing s e)
      | no n ↦
          let below = step_less s n in
          let same : p k ≡ q k = s.others k (omega arith) in
          ⊎_elim
          (λ e. omega (arith, dist_home p t k e, dist_home q t k (sym same ∙ e), step_dist k p q t hp ht below))
          (λ h. omega (
            arith,
            dist_away p t k refl refl h,
            dist_away q t k (sym same) refl h,
            step_gather k hp below (third (p k) (t k)) h.third,
            step_gather k hp below (t k) (ht k),
          ))
          (compare_pegs (p k) (t k) (hp k) (ht k))
    ]

-- The distance of k discs is below 2 ^ k (002, Theorem 1).
pub dist_bound : (p q : ℕ → ℕ) → Pegs p → Pegs q → (k : ℕ) → dist p q k < 2 ^ k
dist_bound p q hp hq zero = omega (arith, dist_none p q)
dist_bound p q hp hq (suc k) =
    ⊎_elim
    (λ e. omega (arith, dist_home p q k e, dist_bound p q hp hq k))
    (λ h. omega (
      arith,
      dist_away p q k refl refl h,
      gather_bound p hp k (third (p k) (q k)) h.third,
      gather_bound q hq k (third (p k) (q k)) h.third,
    ))
    (compare_pegs (p k) (q k) (hp k) (hq k))

-- A position is at distance 0 from itself.
pub dist_self : (p : ℕ → ℕ) (k : ℕ) → dist p p k ≡ 0
dist_self p zero = dist_none p p
dist_self p (suc k) = dist_home p p k refl ∙ dist_self p k

-- At distance 0 every disc is on its goal peg.
pub dist_zero : (p q : ℕ → ℕ) → Pegs p → Pegs q → (k : ℕ) → dist p q k ≡ 0 → (d : ℕ) → d < k → p d ≡ q d
dist_zero p q hp hq zero e = λ d l. absurd (omega arith)
dist_zero p q hp hq (suc k) e =
    ⊎_elim
    (λ s d l. elim (ℕ_discrete d k) [
      | yes f ↦ subst (λ (i : ℕ). p i ≡ q i) (sym f) s
      | no n ↦ dist_zero p q hp hq k (sym (dist_home p q k s) ∙ e) d (omega arith)
    ])
    (λ h. absurd (omega (arith, dist_away p q k refl refl h)))
    (compare_pegs (p k) (q k) (hp k) (hq k))
