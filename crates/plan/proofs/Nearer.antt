-- Where the goal is not reached, some move brings it nearer by one: the first move of the shorter plan.
use Prim.Native.Nat.{ℕ, zero, suc, ◌+◌, ◌≤◌, ◌<◌, ◌^◌}
use mathlib.Core.Path.{◌≡◌, ◌∙◌, sym, refl}
use mathlib.Core.Logic.{inl, inr}
use native.Mathlib.Decide.{dec_lt, dec_le}
use native.Mathlib.Omega.{arith}
use Rattle.board.specs.Peg.{third}
use Rattle.plan.specs.Gather.{gather}
use Rattle.plan.specs.Inner.Three.{Three}
use Rattle.plan.proofs.Three.{three_swap, three_turn, three_flip, compare_pegs}
use Rattle.plan.proofs.Gathering.{Pegs, gather_shift, gathered_tower}
use Rattle.plan.proofs.Step.{Step, step_back, step_more, step_largest, gather_lower, put, put_same, put_other, put_pegs}
use Rattle.plan.proofs.Distance.{dist, dist_none, dist_home, dist_away, dist_tower, step_dist}

-- A move that brings t nearer.
pub record Nearer (p t : ℕ → ℕ) (k : ℕ) : Type 0 where
  pub next : ℕ → ℕ
  pub pegs : Pegs next
  pub step : Step k p next
  pub less : dist next t k + 1 ≡ dist p t k

-- A move after which t is nearer is one by which it is nearer by one.
nearer : {p t : ℕ → ℕ} {k : ℕ} (q : ℕ → ℕ) → Pegs t → Pegs q → Step k p q → dist q t k < dist p t k → Nearer p t k
nearer {p} {t} {k} q ht hq s l =
    record { next = q; pegs = hq; step = s; less = omega (arith, step_dist k q p t hq ht (step_back s)) }

-- The first move of the one-move plan, where that is the shorter or they tie.
nearer_direct : (p t : ℕ → ℕ) → Pegs p → Pegs t → (k z : ℕ) → Three (p k) (t k) z
    → gather p k z + 1 + gather t k z ≤ gather p k (t k) + 2 ^ k + 1 + gather t k (p k) → Nearer p t (suc k)
nearer_direct p t hp ht k z h le =
    elim (dec_lt 0 (gather p k z)) [
      | yes l ↦
          let w = gather_lower p hp k z h.third l in
          nearer w.next ht w.pegs (step_more w.step)
          (omega (
            arith,
            dist_away p t k refl refl h,
            dist_away w.next t k (sym (w.step.others k (omega arith))) refl h,
          ))
      | no n ↦
          let w = gathered_tower p hp k z h.third (omega arith) in
          let q = put p k (t k) in
          nearer q ht (put_pegs p k (t k) hp (ht k)) (step_largest p k (t k) z h w)
          (omega (
            arith,
            dist_away p t k refl refl h,
            dist_home q t k (put_same p k (t k)),
            dist_tower q t ht k z h.third (λ d l. put_other p k (t k) d (omega arith) ∙ w d l),
          ))
    ]

-- The first move of the two-move plan, where that is the shorter.
nearer_detour : (p t : ℕ → ℕ) → Pegs p → Pegs t → (k z : ℕ) → Three (p k) (t k) z
    → gather p k (t k) + 2 ^ k + 1 + gather t k (p k) < gather p k z + 1 + gather t k z → Nearer p t (suc k)
nearer_detour p t hp ht k z h lt =
    elim (dec_lt 0 (gather p k (t k))) [
      | yes l ↦
          let w = gather_lower p hp k (t k) (ht k) l in
          nearer w.next ht w.pegs (step_more w.step)
          (omega (
            arith,
            dist_away p t k refl refl h,
            dist_away w.next t k (sym (w.step.others k (omega arith))) refl h,
          ))
      | no n ↦
          let w = gathered_tower p hp k (t k) (ht k) (omega arith) in
          let q = put p k z in
          nearer q ht (put_pegs p k z hp h.third) (step_largest p k z (t k) (three_flip h) w)
          (omega (
            arith,
            dist_away p t k refl refl h,
            dist_away q t k (put_same p k z) refl (three_swap (three_turn h)),
            gather_shift q k (three_swap h) (λ d l. put_other p k z d (omega arith) ∙ w d l),
          ))
    ]

-- Where t is not reached, some move brings it nearer.
pub dist_lower : (p t : ℕ → ℕ) → Pegs p → Pegs t → (k : ℕ) → 0 < dist p t k → Nearer p t k
dist_lower p t hp ht zero l = absurd (omega (arith, dist_none p t))
dist_lower p t hp ht (suc k) l =
    elim (compare_pegs (p k) (t k) (hp k) (ht k)) [
      | inl e ↦
          let w = dist_lower p t hp ht k (omega (arith, dist_home p t k e)) in
          nearer w.next ht w.pegs (step_more w.step)
          (omega (arith, w.less, dist_home p t k e, dist_home w.next t k (sym (w.step.others k (omega arith)) ∙ e)))
      | inr h ↦ elim (dec_le (gather p k (third (p k) (t k)) + 1 + gather t k (third (p k) (t k))) (gather p k (t k) + 2 ^ k + 1 + gather t k (p k))) [
        | yes le ↦ nearer_direct p t hp ht k (third (p k) (t k)) h le
        | no n ↦ nearer_detour p t hp ht k (third (p k) (t k)) h (omega arith)
      ]
    ]
