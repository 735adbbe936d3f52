-- Disc 1's target in a gathering: whether it moves first, where to, and where it goes after a move of another disc.
use Prim.Native.Nat.{ℕ, zero, suc, ◌+◌, ◌*◌, ◌<◌, ◌^◌, ◌%◌}
use mathlib.Core.Path.{◌≡◌, ◌∙◌, ap, sym, refl, subst}
use mathlib.Core.Bool.{Bool, true, false, cond}
use mathlib.Core.Logic.{◌≢◌}
use native.Mathlib.Decide.{ℕ_discrete}
use native.Mathlib.Omega.{arith}
use borrow.Author.Tests.{eq-eqb, ne_eqb}
use lib.Dec.{eqb}
use Rattle.board.specs.Peg.{third}
use Rattle.board.proofs.Pegs.{third_peg, third_same}
use Rattle.plan.specs.Gather.{gather}
use Rattle.plan.specs.Inner.Three.{Three}
use Rattle.plan.proofs.Three.{three, three_third, three_swap, three_turn, three_flip}
use Rattle.plan.proofs.Gathering.{Tower}
use Rattle.plan.proofs.Step.{Step, Crossing, put, put_same, put_other, step_less, step_largest, step_crossing}
use Rattle.route.specs.Inner.Aim.{aim}
use Rattle.route.proofs.Walks.Walk.{step_grow}
use Rattle.route.proofs.Shortest.Lowering.{crossing_target}

-- The target is a peg.
pub aim_peg : (u : ℕ → ℕ) (k j : ℕ) → j < 3 → aim u k j < 3
unfolding aim
aim_peg u zero j hj = hj
aim_peg u (suc k) j hj = aim_peg u k (third j (u (suc k))) (third_peg j (u (suc k)) hj)

-- 1 where the peg is not the target, else 0.
abbrev pub off : ℕ → ℕ → ℕ
off i a = cond (eqb i a) 0 1

-- A disc above 1 adds an even number of moves.
even_part : (b : Bool) (k n : ℕ) → (cond b 0 (2 ^ suc k) + n) % 2 ≡ n % 2
even_part true k n = omega arith
even_part false k n = let twice : 2 ^ suc k ≡ 2 * 2 ^ k = omega arith in omega arith

-- So the number of moves left is odd just where disc 1 is not on its target.
pub aim_parity : (u : ℕ → ℕ) (k j : ℕ) → gather u (suc k) j % 2 ≡ off (u 0) (aim u k j)
unfolding aim gather
aim_parity u zero j = elim (ℕ_discrete (u 0) j) [ yes e ↦ rw (eq-eqb (u 0) j e) | no n ↦ rw (ne_eqb (u 0) j n) ]
aim_parity u (suc k) j = even_part (eqb (u (suc k)) j) k _ ∙ aim_parity u k (third j (u (suc k)))

-- Where only disc 1 differs, the moves left differ as its distance from its target does.
aim_apart : (u v : ℕ → ℕ) → ((d : ℕ) → d ≢ 0 → u d ≡ v d) → (k j : ℕ)
    → gather u (suc k) j + off (v 0) (aim u k j) ≡ gather v (suc k) j + off (u 0) (aim u k j)
unfolding aim gather
aim_apart u v same zero j = omega arith
aim_apart u v same (suc k) j =
    let here : u (suc k) ≡ v (suc k) = same (suc k) (omega arith) in
    let rest = aim_apart u v same k (third j (u (suc k))) in rw here (omega (arith, rw here at rest))

-- Disc 1 may always go to another peg.
abbrev pub small_step : (u : ℕ → ℕ) (k a : ℕ) → u 0 < 3 → a < 3 → u 0 ≢ a → Step (suc k) u (put u 0 a)
small_step u k a hu ha n =
    step_grow (omega arith) (step_largest u 0 a (third (u 0) a) (three (u 0) a hu ha n) (λ d l. absurd (omega arith)))

-- Disc 1 is not on its target: that it goes there lowers the gathering.
pub aim_less : (u : ℕ → ℕ) (k j : ℕ) → u 0 ≢ aim u k j → gather (put u 0 (aim u k j)) (suc k) j + 1 ≡ gather u (suc k) j
aim_less u k j n =
    let a = aim u k j in
    let e = aim_apart u (put u 0 a) (λ d o. sym (put_other u 0 a d o)) k j in
    omega (arith, rw (put_same u 0 a, eq-eqb a a refl, ne_eqb (u 0) a n) at e)

-- Disc 1 is on its target: another disc moves first.
pub aim_other : (u v : ℕ → ℕ) (k j : ℕ) → u 0 ≡ aim u k j → (s : Step (suc k) u v) → gather v (suc k) j + 1 ≡ gather u (suc k) j → 0 < s.disc
aim_other u v k j e s less =
    elim (ℕ_discrete s.disc 0) [
      | yes f ↦ absurd (omega (arith, rw (eq-eqb (u 0) (aim u k j) e) at (aim_apart u v (λ d o. s.others d (omega arith)) k j)))
      | no n ↦ omega arith
    ]

-- Disc 1's target when a tower goes from peg z to peg j.
pub aim_tower : (u : ℕ → ℕ) (k : ℕ) {z j x : ℕ} → Tower u (suc k) z → Three z j x → aim u k j ≡ cond (eqb (suc k % 2) 1) j x
unfolding aim
aim_tower u zero t h = refl
aim_tower u (suc k) {z} {j} {x} t h =
    let next : third j (u (suc k)) ≡ x = ap (third j) (t (suc k) (omega arith)) ∙ three_third (three_swap h) in
    let rest = aim_tower u k (λ d l. t d (omega arith)) (three_flip h) in
    elim (ℕ_discrete (suc k % 2) 1) [
      | yes e ↦ rw (next, rest, eq-eqb (suc k % 2) 1 e, ne_eqb (suc (suc k) % 2) 1 (omega arith))
      | no n ↦ rw (next, rest, ne_eqb (suc k % 2) 1 n, eq-eqb (suc (suc k) % 2) 1 (omega arith))
    ]

-- After the largest disc has gone to its target the smaller ones follow it as a tower.
aim_crossed : (k : ℕ) {u v : ℕ → ℕ} {j : ℕ} (c : Crossing (suc k) u v) → v (suc k) ≡ j
    → aim v (suc k) j ≡ cond (eqb (suc (suc k) % 2) 0) (v (suc k)) (u (suc k))
unfolding aim
aim_crossed k {u} {v} {j} c at =
    let h : Three c.free j (u (suc k)) = subst (λ (i : ℕ). Three c.free i (u (suc k))) at (three_turn (three_turn (three_swap c.pegs))) in
    rw (at, third_same, aim_tower v k c.after h)
    elim (ℕ_discrete (suc k % 2) 1) [
      | yes e ↦ rw (eq-eqb (suc k % 2) 1 e, eq-eqb (suc (suc k) % 2) 0 (omega arith))
      | no n ↦ rw (ne_eqb (suc k % 2) 1 n, ne_eqb (suc (suc k) % 2) 0 (omega arith))
    ]

-- A move that lowers a gathering and leaves the largest disc lowers that of the smaller ones.
below_less : (u v : ℕ → ℕ) (k j : ℕ) → u k ≡ v k → gather v (suc k) j + 1 ≡ gather u (suc k) j
    → gather v k (third j (v k)) + 1 ≡ gather u k (third j (v k))
unfolding gather
below_less u v k j same less = omega (arith, rw same at less)

-- After a move of disc d + 1 disc 1 goes after it where its number is even, else to where it came from.
pub aim_after_lem : (k : ℕ) {u v : ℕ → ℕ} (j : ℕ) → j < 3 → (s : Step (suc k) u v) → gather v (suc k) j + 1 ≡ gather u (suc k) j
    → 0 < s.disc → aim v k j ≡ cond (eqb (suc s.disc % 2) 0) (v s.disc) (u s.disc)
unfolding aim
aim_after_lem zero j hj s less l = absurd (omega arith)
aim_after_lem (suc k) {u} {v} j hj s less l =
    elim (ℕ_discrete s.disc (suc k)) [
      | yes e ↦
          let c = step_crossing s e in
          rw e (aim_crossed k c (crossing_target (suc k) c j hj less))
      | no n ↦
          let lower = below_less u v (suc k) j (s.others (suc k) (omega arith)) less in
          aim_after_lem k (third j (v (suc k))) (third_peg j (v (suc k)) hj) (step_less s n) lower l
    ]
