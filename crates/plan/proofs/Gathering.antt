-- Laws of the gather length, for any number k of discs, counted from the smallest.
use Prim.Native.Nat.{ℕ, zero, suc, ◌+◌, ◌≤◌, ◌<◌, ◌^◌}
use mathlib.Core.List.{List, ◌++◌}
use mathlib.Core.Path.{◌≡◌, ◌∙◌, ap, sym, refl}
use mathlib.Core.Logic.{⊎_elim}
use native.Mathlib.Decide.{ℕ_discrete}
use native.Mathlib.Nat.{zero-add}
use native.Mathlib.Omega.{arith}
use lib.ListN.{length, get_or-append}
use lib.Pow.{pow_pos}
use borrow.Author.Tests.{eq-eqb, ne_eqb}
use Rattle.board.specs.Peg.{third}
use Rattle.board.specs.Position.{peg}
use Rattle.board.proofs.Pegs.{third_same}
use Rattle.plan.specs.Gather.{gather}
use Rattle.plan.specs.Inner.Three.{Three}
use Rattle.plan.proofs.Three.{three_third, three_swap, three_flip, compare_pegs}

-- Every disc is on a peg.
abbrev pub Pegs : (ℕ → ℕ) → Type 0
Pegs p = (d : ℕ) → p d < 3

-- Discs 1 to k are stacked on peg c.
abbrev pub Tower : (ℕ → ℕ) → ℕ → ℕ → Type 0
Tower p k c = (d : ℕ) → d < k → p d ≡ c

-- The largest disc is on its target: the smaller ones keep that target.
pub gather_home : (p : ℕ → ℕ) (k : ℕ) {j : ℕ} → p k ≡ j → gather p (suc k) j ≡ gather p k j
unfolding gather
gather_home p k {j} e = rw (e, eq-eqb j j refl, third_same) (zero-add _)

-- The largest disc is not on its target: it is 2 ^ k moves away, and the smaller ones go to the third peg first.
pub gather_away : (p : ℕ → ℕ) (k : ℕ) {i j z : ℕ} → p k ≡ i → Three i j z → gather p (suc k) j ≡ 2 ^ k + gather p k z
unfolding gather
gather_away p k {i} {j} {z} e h = rw (e, ne_eqb i j h.first_second, three_third (three_swap h))

-- Only the pegs of the discs that are gathered count.
pub gather_cong : (k : ℕ) {p q : ℕ → ℕ} (j : ℕ) → ((d : ℕ) → d < k → p d ≡ q d) → gather p k j ≡ gather q k j
unfolding gather
gather_cong zero j h = refl
gather_cong (suc k) {p} {q} j h =
    rw (h k (omega arith), gather_cong k {p = p} {q = q} (third j (q k)) (λ d l. h d (omega arith)))

-- So the length is the same with anything after the position.
pub gather_append : (p zs : List ℕ) (k j : ℕ) → k ≤ length p → gather (peg (p ++ zs)) k j ≡ gather (peg p) k j
gather_append p zs k j h = gather_cong k {p = peg (p ++ zs)} {q = peg p} j (λ d l. get_or-append p zs 0 d (omega arith))

-- A tower on its target is gathered.
pub gather_tower : (p : ℕ → ℕ) (k c : ℕ) → Tower p k c → gather p k c ≡ 0
gather_tower p zero c h = unfold gather in refl
gather_tower p (suc k) c h = gather_home p k (h k (omega arith)) ∙ gather_tower p k c (λ d l. h d (omega arith))

-- A tower elsewhere takes 2 ^ k − 1 moves.
pub gather_shift : (p : ℕ → ℕ) (k : ℕ) {c j z : ℕ} → Three c j z → Tower p k c → gather p k j + 1 ≡ 2 ^ k
gather_shift p zero h t = unfold gather in refl
gather_shift p (suc k) {c} {j} {z} h t =
    let e : gather p (suc k) j ≡ 2 ^ k + gather p k z = gather_away p k (t k (omega arith)) h in
    let s : gather p k z + 1 ≡ 2 ^ k = gather_shift p k (three_flip h) (λ d l. t d (omega arith)) in
    omega arith

-- Fewer than 2 ^ k moves are needed.
pub gather_bound : (p : ℕ → ℕ) → Pegs p → (k j : ℕ) → j < 3 → gather p k j < 2 ^ k
gather_bound p hp zero j hj = unfold gather in omega arith
gather_bound p hp (suc k) j hj =
    ⊎_elim
    (λ e. let s : gather p (suc k) j ≡ gather p k j = gather_home p k e in
    let b : gather p k j < 2 ^ k = gather_bound p hp k j hj in
    omega arith)
    (λ h. let s = gather_away p k refl h in
    let b = gather_bound p hp k (third (p k) j) h.third in
    omega arith)
    (compare_pegs (p k) j (hp k) hj)

-- Where nothing is left to gather, the discs are a tower on the target.
pub gathered_tower : (p : ℕ → ℕ) → Pegs p → (k j : ℕ) → j < 3 → gather p k j ≡ 0 → Tower p k j
gathered_tower p hp zero j hj e = λ d l. absurd (omega arith)
gathered_tower p hp (suc k) j hj e =
    ⊎_elim
    (λ s d l. elim (ℕ_discrete d k) [
      | yes f ↦ ap p f ∙ s
      | no n ↦ gathered_tower p hp k j hj (sym (gather_home p k s) ∙ e) d (omega arith)
    ])
    (λ h. absurd (omega (arith, gather_away p k refl h, pow_pos k)))
    (compare_pegs (p k) j (hp k) hj)
