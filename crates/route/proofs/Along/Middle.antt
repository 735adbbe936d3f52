-- A gathering met in the middle: what is left of it is the gathering of where the discs then are.
use Prim.Native.Nat.{ℕ, zero, suc, ◌+◌, ◌-◌, ◌≤◌, ◌<◌, ◌^◌}
use mathlib.Core.Path.{◌≡◌, ◌∙◌, ap, sym, refl, subst, fun_ext}
use mathlib.Core.List.{List, ◌∷◌, ◌++◌}
use mathlib.Core.Logic.{◌≢◌}
use native.Mathlib.Decide.{ℕ_discrete, dec_le, dec_lt}
use native.Mathlib.Omega.{arith}
use lib.ListN.{length, take, drop}
use lib.Seq.{drop-append-le, drop-append-add, drop-nil}
use Rattle.board.specs.Peg.{third}
use Rattle.plan.specs.Gather.{gather}
use Rattle.plan.specs.Inner.Three.{Three}
use Rattle.plan.proofs.Three.{three, three_swap, three_turn, three_flip}
use Rattle.plan.proofs.Gathering.{Pegs, gather_home, gather_away, gather_shift}
use Rattle.route.specs.Inner.Along.{along}
use Rattle.route.specs.Route.{carry, gathering}
use Rattle.route.specs.declared.answer.DiscMove.{DiscMove}
use Rattle.route.proofs.Along.Along.{along_home, along_before, along_after_below, along_after_here, along_above, along_pegs}
use Rattle.route.proofs.Gatherings.Gathering.{gathering_none, gathering_home, gathering_away, gathering_cong, gathering_length}
use Rattle.route.proofs.Walks.Walk.{Walk, stay, go, gathers, walk_above}

-- The largest disc is on its target.
middle_home : (p : ℕ → ℕ) (k j r : ℕ) → p k ≡ j
    → drop (gather p k j - r) (gathering p k j) ≡ gathering (along p k j r) k j
    → drop (gather p (suc k) j - r) (gathering p (suc k) j) ≡ gathering (along p (suc k) j r) (suc k) j
middle_home p k j r e below =
    rw (gather_home p k e, gathering_home p k e)
    (below
    ∙ sym (gathering_home (along p k j r) k (along_above p k j r k (omega arith) ∙ e))
    ∙ gathering_cong (suc k) (along p k j r) (along p (suc k) j r) j (λ d l. sym (along_home p k j r d e)))

-- The largest disc has yet to move.
middle_before : (p : ℕ → ℕ) → Pegs p → (k j r : ℕ) → j < 3 → p k ≢ j → 2 ^ k ≤ r → r ≤ gather p (suc k) j
    → drop (gather p k (third j (p k)) - (r - 2 ^ k)) (gathering p k (third j (p k))) ≡ gathering (along p k (third j (p k)) (r - 2 ^ k)) k (third j (p k))
    → drop (gather p (suc k) j - r) (gathering p (suc k) j) ≡ gathering (along p (suc k) j r) (suc k) j
middle_before p hp k j r hj n l b below =
    let z = third j (p k) in
    let h : Three (p k) j z = three_swap (three j (p k) hj (hp k) (λ e. n (sym e))) in
    let rest = r - 2 ^ k in
    let tail = carry k (p k) j ∷ gathering (λ _. z) k j in
    let index : gather p (suc k) j - r ≡ gather p k z - rest = omega (arith, gather_away p k refl h) in
    rw (index, gathering_away p k refl h)
    (drop-append-le (gather p k z - rest) (gathering p k z) tail (omega (arith, gathering_length p hp k z h.third))
    ∙ ap (λ (a : List DiscMove). a ++ tail) below
    ∙ sym (gathering_away (along p k z rest) k (along_above p k z rest k (omega arith)) h)
    ∙ gathering_cong (suc k) (along p k z rest) (along p (suc k) j r) j (λ d g. sym (along_before p k j r d n l)))

-- The largest disc has moved.
middle_after : (p : ℕ → ℕ) → Pegs p → (k j r : ℕ) → j < 3 → p k ≢ j → r < 2 ^ k
    → drop (gather (λ _. third j (p k)) k j - r) (gathering (λ _. third j (p k)) k j) ≡ gathering (along (λ _. third j (p k)) k j r) k j
    → drop (gather p (suc k) j - r) (gathering p (suc k) j) ≡ gathering (along p (suc k) j r) (suc k) j
middle_after p hp k j r hj n l below =
    let z = third j (p k) in
    let h : Three (p k) j z = three_swap (three j (p k) hj (hp k) (λ e. n (sym e))) in
    let index : gather p (suc k) j - r ≡ length (gathering p k z) + suc (gather (λ _. z) k j - r) =
    omega (
      arith,
      gather_away p k refl h,
      gathering_length p hp k z h.third,
      gather_shift (λ _. z) k (three_turn (three_flip h)) (λ d g. refl),
    ) in
    rw (index, gathering_away p k refl h)
    (drop-append-add (gathering p k z) (carry k (p k) j ∷ gathering (λ _. z) k j) (suc (gather (λ _. z) k j - r))
    ∙ below
    ∙ gathering_cong k (along (λ _. z) k j r) (along p (suc k) j r) j (λ d g. sym (along_after_below p k j r d n l g))
    ∙ sym (gathering_home (along p (suc k) j r) k (along_after_here p k j r n l)))

-- With r moves left, the rest of a gathering is the gathering of where the discs then are.
pub middle : (p : ℕ → ℕ) → Pegs p → (k j r : ℕ) → j < 3 → r ≤ gather p k j
    → drop (gather p k j - r) (gathering p k j) ≡ gathering (along p k j r) k j
middle p hp zero j r hj b = rw (gathering_none p j, gathering_none (along p 0 j r) j) (drop-nil (gather p 0 j - r))
middle p hp (suc k) j r hj b =
    elim (ℕ_discrete (p k) j) [
      | yes e ↦ middle_home p k j r e (middle p hp k j r hj (omega (arith, gather_home p k e)))
      | no n ↦
          let z = third j (p k) in
          let h : Three (p k) j z = three_swap (three j (p k) hj (hp k) (λ e. n (sym e))) in
          elim (dec_le (2 ^ k) r) [
            | yes l ↦ middle_before p hp k j r hj n l b (middle p hp k z (r - 2 ^ k) h.third (omega (arith, gather_away p k refl h)))
            | no g ↦ middle_after p hp k j r hj n (omega arith)
                (middle (λ _. z) (λ _. h.third) k j r hj (omega (arith, gather_shift (λ _. z) k (three_turn (three_flip h)) (λ d f. refl))))
          ]
    ]

-- Two walks by the same moves that end alike began alike.
walk_began : {n : ℕ} {u u' v v' : ℕ → ℕ} {ms : List DiscMove} → Walk n u ms v → Walk n u' ms v'
    → ((d : ℕ) → v d ≡ v' d) → (d : ℕ) → u d ≡ u' d
walk_began stay stay same d = same d
walk_began (go {u = u} {v = v} {m = m} s e w) (go {u = u'} {v = v'} s' e' w') same d =
    let later = walk_began w w' same in
    let disc : s.disc ≡ s'.disc = omega (arith, ap (λ (n : DiscMove). n.disc) (sym e ∙ e')) in
    let from : u s.disc ≡ u' s'.disc = ap (λ (n : DiscMove). n.from) (sym e ∙ e') in
    elim (ℕ_discrete d s.disc) [
      | yes f ↦ ap u f ∙ from ∙ ap u' (sym disc ∙ sym f)
      | no n ↦ s.others d n ∙ later d ∙ sym (s'.others d (λ f. n (f ∙ sym disc)))
    ]

-- A walk cut in two.
pub record Cut (n : ℕ) (u v : ℕ → ℕ) (ms : List DiscMove) (i : ℕ) : Type 0 where
  pub at : ℕ → ℕ
  pub before : Walk n u (take i ms) at
  pub after : Walk n at (drop i ms) v

pub walk_cut : {n : ℕ} {u v : ℕ → ℕ} {ms : List DiscMove} (i : ℕ) → Walk n u ms v → Cut n u v ms i
walk_cut zero w = record { at = _; before = stay; after = w }
walk_cut (suc i) stay = record { at = _; before = stay; after = stay }
walk_cut (suc i) (go s e w) = let c = walk_cut i w in record { at = c.at; before = go s e c.before; after = c.after }

-- The first moves of a gathering lead to where the discs are with the others left.
pub gathering_take : (u : ℕ → ℕ) → Pegs u → (k j r : ℕ) → j < 3 → r ≤ gather u k j
    → Walk k u (take (gather u k j - r) (gathering u k j)) (along u k j r)
gathering_take u hu k j r hj b =
    let g = gathers u hu k j hj in
    let c = walk_cut (gather u k j - r) g.walk in
    let a = gathers (along u k j r) (along_pegs u hu k j r hj) k j hj in
    let ends : (d : ℕ) → g.end d ≡ a.end d =
    λ d. elim (dec_lt d k) [
      | yes l ↦ g.tower d l ∙ sym (a.tower d l)
      | no n ↦ sym (walk_above g.walk d (omega arith)) ∙ sym (along_above u k j r d (omega arith)) ∙ walk_above a.walk d (omega arith)
    ] in
    let began = walk_began (rw (middle u hu k j r hj b) at c.after) a.walk ends in
    subst (λ (v : ℕ → ℕ). Walk k u (take (gather u k j - r) (gathering u k j)) v) (fun_ext began) c.before
