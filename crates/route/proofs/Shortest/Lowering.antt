-- One move alone lowers a gather length, so a gathering has no rival of its length.
use Prim.Native.Nat.{ℕ, zero, suc, ◌+◌, ◌≤◌, ◌<◌}
use mathlib.Core.Path.{◌≡◌, ◌∙◌, ap, sym, refl, subst}
use mathlib.Core.List.{List, ◌∷◌}
use mathlib.Core.Logic.{⊎_elim}
use native.Mathlib.Decide.{ℕ_discrete}
use native.Mathlib.Omega.{arith}
use lib.ListN.{length}
use Rattle.board.specs.Peg.{third}
use Rattle.plan.specs.Gather.{gather}
use Rattle.plan.specs.Inner.Three.{Three}
use Rattle.plan.proofs.Three.{three_swap, three_turn, three_flip, compare_pegs, each_peg_lem}
use Rattle.plan.proofs.Gathering.{Pegs, Tower, gather_home, gather_away, gather_shift, gather_tower}
use Rattle.plan.proofs.Step.{Step, Crossing, step_back, step_less, step_crossing, step_gather}
use Rattle.route.specs.Route.{carry, gathering, backwards, spreading}
use Rattle.route.specs.declared.answer.DiscMove.{DiscMove}
use Rattle.route.proofs.Gatherings.Gathering.{step_carry, gathering_first, gathering_done, gathering_cong}
use Rattle.route.proofs.Walks.Walk.{Walk, stay, go, step_pegs, walk_back}
use Rattle.route.proofs.Gatherings.Backwards.{backwards_length, backwards_twice}

-- A crossing that lowers the gather length goes to the target.
pub crossing_target : (k : ℕ) {u v : ℕ → ℕ} → Crossing k u v → (j : ℕ) → j < 3
    → gather v (suc k) j + 1 ≡ gather u (suc k) j → v k ≡ j
crossing_target k {u} {v} s =
    let h = s.pegs in
    each_peg_lem (λ j. gather v (suc k) j + 1 ≡ gather u (suc k) j → v k ≡ j) h
    (λ e. absurd (omega (
      arith,
      gather_home u k refl,
      gather_shift u k (three_turn (three_turn h)) s.before,
      gather_away v k refl (three_swap h),
      gather_tower v k s.free s.after,
    )))
    (λ e. refl)
    (λ e. absurd (omega (
      arith,
      gather_away u k refl (three_flip h),
      gather_shift u k (three_swap (three_turn h)) s.before,
      gather_away v k refl (three_turn h),
      gather_shift v k (three_turn (three_turn h)) s.after,
    )))

-- A crossing lowers a gather length only when no other move does.
crossing_only : (k : ℕ) {u v : ℕ → ℕ} (w : ℕ → ℕ) → Crossing k u v → (j : ℕ) → j < 3 → u k ≡ w k
    → gather v (suc k) j + 1 ≡ gather u (suc k) j → gather w (suc k) j + 1 ≡ gather u (suc k) j → ⊥
crossing_only k {u} {v} w s j hj same e f =
    let at = crossing_target k s j hj e in
    let h : Three (u k) j s.free = subst (λ (i : ℕ). Three (u k) i s.free) at s.pegs in
    omega (arith, gather_away u k refl h, gather_tower u k s.free s.before, gather_away w k (sym same) h)

-- Two moves that lower a gather length leave the same position.
pub lower_unique : (k : ℕ) {u v w : ℕ → ℕ} → Pegs u → (j : ℕ) → j < 3 → Step k u v → Step k u w
    → gather v k j + 1 ≡ gather u k j → gather w k j + 1 ≡ gather u k j → (d : ℕ) → v d ≡ w d
lower_unique zero hu j hj s t e f = absurd (omega arith)
lower_unique (suc k) {u} {v} {w} hu j hj s t e f =
    elim (ℕ_discrete s.disc k) [
      | yes es ↦ elim (ℕ_discrete t.disc k) [
        | yes et ↦ λ d. elim (ℕ_discrete d k) [
          | yes ed ↦ rw ed (crossing_target k (step_crossing s es) j hj e ∙ sym (crossing_target k (step_crossing t et) j hj f))
          | no nd ↦ sym (s.others d (omega arith)) ∙ t.others d (omega arith)
        ]
        | no nt ↦ absurd (crossing_only k w (step_crossing s es) j hj (t.others k (omega arith)) e f)
      ]
      | no ns ↦ elim (ℕ_discrete t.disc k) [
        | yes et ↦ absurd (crossing_only k v (step_crossing t et) j hj (s.others k (omega arith)) f e)
        | no nt ↦
            let us = s.others k (omega arith) in
            let ut = t.others k (omega arith) in
            ⊎_elim
            (λ c. lower_unique k hu j hj (step_less s ns) (step_less t nt)
            (omega (arith, gather_home u k c, gather_home v k (sym us ∙ c)))
            (omega (arith, gather_home u k c, gather_home w k (sym ut ∙ c))))
            (λ h. lower_unique k hu (third (u k) j) h.third (step_less s ns) (step_less t nt)
            (omega (arith, gather_away u k refl h, gather_away v k (sym us) h))
            (omega (arith, gather_away u k refl h, gather_away w k (sym ut) h)))
            (compare_pegs (u k) j (hu k) hj)
      ]
    ]

-- Two steps to the same position are the same move.
pub carry_unique : {k n : ℕ} {u v w : ℕ → ℕ} (s : Step k u v) (t : Step n u w) → ((d : ℕ) → v d ≡ w d) → step_carry s ≡ step_carry t
carry_unique {u = u} {v = v} {w = w} s t same =
    elim (ℕ_discrete s.disc t.disc) [
      | yes e ↦ λ i. carry (e i) (u (e i)) ((ap v e ∙ same t.disc) i)
      | no n ↦ absurd (s.pegs.first_second (t.others s.disc n ∙ sym (same s.disc)))
    ]

-- A move that lowers a gathering is its first, and the rest is the gathering of what it leaves.
pub lower_first : (k : ℕ) {u v : ℕ → ℕ} → Pegs u → (j : ℕ) → j < 3 → (s : Step k u v)
    → gather v k j + 1 ≡ gather u k j → gathering u k j ≡ step_carry s ∷ gathering v k j
lower_first k {u} {v} hu j hj s e =
    let f = gathering_first u hu k j hj (omega arith) in
    let same = lower_unique k hu j hj s f.step e f.less in
    f.rest ∙ (λ i. sym (carry_unique s f.step same) i ∷ gathering_cong k f.next v j (λ d l. sym (same d)) i)

-- No walk to a tower is shorter than the gathering.
pub walk_gather : {k : ℕ} {u v : ℕ → ℕ} {ms : List DiscMove} → Pegs u → Walk k u ms v → (j : ℕ) → j < 3 → Tower v k j → gather u k j ≤ length ms
walk_gather {k} hu (stay {u = u}) j hj t = omega (arith, gather_tower u k j t)
walk_gather {k} hu (go s e w) j hj t =
    let hv = step_pegs hu s in
    omega (arith, step_gather k hv (step_back s) j hj, walk_gather hv w j hj t)

-- A walk to a tower that is as short as the gathering is the gathering (002, Theorem 3).
pub gathering_unique : {k : ℕ} {u v : ℕ → ℕ} {ms : List DiscMove} → Pegs u → Walk k u ms v → (j : ℕ) → j < 3 → Tower v k j
    → length ms ≡ gather u k j → ms ≡ gathering u k j
gathering_unique {k} hu (stay {u = u}) j hj t e = sym (gathering_done u k j t)
gathering_unique {k} hu (go {u = u} {v = v} {ms = ms} s m w) j hj t e =
    let hv = step_pegs hu s in
    let less : gather v k j + 1 ≡ gather u k j =
    omega (arith, step_gather k hv (step_back s) j hj, walk_gather hv w j hj t) in
    let rest = gathering_unique hv w j hj t (omega arith) in
    (λ i. m i ∷ rest i) ∙ sym (lower_first k hu j hj s less)

-- A walk from a tower that is as short as the spreading is the spreading.
pub spreading_unique : {k : ℕ} {u t : ℕ → ℕ} {ms : List DiscMove} → Pegs t → Walk k u ms t → (j : ℕ) → j < 3 → Tower u k j
    → length ms ≡ gather t k j → ms ≡ spreading t k j
unfolding spreading
spreading_unique {ms = ms} ht w j hj tower e =
    sym (backwards_twice ms) ∙ ap backwards (gathering_unique ht (walk_back w) j hj tower (backwards_length ms ∙ e))
