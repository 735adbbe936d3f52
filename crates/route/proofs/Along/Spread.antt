-- A spreading met in the middle: what is left of it is the direct route from where the discs then are.
use Prim.Native.Nat.{ℕ, zero, suc, ◌+◌, ◌-◌, ◌≤◌, ◌<◌, ◌^◌}
use mathlib.Core.Path.{◌≡◌, ◌∙◌, ap, sym, refl, subst, fun_ext}
use mathlib.Core.List.{List, ◌∷◌, ◌++◌}
use mathlib.Core.Logic.{◌≢◌}
use native.Mathlib.Decide.{ℕ_discrete, dec_le}
use native.Mathlib.Omega.{arith}
use lib.ListN.{length, drop}
use lib.Seq.{drop-append-le, drop-append-add}
use Rattle.board.specs.Peg.{third}
use Rattle.board.proofs.Pegs.{third_peg}
use Rattle.plan.specs.Gather.{gather}
use Rattle.plan.specs.Plan.{largest}
use Rattle.plan.specs.Inner.Three.{Three}
use Rattle.plan.proofs.Three.{three, three_third, three_swap, three_turn, three_flip}
use Rattle.plan.proofs.Gathering.{Pegs, gather_home, gather_away, gather_shift}
use Rattle.plan.proofs.Largest.{largest_stays, largest_moves}
use Rattle.route.specs.Inner.Along.{along}
use Rattle.route.specs.Route.{carry, gathering, spreading}
use Rattle.route.specs.declared.answer.DiscMove.{DiscMove}
use Rattle.route.proofs.Along.Along.{along_home, along_before, along_after_below, along_after_here, along_above}
use Rattle.route.proofs.Gatherings.Gathering.{gathering_cong, gathering_length}
use Rattle.route.proofs.Along.Middle.{middle}
use Rattle.route.proofs.Gatherings.Spreading.{spreading_home, spreading_away}

-- A tower on its way from x to y is, seen from the other end, on its way from y to x.
tower_along : (k : ℕ) {x y z : ℕ} → Three x y z → (r i d : ℕ) → r + i + 1 ≡ 2 ^ k → d < k
    → along (λ _. x) k y r d ≡ along (λ _. y) k x i d
tower_along zero h r i d e l = absurd (omega arith)
tower_along (suc k) {x} {y} {z} h r i d e l =
    let zy : third y x ≡ z = three_third (three_swap h) in
    let zx : third x y ≡ z = three_third h in
    let xy : x ≢ y = h.first_second in
    let yx : y ≢ x = λ f. xy (sym f) in
    elim (dec_le (2 ^ k) r) [
      | yes b ↦ elim (ℕ_discrete d k) [
        | yes f ↦ rw f
            (along_before (λ _. x) k y r k xy b ∙ along_above (λ _. x) k (third y x) (r - 2 ^ k) k (omega arith)
            ∙ sym (along_after_here (λ _. y) k x i yx (omega arith)))
        | no n ↦
            along_before (λ _. x) k y r d xy b
            ∙ ap (λ (j : ℕ). along (λ _. x) k j (r - 2 ^ k) d) zy
            ∙ tower_along k (three_flip h) (r - 2 ^ k) i d (omega arith) (omega arith)
            ∙ sym (along_after_below (λ _. y) k x i d yx (omega arith) (omega arith) ∙ ap (λ (j : ℕ). along (λ _. j) k x i d) zx)
      ]
      | no b ↦ elim (ℕ_discrete d k) [
        | yes f ↦ rw f
            (along_after_here (λ _. x) k y r xy (omega arith)
            ∙ sym (along_before (λ _. y) k x i k yx (omega arith) ∙ along_above (λ _. y) k (third x y) (i - 2 ^ k) k (omega arith)))
        | no n ↦
            along_after_below (λ _. x) k y r d xy (omega arith) (omega arith)
            ∙ ap (λ (j : ℕ). along (λ _. j) k y r d) zy
            ∙ tower_along k (three_swap (three_turn h)) r (i - 2 ^ k) d (omega arith) (omega arith)
            ∙ sym (along_before (λ _. y) k x i d yx (omega arith) ∙ ap (λ (j : ℕ). along (λ _. y) k j (i - 2 ^ k) d) zx)
      ]
    ]

-- What is left of a spreading that leads to q, from u.
pub record SpreadsOn (u q : ℕ → ℕ) (k : ℕ) (ms : List DiscMove) : Type 0 where
  pub disc : ℕ
  pub is_largest : largest u q k ≡ suc disc
  pub there : disc < k
  pub pegs : Three (u disc) (q disc) (third (u disc) (q disc))
  pub moves : ms ≡ gathering u disc (third (u disc) (q disc)) ++ (carry disc (u disc) (q disc) ∷ spreading q disc (third (u disc) (q disc)))

-- The same of one disc more that is on its goal peg.
spreads_more : {u v q : ℕ → ℕ} {k : ℕ} {ms : List DiscMove} → u k ≡ q k → ((d : ℕ) → u d ≡ v d) → SpreadsOn v q k ms → SpreadsOn u q (suc k) ms
spreads_more {u} {v} {q} {k} {ms} home same s =
    let f : v ≡ u = fun_ext λ d. sym (same d) in
    let t : SpreadsOn u q k ms = subst (λ (w : ℕ → ℕ). SpreadsOn w q k ms) f s in
    record { disc = t.disc; is_largest = largest_stays u q k home ∙ t.is_largest; there = omega arith; pegs = t.pegs; moves = t.moves }

-- Disc k + 1 has yet to be placed: the smaller discs are on their way to make room for it.
spreads_here : (q : ℕ → ℕ) → Pegs q → (k w i : ℕ) → w < 3 → q k ≢ w → i < 2 ^ k
    → SpreadsOn (along q (suc k) w i) q (suc k) (drop i (spreading q (suc k) w))
spreads_here q hq k w i hw n l =
    let z = third w (q k) in
    let h : Three w (q k) z = three w (q k) hw (hq k) (λ e. n (sym e)) in
    let u = along q (suc k) w i in
    let here : u k ≡ w = along_after_here q k w i n l in
    let shift = gather_shift (λ _. w) k (three_flip h) (λ d g. refl) in
    let r = gather (λ _. w) k z - i in
    let below : (d : ℕ) → d < k → u d ≡ along (λ _. w) k z r d =
    λ d g. along_after_below q k w i d n l g ∙ tower_along k (three_swap (three_flip h)) i r d (omega arith) g in
    let index : gather (λ _. w) k z - r ≡ i = omega arith in
    let rest = carry k w (q k) ∷ spreading q k z in
    let list : drop i (spreading q (suc k) w) ≡ gathering u k z ++ rest =
    ap (drop i) (spreading_away q k refl h)
    ∙ drop-append-le i (gathering (λ _. w) k z) rest (omega (arith, gathering_length (λ _. w) (λ _. hw) k z h.third))
    ∙ ap (λ (a : List DiscMove). a ++ rest)
    (ap (λ (m : ℕ). drop m (gathering (λ _. w) k z)) (sym index)
    ∙ middle (λ _. w) (λ _. hw) k z r h.third (omega arith)
    ∙ gathering_cong k (along (λ _. w) k z r) u z (λ d g. sym (below d g))) in
    record {
      disc = k;
      is_largest = largest_moves u q k (λ e. n (sym e ∙ here));
      there = omega arith;
      pegs = rw here h;
      moves = rw here list;
    }

-- Disc k + 1 has been placed: the first 2 ^ k moves are done.
placed_list : (q : ℕ → ℕ) → Pegs q → (k w i : ℕ) → w < 3 → q k ≢ w → 2 ^ k ≤ i
    → drop i (spreading q (suc k) w) ≡ drop (i - 2 ^ k) (spreading q k (third w (q k)))
placed_list q hq k w i hw n b =
    let z = third w (q k) in
    let h : Three w (q k) z = three w (q k) hw (hq k) (λ e. n (sym e)) in
    let index : i ≡ length (gathering (λ _. w) k z) + suc (i - 2 ^ k) =
    omega (
      arith,
      gathering_length (λ _. w) (λ _. hw) k z h.third,
      gather_shift (λ _. w) k (three_flip h) (λ d g. refl),
    ) in
    ap (drop i) (spreading_away q k refl h)
    ∙ ap (λ (m : ℕ). drop m (gathering (λ _. w) k z ++ (carry k w (q k) ∷ spreading q k z))) index
    ∙ drop-append-add (gathering (λ _. w) k z) (carry k w (q k) ∷ spreading q k z) (suc (i - 2 ^ k))

placed_bound : (q : ℕ → ℕ) → Pegs q → (k w i : ℕ) → w < 3 → q k ≢ w → 2 ^ k ≤ i → i < gather q (suc k) w
    → i - 2 ^ k < gather q k (third w (q k))
placed_bound q hq k w i hw n b l =
    omega (arith, gather_away q k refl (three_swap (three w (q k) hw (hq k) (λ e. n (sym e)))))

spreads_later : (q : ℕ → ℕ) → Pegs q → (k w i : ℕ) → w < 3 → q k ≢ w → 2 ^ k ≤ i
    → SpreadsOn (along q k (third w (q k)) (i - 2 ^ k)) q k (drop (i - 2 ^ k) (spreading q k (third w (q k))))
    → SpreadsOn (along q (suc k) w i) q (suc k) (drop i (spreading q (suc k) w))
spreads_later q hq k w i hw n b below =
    rw (placed_list q hq k w i hw n b)
    (spreads_more
    (along_before q k w i k n b ∙ along_above q k (third w (q k)) (i - 2 ^ k) k (omega arith))
    (λ d. along_before q k w i d n b)
    below)

-- Disc k + 1 is on its goal peg all along.
spreads_home : (q : ℕ → ℕ) (k w i : ℕ) → q k ≡ w → SpreadsOn (along q k w i) q k (drop i (spreading q k w))
    → SpreadsOn (along q (suc k) w i) q (suc k) (drop i (spreading q (suc k) w))
spreads_home q k w i e below =
    rw (spreading_home q k e)
    (spreads_more (along_home q k w i k e ∙ along_above q k w i k (omega arith)) (λ d. along_home q k w i d e) below)

-- With i moves of a spreading done, what is left is the direct route from where the discs then are.
pub spreading_middle : (q : ℕ → ℕ) → Pegs q → (k w i : ℕ) → w < 3 → i < gather q k w
    → SpreadsOn (along q k w i) q k (drop i (spreading q k w))
spreading_middle q hq zero w i hw l = absurd (unfold gather in omega arith)
spreading_middle q hq (suc k) w i hw l =
    elim (ℕ_discrete (q k) w) [
      | yes e ↦
          spreads_home q k w i e (spreading_middle q hq k w i hw (omega (arith, gather_home q k e)))
      | no n ↦ elim (dec_le (2 ^ k) i) [
        | yes b ↦
            spreads_later q hq k w i hw n b
            (spreading_middle q hq k (third w (q k)) (i - 2 ^ k) (third_peg w (q k) hw) (placed_bound q hq k w i hw n b l))
        | no b ↦ spreads_here q hq k w i hw n (omega arith)
      ]
    ]
