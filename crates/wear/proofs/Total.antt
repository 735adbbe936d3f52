-- The wears of discs 1 to n on a list of their moves sum to its length.
use Prim.Native.Nat.{ℕ, zero, suc, ◌+◌, ◌≤◌, ◌<◌}
use mathlib.Core.List.{List, [], ◌∷◌, ◌++◌}
use mathlib.Core.Path.{◌≡◌, refl}
use native.Mathlib.Decide.{ℕ_discrete}
use native.Mathlib.Omega.{arith}
use borrow.Author.Tests.{eq-eqb, ne_eqb}
use lib.ListN.{length}
use Rattle.route.specs.declared.answer.DiscMove.{DiscMove}
use Rattle.route.proofs.Walks.Walk.{Walk, stay, go}
use Rattle.wear.specs.Request6.{total}
use Rattle.wear.specs.Wear.{wear, wears}

-- One list after another.
pub total_append : (xs ys : List ℕ) → total (xs ++ ys) ≡ total xs + total ys
unfolding total
total_append [] ys = omega arith
total_append (x ∷ xs) ys = omega (arith, total_append xs ys)

-- The last entry adds itself.
total_more : (n : ℕ) (ms : List DiscMove) → total (wears (suc n) ms) ≡ total (wears n ms) + wear (suc n) ms
unfolding wears total
total_more n ms = omega (arith, total_append (wears n ms) (wear (suc n) ms ∷ []))

-- No moves, no wear.
total_none : (n : ℕ) → total (wears n []) ≡ 0
unfolding wear wears total
total_none zero = refl
total_none (suc n) = omega (arith, total_append (wears n []) (0 ∷ []), total_none n)

-- A move of a larger disc adds nothing.
larger_adds : (n : ℕ) (m : DiscMove) (ms : List DiscMove) → n < m.disc → total (wears n (m ∷ ms)) ≡ total (wears n ms)
larger_adds zero m ms l = unfold wears total in refl
larger_adds (suc n) m ms l =
    let same : wear (suc n) (m ∷ ms) ≡ wear (suc n) ms = unfold wear in rw (ne_eqb m.disc (suc n) (omega arith)) (omega arith) in
    omega (arith, total_more n (m ∷ ms), total_more n ms, larger_adds n m ms (omega arith))

-- A move of one of the n discs adds one.
one_adds : (n : ℕ) (m : DiscMove) (ms : List DiscMove) → 1 ≤ m.disc → m.disc ≤ n → total (wears n (m ∷ ms)) ≡ total (wears n ms) + 1
one_adds zero m ms some l = absurd (omega arith)
one_adds (suc n) m ms some l =
    elim (ℕ_discrete m.disc (suc n)) [
      | yes e ↦
          let more : wear (suc n) (m ∷ ms) ≡ wear (suc n) ms + 1 = unfold wear in rw (eq-eqb m.disc (suc n) e) (omega arith) in
          omega (arith, total_more n (m ∷ ms), total_more n ms, larger_adds n m ms (omega arith))
      | no f ↦
          let same : wear (suc n) (m ∷ ms) ≡ wear (suc n) ms = unfold wear in rw (ne_eqb m.disc (suc n) f) (omega arith) in
          omega (arith, total_more n (m ∷ ms), total_more n ms, one_adds n m ms some (omega arith))
    ]

-- So does each of a walk.
pub walk_total : {n : ℕ} {u v : ℕ → ℕ} {ms : List DiscMove} → Walk n u ms v → total (wears n ms) ≡ length ms
walk_total {n} stay = total_none n
walk_total {n} (go {m = m} {ms = ms} s e w) =
    omega (arith, one_adds n m ms (rw e (omega arith)) (rw e (omega (arith, s.below))), walk_total w)
