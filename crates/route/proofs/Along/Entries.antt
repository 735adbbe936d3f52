-- The move at an index of a gathering and of a spreading, and where their first moves lead.
use Prim.Native.Nat.{ℕ, zero, suc, ◌+◌, ◌-◌, ◌≤◌, ◌<◌}
use mathlib.Core.Path.{◌≡◌, ◌∙◌, ap, sym, refl, fun_ext}
use mathlib.Core.List.{List, [], ◌∷◌}
use native.Mathlib.Decide.{dec_lt}
use native.Mathlib.Nat.{add-zero}
use native.Mathlib.Omega.{arith}
use lib.ListN.{length, take, drop, get_or-append}
use lib.Seq.{get_or-drop, get_or_at, take-append-le, take_all}
use Rattle.plan.specs.Gather.{gather}
use Rattle.plan.proofs.Gathering.{Pegs}
use Rattle.route.specs.Inner.Along.{along}
use Rattle.route.specs.Route.{turned, gathering, backwards, spreading, move_at}
use Rattle.route.specs.Inner.Stage.{first_move_of}
use Rattle.route.specs.declared.answer.DiscMove.{DiscMove}
use Rattle.route.proofs.Along.Along.{along_above, along_pegs}
use Rattle.route.proofs.Gatherings.Backwards.{backwards_length}
use Rattle.route.proofs.Gatherings.Gathering.{gathering_length}
use Rattle.route.proofs.Along.Middle.{middle}
use Rattle.route.proofs.Walks.Walk.{Walk, gathers, walk_above, walk_back}

-- The move at an index is the first of what is left there.
pub entry_drop : (ms : List DiscMove) (i : ℕ) → move_at ms i ≡ move_at (drop i ms) 0
entry_drop ms i = sym (get_or-drop i ms 0 _ ∙ ap (λ (n : ℕ). move_at ms n) (add-zero i))

-- The move at an index of a gathering is the first with the others left.
pub gathering_entry : (p : ℕ → ℕ) → Pegs p → (k j i : ℕ) → j < 3 → i ≤ gather p k j
    → move_at (gathering p k j) i ≡ first_move_of (along p k j (gather p k j - i)) k j
gathering_entry p hp k j i hj b =
    let index : gather p k j - (gather p k j - i) ≡ i = omega arith in
    entry_drop (gathering p k j) i
    ∙ ap (λ (n : ℕ). move_at (drop n (gathering p k j)) 0) (sym index)
    ∙ ap (λ (ms : List DiscMove). move_at ms 0) (middle p hp k j (gather p k j - i) hj (omega arith))

-- Backwards, the moves come from the other end, turned.
pub backwards_entry : (ms : List DiscMove) (i : ℕ) → i < length ms → move_at (backwards ms) i ≡ turned (move_at ms (length ms - suc i))
unfolding backwards
backwards_entry [] i l = absurd (omega arith)
backwards_entry (m ∷ ms) i l =
    elim (dec_lt i (length ms)) [
      | yes b ↦
          let index : suc (length ms - suc i) ≡ suc (length ms) - suc i = omega arith in
          get_or-append (backwards ms) (turned m ∷ []) _ i (rw (backwards_length ms) b)
          ∙ backwards_entry ms i b
          ∙ ap (λ (n : ℕ). turned (move_at (m ∷ ms) n)) index
      | no n ↦
          let last : length ms ≡ i = omega arith in
          let index : 0 ≡ suc (length ms) - suc i = omega arith in
          get_or_at (backwards ms) (turned m) [] _ i (backwards_length ms ∙ last)
          ∙ ap (λ (n : ℕ). turned (move_at (m ∷ ms) n)) index
    ]

-- The move at an index of a spreading is a gathering's, turned.
pub spreading_entry : (q : ℕ → ℕ) → Pegs q → (k j i : ℕ) → j < 3 → i < gather q k j
    → move_at (spreading q k j) i ≡ turned (first_move_of (along q k j (i + 1)) k j)
unfolding spreading
spreading_entry q hq k j i hj b =
    let size = gathering_length q hq k j hj in
    let index : gather q k j - (length (gathering q k j) - suc i) ≡ i + 1 = omega arith in
    backwards_entry (gathering q k j) i (omega arith)
    ∙ ap turned (gathering_entry q hq k j (length (gathering q k j) - suc i) hj (omega arith)
    ∙ ap (λ (r : ℕ). first_move_of (along q k j r) k j) index)

-- The first moves backwards are the last ones.
backwards_take : (ms : List DiscMove) (n : ℕ) → n ≤ length ms → backwards (drop n ms) ≡ take (length ms - n) (backwards ms)
unfolding backwards
backwards_take [] zero b = refl
backwards_take [] (suc n) b = absurd (omega arith)
backwards_take (m ∷ ms) zero b = sym (take_all (suc (length ms) - 0) (backwards (m ∷ ms)) (omega (arith, backwards_length (m ∷ ms))))
backwards_take (m ∷ ms) (suc n) b =
    let index : suc (length ms) - suc n ≡ length ms - n = omega arith in
    rw index (backwards_take ms n (omega arith) ∙ sym (take-append-le (length ms - n) (backwards ms) (turned m ∷ []) (omega (arith, backwards_length ms))))

-- The first moves of a spreading, from the tower that it begins with, lead to where a gathering has as many left.
pub spreading_take : (q : ℕ → ℕ) (hq : Pegs q) (k j i : ℕ) (hj : j < 3) → i ≤ gather q k j
    → Walk k (gathers q hq k j hj).end (take i (spreading q k j)) (along q k j i)
unfolding spreading
spreading_take q hq k j i hj b =
    let size = gathering_length q hq k j hj in
    let g = gathers q hq k j hj in
    let a = gathers (along q k j i) (along_pegs q hq k j i hj) k j hj in
    let index : length (gathering q k j) - (gather q k j - i) ≡ i = omega arith in
    let list : backwards (gathering (along q k j i) k j) ≡ take i (backwards (gathering q k j)) =
    ap backwards (sym (middle q hq k j i hj b))
    ∙ backwards_take (gathering q k j) (gather q k j - i) (omega arith)
    ∙ ap (λ (n : ℕ). take n (backwards (gathering q k j))) index in
    let ends : a.end ≡ g.end =
    fun_ext λ d. elim (dec_lt d k) [
      | yes l ↦ a.tower d l ∙ sym (g.tower d l)
      | no n ↦ sym (walk_above a.walk d (omega arith)) ∙ along_above q k j i d (omega arith) ∙ walk_above g.walk d (omega arith)
    ] in
    rw (← ends, ← list) (walk_back a.walk)
