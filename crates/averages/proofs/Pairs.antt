-- Sums over all ordered pairs of positions of n discs, by the pegs of the two largest discs.
use Prim.Native.Nat.{ℕ, suc, ◌+◌, ◌*◌, ◌^◌, ◌<◌}
use mathlib.Core.List.{List, []}
use mathlib.Core.Path.{◌≡◌, ◌∙◌, sym, ap}
use native.Mathlib.Nat.{mul_assoc}
use native.Mathlib.Omega.{arith}
use Rattle.plan.specs.Inner.Three.{Three}
use Rattle.plan.proofs.Three.{pegs, three_swap, three_turn, three_flip}
use Rattle.averages.specs.Positions.{IsPosition, with_largest, positions, pairs}
use Rattle.averages.specs.Totals.{sum_over}
use Rattle.averages.proofs.Positions.{over, over_none, over_pegs, over_cong, over_add, over_const, over_times}
use Rattle.averages.proofs.Powers.{power_times}
use Rattle.averages.proofs.Sums.{sum_product}

-- The sum of f over all ordered pairs.
abbrev pub both : ℕ → (List ℕ → List ℕ → ℕ) → ℕ
both n f = over n (λ s. over n (f s))

-- It is the sum over the list of them.
pub sum_pairs : (n : ℕ) (f : List ℕ × List ℕ → ℕ) → sum_over f (pairs n) ≡ both n (λ s t. f (s, t))
unfolding over
sum_pairs n f = sum_product f (positions n) (positions n)

-- Of no discs there is one pair.
pub both_none : (f : List ℕ → List ℕ → ℕ) → both 0 f ≡ f [] []
both_none f = over_none (λ s. over 0 (f s)) ∙ over_none (f [])

-- Two functions that agree on pairs of positions have one sum.
pub both_cong : (n : ℕ) (f g : List ℕ → List ℕ → ℕ) → ((s t : List ℕ) → IsPosition n s → IsPosition n t → f s t ≡ g s t) → both n f ≡ both n g
both_cong n f g h =
    over_cong n (λ s. over n (f s)) (λ s. over n (g s)) (λ s hs. over_cong n (f s) (g s) (λ t ht. h s t hs ht))

-- The sum of two functions is the sum of their sums.
pub both_add : (n : ℕ) (f g : List ℕ → List ℕ → ℕ) → both n (λ s t. f s t + g s t) ≡ both n f + both n g
both_add n f g =
    over_cong n (λ s. over n (λ t. f s t + g s t)) (λ s. over n (f s) + over n (g s)) (λ s hs. over_add n (f s) (g s))
    ∙ over_add n (λ s. over n (f s)) (λ s. over n (g s))

-- What looks at the start alone, or at the goal alone.
pub both_start : (n : ℕ) (f : List ℕ → ℕ) → both n (λ s t. f s) ≡ 3 ^ n * over n f
both_start n f =
    over_cong n (λ s. over n (λ t. f s)) (λ s. 3 ^ n * f s) (λ s hs. over_const n (f s)) ∙ over_times n (3 ^ n) f

pub both_goal : (n : ℕ) (f : List ℕ → ℕ) → both n (λ s t. f t) ≡ 3 ^ n * over n f
both_goal n f = over_const n (over n f)

-- There are 9 ^ n pairs.
pub both_const : (n k : ℕ) → both n (λ s t. k) ≡ 9 ^ n * k
both_const n k =
    both_start n (λ s. k)
    ∙ ap (λ (m : ℕ). 3 ^ n * m) (over_const n k)
    ∙ sym (mul_assoc (3 ^ n) (3 ^ n) k)
    ∙ ap (λ (m : ℕ). m * k) (power_times 3 3 n)

-- Of a disc more on each side, the three sums in which the start's disc is on i.
abbrev pub row : ℕ → (List ℕ → List ℕ → ℕ) → ℕ → ℕ → ℕ → ℕ → ℕ
row n f a b c i =
    both n (λ s t. f (with_largest i s) (with_largest a t))
    + both n (λ s t. f (with_largest i s) (with_largest b t))
    + both n (λ s t. f (with_largest i s) (with_largest c t))

-- All nine of them.
pub both_pegs : (n : ℕ) (f : List ℕ → List ℕ → ℕ) {a b c : ℕ} → Three a b c
    → both (suc n) f ≡ row n f a b c a + row n f a b c b + row n f a b c c
both_pegs n f {a} {b} {c} h =
    let whole : ℕ → List ℕ → ℕ = λ i s. over (suc n) (f (with_largest i s)) in
    let at : ℕ → ℕ → List ℕ → ℕ = λ i j s. over n (λ t. f (with_largest i s) (with_largest j t)) in
    let split : (i : ℕ) → over n (whole i) ≡ row n f a b c i = λ i.
    over_cong n (whole i) (λ s. at i a s + at i b s + at i c s) (λ s hs. over_pegs n (f (with_largest i s)) h)
    ∙ over_add n (λ s. at i a s + at i b s) (at i c)
    ∙ ap (λ (m : ℕ). m + over n (at i c)) (over_add n (at i a) (at i b)) in
    omega (arith, over_pegs n (λ s. over (suc n) (f s)) h, split a, split b, split c)

-- If the part is h wherever the largest discs are on one peg, and k wherever they are on two, the sum is 3 h + 6 k.
pub both_largest : (n : ℕ) (f : List ℕ → List ℕ → ℕ) (h k : ℕ)
    → ((i : ℕ) → i < 3 → both n (λ s t. f (with_largest i s) (with_largest i t)) ≡ h)
    → ((a b c : ℕ) → Three a b c → both n (λ s t. f (with_largest a s) (with_largest b t)) ≡ k)
    → both (suc n) f ≡ 3 * h + 6 * k
both_largest n f h k one two =
    omega (
      arith,
      both_pegs n f pegs,
      one 0 (omega arith),
      one 1 (omega arith),
      one 2 (omega arith),
      two 0 1 2 pegs,
      two 0 2 1 (three_flip pegs),
      two 1 0 2 (three_swap pegs),
      two 1 2 0 (three_turn pegs),
      two 2 0 1 (three_turn (three_turn pegs)),
      two 2 1 0 (three_swap (three_turn pegs)),
    )
