-- Sums over all positions of n discs, by the peg of the largest disc.
use Prim.Native.Nat.{ℕ, zero, suc, ◌+◌, ◌*◌, ◌^◌, ◌<◌}
use mathlib.Core.List.{List, [], ◌∷◌, ◌++◌, map}
use mathlib.Core.Path.{◌≡◌, ◌∙◌, refl, sym, ap}
use native.Mathlib.Nat.{pow-succ', mul_assoc, mul-add}
use native.Mathlib.Omega.{arith}
use lib.ListN.{length-append}
use Rattle.board.proofs.Formed.{formed_nil, formed_cons, formed_append}
use Rattle.plan.specs.Inner.Three.{Three}
use Rattle.plan.proofs.Three.{three_sum}
use Rattle.averages.specs.Positions.{IsPosition, with_largest, positions}
use Rattle.averages.specs.Totals.{sum_over}
use Rattle.averages.proofs.Sums.{sum_append, sum_map}

-- The sum of f over all positions of n discs.
unfoldable pub over : ℕ → (List ℕ → ℕ) → ℕ
over n f = sum_over f (positions n)

-- Of no discs there is one position.
pub over_none : (f : List ℕ → ℕ) → over 0 f ≡ f []
unfolding over positions sum_over
over_none f = omega arith

-- A disc more, on each of the three pegs.
over_more : (n : ℕ) (f : List ℕ → ℕ)
    → over (suc n) f ≡ over n (λ p. f (with_largest 0 p)) + over n (λ p. f (with_largest 1 p)) + over n (λ p. f (with_largest 2 p))
unfolding over positions
over_more n f =
    let largest : ℕ → List (List ℕ) = λ i. map (with_largest i) (positions n) in
    let all : over (suc n) f ≡ sum_over f (largest 0 ++ largest 1) + sum_over f (largest 2) =
    sum_append f (largest 0 ++ largest 1) (largest 2) in
    let each : (i : ℕ) → sum_over f (largest i) ≡ over n (λ p. f (with_largest i p)) = λ i. sum_map f (with_largest i) (positions n) in
    omega (arith, sum_append f (largest 0) (largest 1), each 0, each 1, each 2)

-- So it is with the three pegs in any order.
pub over_pegs : (n : ℕ) (f : List ℕ → ℕ) {a b c : ℕ} → Three a b c
    → over (suc n) f ≡ over n (λ p. f (with_largest a p)) + over n (λ p. f (with_largest b p)) + over n (λ p. f (with_largest c p))
over_pegs n f h = over_more n f ∙ three_sum (λ i. over n (λ p. f (with_largest i p))) h

-- No discs are a position, and so is a position with a disc more.
pub none_position : IsPosition 0 []
none_position = record { size = refl; formed = formed_nil }

pub more_position : {n i : ℕ} {p : List ℕ} → i < 3 → IsPosition n p → IsPosition (suc n) (with_largest i p)
more_position {n} {i} {p} hi h =
    record {
      size = omega (arith, length-append p (i ∷ []), h.size);
      formed = formed_append p (i ∷ []) h.formed (formed_cons i [] hi formed_nil);
    }

-- Two functions that agree on positions have one sum.
pub over_cong : (n : ℕ) (f g : List ℕ → ℕ) → ((p : List ℕ) → IsPosition n p → f p ≡ g p) → over n f ≡ over n g
over_cong zero f g h = over_none f ∙ h [] none_position ∙ sym (over_none g)
over_cong (suc n) f g h =
    let each : (i : ℕ) → i < 3 → over n (λ p. f (with_largest i p)) ≡ over n (λ p. g (with_largest i p)) =
    λ i hi. over_cong n (λ p. f (with_largest i p)) (λ p. g (with_largest i p)) (λ p hp. h (with_largest i p) (more_position hi hp)) in
    omega (arith, over_more n f, over_more n g, each 0 (omega arith), each 1 (omega arith), each 2 (omega arith))

-- The sum of two functions is the sum of their sums.
pub over_add : (n : ℕ) (f g : List ℕ → ℕ) → over n (λ p. f p + g p) ≡ over n f + over n g
over_add zero f g = omega (arith, over_none (λ p. f p + g p), over_none f, over_none g)
over_add (suc n) f g =
    let each : (i : ℕ) → over n (λ p. f (with_largest i p) + g (with_largest i p)) ≡ over n (λ p. f (with_largest i p)) + over n (λ p. g (with_largest i p)) =
    λ i. over_add n (λ p. f (with_largest i p)) (λ p. g (with_largest i p)) in
    omega (arith, over_more n (λ p. f p + g p), over_more n f, over_more n g, each 0, each 1, each 2)

-- There are 3 ^ n positions.
pub over_const : (n k : ℕ) → over n (λ p. k) ≡ 3 ^ n * k
over_const zero k = omega (arith, over_none (λ p. k))
over_const (suc n) k =
    omega (arith, over_more n (λ p. k), over_const n k, ap (λ (m : ℕ). m * k) (pow-succ' 3 n), mul_assoc 3 (3 ^ n) k)

-- A multiple of a function.
pub over_times : (n k : ℕ) (f : List ℕ → ℕ) → over n (λ p. k * f p) ≡ k * over n f
over_times zero k f = over_none (λ p. k * f p) ∙ ap (λ (m : ℕ). k * m) (sym (over_none f))
over_times (suc n) k f =
    let part : ℕ → ℕ = λ i. over n (λ p. f (with_largest i p)) in
    let each : (i : ℕ) → over n (λ p. k * f (with_largest i p)) ≡ k * part i = λ i. over_times n k (λ p. f (with_largest i p)) in
    let whole : k * over (suc n) f ≡ k * (part 0 + part 1 + part 2) = ap (λ (m : ℕ). k * m) (over_more n f) in
    omega (
      arith,
      over_more n (λ p. k * f p),
      each 0,
      each 1,
      each 2,
      whole,
      mul-add k (part 0 + part 1) (part 2),
      mul-add k (part 0) (part 1),
    )
