-- Laws of sums over a list.
use Prim.Native.Nat.{ℕ, ◌+◌}
use mathlib.Core.List.{List, [], ◌∷◌, ◌++◌, map, product, flat_map, Perm, Permᴰ}
use mathlib.Core.Logic.{∥∥₁_elim}
use mathlib.Core.Path.{◌≡◌, ◌∙◌, refl, ap, ap₂}
use native.Mathlib.Nat.{ℕ_set}
use native.Mathlib.Omega.{arith}
use lib.ListN.{length}
use Rattle.averages.specs.Totals.{sum_over}

-- Over two lists one after the other.
pub sum_append : {A : Type 0} (f : A → ℕ) (l m : List A) → sum_over f (l ++ m) ≡ sum_over f l + sum_over f m
unfolding sum_over
sum_append f [] m = omega arith
sum_append f (a ∷ l) m = omega (arith, sum_append f l m)

-- Over the entries that g makes of those of a list.
pub sum_map : {A B : Type 0} (f : B → ℕ) (g : A → B) (l : List A) → sum_over f (map g l) ≡ sum_over (λ a. f (g a)) l
unfolding sum_over
sum_map f g [] = refl
sum_map f g (a ∷ l) = omega (arith, sum_map f g l)

-- Over all pairs of two lists' entries it is a sum of sums.
pub sum_product : {A B : Type 0} (f : A × B → ℕ) (l : List A) (m : List B)
    → sum_over f (product l m) ≡ sum_over (λ a. sum_over (λ b. f (a, b)) m) l
unfolding sum_over product flat_map
sum_product f [] m = refl
sum_product {B = B} f (a ∷ l) m =
    sum_append f (map (λ (b : B). (a, b)) m) (product l m)
    ∙ ap₂ ◌+◌ (sum_map f (λ (b : B). (a, b)) m) (sum_product f l m)

-- The order of the entries makes no difference.
sum_moved : {A : Type 0} (f : A → ℕ) {l m : List A} → Permᴰ l m → sum_over f l ≡ sum_over f m
unfolding sum_over
sum_moved f Permᴰ.nil = refl
sum_moved f (Permᴰ.cons e d) = omega (arith, ap f e, sum_moved f d)
sum_moved f (Permᴰ.swap e e') = omega (arith, ap f e, ap f e')
sum_moved f (Permᴰ.trans d e) = sum_moved f d ∙ sum_moved f e

pub sum_perm : {A : Type 0} (f : A → ℕ) {l m : List A} → Perm l m → sum_over f l ≡ sum_over f m
sum_perm f {l} {m} p = ∥∥₁_elim p (ℕ_set (sum_over f l) (sum_over f m)) (sum_moved f)

-- A 1 for each entry.
pub sum_ones : {A : Type 0} (l : List A) → sum_over (λ a. 1) l ≡ length l
unfolding sum_over
sum_ones [] = refl
sum_ones (a ∷ l) = omega (arith, sum_ones l)
