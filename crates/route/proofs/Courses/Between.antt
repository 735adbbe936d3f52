-- An index before, at and after an entry that stands between two lists, and the entries up to it.
use Prim.Native.Nat.{ℕ, suc, ◌+◌, ◌-◌, ◌≤◌, ◌<◌}
use mathlib.Core.Path.{◌≡◌, ◌∙◌, ap, sym}
use mathlib.Core.List.{List, ◌∷◌, ◌++◌}
use native.Mathlib.Omega.{arith}
use lib.ListN.{length, take, get_or, get_or-append}
use lib.Seq.{get_or-append-add, get_or_at, take-append-le, take-append-add}

module _ {A : Type 0} (d : A) (xs : List A) (a : A) (ys : List A) (n : ℕ) (size : length xs ≡ n) where
  pub entry_before : (i : ℕ) → i < n → get_or (xs ++ (a ∷ ys)) i d ≡ get_or xs i d
  entry_before i l = get_or-append xs (a ∷ ys) _ i (omega arith)

  pub entry_here : (i : ℕ) → i ≡ n → get_or (xs ++ (a ∷ ys)) i d ≡ a
  entry_here i e = get_or_at xs a ys _ i (size ∙ sym e)

  pub entry_after : (i : ℕ) → n < i → get_or (xs ++ (a ∷ ys)) i d ≡ get_or ys (i - n - 1) d
  entry_after i l =
      let index : i ≡ length xs + suc (i - n - 1) = omega arith in
      ap (λ (j : ℕ). get_or (xs ++ (a ∷ ys)) j d) index ∙ get_or-append-add xs (a ∷ ys) (suc (i - n - 1)) _

module _ {A : Type 0} (xs : List A) (a : A) (ys : List A) (n : ℕ) (size : length xs ≡ n) where
  pub take_before : (i : ℕ) → i ≤ n → take i (xs ++ (a ∷ ys)) ≡ take i xs
  take_before i l = take-append-le i xs (a ∷ ys) (omega arith)

  pub take_after : (i : ℕ) → n < i → take i (xs ++ (a ∷ ys)) ≡ xs ++ (a ∷ take (i - n - 1) ys)
  take_after i l =
      let index : i ≡ length xs + suc (i - n - 1) = omega arith in
      ap (λ (j : ℕ). take j (xs ++ (a ∷ ys))) index ∙ take-append-add xs (a ∷ ys) (suc (i - n - 1))
