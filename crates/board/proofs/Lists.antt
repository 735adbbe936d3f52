-- Laws of lists: the first and the last entries of a list that is joined, mapped, repeated or stored into.
use Prim.Native.Nat.{ℕ, zero, suc, ◌+◌, ◌-◌, ◌≤◌, min}
use mathlib.Core.List.{List, [], ◌∷◌, ◌++◌, map}
use mathlib.Core.Path.{◌≡◌, ◌∙◌, refl, ap}
use native.Mathlib.Omega.{arith}
use lib.ListN.{length, take, drop, replicate, length-append, length-drop}
use lib.Seq.{take-nil, drop-nil, take_at, drop-append-add, drop-drop, sets, sets-eq}

module _ {A : Type 0} where
  -- The first n of two lists are those of the first, and of the second what is left of n.
  pub take_append : (n : ℕ) (xs ys : List A) → take n (xs ++ ys) ≡ take n xs ++ take (n - length xs) ys
  take_append n [] ys = let same : n - 0 ≡ n = omega arith in rw (same, take-nil n)
  take_append zero (x ∷ xs) ys = let none : 0 - suc (length xs) ≡ 0 = omega arith in rw none
  take_append (suc n) (x ∷ xs) ys =
      let less : suc n - suc (length xs) ≡ n - length xs = omega arith in rw less (ap (λ (l : List A). x ∷ l) (take_append n xs ys))

  -- So are those after them.
  pub drop_append : (n : ℕ) (xs ys : List A) → drop n (xs ++ ys) ≡ drop n xs ++ drop (n - length xs) ys
  drop_append n [] ys = let same : n - 0 ≡ n = omega arith in rw (same, drop-nil n)
  drop_append zero (x ∷ xs) ys = let none : 0 - suc (length xs) ≡ 0 = omega arith in rw none
  drop_append (suc n) (x ∷ xs) ys = let less : suc n - suc (length xs) ≡ n - length xs = omega arith in rw less (drop_append n xs ys)

  -- The first of so many of one entry are as many of it as there are.
  pub take_replicate : (n m : ℕ) (a : A) → take n (replicate m a) ≡ replicate (min n m) a
  take_replicate zero m a = let none : min 0 m ≡ 0 = omega arith in rw none
  take_replicate (suc n) zero a = let none : min (suc n) 0 ≡ 0 = omega arith in rw none
  take_replicate (suc n) (suc m) a =
      let less : min (suc n) (suc m) ≡ suc (min n m) = omega arith in rw less (ap (λ (l : List A). a ∷ l) (take_replicate n m a))

  -- And those after them are the others.
  pub drop_replicate : (n m : ℕ) (a : A) → drop n (replicate m a) ≡ replicate (m - n) a
  drop_replicate zero m a = let same : m - 0 ≡ m = omega arith in rw same
  drop_replicate (suc n) zero a = let none : 0 - suc n ≡ 0 = omega arith in rw none
  drop_replicate (suc n) (suc m) a = let less : suc m - suc n ≡ m - n = omega arith in rw less (drop_replicate n m a)

  -- What is stored at the end of what is written is written too.
  pub stored : (xs vs o : List A) (n : ℕ) → length xs ≡ n → n + length vs ≤ length o
      → sets (xs ++ drop n o) n vs ≡ (xs ++ vs) ++ drop (n + length vs) o
  stored xs vs o n e h =
      let rest : drop (n + length vs) (xs ++ drop n o) ≡ drop (n + length vs) o =
      rw (← e) (drop-append-add xs _ (length vs) ∙ drop-drop (length vs) (length xs) o) in
      sets-eq vs (xs ++ drop n o) n (omega (arith, length-append xs (drop n o), length-drop n o)) ∙ rw (take_at xs _ n e, rest)

module _ {A B : Type 0} (f : A → B) where
  -- Mapped, the first are the first.
  pub map_take : (n : ℕ) (xs : List A) → map f (take n xs) ≡ take n (map f xs)
  map_take zero xs = refl
  map_take (suc n) [] = refl
  map_take (suc n) (x ∷ xs) = ap (λ (l : List B). f x ∷ l) (map_take n xs)

  -- And those after them are those after them.
  pub map_drop : (n : ℕ) (xs : List A) → map f (drop n xs) ≡ drop n (map f xs)
  map_drop zero xs = refl
  map_drop (suc n) [] = refl
  map_drop (suc n) (x ∷ xs) = map_drop n xs

  -- So many of one entry are so many of its image.
  pub map_replicate : (n : ℕ) (a : A) → map f (replicate n a) ≡ replicate n (f a)
  map_replicate zero a = refl
  map_replicate (suc n) a = ap (λ (l : List B). f a ∷ l) (map_replicate n a)
