-- Three numbers, one for each peg.
use Prim.Native.Nat.{ℕ, ◌<◌}
use mathlib.Core.List.{List, [], ◌∷◌}
use mathlib.Core.Path.{◌≡◌, refl}
use native.Mathlib.Omega.{arith}
use lib.ListN.{length, get_or}
use Rattle.plan.proofs.Three.{pegs, each_peg_lem}
use Rattle.builder.specs.Lengths.{each_peg}

-- What holds of each of the three pegs holds of every peg.
pub each : (P : ℕ → Type 0) → P 0 → P 1 → P 2 → (i : ℕ) → i < 3 → P i
each P = each_peg_lem P pegs

-- What holds of any three numbers holds of a list of three.
pub of_three : (P : List ℕ → Type 0) → ((a b c : ℕ) → P (a ∷ b ∷ c ∷ [])) → (l : List ℕ) → length l ≡ 3 → P l
of_three P f [] e = absurd (omega arith)
of_three P f (a ∷ []) e = absurd (omega arith)
of_three P f (a ∷ b ∷ []) e = absurd (omega arith)
of_three P f (a ∷ b ∷ c ∷ []) e = f a b c
of_three P f (a ∷ b ∷ c ∷ d ∷ l) e = absurd (omega arith)

-- Three numbers that are the same one by one.
pub alike : {a b c a' b' c' : ℕ} → a ≡ a' → b ≡ b' → c ≡ c' → a ∷ b ∷ c ∷ [] ≡ a' ∷ b' ∷ c' ∷ []
alike e f g = cc

-- What two functions make of a peg and three numbers is the same where it is for each of the three pegs and any numbers.
pub agree : (f g : ℕ → List ℕ → List ℕ)
    → ((a b c : ℕ) → f 0 (a ∷ b ∷ c ∷ []) ≡ g 0 (a ∷ b ∷ c ∷ []))
    → ((a b c : ℕ) → f 1 (a ∷ b ∷ c ∷ []) ≡ g 1 (a ∷ b ∷ c ∷ []))
    → ((a b c : ℕ) → f 2 (a ∷ b ∷ c ∷ []) ≡ g 2 (a ∷ b ∷ c ∷ []))
    → (j : ℕ) → j < 3 → (l : List ℕ) → length l ≡ 3 → f j l ≡ g j l
agree f g x y z j h =
    of_three (λ l. f j l ≡ g j l)
    (λ a b c. each (λ j. f j (a ∷ b ∷ c ∷ []) ≡ g j (a ∷ b ∷ c ∷ [])) (x a b c) (y a b c) (z a b c) j h)

-- The number for peg i of three.
pub each_at : (f : ℕ → ℕ) (i : ℕ) → i < 3 → get_or (each_peg f) i 0 ≡ f i
each_at f = each (λ i. get_or (each_peg f) i 0 ≡ f i) refl refl refl
