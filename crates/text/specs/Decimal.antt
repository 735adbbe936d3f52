-- A number in decimal digits, the first not 0 unless it is the only one.
use Rattle.std.specs.Prelude.{ℕ, zero, suc, ◌+◌, ◌*◌, ◌-◌, ◌/◌, ◌%◌, ◌<◌, ◌≡◌, cond, List, [], ◌∷◌, ◌++◌, ◌≢◌, ltb}
use Rattle.text.specs.Input.{digit}

-- The digits of n, at most so many as the first argument says: those of n / 10, where there are any, and then n % 10.
unfoldable pub decimal_by : ℕ → ℕ → List ℕ
decimal_by zero n = []
decimal_by (suc most) n = cond (ltb n 10) [] (decimal_by most (n / 10)) ++ (digit (n % 10) ∷ [])

-- The digits of n. The law `decimal_is` (proofs/Numbers) says that they are a decimal of n, and `decimal_only` that there is no other.
unfoldable pub decimal : ℕ → List ℕ
decimal n = decimal_by (suc n) n

-- The value of digits that follow those of v.
unfoldable pub value_after : ℕ → List ℕ → ℕ
value_after v [] = v
value_after v (c ∷ t) = value_after (10 * v + (c - 48)) t

-- The bytes of digits.
pub data Numerals : List ℕ → Type 0 where
  none : Numerals []
  more : {d : ℕ} {t : List ℕ} → d < 10 → Numerals t → Numerals (digit d ∷ t)

-- t is a decimal of n: digits, their value n, none that could be left out.
pub record Decimal (n : ℕ) (t : List ℕ) : Type 0 where
  pub numerals : Numerals t
  pub value : value_after 0 t ≡ n
  pub some : t ≢ []
  pub plain : (r : List ℕ) → t ≡ digit 0 ∷ r → r ≡ []
