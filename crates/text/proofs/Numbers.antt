-- The digits that `decimal` gives (specs/Decimal): that std prints them, that they are a decimal of the number, and that there is no other.
use Prim.Native.Nat.{ℕ, zero, suc, ◌+◌, ◌*◌, ◌-◌, ◌/◌, ◌%◌, ◌^◌, ◌≤◌, ◌<◌}
use mathlib.Core.Path.{◌≡◌, refl, sym, ap}
use mathlib.Core.List.{List, [], ◌∷◌, ◌++◌, append-nil, append_assoc}
use mathlib.Core.Logic.{◌≢◌}
use native.Mathlib.Nat.{mod-eq_of_lt}
use native.Mathlib.Decide.{dec_lt}
use native.Mathlib.Omega.{arith}
use borrow.Author.Tests.{lt-ltb, le-ltb}
use lib.ListN.{length, length-append}
use Rattle.std.specs.Fmt.{decimal as printed}
use Rattle.std.proofs.lemmas.Fmt.{AppendsLastDigit, decimal_from_appends, length-decimal-le, length-decimal-le_succ}
use Rattle.text.specs.Input.{digit}
use Rattle.text.specs.Decimal.{decimal_by, decimal, value_after, Numerals, none, more, Decimal}

-- The digits of n are the same for every first argument above n: for the tenth of a number, which `decimal` asks for with another.
any_most : (a b n : ℕ) → n < a → n < b → decimal_by a n ≡ decimal_by b n
unfolding decimal_by
any_most zero b n h k = absurd (omega arith)
any_most (suc a) zero n h k = absurd (omega arith)
any_most (suc a) (suc b) n h k =
    elim (dec_lt n 10) [
      | yes l ↦ rw (lt-ltb n 10 l)
      | no l ↦ rw (le-ltb n 10 (omega arith), any_most a b (n / 10) (omega arith) (omega arith))
    ]

-- A number below 10 is one digit: where the digits begin.
pub decimal_small : (n : ℕ) → n < 10 → decimal n ≡ digit n ∷ []
unfolding decimal decimal_by
decimal_small n h = rw (lt-ltb n 10 h, mod-eq_of_lt h)

-- Any other has the digits of its tenth, and then its last: the order in which a number is written.
pub decimal_more : (n : ℕ) → 10 ≤ n → decimal n ≡ decimal (n / 10) ++ (digit (n % 10) ∷ [])
unfolding decimal decimal_by
decimal_more n h = rw (le-ltb n 10 h, any_most n (suc (n / 10)) (n / 10) (omega arith) (omega arith))

-- So putting those of its tenth and then its last puts all of them: one step of the recursion that puts a number ...
pub put_more : (front : List ℕ) (n : ℕ) → 10 ≤ n → (front ++ decimal (n / 10)) ++ (digit (n % 10) ∷ []) ≡ front ++ decimal n
put_more front n h = rw (decimal_more n h, append_assoc)

-- ... and they are one more than those of its tenth.
pub longer : (n : ℕ) → 10 ≤ n → length (decimal n) ≡ length (decimal (n / 10)) + 1
longer n h = rw (decimal_more n h, length-append)

-- A number below 10 ^ k has at most k digits, k at least 1.
pub decimal_length : (k n : ℕ) → n < 10 ^ suc k → length (decimal n) ≤ suc k
decimal_length zero n h = rw (decimal_small n (omega arith)) (omega arith)
decimal_length (suc k) n h =
    elim (dec_lt n 10) [
      | yes l ↦ rw (decimal_small n l) (omega arith)
      | no l ↦ rw (decimal_more n (omega arith), length-append) (omega (arith, decimal_length k (n / 10) (omega arith)))
    ]

-- They are what std prints of a 64-bit number.
pub decimal_std : (n : ℕ) → n < 2 ^ 64 → printed n ≡ decimal n
unfolding decimal decimal_by
decimal_std n h =
    let last : AppendsLastDigit decimal_by = record {
      one = λ k n h. rw (lt-ltb n 10 h, mod-eq_of_lt h);
      more = λ k n h. rw (le-ltb n 10 h);
    } in
    sym (decimal_from_appends decimal_by last (suc n) n h (omega (arith, length-decimal-le_succ n h)))

-- So a 64-bit number has at most 20: the room that a line keeps for it.
pub decimal_fits : (n : ℕ) → n < 2 ^ 64 → length (decimal n) ≤ 20
decimal_fits n h = rw (← decimal_std n h) (length-decimal-le 20 n (omega arith) (omega arith) h)

-- Numerals and then a digit are numerals: for the digits of a number, made from those of its tenth.
numerals_more : {t : List ℕ} {d : ℕ} → Numerals t → d < 10 → Numerals (t ++ (digit d ∷ []))
numerals_more none l = more l none
numerals_more (more h x) l = more h (numerals_more x l)

-- A further digit makes the value ten times as much, and the digit more: for the value of those digits.
value_more : (v : ℕ) (t : List ℕ) (d : ℕ) → value_after v (t ++ (digit d ∷ [])) ≡ 10 * value_after v t + d
unfolding value_after
value_more v [] d = omega arith
value_more v (c ∷ t) d = value_more (10 * v + (c - 48)) t d

-- A decimal of a number above 0 does not begin with the digit 0, which is why a digit may follow it.
no_zero : {n : ℕ} {t : List ℕ} → Decimal n t → 0 < n → (r : List ℕ) → t ≢ digit 0 ∷ r
unfolding value_after
no_zero x l r e = let v : value_after 0 (digit 0 ∷ []) ≡ _ = rw (e, x.plain r e) at x.value in omega arith

-- Nor does it when a digit follows, so that what is then there is plain.
plain_more : {n : ℕ} (t : List ℕ) (c : ℕ) → Decimal n t → 0 < n → (r : List ℕ) → t ++ (c ∷ []) ≢ digit 0 ∷ r
plain_more [] c x l r e = x.some refl
plain_more (a ∷ t) c x l r e = no_zero x l t (cc)

-- A digit alone is a decimal: where the decimals begin.
is_small : (d : ℕ) → d < 10 → Decimal d (digit d ∷ [])
unfolding value_after
is_small d h =
    record {
      numerals = more h none;
      value = omega arith;
      some = λ q. omega (arith, ap length q);
      plain = λ r q. cc;
    }

-- A decimal of a number above 0 and then a digit are a decimal of ten times the number and the digit: how the decimals go on.
is_more : {n m d : ℕ} {t : List ℕ} → Decimal m t → 0 < m → d < 10 → 10 * m + d ≡ n → Decimal n (t ++ (digit d ∷ []))
is_more {d = d} {t = t} x l h e =
    record {
      numerals = numerals_more x.numerals h;
      value = rw (value_more 0 t d, x.value) e;
      some = λ q. omega (arith, simp length-append at (ap length q));
      plain = λ r q. absurd (plain_more t (digit d) x l r q);
    }

-- The digits of n are a decimal of n, with a bound m to go down by: for the law that follows, which goes from n to its tenth.
is_below : (m n : ℕ) → n < m → Decimal n (decimal n)
is_below zero n h = absurd (omega arith)
is_below (suc m) n h =
    elim (dec_lt n 10) [
      | yes l ↦ rw (decimal_small n l) (is_small n l)
      | no l ↦ rw (decimal_more n (omega arith))
          (is_more (is_below m (n / 10) (omega arith)) (omega arith) (omega arith) (omega arith))
    ]

-- The digits of n are a decimal of n, so that what is written can be read as n ...
pub decimal_is : (n : ℕ) → Decimal n (decimal n)
decimal_is n = is_below (suc n) n (omega arith)

-- Digits after those of a number above 0 are the last digits of their value, so that a decimal is known from its first digit on.
decimal_after : {t : List ℕ} → Numerals t → (v : ℕ) → 0 < v → decimal (value_after v t) ≡ decimal v ++ t
unfolding value_after
decimal_after none v l = sym (append-nil _)
decimal_after (more {d = d} {t = t} h x) v l =
    let w = 10 * v + (digit d - 48) in
    let tenth : w / 10 ≡ v = omega arith in
    let last : w % 10 ≡ d = omega arith in
    rw (decimal_after x w (omega arith), decimal_more w (omega arith), tenth, last, append_assoc)

-- Numerals that are a decimal of n are the digits of n, those of the first and then the others: for the law that follows.
only_numerals : {n : ℕ} {t : List ℕ} → Numerals t → Decimal n t → t ≡ decimal n
unfolding value_after
only_numerals none x = absurd (x.some refl)
only_numerals (more {d = zero} {t = t} h r) x = rw (← x.value, x.plain t refl, decimal_small 0 h)
only_numerals (more {d = suc d} {t = t} h r) x =
    let same : 10 * 0 + (digit (suc d) - 48) ≡ suc d = omega arith in
    rw (← x.value, same, decimal_after r (suc d) (omega arith), decimal_small (suc d) h)

-- ... and the only one, so that nothing else could have been written.
pub decimal_only : (n : ℕ) (t : List ℕ) → Decimal n t → t ≡ decimal n
decimal_only n t x = only_numerals x.numerals x
