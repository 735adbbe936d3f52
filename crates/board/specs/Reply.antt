-- What a call replies (document 01, "The operations and when each refuses"): a refusal is its number alone, and lent bytes are then as
-- they stood, but for the fumbles of a session's record (02, CR 3).
use Rattle.std.specs.Prelude.{ℕ, Bool, true, false, List, ◌++◌, length, drop}

infixr 1 ◌>>◌ ◌>>=◌
-- The number of a refusal, or a value.
pub data Reply (A : Type 0) : Type 0 where
  refused : (number : ℕ) → Reply A
  answer : (value : A) → Reply A

-- One after another, a line each in a `do` block: the first that refuses speaks.
abbrev pub ◌>>◌ : {A B : Type 0} → Reply A → Reply B → Reply B
◌>>◌ (refused k) r = refused k
◌>>◌ (answer a) r = r

-- The same where the second needs the value of the first.
abbrev pub ◌>>=◌ : {A B : Type 0} → Reply A → (A → Reply B) → Reply B
◌>>=◌ (refused k) f = refused k
◌>>=◌ (answer a) f = f a

-- A check refuses or passes, and says no more.
abbrev pub Check : Type 0
Check = Reply (Unit {0})

abbrev pub pass : Check
pass = answer tt

-- Refuses with the number where the fault is there.
abbrev pub check : Bool → ℕ → Check
check true k = refused k
check false k = pass

-- A lent buffer after a call: what was written and then its other bytes, or all as they stood where the call is refused.
abbrev pub written : Reply (List ℕ) → List ℕ → List ℕ
written (refused k) out = out
written (answer bytes) out = bytes ++ drop (length bytes) out
