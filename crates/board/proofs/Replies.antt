-- Laws of replies: what a value says of the checks before it.
use Prim.Native.Nat.{ℕ}
use mathlib.Core.Bool.{Bool, true, false}
use mathlib.Core.Path.{◌≡◌, refl, sym}
use native.Mathlib.Omega.{arith}
use Rattle.std.specs.Prelude.{Result, Err, IsErrAnd}
use Rattle.std.proofs.lemmas.Result.{err_from_is_err_and}
use Rattle.board.specs.Reply.{Reply, refused, answer, ◌>>◌, ◌>>=◌, Check, pass, check}

-- A refusal is no value.
pub refused_answer : {A : Type 0} {k : ℕ} {a : A} → refused k ≡ answer a → ⊥
refused_answer e = let z : ◌≡◌ {A = ℕ} 0 1 = cc in omega arith

-- One reply has one value.
pub answer_same : {A : Type 0} {a b : A} → answer a ≡ answer b → a ≡ b
answer_same e = cc

-- A check that passes found no fault.
pub check_passed : (fault : Bool) (k : ℕ) → check fault k ≡ pass → fault ≡ false
check_passed true k e = absurd (refused_answer e)
check_passed false k e = refl

-- Where a value is answered after a check, the check passed, and the value is what follows it.
pub then_answered : {A : Type 0} {a : A} (v : Check) (r : Reply A) → (v >> r) ≡ answer a → (v ≡ pass) × (r ≡ answer a)
then_answered (refused k) r e = absurd (refused_answer e)
then_answered (answer u) r e = (refl, e)

-- The same of one fault.
pub check_answered : {A : Type 0} {a : A} (fault : Bool) (k : ℕ) (r : Reply A) → (check fault k >> r) ≡ answer a → (fault ≡ false) × (r ≡ answer a)
check_answered fault k r e = let (passed, rest) = then_answered (check fault k) r e in (check_passed fault k passed, rest)

-- Where a value would follow, a refusal is what came before.
pub then_refused : {A B : Type 0} {k : ℕ} (v : Reply B) (a : A) → (v >> answer a) ≡ refused k → v ≡ refused k
then_refused (refused j) a e = cc
then_refused (answer u) a e = absurd (refused_answer (sym e))

-- Of three in a row it makes no difference which two go together.
pub then_assoc : {A B C : Type 0} (v : Reply A) (w : Reply B) (r : Reply C) → ((v >> w) >> r) ≡ (v >> (w >> r))
then_assoc (refused k) w r = refl
then_assoc (answer a) w r = refl

-- What is made of a value is refused where the value is.
pub made_refused : {A B : Type 0} {k : ℕ} (r : Reply A) (f : A → B) → (r >>= λ a. answer (f a)) ≡ refused k → r ≡ refused k
made_refused (refused j) f e = cc
made_refused (answer a) f e = absurd (refused_answer (sym e))

-- And is made of a value where it is none.
pub made_answered : {A B : Type 0} {b : B} (r : Reply A) (f : A → B) → (r >>= λ a. answer (f a)) ≡ answer b → (a : A) × (r ≡ answer a) × (f a ≡ b)
made_answered (refused j) f e = absurd (refused_answer e)
made_answered (answer a) f e = (a, refl, cc)

-- What goes up by `?` is the refusal.
pub goes_up : {T E : Type 0} {e : E} (r : Result T E) → IsErrAnd r (λ y. y ≡ e) → r ≡ Err e
goes_up r h = let p = err_from_is_err_and r h in rw (p.1, p.2)
