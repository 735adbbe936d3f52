-- Laws of the letters of moves: how a buffer comes to hold one more move.
use Prim.Native.Nat.{ℕ, zero, suc, ◌+◌, ◌-◌, ◌*◌, ◌≤◌}
use mathlib.Core.List.{List, [], ◌∷◌, ◌++◌, append_assoc}
use mathlib.Core.Path.{◌≡◌, ◌∙◌, refl, ap, sym}
use borrow.Rule.Slice.PartMut.{mid_of, put_mid}
use native.Mathlib.Nat.{add-zero, zero-add}
use native.Mathlib.Omega.{arith}
use lib.ListN.{length, take, drop, set, length-take, length-drop, take-append-drop}
use lib.Seq.{drop-append-le, drop-drop, sets, sets-eq}
use Rattle.board.proofs.Lists.{stored}
use Rattle.route.specs.Answer.{letter}
use Rattle.run.specs.Inner.Stepper.{Advance, advance}
use Rattle.run.specs.Inner.Written.{steps_from, step_letters}
use Rattle.run.specs.declared.stepper.Stepper.{Stepper}

-- Before the first move the buffer is as it was.
pub begin : (s : Stepper) (q : ℕ → ℕ) (o : List ℕ) → o ≡ step_letters s q 0 ++ drop (2 * 0) o
unfolding step_letters
begin s q o = refl

-- The moves after the first are those of the stepper after it.
pub steps_from_next : (s : Stepper) (q : ℕ → ℕ) (i : ℕ) → steps_from (advance s q).stepper q i ≡ steps_from s q (suc i)
unfolding steps_from
steps_from_next s q zero = refl
steps_from_next s q (suc i) = ap (λ (t : Stepper). (advance t q).stepper) (steps_from_next s q i)

-- One move more has two letters more, at the end.
pub letters_more : (s : Stepper) (q : ℕ → ℕ) (i : ℕ) →
    let m = advance (steps_from s q i) q in
    step_letters s q (suc i) ≡ step_letters s q i ++ (letter m.from ∷ letter m.to ∷ [])
unfolding step_letters steps_from
letters_more s q zero = refl
letters_more s q (suc i) = cc (letters_more (advance s q).stepper q i, steps_from_next s q i)

-- Each move has two letters.
pub letters_length : (s : Stepper) (q : ℕ → ℕ) (i : ℕ) → length (step_letters s q i) ≡ 2 * i
unfolding step_letters
letters_length s q zero = refl
letters_length s q (suc i) = omega (arith, letters_length (advance s q).stepper q i)

-- What is stored right after a run of stores is stored with it.
pub sets_append : (l : List ℕ) (n : ℕ) (xs ys : List ℕ) → sets l n (xs ++ ys) ≡ sets (sets l n xs) (n + length xs) ys
sets_append l n [] ys = rw add-zero
sets_append l n (x ∷ xs) ys =
    let e : n + suc (length xs) ≡ suc n + length xs = omega arith in
    rw e (sets_append (set l n x) (suc n) xs ys)

-- What is stored at the front of the part from n on is stored from n on in the whole.
pub sets_part : (n k : ℕ) (l vs : List ℕ) → n + k ≤ length l → length vs ≤ k → put_mid n k l (sets (mid_of n k l) 0 vs) ≡ sets l n vs
sets_part n k l vs room fits =
    let rest = drop n l in
    let inside : length vs ≤ length (take k rest) = omega (arith, length-take k rest, length-drop n l) in
    let after : drop (length vs) (take k rest) ++ drop k rest ≡ drop (n + length vs) l =
    sym (drop-append-le (length vs) (take k rest) (drop k rest) inside)
    ∙ ap (drop (length vs)) (take-append-drop k rest)
    ∙ drop-drop (length vs) n l in
    rw (sets-eq vs (take k rest) 0 (omega (arith, inside)), sets-eq vs l n (omega arith), zero-add)
    (ap (λ (r : List ℕ). take n l ++ r) (append_assoc vs (drop (length vs) (take k rest)) (drop k rest) ∙ ap (λ (r : List ℕ). vs ++ r) after)
    ∙ sym (append_assoc (take n l) vs (drop (n + length vs) l)))

-- The next move, m, is written at the front of what is left.
pub go : (s : Stepper) (q : ℕ → ℕ) (i : ℕ) (o : List ℕ) {l v : List ℕ} {m : Advance} → l ≡ step_letters s q i ++ drop (2 * i) o → length l ≡ length o
    → 2 * suc i ≤ length o → m ≡ advance (steps_from s q i) q → v ≡ sets (mid_of (2 * i) (length l - 2 * i) l) 0 (letter m.from ∷ letter m.to ∷ [])
    → put_mid (2 * i) (length l - 2 * i) l v ≡ step_letters s q (suc i) ++ drop (2 * suc i) o
go s q i o {l} {v} {m} is same room next put =
    let two : 2 * suc i ≡ 2 * i + 2 = omega arith in
    let letters : List ℕ = letter m.from ∷ letter m.to ∷ [] in
    ap (put_mid (2 * i) (length l - 2 * i) l) put
    ∙ sets_part (2 * i) (length l - 2 * i) l letters (omega arith) (omega arith)
    ∙ rw (is, letters_more s q i, ← next, two)
    (stored (step_letters s q i) letters o (2 * i) (letters_length s q i) (omega arith))
