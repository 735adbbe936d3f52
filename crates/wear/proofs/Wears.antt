-- Laws of wears, over any list of moves.
use Prim.Native.Nat.{ℕ, zero, suc, ◌+◌, ◌≤◌, ◌<◌}
use mathlib.Core.List.{List, [], ◌∷◌, ◌++◌, append_assoc, append-nil}
use mathlib.Core.Logic.{◌≢◌}
use mathlib.Core.Path.{◌≡◌, ◌∙◌, refl, sym}
use native.Mathlib.Decide.{dec_lt}
use native.Mathlib.Nat.{zero-add}
use native.Mathlib.Omega.{arith}
use borrow.Author.Tests.{eq-eqb, ne_eqb}
use lib.ListN.{length, drop, get_or, replicate, length-append, get_or-append, replicate-append-replicate}
use lib.Seq.{get_or_at}
use Rattle.route.specs.Route.{carry, turned, backwards}
use Rattle.route.specs.declared.answer.DiscMove.{DiscMove}
use Rattle.route.proofs.Calls.Answers.{joined_size}
use Rattle.wear.specs.Wear.{wear, wears}

-- One list after another.
pub wear_append : (d : ℕ) (ms ns : List DiscMove) → wear d (ms ++ ns) ≡ wear d ms + wear d ns
unfolding wear
wear_append d [] ns = omega arith
wear_append d (m ∷ ms) ns = omega (arith, wear_append d ms ns)

-- Backwards each disc moves as often.
pub wear_backwards : (d : ℕ) (ms : List DiscMove) → wear d (backwards ms) ≡ wear d ms
unfolding wear backwards
wear_backwards d [] = refl
wear_backwards d (m ∷ ms) = omega (arith, wear_append d (backwards ms) (turned m ∷ []), wear_backwards d ms)

-- A move of disc k + 1 counts for it.
pub wear_here : (k i j : ℕ) (ms : List DiscMove) → wear (suc k) (carry k i j ∷ ms) ≡ wear (suc k) ms + 1
unfolding wear
wear_here k i j ms = rw (eq-eqb (suc k) (suc k) refl) (omega arith)

-- And for no other.
pub wear_other : (d k i j : ℕ) (ms : List DiscMove) → d ≢ suc k → wear d (carry k i j ∷ ms) ≡ wear d ms
unfolding wear
wear_other d k i j ms n = rw (ne_eqb (suc k) d (λ e. n (sym e))) (zero-add (wear d ms))

-- There are n of n discs.
pub wears_length : (n : ℕ) (ms : List DiscMove) → length (wears n ms) ≡ n
unfolding wears
wears_length zero ms = refl
wears_length (suc n) ms = omega (arith, length-append (wears n ms) (wear (suc n) ms ∷ []), wears_length n ms)

-- A buffer that has them in its first n entries keeps its length.
pub wears_sized : (n : ℕ) (ms : List DiscMove) (out : List ℕ) → n ≤ length out → length (wears n ms ++ drop n out) ≡ length out
wears_sized n ms out room = joined_size (wears n ms) out n (wears_length n ms) room

-- Entry d is the wear of disc d + 1.
pub wears_at : (n : ℕ) (ms : List DiscMove) (d : ℕ) → d < n → get_or (wears n ms) d 0 ≡ wear (suc d) ms
unfolding wears
wears_at zero ms d l = absurd (omega arith)
wears_at (suc n) ms d l =
    elim (dec_lt d n) [
      | yes b ↦ get_or-append (wears n ms) (wear (suc n) ms ∷ []) 0 d (omega (arith, wears_length n ms)) ∙ wears_at n ms d b
      | no f ↦ let here : d ≡ n = omega arith in rw here (get_or_at (wears n ms) (wear (suc n) ms) [] 0 n (wears_length n ms))
    ]

-- Where no disc above m moves, those above m have entries of 0.
pub wears_unmoved : (ms : List DiscMove) (m : ℕ) → ((d : ℕ) → m < d → wear d ms ≡ 0) → (j : ℕ) → wears (m + j) ms ≡ wears m ms ++ replicate j 0
unfolding wears
wears_unmoved ms m none zero = let same : m + 0 ≡ m = omega arith in rw same (sym (append-nil (wears m ms)))
wears_unmoved ms m none (suc j) =
    let more : m + suc j ≡ suc (m + j) = omega arith in
    let last : wear (suc (m + j)) ms ≡ 0 = none (suc (m + j)) (omega arith) in
    let one : j + 1 ≡ suc j = omega arith in
    let zeros : ◌≡◌ {A = List ℕ} (replicate j 0 ++ (0 ∷ [])) (replicate (suc j) 0) = rw one at (replicate-append-replicate {A = ℕ} j 1 0) in
    rw (more, last, wears_unmoved ms m none j, ← zeros) (append_assoc (wears m ms) (replicate j 0) (0 ∷ []))
