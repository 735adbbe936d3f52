-- Laws of well-formed positions: a position is well formed when its bytes are all pegs.
use Prim.Native.Nat.{ℕ, zero, suc, ◌<◌}
use mathlib.Core.Bool.{Bool, true, false, not, and-eq-true_iff, false≢true}
use mathlib.Core.List.{List, [], ◌∷◌, ◌++◌}
use mathlib.Core.Logic.{◌↔◌}
use mathlib.Core.Path.{◌≡◌, refl, sym, ◌∙◌}
use native.Mathlib.Decide.{dec_lt}
use native.Mathlib.Omega.{arith}
use borrow.Author.Tests.{lt-ltb, ltb-true, not-true}
use lib.Dec.{ltb}
use lib.ListN.{length, take, drop, set, replicate}
use Rattle.std.proofs.lemmas.List.Recursion.{and_from_places, and_set}
use Rattle.board.specs.Fault.{AboveTwo}
use Rattle.board.specs.Position.{peg, well_formed, WellFormed}

-- The first byte of a well-formed position is a peg.
pub formed_head : (b : ℕ) (p : List ℕ) → WellFormed (b ∷ p) → b < 3
unfolding well_formed
formed_head b p h = ltb-true b 3 ((and-eq-true_iff (ltb b 3) (well_formed p)).0 h).0

-- The bytes after the first are well formed too.
pub formed_tail : (b : ℕ) (p : List ℕ) → WellFormed (b ∷ p) → WellFormed p
unfolding well_formed
formed_tail b p h = ((and-eq-true_iff (ltb b 3) (well_formed p)).0 h).1

-- A peg in front of a well-formed position leaves it well formed.
pub formed_cons : (b : ℕ) (p : List ℕ) → b < 3 → WellFormed p → WellFormed (b ∷ p)
unfolding well_formed
formed_cons b p hb h = (and-eq-true_iff (ltb b 3) (well_formed p)).1 (lt-ltb b 3 hb, h)

-- The empty position is well formed.
pub formed_nil : WellFormed []
unfolding well_formed
formed_nil = refl

-- Every disc of a well-formed position is on a peg.
pub formed_pegs : (p : List ℕ) → WellFormed p → (d : ℕ) → peg p d < 3
formed_pegs [] h d = omega arith
formed_pegs (b ∷ p) h zero = formed_head b p h
formed_pegs (b ∷ p) h (suc d) = formed_pegs p (formed_tail b p h) d

-- A position whose discs are all on pegs is well formed.
pub pegs_formed : (p : List ℕ) → ((d : ℕ) → d < length p → peg p d < 3) → WellFormed p
unfolding well_formed
pegs_formed p h = and_from_places well_formed (λ b. ltb b 3) refl (λ _ _. refl) p 0 (λ d l. lt-ltb (peg p d) 3 (h d l))

-- A position that is not well formed has a byte above 2.
formed_fails : (p : List ℕ) → well_formed p ≡ false → AboveTwo p
unfolding well_formed
formed_fails [] e = absurd (false≢true (sym e))
formed_fails (b ∷ p) e =
    elim (dec_lt b 3) [
      | yes h ↦
          let (d, l, above) = formed_fails p (sym (rw (lt-ltb b 3 h)) ∙ e) in
          (suc d, omega arith, above)
      | no n ↦ (0, omega arith, omega arith)
    ]

-- The test fails exactly where some byte is above 2.
pub not_formed : (p : List ℕ) → (not (well_formed p) ≡ true) ↔ AboveTwo p
not_formed p = ((λ e. formed_fails p (not-true (well_formed p) e)), λ (d, l, above). at (well_formed p) refl d above)
  where
    at : (b : Bool) → well_formed p ≡ b → (d : ℕ) → 2 < peg p d → not b ≡ true
    at true e d above = absurd (omega (arith, formed_pegs p e d))
    at false e d above = refl

-- The first n bytes of a well-formed position are well formed.
pub formed_take : (n : ℕ) (p : List ℕ) → WellFormed p → WellFormed (take n p)
formed_take zero p h = formed_nil
formed_take (suc n) [] h = formed_nil
formed_take (suc n) (b ∷ p) h = formed_cons b (take n p) (formed_head b p h) (formed_take n p (formed_tail b p h))

-- What comes after the first n bytes of a well-formed position is well formed.
pub formed_drop : (n : ℕ) (p : List ℕ) → WellFormed p → WellFormed (drop n p)
formed_drop zero p h = h
formed_drop (suc n) [] h = formed_nil
formed_drop (suc n) (b ∷ p) h = formed_drop n p (formed_tail b p h)

-- Two well-formed positions one after the other are well formed.
pub formed_append : (p q : List ℕ) → WellFormed p → WellFormed q → WellFormed (p ++ q)
formed_append [] q hp hq = hq
formed_append (b ∷ p) q hp hq = formed_cons b (p ++ q) (formed_head b p hp) (formed_append p q (formed_tail b p hp) hq)

-- A disc of a well-formed position put on any peg leaves the position well formed.
pub formed_set : (p : List ℕ) (i b : ℕ) → WellFormed p → b < 3 → WellFormed (set p i b)
unfolding well_formed
formed_set p i b h hb = and_set well_formed (λ c. ltb c 3) refl (λ _ _. refl) p i b (lt-ltb b 3 hb) h

-- All discs on one peg is a well-formed position.
pub formed_replicate : (n b : ℕ) → b < 3 → WellFormed (replicate n b)
formed_replicate zero b hb = formed_nil
formed_replicate (suc n) b hb = formed_cons b (replicate n b) hb (formed_replicate n b hb)
