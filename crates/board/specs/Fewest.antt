-- The fewest moves between two positions, by lists of legal moves alone (document 01, "The board in figures").
use Rattle.std.specs.Prelude.{ℕ, zero, suc, ◌≤◌, ◌^◌, ◌≡◌, Bool, true, false, not, ◌&&◌, ◌||◌, List, [], ◌∷◌, eqb, ltb, length}
use Rattle.board.specs.Move.{Move, Leads, top, moved}

-- k is the fewest from p to q: some list of k moves leads there, and every list that does has at least k.
pub record Fewest (p q : List ℕ) (k : ℕ) : Type 0 where
  pub some : (ms : List Move) × Leads p ms q × (length ms ≡ k)
  pub least : (ms : List Move) → Leads p ms q → k ≤ length ms

-- The same number as a function, found by search. The law `fewest_is` (crate plan, proofs/Optimal) says that the search is right.

-- The test that two positions are the same.
unfoldable pub same : List ℕ → List ℕ → Bool
same [] [] = true
same [] (c ∷ q) = false
same (b ∷ p) [] = false
same (b ∷ p) (c ∷ q) = eqb b c && same p q

-- The test that a move between two pegs is legal.
unfoldable pub legal : List ℕ → Move → Bool
legal p m = not (eqb m.from m.to) && (ltb (top p m.from) (length p) && ltb (top p m.from) (top p m.to))

-- The test f passes at some peg.
unfoldable pub any_peg : (ℕ → Bool) → Bool
any_peg f = f 0 || (f 1 || f 2)

-- The test that some list of exactly k moves leads from p to q.
unfoldable pub reaches : ℕ → List ℕ → List ℕ → Bool
reaches zero p q = same p q
reaches (suc k) p q =
    any_peg (λ i. any_peg (λ j. legal p (record { from = i; to = j }) && reaches k (moved p (record { from = i; to = j })) q))

-- The first of k, k + 1, .. at which the test passes, of as many numbers as the first argument says.
unfoldable pub first : ℕ → (ℕ → Bool) → ℕ → ℕ
first zero f k = k
first (suc fuel) f k = elim (f k) [ true ↦ k | false ↦ first fuel f (suc k) ]

-- fewest(p, q): the least k for which some list of k legal moves leads from p to q. A shortest list passes no position twice,
-- and there are 3 ^ n positions.
unfoldable pub fewest : List ℕ → List ℕ → ℕ
fewest p q = first (3 ^ length p) (λ k. reaches k p q) 0
