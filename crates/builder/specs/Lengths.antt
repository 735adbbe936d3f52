-- The gather lengths of a position for the three pegs, and what the largest disc has to do with them (02, CR 9; 002, Theorem 3).
use Rattle.std.specs.Prelude.{ℕ, ◌+◌, ◌-◌, ◌^◌, cond, List, [], ◌∷◌, eqb, length, get_or}
use Rattle.board.specs.Peg.{third}
use Rattle.board.specs.Position.{peg}
use Rattle.plan.specs.Gather.{gather}

-- A number for each of pegs 0, 1 and 2.
abbrev pub each_peg : (ℕ → ℕ) → List ℕ
each_peg f = f 0 ∷ f 1 ∷ f 2 ∷ []

-- The three lengths of a position, by Gather's rule.
unfoldable pub gathers : List ℕ → List ℕ
gathers p = each_peg (gather (peg p) (length p))

-- What disc d + 1 on peg j adds to the length for target i: 0 if i = j, else 2 ^ d.
abbrev pub share : ℕ → ℕ → ℕ → ℕ
share d j i = cond (eqb j i) 0 (2 ^ d)

-- The lengths l of d discs, once disc d + 1 is on peg j: for target i the disc's share and what is held for i∘j.
unfoldable pub lengths_with : List ℕ → ℕ → ℕ → List ℕ
lengths_with l d j = each_peg (λ i. share d j i + get_or l (third i j) 0)

-- The same read backwards: from lengths l that have disc d + 1, on peg j, among them.
unfoldable pub lengths_without : List ℕ → ℕ → ℕ → List ℕ
lengths_without l d j = each_peg (λ i. get_or l (third i j) 0 - share d j i)
