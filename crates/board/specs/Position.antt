-- A position is a list of n bytes; byte d − 1 holds the peg of disc d (002, Definition 0).
use Rattle.std.specs.Prelude.{ℕ, ◌≡◌, Bool, true, ◌&&◌, List, [], ◌∷◌, ltb, get_or}

-- The peg of disc d + 1.
abbrev pub peg : List ℕ → ℕ → ℕ
peg p d = get_or p d 0

-- The test that all bytes are 0, 1 or 2.
unfoldable pub well_formed : List ℕ → Bool
well_formed [] = true
well_formed (b ∷ p) = ltb b 3 && well_formed p

-- A position is well formed when its bytes are all 0, 1 or 2 (document 01).
abbrev pub WellFormed : List ℕ → Type 0
WellFormed p = well_formed p ≡ true
