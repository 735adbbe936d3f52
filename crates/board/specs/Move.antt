-- A move takes the smallest disc of one peg to another peg that is empty or whose smallest disc is larger (002, Definition 1).
use Rattle.std.specs.Prelude.{ℕ, suc, ◌<◌, cond, List, [], ◌∷◌, ◌≢◌, eqb, length, set}

-- A move is given by its from and its to.
pub record Move : Type 0 where
  pub from : ℕ
  pub to : ℕ

-- The place in p of the smallest disc on peg i, or the length of p where the peg is empty.
unfoldable pub top : List ℕ → ℕ → ℕ
top [] i = 0
top (b ∷ p) i = cond (eqb b i) 0 (suc (top p i))

-- The move is legal on p: two different pegs, a disc on the first, and on the second no smaller one.
pub record Legal (p : List ℕ) (m : Move) : Type 0 where
  pub from_peg : m.from < 3
  pub to_peg : m.to < 3
  pub apart : m.from ≢ m.to
  pub there : top p m.from < length p
  pub clear : top p m.from < top p m.to

-- What the move leaves of p.
unfoldable pub moved : List ℕ → Move → List ℕ
moved p m = set p (top p m.from) m.to

-- The list of moves leads from the first position to the second: each move is legal on what those before it leave (document 01).
pub data Leads : List ℕ → List Move → List ℕ → Type 0 where
  done : {p : List ℕ} → Leads p [] p
  next : {p q : List ℕ} {m : Move} {ms : List Move} → Legal p m → Leads (moved p m) ms q → Leads p (m ∷ ms) q
