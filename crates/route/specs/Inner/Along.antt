-- Where the discs are along a gathering. `p d` is the peg of disc d + 1.
use Rattle.std.specs.Prelude.{ℕ, zero, suc, ◌-◌, ◌^◌, ◌<◌, ◌≡◌, cond, List, eqb, ltb, leb, get_or, Option, Some, None}
use Rattle.board.specs.Peg.{third}
use Rattle.board.specs.Position.{peg}
use Rattle.route.specs.declared.passing.Passed.{Passed}

-- The pegs when r moves of the gathering of discs 1 to k on peg j remain. Disc k, where it is not on j, has not moved while 2 ^ (k − 1)
-- or more remain; after that it is on j, and the smaller ones are a tower that follows it.
unfoldable pub along : (ℕ → ℕ) → ℕ → ℕ → ℕ → ℕ → ℕ
along p zero j r d = p d
along p (suc k) j r d =
    cond (eqb (p k) j) (along p k j r d)
    (cond (leb (2 ^ k) r) (along p k (third j (p k)) (r - 2 ^ k) d)
    (cond (eqb d k) j
    (cond (ltb d k) (along (λ _. third j (p k)) k j r d) (p d))))

-- The bytes of a have the pegs of discs 1 to k when r moves of their gathering on peg j remain.
pub record Along (p : List ℕ) (k j r : ℕ) (a : List ℕ) : Type 0 where
  pub is : (d : ℕ) → d < k → get_or a d 0 ≡ along (peg p) k j r d
  pub pegs : (d : ℕ) → d < k → get_or a d 0 < 3

-- The pegs of a tower on a peg, or those of the position p where there is no tower.
unfoldable pub stacked : List ℕ → Option ℕ → ℕ → ℕ
stacked p (Some t) d = t
stacked p None d = peg p d

-- Where there is a tower, it is on a peg.
abbrev pub IsPeg : Option ℕ → Type 0
IsPeg (Some t) = t < 3
IsPeg None = Unit {0}

-- Disc k + 1 is passed: where it is, and a gathering of the smaller discs that has them where they are.
pub record Passes (p : List ℕ) (k j r : ℕ) (t : Option ℕ) (s : Passed) : Type 0 where
  pub here : along (stacked p t) (suc k) j r k ≡ s.peg
  pub below : (d : ℕ) → d < k → along (stacked p t) (suc k) j r d ≡ along (stacked p s.tower) k s.goal s.rest d
  pub target : s.goal < 3
  pub tower : IsPeg s.tower
