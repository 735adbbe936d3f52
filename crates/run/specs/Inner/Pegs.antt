-- A position as the topmost disc of each peg and the disc beneath each disc, n + 1 for none (001, section 1).
use Rattle.std.specs.Prelude.{ℕ, suc, ◌+◌, ◌-◌, ◌≤◌, ◌<◌, ◌≡◌, List, length, get_or, drop, set}
use Rattle.board.specs.Position.{peg}
use Rattle.board.specs.Move.{top}
use Rattle.board.specs.Task.{limit}
use Rattle.run.specs.declared.pegs.Pegs.{Pegs}

-- The place in p of the disc beneath disc d + 1, or the length of p where there is none.
unfoldable pub beneath : List ℕ → ℕ → ℕ
beneath p d = suc d + top (drop (suc d) p) (peg p d)

-- The arrays hold the position p.
pub record Holds (a : Pegs) (p : List ℕ) : Type 0 where
  pub tops : (i : ℕ) → i < 3 → get_or a.top i 0 ≡ suc (top p i)
  pub beneaths : (d : ℕ) → d < length p → get_or a.beneath d 0 ≡ suc (beneath p d)

-- The number of the topmost disc of a peg, of the topmost discs t.
abbrev pub disc_on : List ℕ → ℕ → ℕ
disc_on t i = get_or t i 0

-- Of the topmost discs t, peg i has a disc to carry.
abbrev pub Carries : List ℕ → ℕ → Type 0
Carries t i = (0 < disc_on t i) × (disc_on t i ≤ limit)

-- The arrays after the topmost disc of peg i has gone to peg j.
abbrev pub shifted : Pegs → ℕ → ℕ → Pegs
shifted a i j =
    record {
      top = set (set a.top i (get_or a.beneath (get_or a.top i 0 - 1) 0)) j (get_or a.top i 0);
      beneath = set a.beneath (get_or a.top i 0 - 1) (get_or a.top j 0);
    }
