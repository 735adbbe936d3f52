-- Powers of two, tower lengths and gather lengths as numbers of 64 bits: with at most `limit` discs the lengths are below 2 ^ limit.
use Prim.Native.Nat.{ℕ, zero, suc, ◌+◌, ◌*◌, ◌-◌, ◌≤◌, ◌<◌, ◌^◌, ◌%◌}
use mathlib.Core.Bool.{Bool, true, false, not, cond}
use mathlib.Core.Path.{◌≡◌, ◌∙◌, refl}
use mathlib.Core.List.{List}
use mathlib.Core.Logic.{◌≢◌}
use native.Mathlib.Nat.{add_comm, one-mul, zero-mul}
use native.Mathlib.Omega.{arith}
use lib.Dec.{eqb}
use mir.Val.{bool_byte}
use lib.Pow.{pow_pos, pow_mono, shl_exact}
use Rattle.board.specs.Peg.{third}
use Rattle.board.specs.Position.{peg}
use Rattle.board.specs.Task.{limit}
use Rattle.board.proofs.Formed.{formed_pegs}
use Rattle.board.proofs.Pegs.{third_peg}
use Rattle.plan.specs.Gather.{gather}
use Rattle.plan.specs.Inner.Sound.{Gatherable}
use Rattle.plan.specs.Tower.{tower_length}
use Rattle.plan.proofs.Gathering.{gather_bound}

-- 1 shifted by k places is 2 ^ k: no bit is lost.
pub shl_power : (k : ℕ) → k < 64 → (1 * 2 ^ k) % 2 ^ 64 ≡ 2 ^ k
shl_power k h = shl_exact {a = 1} 1 k 64 (omega arith) (omega arith) ∙ one-mul (2 ^ k)

-- It is at most half of what 64 bits hold.
pub shl_small : (k : ℕ) → k < 64 → (1 * 2 ^ k) % 2 ^ 64 ≤ 2 ^ 63
shl_small k h = rw (shl_power k h) (pow_mono {j = 63} (omega arith))

-- What a shifted 1 is, and how large.
pub ruleset shifts = (shl_power, shl_small, pow_pos)

-- The smaller discs make way for the largest, and it and they follow: a tower's length.
pub tower_halves : (k : ℕ) → k ≢ 0 → 2 ^ (k - 1) - 1 + 2 ^ (k - 1) ≡ tower_length k
tower_halves zero n = absurd (n refl)
tower_halves (suc k) n = let less : suc k - 1 ≡ k = omega arith in rw less (omega (arith, pow_pos k))

-- A tower's length and one more is a power of two.
pub tower_more : (k : ℕ) → tower_length k + 1 ≡ 2 ^ k
tower_more k = omega (arith, pow_pos k)

-- The length of a tower of at most `limit` discs fits.
pub tower_fits : (k : ℕ) → k ≤ limit → tower_length k < 2 ^ limit
tower_fits k h = omega (arith, pow_pos k, pow_mono h)

-- The length of any gathering that may be asked for fits.
pub gather_fits : {p : List ℕ} {k j : ℕ} → Gatherable p k j → gather (peg p) k j < 2 ^ limit
gather_fits {p} {k} {j} g =
    omega (arith, gather_bound (peg p) (formed_pegs p g.formed) k j g.target, pow_mono g.within)

-- Nothing is left to gather.
pub gather_none : (p : ℕ → ℕ) (j : ℕ) → gather p 0 j ≡ 0
unfolding gather
gather_none p j = refl

-- The test of a disc, shifted to its place: 0 on its target, else its power of two.
shifted : (on : Bool) (k : ℕ) → k < 64 → (bool_byte (not on) * 2 ^ k) % 2 ^ 64 ≡ cond on 0 (2 ^ k)
shifted true k l = shl_exact {a = 0} 1 k 64 (omega arith) (omega arith) ∙ zero-mul (2 ^ k)
shifted false k l = shl_power k l

-- It fits beside any gather length.
pub shifted_fits : (on : Bool) (k : ℕ) → k ≤ limit → (bool_byte (not on) * 2 ^ k) % 2 ^ 64 ≤ 2 ^ limit
shifted_fits true k l = rw (shifted true k (omega arith)) (omega arith)
shifted_fits false k l = rw (shifted false k (omega arith)) (pow_mono l)

-- Disc k adds its share, and the smaller ones go to the third peg.
pub gather_more : (p : ℕ → ℕ) (k j : ℕ) → k ≢ 0 → k ≤ limit
    → gather p (k - 1) (third j (p (k - 1))) + (bool_byte (not (eqb (p (k - 1)) j)) * 2 ^ (k - 1)) % 2 ^ 64 ≡ gather p k j
unfolding gather
gather_more p zero j n l = absurd (n refl)
gather_more p (suc k) j n l =
    let less : suc k - 1 ≡ k = omega arith in rw (less, shifted (eqb (p k) j) k (omega arith)) (add_comm _ _)

-- The smaller discs can be gathered on the third peg.
pub next_gatherable : {p : List ℕ} {k j : ℕ} → Gatherable p k j → k ≢ 0 → Gatherable p (k - 1) (third j (peg p (k - 1)))
next_gatherable {p} {k} {j} g n =
    record {
      there = omega (arith, g.there);
      within = omega (arith, g.within);
      formed = g.formed;
      target = third_peg j (peg p (k - 1)) g.target;
    }

-- What the recursion of `gather_discs` cites.
pub ruleset gather_steps = (formed_pegs, gather_none, gather_fits, shifted_fits, next_gatherable)
