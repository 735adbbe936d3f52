-- Laws of the pass over both positions: what one disc does to the sums, that they fit, and what they are at the end.
use Prim.Native.Nat.{ℕ, zero, suc, ◌+◌, ◌*◌, ◌-◌, ◌≤◌, ◌<◌, ◌^◌}
use mathlib.Core.Path.{◌≡◌, ◌∙◌, refl, sym}
use mathlib.Core.Bool.{Bool, true, false, not, cond}
use mathlib.Core.List.{List}
use mathlib.Core.Logic.{◌≢◌}
use native.Mathlib.Nat.{add-mul, mul_assoc, mul_left_comm, mul-le-mul_left, mul-one, one-mul, zero-mul, pow-succ'}
use native.Mathlib.Omega.{arith}
use lib.Dec.{eqb}
use lib.ListN.{length, get_or, set}
use lib.Pow.{pow_pos}
use lib.Seq.{get_or-set_other}
use mir.Val.{bool_byte}
use Rattle.board.specs.Peg.{third}
use Rattle.board.specs.Position.{peg}
use Rattle.board.proofs.Formed.{formed_pegs}
use Rattle.board.proofs.Pegs.{third_peg}
use Rattle.plan.specs.Gather.{gather}
use Rattle.plan.specs.Inner.Sound.{Ends}
use Rattle.plan.specs.Inner.Together.{added, after}
use Rattle.plan.specs.declared.together.Gathers.{Gathers}
use Rattle.plan.proofs.Fits.{gather_fits, shifts}
use Rattle.plan.proofs.Sound.{start_gatherable, goal_gatherable}

-- 1 where disc k is not on its target, else 0, as the code says it.
abbrev pub off : List ℕ → ℕ → ℕ → ℕ
off s k j = bool_byte (not (eqb (peg s (k - 1)) j))

-- The target of the next smaller disc.
abbrev pub next : List ℕ → ℕ → ℕ → ℕ
next s k j = third j (peg s (k - 1))

-- A plan's sum after disc k.
abbrev pub passed : List ℕ → List ℕ → ℕ → ℕ → ℕ → ℕ → ℕ
passed s t k i j sum = 2 * sum + off s k i + off t k j

-- A sum with room for k discs is at most 2 ^ 63 − 2.
pub room_now : (sum k : ℕ) → (sum + 2) * 2 ^ k ≤ 2 ^ 63 → sum + 2 ≤ 2 ^ 63
room_now sum k room = omega (arith, mul-le-mul_left (sum + 2) (pow_pos k), mul-one (sum + 2))

-- A store to the first of two sums keeps the second.
pub second_kept : (sums : List ℕ) (v : ℕ) → get_or (set sums 0 v) 1 0 ≡ get_or sums 1 0
second_kept sums v = get_or-set_other sums 0 1 v 0 (omega arith)

-- A test times a power is the power where the test fails.
byte_times : (on : Bool) (w : ℕ) → bool_byte (not on) * w ≡ cond on 0 w
byte_times true w = zero-mul w
byte_times false w = one-mul w

-- A doubled sum and two tests, times a power.
sum_times : (sum k : ℕ) (on on' : Bool)
    → (2 * sum + bool_byte (not on) + bool_byte (not on')) * 2 ^ k ≡ sum * 2 ^ suc k + (cond on 0 (2 ^ k) + cond on' 0 (2 ^ k))
sum_times sum k on on' =
    rw (pow-succ' 2 k)
    (omega (
      arith,
      add-mul (2 * sum + bool_byte (not on)) (bool_byte (not on')) (2 ^ k),
      add-mul (2 * sum) (bool_byte (not on)) (2 ^ k),
      mul_assoc 2 sum (2 ^ k),
      mul_left_comm sum 2 (2 ^ k),
      byte_times on (2 ^ k),
      byte_times on' (2 ^ k),
    ))

-- What the smaller discs add to the sum after disc k is what all k discs add.
pub added_more : (s t : List ℕ) (k i j sum : ℕ) → k ≢ 0
    → added s t (k - 1) (next s k i) (next t k j) (passed s t k i j sum) ≡ added s t k i j sum
unfolding added gather
added_more s t zero i j sum n = absurd (n refl)
added_more s t (suc k) i j sum n =
    let less : suc k - 1 ≡ k = omega arith in
    rw less (omega (arith, sum_times sum k (eqb (peg s k) i) (eqb (peg t k) j)))

-- Where no disc is left nothing is added.
added_none : (s t : List ℕ) (i j sum : ℕ) → added s t 0 i j sum ≡ sum
unfolding added gather
added_none s t i j sum = omega (arith, mul-one sum)

-- The sum is never more than what it comes to.
added_least : (s t : List ℕ) (k i j sum : ℕ) → sum ≤ added s t k i j sum
unfolding added
added_least s t k i j sum = omega (arith, mul-le-mul_left sum (pow_pos k), mul-one sum)

-- With the k smallest discs left to pass, a plan's sum comes to n in the end.
pub record Passing (s t : List ℕ) (k : ℕ) (g : Gathers) (n : ℕ) : Type 0 where
  pub start_target : g.start < 3
  pub goal_target : g.goal < 3
  pub comes_to : added s t k g.start g.goal g.sum ≡ n
  pub fits : n < 2 ^ 61

-- From 0 it comes to the lengths of the two gathers.
pub passing_first : {s t : List ℕ} {k i j : ℕ} → Ends s t → k < length s → i < 3 → j < 3
    → Passing s t k (record { start = i; goal = j; sum = 0 }) (gather (peg s) k i + gather (peg t) k j)
unfolding added
passing_first {k = k} ends h hi hj =
    record {
      start_target = hi;
      goal_target = hj;
      comes_to = omega (arith, zero-mul (2 ^ k));
      fits = omega (arith, gather_fits (start_gatherable ends h hi), gather_fits (goal_gatherable ends h hj));
    }

module _ {s t : List ℕ} {k n : ℕ} {g : Gathers} (p : Passing s t k g n) where
  -- Disc k is passed.
  pub passing_next : k ≢ 0 → Passing s t (k - 1) (after g (peg s (k - 1)) (peg t (k - 1))) n
  passing_next some =
      record {
        start_target = third_peg g.start _ p.start_target;
        goal_target = third_peg g.goal _ p.goal_target;
        comes_to = added_more s t k g.start g.goal g.sum some ∙ p.comes_to;
        fits = p.fits;
      }

  -- No disc is left.
  pub passing_last : k ≡ 0 → g.sum ≡ n
  passing_last none = sym (added_none s t g.start g.goal g.sum) ∙ rw none at p.comes_to

  -- On the way the sum is at most n, and fits.
  pub passing_fits : g.sum < 2 ^ 61
  passing_fits = omega (arith, added_least s t k g.start g.goal g.sum)

-- What the loop cites.
pub ruleset one_pass = (formed_pegs, shifts, passing_last, passing_fits)
