-- No two positions are further apart than 2 ^ n − 1, and every number of a plan fits 64 bits.
use Prim.Native.Nat.{ℕ, zero, suc, ◌-◌, ◌*◌, ◌≤◌, ◌<◌, ◌^◌}
use mathlib.Core.Path.{◌≡◌}
use mathlib.Core.List.{List}
use native.Mathlib.Decide.{dec_lt}
use native.Mathlib.Omega.{arith}
use borrow.Author.Tests.{lt-ltb, le-ltb}
use lib.ListN.{length}
use lib.Pow.{pow_mono}
use Rattle.board.specs.Peg.{third}
use Rattle.board.specs.Position.{peg, WellFormed}
use Rattle.board.specs.Fewest.{fewest}
use Rattle.board.specs.Task.{limit}
use Rattle.board.proofs.Formed.{formed_pegs}
use Rattle.board.proofs.Pegs.{third_peg}
use Rattle.plan.specs.Plan.{direct, detour, largest, lengths_of, way_of, plan_by, plan_of}
use Rattle.plan.specs.declared.answer.Lengths.{Lengths}
use Rattle.plan.specs.declared.answer.Plan.{Plan}
use Rattle.plan.specs.declared.answer.Way.{Way}
use Rattle.plan.specs.declared.answer.Way.TheVariants.{Still, Direct, Detour, Tie}
use Rattle.plan.proofs.Gathering.{Pegs, gather_bound}
use Rattle.plan.proofs.Largest.{largest_le}
use Rattle.plan.proofs.Optimal.{fewest_shortest, shortest_bound}

-- No two positions of one size are further apart than 2 ^ n − 1 (002, Theorem 1).
pub fewest_bound : (p q : List ℕ) → length p ≡ length q → WellFormed p → WellFormed q → fewest p q ≤ 2 ^ length p - 1
fewest_bound p q same hp hq = omega (arith, fewest_shortest p q same hp hq, shortest_bound p q same hp hq)

-- The one-move plan of disc k + 1 takes fewer than 2 ^ (k + 1) moves.
pub direct_bound : (p q : ℕ → ℕ) → Pegs p → Pegs q → (k : ℕ) → direct p q k < 2 * 2 ^ k
unfolding direct
direct_bound p q hp hq k =
    let h = third_peg (p k) (q k) (hp k) in
    omega (arith, gather_bound p hp k (third (p k) (q k)) h, gather_bound q hq k (third (p k) (q k)) h)

-- The two-move plan takes fewer than three times 2 ^ k.
pub detour_bound : (p q : ℕ → ℕ) → Pegs p → Pegs q → (k : ℕ) → detour p q k < 3 * 2 ^ k
unfolding detour
detour_bound p q hp hq k = omega (arith, gather_bound p hp k (q k) (hq k), gather_bound q hq k (p k) (hp k))

-- Both lengths fit 64 bits.
pub record LengthsFit (l : Lengths) : Type 0 where
  pub direct_fits : l.direct < 2 ^ 64
  pub detour_fits : l.detour < 2 ^ 64

-- All numbers of a plan fit: its discs, its pegs, and both lengths of its way.
abbrev pub WayFits : Way → Type 0
WayFits Still = Unit {0}
WayFits (Direct l) = LengthsFit l
WayFits (Detour l) = LengthsFit l
WayFits (Tie l) = LengthsFit l

pub record PlanFits (r : Plan) : Type 0 where
  pub discs_fit : r.discs < 2 ^ 64
  pub largest_fits : r.largest < 2 ^ 64
  pub from_fits : r.from < 3
  pub to_fits : r.to < 3
  pub way_fits : WayFits r.way

-- A way holds the lengths that it is chosen from.
way_fits : (l : Lengths) → LengthsFit l → WayFits (way_of l)
unfolding way_of
way_fits l h =
    elim (dec_lt l.direct l.detour) [
      | yes a ↦ rw (lt-ltb l.direct l.detour a) h
      | no n ↦
          elim (dec_lt l.detour l.direct) [
            | yes b ↦ rw (le-ltb l.direct l.detour (omega arith), lt-ltb l.detour l.direct b) h
            | no m ↦ rw (le-ltb l.direct l.detour (omega arith), le-ltb l.detour l.direct (omega arith)) h
          ]
    ]

-- The plan of a largest moving disc m up to the limit fits.
plan_by_fits : (n m : ℕ) (p q : ℕ → ℕ) → Pegs p → Pegs q → n ≤ limit → m ≤ n → PlanFits (plan_by n p q m)
unfolding plan_by
plan_by_fits n zero p q hp hq hn hm =
    record { discs_fit = omega arith; largest_fits = omega arith; from_fits = omega arith; to_fits = omega arith; way_fits = tt }
plan_by_fits n (suc k) p q hp hq hn hm =
    let power = pow_mono {i = k} {j = limit} (omega arith) in
    record {
      discs_fit = omega arith;
      largest_fits = omega arith;
      from_fits = hp k;
      to_fits = hq k;
      way_fits =
          way_fits (lengths_of p q k)
          (record { direct_fits = omega (arith, direct_bound p q hp hq k); detour_fits = omega (arith, detour_bound p q hp hq k) });
    }

-- Every number of a plan of at most `limit` discs fits 64 bits.
pub plan_fits : (p q : List ℕ) → WellFormed p → WellFormed q → length p ≤ limit → PlanFits (plan_of p q)
unfolding plan_of
plan_fits p q hp hq h =
    plan_by_fits (length p) (largest (peg p) (peg q) (length p)) (peg p) (peg q) (formed_pegs p hp) (formed_pegs q hq) h
    (largest_le (peg p) (peg q) (length p))
