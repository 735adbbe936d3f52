-- The gaps between moves of larger discs, from disc to disc: they grow to the length of the route less one, and so fit 64 bits.
use Prim.Native.Nat.{ℕ, suc, ◌+◌, ◌-◌, ◌≤◌, ◌<◌, ◌^◌}
use mathlib.Core.Bool.{Bool, true, false, not, cond, true≢false, false≢true}
use mathlib.Core.List.{List}
use mathlib.Core.Logic.{◌≢◌}
use mathlib.Core.Path.{◌≡◌, ◌∙◌, refl, sym}
use native.Mathlib.Nat.{mul-le-mul_left, mul-le-mul_right, mul-one, one-mul, zero-mul}
use native.Mathlib.Omega.{arith}
use lib.Dec.{eqb}
use lib.Pow.{pow_pos}
use mir.Val.{bool_byte}
use Rattle.board.specs.Peg.{third}
use Rattle.board.specs.Position.{peg}
use Rattle.plan.specs.Inner.Sound.{Ends}
use Rattle.plan.specs.Inner.Together.{added}
use Rattle.plan.specs.Plan.{direct, detour, plan_of, shortest}
use Rattle.plan.specs.declared.answer.Plan.{Plan}
use Rattle.plan.proofs.OnePass.{passed, added_more}
use Rattle.plan.proofs.Sound.{ends_fit}
use Rattle.route.specs.Inner.Stage.{is_detour}
use Rattle.wear.specs.Inner.Below.{off_target, moves_of}
use Rattle.wear.proofs.Routes.{rests, once, twice, route_view}

-- A test as the code counts it.
byte_off : (i j : ℕ) → bool_byte (not (eqb i j)) ≡ off_target i j
byte_off i j = by (eqb i j)
  where
    by : (b : Bool) → bool_byte (not b) ≡ cond b 0 1
    by true = refl
    by false = refl

-- So a disc's moves.
pub moves_counted : (p q : ℕ → ℕ) (k i j gaps : ℕ)
    → bool_byte (not (eqb (p k) i)) + bool_byte (not (eqb (q k) j)) + gaps ≡ moves_of p q k i j gaps
moves_counted p q k i j gaps = omega (arith, byte_off (p k) i, byte_off (q k) j)

-- The gaps after disc m come to what those before it come to in the end.
pub gaps_more : (s t : List ℕ) (m i j gaps : ℕ) → m ≢ 0
    → added s t (m - 1) (third i (peg s (m - 1))) (third j (peg t (m - 1))) (gaps + moves_of (peg s) (peg t) (m - 1) i j gaps) ≡ added s t m i j gaps
gaps_more s t m i j gaps n =
    let same : gaps + moves_of (peg s) (peg t) (m - 1) i j gaps ≡ passed s t m i j gaps =
    omega (arith, byte_off (peg s (m - 1)) i, byte_off (peg t (m - 1)) j) in
    rw same (added_more s t m i j gaps n)

-- They never fall.
pub gaps_least : (s t : List ℕ) (k i j gaps : ℕ) → gaps ≤ added s t k i j gaps
unfolding added
gaps_least s t k i j gaps = omega (arith, mul-le-mul_left gaps (pow_pos k), mul-one gaps)

module _ (s t : List ℕ) {w : Plan} (plan : w ≡ plan_of s t) (r : ℕ) (moves : 0 < w.largest) where
  -- On a detour there is one gap at first, and in the end one less than there are moves.
  detour_gaps : is_detour w.way r ≡ true → added s t (w.largest - 1) w.to w.from 1 + 1 ≡ shortest w
  unfolding added detour
  detour_gaps around =
      elim (route_view s t plan r) [
        | rests no-disc e ↦ absurd (omega arith)
        | once k x d c e long ↦ absurd (true≢false (sym around ∙ d))
        | twice k x d c e long ↦
            let less : suc k - 1 ≡ k = omega arith in rw (long, x.disc, x.from, x.to, less) (omega (arith, one-mul (2 ^ k)))
      ]

  -- On a direct route there is none at first.
  direct_gaps : is_detour w.way r ≡ false → {z : ℕ} → z ≡ third w.from w.to → added s t (w.largest - 1) z z 0 + 1 ≡ shortest w
  unfolding added direct
  direct_gaps straight free =
      elim (route_view s t plan r) [
        | rests no-disc e ↦ absurd (omega arith)
        | once k x d c e long ↦
            let less : suc k - 1 ≡ k = omega arith in rw (free, long, x.disc, x.from, x.to, less) (omega (arith, zero-mul (2 ^ k)))
        | twice k x d c e long ↦ absurd (false≢true (sym straight ∙ d))
      ]

  module _ (ends : Ends s t) where
    -- So they fit, as the length does.
    length_fits : shortest w < 2 ^ 64
    length_fits = rw plan (omega (arith, ends_fit ends))

    pub detour_fits : is_detour w.way r ≡ true → {gaps : ℕ} → gaps ≤ 1 → added s t (w.largest - 1) w.to w.from gaps < 2 ^ 64
    unfolding added
    detour_fits around few = omega (arith, detour_gaps around, length_fits, mul-le-mul_right (2 ^ (w.largest - 1)) few)

    pub direct_fits : is_detour w.way r ≡ false → {z : ℕ} → z ≡ third w.from w.to → added s t (w.largest - 1) z z 0 < 2 ^ 64
    direct_fits straight e = omega (arith, direct_gaps straight e, length_fits)
