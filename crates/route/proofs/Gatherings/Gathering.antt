-- Laws of gatherings as lists of moves, for any number of discs.
use Prim.Native.Nat.{ℕ, zero, suc, ◌+◌, ◌<◌}
use mathlib.Core.Path.{◌≡◌, ◌∙◌, ap, sym, refl}
use mathlib.Core.List.{[], ◌∷◌, ◌++◌}
use mathlib.Core.Logic.{◌≢◌, ⊎_elim, inl, inr}
use native.Mathlib.Decide.{dec_lt}
use native.Mathlib.Omega.{arith}
use borrow.Author.Tests.{eq-eqb, ne_eqb}
use lib.ListN.{length, length-append}
use Rattle.board.specs.Peg.{third}
use Rattle.plan.specs.Gather.{gather}
use Rattle.plan.specs.Inner.Three.{Three}
use Rattle.plan.proofs.Three.{three_third, three_swap, three_turn, three_flip, compare_pegs}
use Rattle.plan.proofs.Gathering.{Pegs, Tower, gather_home, gather_away, gather_shift, gather_tower, gathered_tower}
use Rattle.plan.proofs.Step.{Step, put, put_same, put_other, put_pegs, step_more, step_largest}
use Rattle.route.specs.Route.{carry, gathering}
use Rattle.route.specs.declared.answer.DiscMove.{DiscMove}

-- No discs need no moves.
pub gathering_none : (p : ℕ → ℕ) (j : ℕ) → gathering p 0 j ≡ []
unfolding gathering
gathering_none p j = refl

-- The largest disc is on its target: only the smaller ones move.
pub gathering_home : (p : ℕ → ℕ) (k : ℕ) {j : ℕ} → p k ≡ j → gathering p (suc k) j ≡ gathering p k j
unfolding gathering
gathering_home p k {j} e = rw (e, eq-eqb j j refl)

-- It is not: the smaller ones go to the third peg, it goes to its target, and they follow.
pub gathering_apart : (p : ℕ → ℕ) (k j : ℕ) → p k ≢ j
    → gathering p (suc k) j ≡ gathering p k (third j (p k)) ++ (carry k (p k) j ∷ gathering (λ _. third j (p k)) k j)
unfolding gathering
gathering_apart p k j n = rw (ne_eqb (p k) j n)

-- The same with the pegs named.
pub gathering_away : (p : ℕ → ℕ) (k : ℕ) {i j z : ℕ} → p k ≡ i → Three i j z
    → gathering p (suc k) j ≡ gathering p k z ++ (carry k i j ∷ gathering (λ _. z) k j)
gathering_away p k {i} {j} {z} e h =
    gathering_apart p k j (λ f. h.first_second (sym e ∙ f)) ∙ rw (e, three_third (three_swap h))

-- Only the pegs of the discs that are gathered count.
pub gathering_cong : (k : ℕ) (p q : ℕ → ℕ) (j : ℕ) → ((d : ℕ) → d < k → p d ≡ q d) → gathering p k j ≡ gathering q k j
unfolding gathering
gathering_cong zero p q j h = refl
gathering_cong (suc k) p q j h =
    rw (
      h k (omega arith),
      gathering_cong k p q j (λ d l. h d (omega arith)),
      gathering_cong k p q (third j (q k)) (λ d l. h d (omega arith)),
    )

-- A gathering has as many moves as its length says.
pub gathering_length : (p : ℕ → ℕ) → Pegs p → (k j : ℕ) → j < 3 → length (gathering p k j) ≡ gather p k j
gathering_length p hp zero j hj = unfold gathering gather in refl
gathering_length p hp (suc k) j hj =
    ⊎_elim
    (λ e. ap length (gathering_home p k e) ∙ gathering_length p hp k j hj ∙ sym (gather_home p k e))
    (λ h.
    omega (
      arith,
      ap length (gathering_away p k refl h),
      length-append (gathering p k (third (p k) j)) (carry k (p k) j ∷ gathering (λ _. third (p k) j) k j),
      gathering_length p hp k (third (p k) j) h.third,
      gathering_length (λ _. third (p k) j) (λ _. h.third) k j hj,
      gather_away p k refl h,
      gather_shift (λ _. third (p k) j) k (three_turn (three_flip h)) (λ d l. refl),
    ))
    (compare_pegs (p k) j (hp k) hj)

-- Where nothing is left to gather there is no move.
pub gathering_done : (p : ℕ → ℕ) (k j : ℕ) → Tower p k j → gathering p k j ≡ []
gathering_done p zero j t = gathering_none p j
gathering_done p (suc k) j t = gathering_home p k (t k (omega arith)) ∙ gathering_done p k j (λ d l. t d (omega arith))

-- The move that a step makes, with its disc.
abbrev pub step_carry : {k : ℕ} {p q : ℕ → ℕ} → Step k p q → DiscMove
step_carry {p = p} {q = q} s = carry s.disc (p s.disc) (q s.disc)

-- The first move of a gathering lowers it, and the rest is the gathering of what the move leaves.
pub record GatheringFirst (p : ℕ → ℕ) (k j : ℕ) : Type 0 where
  pub next : ℕ → ℕ
  pub pegs : Pegs next
  pub step : Step k p next
  pub less : gather next k j + 1 ≡ gather p k j
  pub rest : gathering p k j ≡ step_carry step ∷ gathering next k j

-- The largest disc is on its target: the first move is that of the smaller ones.
first_home : (p : ℕ → ℕ) (k j : ℕ) → p k ≡ j → GatheringFirst p k j → GatheringFirst p (suc k) j
first_home p k j e f =
    let e' : f.next k ≡ j = sym (f.step.others k (omega arith)) ∙ e in
    record {
      next = f.next;
      pegs = f.pegs;
      step = step_more f.step;
      less = omega (arith, f.less, gather_home p k e, gather_home f.next k e');
      rest = rw (gathering_home p k e, gathering_home f.next k e') f.rest;
    }

-- It is not, and smaller ones have to go to the third peg: theirs is the first.
first_below : (p : ℕ → ℕ) (k j z : ℕ) → Three (p k) j z → GatheringFirst p k z → GatheringFirst p (suc k) j
first_below p k j z h f =
    let e : f.next k ≡ p k = sym (f.step.others k (omega arith)) in
    record {
      next = f.next;
      pegs = f.pegs;
      step = step_more f.step;
      less = omega (arith, f.less, gather_away p k refl h, gather_away f.next k e h);
      rest = rw (gathering_away p k refl h, gathering_away f.next k e h, f.rest);
    }

-- It is not, and the smaller ones are a tower on the third peg: it goes first.
first_cross : (p : ℕ → ℕ) → Pegs p → (k j z : ℕ) → Three (p k) j z → Tower p k z → GatheringFirst p (suc k) j
first_cross p hp k j z h t =
    let q = put p k j in
    let below : Tower q k z = λ d l. put_other p k j d (omega arith) ∙ t d l in
    record {
      next = q;
      pegs = put_pegs p k j hp h.second;
      step = step_largest p k j z h t;
      less = omega (
        arith,
        gather_home q k (put_same p k j),
        gather_shift q k (three_turn (three_flip h)) below,
        gather_away p k refl h,
        gather_tower p k z t,
      );
      rest = rw (
        gathering_away p k refl h,
        gathering_done p k z t,
        gathering_home q k (put_same p k j),
        put_same p k j,
        gathering_cong k q (λ _. z) j below,
      );
    }

-- Where something is left to gather, the gathering has a first move.
pub gathering_first : (p : ℕ → ℕ) → Pegs p → (k j : ℕ) → j < 3 → 0 < gather p k j → GatheringFirst p k j
gathering_first p hp zero j hj l = absurd (unfold gather in omega arith)
gathering_first p hp (suc k) j hj l =
    elim (compare_pegs (p k) j (hp k) hj) [
      | inl e ↦ first_home p k j e (gathering_first p hp k j hj (omega (arith, gather_home p k e)))
      | inr h ↦ elim (dec_lt 0 (gather p k (third (p k) j))) [
        | yes b ↦ first_below p k j (third (p k) j) h (gathering_first p hp k (third (p k) j) h.third b)
        | no n ↦ first_cross p hp k j (third (p k) j) h (gathered_tower p hp k (third (p k) j) h.third (omega arith))
      ]
    ]
