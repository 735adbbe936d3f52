-- The first move of a gathering, by its largest disc: `m` is the first move of what follows the gathering.
use Prim.Native.Nat.{ℕ, zero, suc, ◌+◌, ◌-◌}
use mathlib.Core.Path.{◌≡◌, refl}
use mathlib.Core.Logic.{◌≢◌}
use mathlib.Core.List.{List, [], ◌∷◌, ◌++◌}
use native.Mathlib.Numerals.{add-one}
use native.Mathlib.Omega.{arith}
use lib.ListN.{get_or}
use Rattle.board.specs.Peg.{third}
use Rattle.board.proofs.Formed.{formed_pegs}
use Rattle.board.proofs.Pegs.{third_peg, third_same}
use Rattle.route.specs.Route.{carry, gathering}
use Rattle.route.specs.declared.answer.DiscMove.{DiscMove}
use Rattle.route.proofs.Gatherings.Gathering.{gathering_home, gathering_apart}

-- The first move of two lists is that of the first, or of the second where the first is empty.
pub first_append : (ms : List DiscMove) (n : DiscMove) (ns : List DiscMove) (m : DiscMove) → get_or (ms ++ (n ∷ ns)) 0 m ≡ get_or ms 0 n
first_append [] n ns m = refl
first_append (l ∷ ms) n ns m = refl

-- Where the largest disc is on its target, the smaller ones have the first move.
pub gathering_first_home : (p : ℕ → ℕ) (k j : ℕ) (m : DiscMove) → p k ≡ j
    → get_or (gathering p (suc k) j) 0 m ≡ get_or (gathering p k j) 0 m
gathering_first_home p k j m e = rw (gathering_home p k e)

-- Where it is not, the smaller ones have it on their way to the third peg, or the largest disc where they are there already.
pub gathering_first_away : (p : ℕ → ℕ) (k j : ℕ) (m : DiscMove) → p k ≢ j
    → get_or (gathering p (suc k) j) 0 m ≡ get_or (gathering p k (third j (p k))) 0 (carry k (p k) j)
gathering_first_away p k j m n = rw (gathering_apart p k j n) (first_append (gathering p k (third j (p k))) _ _ m)

-- Of no discs the first move is the one that is given.
pub first_none : (p : ℕ → ℕ) (k j : ℕ) (m : DiscMove) → k ≡ 0 → get_or (gathering p k j) 0 m ≡ m
unfolding gathering
first_none p k j m e = rw e refl

-- The two cases of disc k.
pub first_home : (p : ℕ → ℕ) (k j : ℕ) (m : DiscMove) → k ≢ 0 → p (k - 1) ≡ j → get_or (gathering p k j) 0 m ≡ get_or (gathering p (k - 1) j) 0 m
first_home p zero j m some e = absurd (some refl)
first_home p (suc k) j m some e = let less : suc k - 1 ≡ k = omega arith in rw less (gathering_first_home p k j m (rw less at e))

pub first_away : (p : ℕ → ℕ) (k j : ℕ) (m : DiscMove) → k ≢ 0 → p (k - 1) ≢ j
    → get_or (gathering p k j) 0 m ≡ get_or (gathering p (k - 1) (third j (p (k - 1)))) 0 (record { disc = k - 1 + 1; from = p (k - 1); to = j })
first_away p zero j m some n = absurd (some refl)
first_away p (suc k) j m some n =
    let less : suc k - 1 ≡ k = omega arith in rw (less, add-one) (gathering_first_away p k j m (rw less at n))

-- The first move, from the largest disc downwards.
pub ruleset first_steps = (formed_pegs, third_peg, third_same, first_none, first_home, first_away)
