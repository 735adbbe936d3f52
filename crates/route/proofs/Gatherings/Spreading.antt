-- Laws of spreadings, by their largest disc.
use Prim.Native.Nat.{ℕ, zero, suc}
use mathlib.Core.Path.{◌≡◌, ◌∙◌, ap, refl}
use mathlib.Core.List.{List, [], ◌∷◌, ◌++◌, append_assoc}
use Rattle.plan.specs.Inner.Three.{Three}
use Rattle.plan.proofs.Three.{three_swap, three_turn, three_flip}
use Rattle.route.specs.Route.{carry, turned, gathering, backwards, spreading}
use Rattle.route.specs.declared.answer.DiscMove.{DiscMove}
use Rattle.route.proofs.Gatherings.Gathering.{gathering_home, gathering_away}
use Rattle.route.proofs.Gatherings.Backwards.{backwards_append}

-- A list backwards around one of its moves.
backwards_around : (ms : List DiscMove) (m : DiscMove) (ns : List DiscMove)
    → backwards (ms ++ (m ∷ ns)) ≡ backwards ns ++ (turned m ∷ backwards ms)
unfolding backwards
backwards_around ms m ns = backwards_append ms (m ∷ ns) ∙ append_assoc (backwards ns) (turned m ∷ []) (backwards ms)

-- A tower that goes from one peg to another goes back the same way.
pub tower_backwards : (k : ℕ) {x y z : ℕ} → Three x y z → backwards (gathering (λ _. x) k y) ≡ gathering (λ _. y) k x
tower_backwards zero h = unfold gathering backwards in refl
tower_backwards (suc k) {x} {y} {z} h =
    rw (
      gathering_away (λ _. x) k refl h,
      gathering_away (λ _. y) k refl (three_swap h),
      backwards_around (gathering (λ _. x) k z) (carry k x y) (gathering (λ _. z) k y),
      tower_backwards k (three_turn (three_turn (three_swap h))),
      tower_backwards k (three_flip h),
    )

-- No discs need no moves.
pub spreading_none : (q : ℕ → ℕ) (w : ℕ) → spreading q 0 w ≡ []
unfolding spreading gathering backwards
spreading_none q w = refl

-- The largest disc stays where the tower is: only the smaller ones move.
pub spreading_home : (q : ℕ → ℕ) (k : ℕ) {w : ℕ} → q k ≡ w → spreading q (suc k) w ≡ spreading q k w
unfolding spreading
spreading_home q k e = ap backwards (gathering_home q k e)

-- It does not: the smaller ones go as a tower to the third peg, it goes to its goal peg, and they spread from there.
pub spreading_away : (q : ℕ → ℕ) (k : ℕ) {w y z : ℕ} → q k ≡ y → Three w y z
    → spreading q (suc k) w ≡ gathering (λ _. w) k z ++ (carry k w y ∷ spreading q k z)
unfolding spreading
spreading_away q k {w} {y} {z} e h =
    rw (
      gathering_away q k e (three_swap h),
      backwards_around (gathering q k z) (carry k y w) (gathering (λ _. z) k w),
      tower_backwards k (three_turn (three_turn h)),
    )
