-- Lists of moves run backwards.
use Prim.Native.Nat.{ℕ, ◌<◌}
use mathlib.Core.Path.{◌≡◌, ◌∙◌, ap, sym, refl}
use mathlib.Core.List.{List, [], ◌∷◌, ◌++◌, append_assoc, append-nil}
use native.Mathlib.Omega.{arith}
use lib.ListN.{length, length-append}
use Rattle.plan.specs.Gather.{gather}
use Rattle.plan.proofs.Gathering.{Pegs}
use Rattle.route.specs.Route.{turned, gathering, backwards, spreading}
use Rattle.route.specs.declared.answer.DiscMove.{DiscMove}
use Rattle.route.proofs.Gatherings.Gathering.{gathering_length}

-- Backwards there are as many moves.
pub backwards_length : (ms : List DiscMove) → length (backwards ms) ≡ length ms
unfolding backwards
backwards_length [] = refl
backwards_length (m ∷ ms) = omega (arith, length-append (backwards ms) (turned m ∷ []), backwards_length ms)

-- The last part comes first.
pub backwards_append : (ms ns : List DiscMove) → backwards (ms ++ ns) ≡ backwards ns ++ backwards ms
unfolding backwards
backwards_append [] ns = sym (append-nil (backwards ns))
backwards_append (m ∷ ms) ns =
    ap (λ (l : List DiscMove). l ++ (turned m ∷ [])) (backwards_append ms ns) ∙ append_assoc (backwards ns) (backwards ms) (turned m ∷ [])

-- Backwards twice is forwards.
pub backwards_twice : (ms : List DiscMove) → backwards (backwards ms) ≡ ms
unfolding backwards
backwards_twice [] = refl
backwards_twice (m ∷ ms) = backwards_append (backwards ms) (turned m ∷ []) ∙ ap (λ (l : List DiscMove). m ∷ l) (backwards_twice ms)

-- A spreading has as many moves as the gathering.
pub spreading_length : (q : ℕ → ℕ) → Pegs q → (k j : ℕ) → j < 3 → length (spreading q k j) ≡ gather q k j
unfolding spreading
spreading_length q hq k j hj = backwards_length (gathering q k j) ∙ gathering_length q hq k j hj
