-- The discs of a position taken off its stacks.
use Rattle.std.specs.Prelude.{ℕ, suc, Bool, true, ◌&&◌, List, [], ◌∷◌, eqb, get_or, set}

-- The test that the discs of a position q, disc d + 1 the first of them, can be taken off one by one, each from its peg, where t are the
-- topmost discs and b those beneath.
unfoldable pub taken_off : List ℕ → List ℕ → ℕ → List ℕ → Bool
taken_off t b d [] = true
taken_off t b d (i ∷ q) = eqb (get_or t i 0) (suc d) && taken_off (set t i (get_or b d 0)) b (suc d) q
