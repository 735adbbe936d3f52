-- The wear of a disc (02, CR 6).
use Rattle.std.specs.Prelude.{ℕ, zero, suc, ◌+◌, cond, List, [], ◌∷◌, ◌++◌, eqb}
use Rattle.board.specs.Task.{discs}
use Rattle.route.specs.Answer.{task_route}
use Rattle.route.specs.declared.answer.DiscMove.{DiscMove}

-- How many moves of a list are moves of disc d.
unfoldable pub wear : ℕ → List DiscMove → ℕ
wear d [] = 0
wear d (m ∷ ms) = cond (eqb m.disc d) 1 0 + wear d ms

-- The wears of discs 1 to n, in that order.
unfoldable pub wears : ℕ → List DiscMove → List ℕ
wears zero ms = []
wears (suc n) ms = wears n ms ++ (wear (suc n) ms ∷ [])

-- Those of all discs of a task on its route r.
abbrev pub wears_of : List ℕ → ℕ → List ℕ
wears_of t r = wears (discs t) (task_route t r)
