-- The report of a task (document 01, "One report in full"), line by line.
use Rattle.std.specs.Prelude.{ℕ, zero, suc, cond, List, [], ◌∷◌, ◌++◌, ltb, length}
use Prim.Native.Char.{code}
use Rattle.plan.specs.Plan.{plan_of, shortest, routes}
use Rattle.plan.specs.declared.answer.Plan.{Plan}
use Rattle.plan.specs.declared.answer.Way.{Way}
use Rattle.plan.specs.declared.answer.Way.TheVariants.{Still, Direct, Detour, Tie}
use Rattle.route.specs.Answer.{letter}
use Rattle.route.specs.Route.{route_of}
use Rattle.route.specs.declared.answer.DiscMove.{DiscMove}
use Rattle.text.specs.Input.{newline, space}
use Rattle.text.specs.Decimal.{decimal}

-- The words that begin the lines.
abbrev pub discs_label : List ℕ
discs_label = code "d" ∷ code "i" ∷ code "s" ∷ code "c" ∷ code "s" ∷ space ∷ []

abbrev pub direct_label : List ℕ
direct_label = code "d" ∷ code "i" ∷ code "r" ∷ code "e" ∷ code "c" ∷ code "t" ∷ space ∷ []

abbrev pub detour_label : List ℕ
detour_label = code "d" ∷ code "e" ∷ code "t" ∷ code "o" ∷ code "u" ∷ code "r" ∷ space ∷ []

abbrev pub shortest_label : List ℕ
shortest_label =
    code "s" ∷ code "h" ∷ code "o" ∷ code "r" ∷ code "t" ∷ code "e" ∷ code "s" ∷ code "t" ∷ space ∷ []

abbrev pub routes_label : List ℕ
routes_label = code "r" ∷ code "o" ∷ code "u" ∷ code "t" ∷ code "e" ∷ code "s" ∷ space ∷ []

-- What stands for the length of a plan that there is not, and for a route that is too long to print.
abbrev pub dash : List ℕ
dash = code "-" ∷ []

abbrev pub long_word : List ℕ
long_word = space ∷ code "l" ∷ code "o" ∷ code "n" ∷ code "g" ∷ []

-- A line: a word, what is said, byte 10.
abbrev pub line : List ℕ → List ℕ → List ℕ
line w t = w ++ (t ++ (newline ∷ []))

-- The two plan lengths; still has none.
abbrev pub direct_text : Way → List ℕ
direct_text Still = dash
direct_text (Direct l) = decimal l.direct
direct_text (Detour l) = decimal l.direct
direct_text (Tie l) = decimal l.direct

abbrev pub detour_text : Way → List ℕ
detour_text Still = dash
detour_text (Direct l) = decimal l.detour
detour_text (Detour l) = decimal l.detour
detour_text (Tie l) = decimal l.detour

-- Their lines.
abbrev pub length_lines : Way → List ℕ
length_lines w = line direct_label (direct_text w) ++ line detour_label (detour_text w)

-- Moves, each a space and two letters.
unfoldable pub moves_text : List DiscMove → List ℕ
moves_text [] = []
moves_text (m ∷ ms) = space ∷ letter m.from ∷ letter m.to ∷ moves_text ms

-- The most moves of a route that is printed.
abbrev pub most_moves : ℕ
most_moves = 1000

-- A route's moves, or the word long where there are more; nothing for one of no moves.
unfoldable pub route_text : List DiscMove → List ℕ
route_text ms = cond (ltb most_moves (length ms)) long_word (moves_text ms)

-- The line of a route: its number, and that.
abbrev pub route_line : ℕ → List DiscMove → List ℕ
route_line k ms = line (decimal k) (route_text ms)

-- The lines of the routes below k.
unfoldable pub route_lines : List ℕ → List ℕ → ℕ → List ℕ
route_lines s t zero = []
route_lines s t (suc k) = route_lines s t k ++ route_line k (route_of s t k)

-- The lines above the routes: n; the two plan lengths; the fewest; how many shortest routes.
unfoldable pub head_text : Plan → List ℕ
head_text p =
    line discs_label (decimal p.discs)
    ++ (length_lines p.way
    ++ (line shortest_label (decimal (shortest p))
    ++ line routes_label (decimal (routes p))))

-- The report of the task from s to t.
unfoldable pub report_text : List ℕ → List ℕ → List ℕ
report_text s t = head_text (plan_of s t) ++ route_lines s t (routes (plan_of s t))
