-- Document 01's report in full, computed from the definitions.
use mathlib.Core.Path.{◌≡◌, refl}
use mathlib.Core.List.{List, [], ◌∷◌, ◌++◌}
use Prim.Native.Nat.{ℕ}
use Prim.Native.Char.{code}
use Rattle.board.specs.Peg.{third}
use Rattle.board.specs.Position.{well_formed}
use Rattle.plan.specs.Gather.{gather}
use Rattle.plan.specs.Plan.{largest, direct, detour, way_of, plan_by, plan_of}
use Rattle.route.specs.Route.{gathering, backwards, spreading, direct_route, detour_route, route_by, route_of}
use Rattle.text.specs.Input.{space, further_text, line_text}
use Rattle.text.specs.Reading.{is_digit, follow, follow_all, lines, is_text, digits, line_end, start_in, goal_in}
use Rattle.text.specs.Decimal.{decimal_by, decimal}
use Rattle.text.specs.Report.{line, discs_label, direct_label, detour_label, shortest_label, routes_label, moves_text, route_text, route_lines, head_text, report_text}
use Rattle.text.specs.Answer.{text_answer, answer_text}

-- The input [1, 0] and [0, 1].
pub input : List ℕ
input = line_text (1 ∷ 0 ∷ []) ++ line_text (0 ∷ 1 ∷ [])

-- A move in the report: a space and two letters.
abbrev pub step : ℕ → ℕ → List ℕ
step from to = space ∷ from ∷ to ∷ []

-- What document 01 prints for it.
pub report : List ℕ
report =
    line discs_label (code "2" ∷ [])
    ++ line direct_label (code "3" ∷ [])
    ++ line detour_label (code "3" ∷ [])
    ++ line shortest_label (code "3" ∷ [])
    ++ line routes_label (code "2" ∷ [])
    ++ line (code "0" ∷ []) (step (code "B") (code "C") ++ step (code "A") (code "B") ++ step (code "C") (code "A"))
    ++ line (code "1" ∷ []) (step (code "A") (code "C") ++ step (code "B") (code "A") ++ step (code "C") (code "B"))

-- The rules print it.
pub in_full : answer_text input ≡ report
unfolding input report third well_formed gather largest direct detour way_of plan_by plan_of gathering backwards spreading direct_route detour_route route_by route_of further_text line_text is_digit follow follow_all lines is_text digits line_end start_in goal_in decimal_by decimal moves_text route_text route_lines head_text report_text text_answer answer_text
in_full = refl
