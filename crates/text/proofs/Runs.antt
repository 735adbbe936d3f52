-- What Run writes of a whole route, put with spaces, is the route's text.
use Prim.Native.Nat.{ℕ, suc, ◌*◌, ◌+◌, ◌-◌, ◌/◌, ◌≤◌, ◌<◌, min}
use mathlib.Core.Path.{◌≡◌, ◌∙◌, ap, refl, sym}
use mathlib.Core.List.{List, [], ◌∷◌, ◌++◌, append-nil, append_assoc}
use mathlib.Core.Logic.{⊎_elim}
use native.Mathlib.Omega.{arith}
use borrow.Author.Tests.{lt-ltb, le-ltb}
use lib.ListN.{length, take}
use lib.Seq.{take_at, take_all}
use Rattle.board.specs.Reply.{answer, pass}
use Rattle.board.specs.Task.{task_check}
use Rattle.plan.specs.Plan.{plan_of, routes}
use Rattle.route.proofs.Shortest.Distinct.{routes_count}
use Rattle.route.specs.Answer.{length_of, count_of, task_route, run_answer, run_writes, letters}
use Rattle.route.specs.Route.{route_of}
use Rattle.route.specs.declared.answer.DiscMove.{DiscMove}
use Rattle.route.proofs.Calls.Answers.{route_length, run_accepts, run_answered}
use Rattle.route.proofs.Calls.Letters.{letters_length}
use Rattle.route.proofs.Calls.Opened.{accepted_routed}
use Rattle.text.specs.Inner.Page.{spaced}
use Rattle.text.specs.Report.{moves_text, most_moves, long_word, route_text, route_line, route_lines}

-- The letters of moves, with a space before each two, are their text.
spaced_letters : (ms : List DiscMove) → spaced (letters ms) ≡ moves_text ms
unfolding spaced letters moves_text
spaced_letters [] = refl
spaced_letters (m ∷ ms) = rw (spaced_letters ms)

-- A route has as many moves as the plan says.
pub long : (t : List ℕ) (r : ℕ) → task_check t ≡ pass → r < count_of t → length (task_route t r) ≡ length_of t
long t r accepted known = route_length t r (accepted_routed t accepted r known)

-- The text of a route of more than 1,000 moves is the word long ...
pub long_route : (t : List ℕ) (r : ℕ) → task_check t ≡ pass → r < count_of t → most_moves < length_of t → route_text (task_route t r) ≡ long_word
unfolding route_text
long_route t r accepted known above =
    rw (lt-ltb most_moves (length (task_route t r)) (omega (arith, long t r accepted known)))

-- ... and that of a shorter one its moves.
short_route : (t : List ℕ) (r : ℕ) → task_check t ≡ pass → r < count_of t → length_of t ≤ most_moves → route_text (task_route t r) ≡ moves_text (task_route t r)
unfolding route_text
short_route t r accepted known few =
    rw (le-ltb most_moves (length (task_route t r)) (omega (arith, long t r accepted known)))

-- Into 2,000 bytes Run writes the whole of such a route ...
pub run_whole : (t : List ℕ) (r : ℕ) (out : List ℕ) → task_check t ≡ pass → r < count_of t → length_of t ≤ most_moves → length out ≡ 2000
    → run_answer t r 0 out ≡ answer (length_of t)
run_whole t r out accepted known few room =
    let counts : min (length_of t - 0) (length out / 2) ≡ length_of t = omega arith in
    run_accepts t r (accepted_routed t accepted r known) 0 out (omega arith) (λ some. omega arith) ∙ ap answer counts

-- ... that is its letters ...
pub whole_letters_lem : (t : List ℕ) → task_check t ≡ pass → (r : ℕ) → r < count_of t → length_of t ≤ most_moves
    → (out : List ℕ) → length out ≡ 2 * most_moves → take (2 * length_of t) (run_writes t r 0 out) ≡ letters (task_route t r)
whole_letters_lem t accepted r known few out room =
    let moves = task_route t r in
    let all : take (length_of t) moves ≡ moves = take_all (length_of t) moves (omega (arith, long t r accepted known)) in
    rw ((run_answered t r 0 out (run_whole t r out accepted known few room)).wrote, all)
    (take_at (letters moves) _ (2 * length_of t) (omega (arith, letters_length moves, long t r accepted known)))

-- ... and its letters, put with spaces, are the route's text.
pub run_text : (t : List ℕ) (r : ℕ) (out : List ℕ) → task_check t ≡ pass → r < count_of t → length_of t ≤ most_moves → length out ≡ 2000
    → spaced (take (2 * length_of t) (run_writes t r 0 out)) ≡ route_text (task_route t r)
run_text t r out accepted known few room =
    rw (whole_letters_lem t accepted r known few out room, spaced_letters) (sym (short_route t r accepted known few))

-- No lines come before the first route's ...
pub lines_none : (front s t : List ℕ) → front ++ route_lines s t 0 ≡ front
unfolding route_lines
lines_none front s t = append-nil front

-- ... and after those of the routes below k comes that of route k.
pub lines_more : (front s t : List ℕ) (k : ℕ) → (front ++ route_lines s t k) ++ route_line k (route_of s t k) ≡ front ++ route_lines s t (k + 1)
unfolding route_lines
lines_more front s t k = let next : k + 1 ≡ suc k = omega arith in rw (next, append_assoc)

-- A plan has at most two routes.
pub few_routes : (s t : List ℕ) → routes (plan_of s t) ≤ 2
few_routes s t = ⊎_elim (λ e. omega arith) (λ e. omega arith) (routes_count s t)
