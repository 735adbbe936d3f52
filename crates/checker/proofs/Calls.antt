-- What the checker answers, and when: the laws for whoever calls it.
use Prim.Native.Nat.{ℕ, zero, suc, ◌*◌, ◌/◌, ◌%◌, ◌<◌}
use mathlib.Core.Bool.{true}
use mathlib.Core.List.{List, map}
use mathlib.Core.Logic.{◌≢◌, inl, inr}
use mathlib.Core.Path.{◌≡◌, ◌∙◌, refl, sym, ap}
use native.Mathlib.Decide.{dec_lt}
use native.Mathlib.Omega.{arith}
use lib.ListN.{length, take}
use lib.Seq.{take_all}
use Rattle.board.specs.Fault.{First, Obeys}
use Rattle.board.specs.Fewest.{same, fewest}
use Rattle.board.specs.Move.{Leads}
use Rattle.board.specs.Reply.{refused, answer, pass}
use Rattle.board.specs.Task.{start, goal, task_check}
use Rattle.board.proofs.Obeys.{answer_obeys, check_obeys, then_obeys, answered_faultless}
use Rattle.board.proofs.Replies.{then_answered}
use Rattle.board.proofs.Search.{same_refl, same_apart}
use Rattle.board.proofs.Tasks.{task_accepted, task_obeys}
use Rattle.plan.specs.Inner.Sound.{Ends}
use Rattle.plan.specs.Plan.{plan_of, routes, shortest}
use Rattle.plan.specs.Inner.Read.{read_answer}
use Rattle.plan.specs.declared.answer.Plan.{Plan}
use Rattle.plan.proofs.Calls.{read_ends}
use Rattle.plan.proofs.Optimal.{fewest_shortest, fewest_is}
use Rattle.plan.proofs.Sound.{task_ends}
use Rattle.route.specs.Answer.{count_of, task_route, letters}
use Rattle.route.specs.Ours.{read_moves}
use Rattle.route.specs.Route.{plain, route_of}
use Rattle.route.proofs.Calls.Letters.{leads_pegs, letters_read, letters_length}
use Rattle.route.proofs.Shortest.Distinct.{routes_count, routes_differ}
use Rattle.route.proofs.Shortest.Routes.{route_leads, route_only}
use Rattle.checker.specs.Answer.{letters_check, route_number, checker_answer}
use Rattle.checker.specs.Faults.{NotShortest, letters_faults, checker_faults}
use Rattle.checker.specs.Letters.{all_letters}
use Rattle.checker.specs.Inner.Ours.{OneOfOurs}
use Rattle.checker.specs.Request7.{ShortestRoute}
use Rattle.checker.proofs.Moves.{illegal_exactly, leads_clear, leads_stable, shortest_exactly}
use Rattle.checker.proofs.Pairs.{unpaired_exactly, paired, paired_even, moves_length, read_back, letters_end, leads_letters}

-- Demand 1: the checker is refused as its faults say and never else.
pub letters_obeys : (s g l : List ℕ) → Obeys (letters_faults s g l) (letters_check s g l)
unfolding letters_check
letters_obeys s g l =
    then_obeys (check_obeys _ 14 (unpaired_exactly l))
    (then_obeys (check_obeys _ 15 (illegal_exactly s (read_moves l))) (check_obeys _ 16 (shortest_exactly s (read_moves l) g)))

pub checker_obeys : (t l : List ℕ) → Obeys (checker_faults t l) (checker_answer t l)
unfolding checker_answer
checker_obeys t l = then_obeys (task_obeys t) (then_obeys (letters_obeys (start t) (goal t) l) (answer_obeys _))

-- The first fault of the letters is what they are refused with.
pub letters_refuses : (s g l : List ℕ) {k : ℕ} → First (letters_faults s g l) k → refused k ≡ letters_check s g l
letters_refuses s g l {k} first = sym (((letters_obeys s g l).refuses k).1 first)

module _ (s g l : List ℕ) where
  -- A shortest route has no fault.
  pub shortest_passes : ShortestRoute s g l → letters_check s g l ≡ pass
  shortest_passes r =
      let clear : ¬ NotShortest s (read_moves l) g = λ f. elim f [ inl n ↦ n r.leads | inr more ↦ omega (arith, r.fewest_moves) ] in
      ((letters_obeys s g l).answers (r.paired, (leads_clear r.leads, (clear, tt)))).1

  -- A list of letters that leads elsewhere, or in another number of moves, is refused with 16.
  pub longer_refused : {q : List ℕ} → Ends s g → length l % 2 ≢ 1 → all_letters l ≡ true → Leads s (read_moves l) q
      → (Leads s (read_moves l) g → length (read_moves l) ≢ fewest s g) → refused 16 ≡ letters_check s g l
  longer_refused ends even all w other =
      let far : NotShortest s (read_moves l) g =
      elim (dec_lt (fewest s g) (length (read_moves l))) [
        | yes more ↦ inr more
        | no few ↦ inl (λ there. other there
            (omega (arith, (fewest_is s g ends.same ends.start_formed ends.goal_formed).least (read_moves l) there)))
      ] in
      letters_refuses s g l (inr (paired l even all, inr (leads_clear w, inl (far, refl))))

  -- Letters without fault are a shortest route.
  pub letters_passed : Ends s g → letters_check s g l ≡ pass → ShortestRoute s g l
  letters_passed ends e =
      let clear = answered_faultless (letters_obeys s g l) e in
      let leads = leads_stable s (read_moves l) g (λ n. clear.1.1.0 (inl n)) in
      let least = (fewest_is s g ends.same ends.start_formed ends.goal_formed).least (read_moves l) leads in
      record {
        paired = clear.0;
        leads = leads;
        fewest_moves =
            elim (dec_lt (fewest s g) (length (read_moves l))) [ yes more ↦ absurd (clear.1.1.0 (inr more)) | no few ↦ omega arith ];
      }

  -- And so the letters of one of our routes.
  pub shortest_ours : Ends s g → ShortestRoute s g l → (r : ℕ) × (r < routes (plan_of s g)) × (l ≡ letters (route_of s g r))
  shortest_ours ends r =
      let (k, there, same) =
      route_only s g ends.same ends.start_formed ends.goal_formed (read_moves l) r.leads
      (r.fewest_moves ∙ fewest_shortest s g ends.same ends.start_formed ends.goal_formed) in
      let (even, all) = paired_even l r.paired in
      (k, there, read_back l (route_of s g k) even all same)

-- The moves of its plan are the fewest between two ends.
pub planned_fewest : {s g : List ℕ} {p : Plan} {n : ℕ} → Ends s g → p ≡ plan_of s g → n ≡ shortest p → n ≡ fewest s g
planned_fewest ends plan moves = rw (moves, plan) (sym (fewest_shortest _ _ ends.same ends.start_formed ends.goal_formed))

-- Letters without fault between the ends of a task that is read are those of one of our routes.
pub passed_ours : (t l : List ℕ) {s g : List ℕ} → Ends s g → answer (s, g) ≡ read_answer t → pass ≡ letters_check s g l → OneOfOurs t l
passed_ours t l {s} {g} ends read passed =
    let o = read_ends t read in
    let (r, there, same) = rw (o.from, o.to) at (shortest_ours s g l ends (letters_passed s g l ends (sym passed))) in
    record { accepted = o.accepted; route = r; there = there; same = same }

-- The letters of our routes are shortest routes.
ours_shortest : (s g : List ℕ) → Ends s g → (r : ℕ) → r < routes (plan_of s g) → ShortestRoute s g (letters (route_of s g r))
ours_shortest s g ends r there =
    let ds = route_of s g r in
    let w = route_leads s g ends.same ends.start_formed ends.goal_formed r there in
    let reads = letters_read ds (leads_pegs ds w.leads) in
    let leads : Leads s (read_moves (letters ds)) g = rw reads w.leads in
    let half : length (letters ds) / 2 ≡ length ds = omega (arith, letters_length ds) in
    let size : length (read_moves (letters ds)) ≡ length ds = moves_length (letters ds) ∙ half in
    let whole : take (length ds) (read_moves (letters ds)) ≡ read_moves (letters ds) = take_all (length ds) (read_moves (letters ds)) (omega arith) in
    let all : all_letters (letters ds) ≡ true =
    leads_letters (length ds) (letters ds) {p = s} {q = g} (omega arith) (rw whole leads)
    ∙ letters_end (letters ds) (2 * length ds) (omega (arith, letters_length ds)) in
    record {
      paired = paired (letters ds) (omega (arith, letters_length ds)) all;
      leads = leads;
      fewest_moves = size ∙ w.long ∙ sym (fewest_shortest s g ends.same ends.start_formed ends.goal_formed);
    }

module _ (t : List ℕ) (accepted : task_check t ≡ pass) where
  -- The start and the goal of an accepted task.
  pub ends_of : Ends (start t) (goal t)
  ends_of = task_ends (task_accepted t accepted)

  -- The letters of our route r have the number r.
  route_number_lem : (r : ℕ) → r < count_of t → route_number t (letters (task_route t r)) ≡ r
  unfolding route_number
  route_number_lem zero there = rw (same_refl (letters (task_route t 0)))
  route_number_lem (suc zero) there = rw (same_apart (letters (task_route t 1)) (letters (task_route t 0)) differ)
    where
      differ : letters (task_route t 1) ≢ letters (task_route t 0)
      differ e =
          let s = ends_of in
          let two : count_of t ≡ 2 = elim (routes_count (start t) (goal t)) [ inl one ↦ absurd (omega arith) | inr two ↦ two ] in
          let read : (r : ℕ) → r < count_of t → read_moves (letters (task_route t r)) ≡ map plain (task_route t r) =
          λ r l. letters_read (task_route t r) (leads_pegs (task_route t r) (route_leads (start t) (goal t) s.same s.start_formed s.goal_formed r l).leads) in
          routes_differ (start t) (goal t) s.same s.start_formed s.goal_formed two
          (sym (read 0 (omega arith)) ∙ ap read_moves (sym e) ∙ read 1 (omega arith))
  route_number_lem (suc (suc r)) there =
      elim (routes_count (start t) (goal t)) [ inl one ↦ absurd (omega arith) | inr two ↦ absurd (omega arith) ]

  -- Where the letters have no fault, the checker answers their number.
  pub checker_accepts : (l : List ℕ) → letters_check (start t) (goal t) l ≡ pass → checker_answer t l ≡ answer (route_number t l)
  unfolding checker_answer
  checker_accepts l e = rw (accepted, e)

  -- Where they have, it refuses them.
  pub checker_refuses : (l : List ℕ) {k : ℕ} → letters_check (start t) (goal t) l ≡ refused k → checker_answer t l ≡ refused k
  unfolding checker_answer
  checker_refuses l e = rw (accepted, e)

  -- The letters of our route r are accepted, with its number.
  pub ours_accepted : (r : ℕ) → r < count_of t → checker_answer t (letters (task_route t r)) ≡ answer r
  ours_accepted r there =
      checker_accepts (letters (task_route t r)) (shortest_passes (start t) (goal t) (letters (task_route t r)) (ours_shortest (start t) (goal t) ends_of r there))
      ∙ ap answer (route_number_lem r there)

-- What is accepted passed both checks.
pub checker_answered : (t l : List ℕ) {k : ℕ} → checker_answer t l ≡ answer k → (task_check t ≡ pass) × (letters_check (start t) (goal t) l ≡ pass)
unfolding checker_answer
checker_answered t l e =
    let (task, rest) = then_answered (task_check t) _ e in
    (task, (then_answered (letters_check (start t) (goal t) l) _ rest).0)
