-- The two routes of a tie differ in their first move.
use Prim.Native.Nat.{ℕ, zero, suc, ◌<◌}
use mathlib.Core.Bool.{true, false}
use mathlib.Core.List.{List, [], ◌∷◌, map}
use mathlib.Core.Logic.{◌≢◌, inl, inr}
use mathlib.Core.Path.{◌≡◌, ◌∙◌, refl, sym, ap}
use native.Mathlib.Decide.{ℕ_discrete, dec_lt}
use native.Mathlib.Omega.{arith}
use borrow.Author.Tests.{eq-eqb, ne_eqb}
use lib.Dec.{eqb}
use lib.ListN.{length, get_or, drop}
use lib.Seq.{drop-cons}
use Rattle.std.specs.List.{starts_with}
use Rattle.std.specs.Prelude.{Result, Ok, Err}
use Rattle.std.specs.Result.{IsOk}
use Rattle.board.specs.Fewest.{same}
use Rattle.board.specs.Move.{Move, top}
use Rattle.board.specs.Peg.{third}
use Rattle.board.specs.Position.{peg, WellFormed}
use Rattle.board.specs.Reply.{answer, pass}
use Rattle.board.specs.Task.{start, goal, task_check}
use Rattle.board.specs.declared.refusal.Refusal.{Refusal}
use Rattle.board.proofs.Formed.{formed_pegs}
use Rattle.board.proofs.Pegs.{third_peg}
use Rattle.board.proofs.Replies.{refused_answer, answer_same}
use Rattle.board.proofs.Search.{same_refl, same_apart}
use Rattle.plan.specs.Plan.{plan_of, routes}
use Rattle.plan.proofs.Gathering.{Pegs}
use Rattle.plan.proofs.Three.{three}
use Rattle.route.specs.Answer.{length_of, count_of, task_route, letter, letters, move_reply, move_answer}
use Rattle.route.specs.Route.{carry, plain, gathering, direct_route, detour_route, route_by, route_of, move_at, after}
use Rattle.route.specs.declared.answer.DiscMove.{DiscMove}
use Rattle.route.specs.declared.part.Part.{Part}
use Rattle.route.proofs.Calls.Answers.{route_length, route_pegs, move_accepts, move_disc}
use Rattle.route.proofs.Calls.Opened.{Routed, accepted_routed}
use Rattle.route.proofs.Gatherings.FirstMove.{first_append, gathering_first_home, gathering_first_away}
use Rattle.route.proofs.Gatherings.Gathering.{gathering_none}
use Rattle.route.proofs.Shortest.Distinct.{routes_count, two_tie, routes_differ}
use Rattle.route.proofs.Shortest.Unique.{none_left}
use Rattle.route.proofs.Shortest.View.{route_moving}
use Rattle.checker.specs.Inner.Ours.{OneOfOurs}

-- A disc away from two pegs gives the smaller ones different targets on their ways there.
thirds_apart : (i j x : ℕ) → i < 3 → j < 3 → x < 3 → i ≢ j → x ≢ i → x ≢ j → third i x ≢ third j x
thirds_apart i j x hi hj hx n a b e =
    omega (arith, (three i x hi hx (λ f. a (sym f))).sum, (three j x hj hx (λ f. b (sym f))).sum)

-- The third peg of a peg and another is not that other.
third_apart : (i x : ℕ) → i < 3 → x < 3 → x ≢ i → third i x ≢ x
third_apart i x hi hx n e = (three i x hi hx (λ f. n (sym f))).second_third (sym e)

-- Gathered on two different pegs, discs have different first moves, where what follows begins with different moves of larger discs.
firsts_apart : (p : ℕ → ℕ) → Pegs p → (k i j : ℕ) → i < 3 → j < 3 → i ≢ j → (m n : DiscMove) → k < m.disc → k < n.disc → m ≢ n
    → get_or (gathering p k i) 0 m ≢ get_or (gathering p k j) 0 n
firsts_apart p hp zero i j hi hj apart m n lm ln differ = rw (gathering_none p i, gathering_none p j) differ
firsts_apart p hp (suc k) i j hi hj apart m n lm ln differ =
    let discs : (x y : DiscMove) → x.disc ≢ y.disc → x ≢ y = λ x y a e. a (ap (λ (d : DiscMove). d.disc) e) in
    elim (ℕ_discrete (p k) i) [
      | yes e ↦
          let away : p k ≢ j = λ f. apart (sym e ∙ f) in
          rw (gathering_first_home p k i m e, gathering_first_away p k j n away)
          (firsts_apart p hp k i (third j (p k)) hi (third_peg j (p k) hj) (λ f. third_apart j (p k) hj (hp k) away (sym f ∙ sym e))
          m (carry k (p k) j) (omega arith) (omega arith) (discs m (carry k (p k) j) (omega arith)))
      | no a ↦ elim (ℕ_discrete (p k) j) [
        | yes e ↦
            rw (gathering_first_away p k i m a, gathering_first_home p k j n e)
            (firsts_apart p hp k (third i (p k)) j (third_peg i (p k) hi) hj (λ f. third_apart i (p k) hi (hp k) a (f ∙ sym e))
            (carry k (p k) i) n (omega arith) (omega arith) (discs (carry k (p k) i) n (omega arith)))
        | no b ↦
            rw (gathering_first_away p k i m a, gathering_first_away p k j n b)
            (firsts_apart p hp k (third i (p k)) (third j (p k)) (third_peg i (p k) hi) (third_peg j (p k) hj)
            (thirds_apart i j (p k) hi hj (hp k) apart a b)
            (carry k (p k) i) (carry k (p k) j) (omega arith) (omega arith) (λ e. apart (ap (λ (d : DiscMove). d.to) e)))
      ]
    ]

-- So the direct route and the detour of a tie begin with different moves.
routes_part : (p q : List ℕ) → length p ≡ length q → WellFormed p → WellFormed q → routes (plan_of p q) ≡ 2
    → move_at (route_of p q 0) 0 ≢ move_at (route_of p q 1) 0
unfolding route_by direct_route detour_route
routes_part p q same hp hq two =
    let (k, m, away, e) = two_tie p q same hp hq two in
    let h = three (peg p k) (peg q k) (formed_pegs p hp k) (formed_pegs q hq k) away in
    let z = third (peg p k) (peg q k) in
    let none : DiscMove = record { disc = 0; from = 0; to = 0 } in
    let direct : route_of p q 0 ≡ direct_route (peg p) (peg q) k = route_moving p q 0 k m ∙ rw e in
    let detour : route_of p q 1 ≡ detour_route (peg p) (peg q) k = route_moving p q 1 k m ∙ rw e in
    let zeroth : move_at (route_of p q 0) 0 ≡ get_or (gathering (peg p) k z) 0 (carry k (peg p k) (peg q k)) =
    rw direct (first_append (gathering (peg p) k z) (carry k (peg p k) (peg q k)) _ none) in
    let first : move_at (route_of p q 1) 0 ≡ get_or (gathering (peg p) k (peg q k)) 0 (carry k (peg p k) z) =
    rw detour (first_append (gathering (peg p) k (peg q k)) (carry k (peg p k) z) _ none) in
    rw (zeroth, first)
    (firsts_apart (peg p) (formed_pegs p hp) k z (peg q k) h.third h.second (λ f. h.second_third (sym f))
    (carry k (peg p k) (peg q k)) (carry k (peg p k) z) (omega arith) (omega arith) (λ f. h.second_third (ap (λ (d : DiscMove). d.to) f)))

-- A list begins with its first two numbers, and with no other two.
begins_same : (a b : ℕ) (l : List ℕ) → starts_with eqb (a ∷ b ∷ l) (a ∷ b ∷ []) ≡ true
begins_same a b l = rw (eq-eqb a a refl, eq-eqb b b refl)

begins_other : (a b x y : ℕ) (l : List ℕ) → (x ≡ a → y ≡ b → ⊥) → starts_with eqb (a ∷ b ∷ l) (x ∷ y ∷ []) ≡ false
begins_other a b x y l n =
    elim (ℕ_discrete x a) [
      | yes e ↦ rw (eq-eqb x a e, ne_eqb y b (n e))
      | no o ↦ rw (ne_eqb x a o)
    ]

-- Moves with the same letters are the same.
pegs_same : (m k : DiscMove) → letter m.from ≡ letter k.from → letter m.to ≡ letter k.to → plain m ≡ plain k
pegs_same m k e f =
    let from : m.from ≡ k.from = omega (arith, e) in
    let to : m.to ≡ k.to = omega (arith, f) in
    λ i. record { from = from i; to = to i }

letters_same : (m k : DiscMove) {xs ys : List ℕ} → (letter m.from ∷ letter m.to ∷ xs) ≡ (letter k.from ∷ letter k.to ∷ ys) → plain m ≡ plain k
letters_same m k e = pegs_same m k (ap (λ (l : List ℕ). get_or l 0 0) e) (ap (λ (l : List ℕ). get_or l 1 0) e)

module _ (t : List ℕ) (accepted : task_check t ≡ pass) (two : count_of t ≡ 2) where
  -- Both routes of a tie are there.
  routed : (r : ℕ) → r < 2 → Routed t r
  routed r l = accepted_routed t accepted r (omega arith)

  -- They have a first move.
  tie_moves : 0 < length_of t
  tie_moves =
      elim (dec_lt 0 (length_of t)) [
        | yes l ↦ l
        | no n ↦
            let s = (routed 0 (omega arith)).sound in
            let none : (r : ℕ) → r < 2 → task_route t r ≡ [] = λ r l. none_left (task_route t r) (route_length t r (routed r l) ∙ omega arith) in
            absurd (routes_differ (start t) (goal t) (s.start_length ∙ sym s.goal_length) s.start_formed s.goal_formed two
            (ap (map plain) (none 0 (omega arith) ∙ sym (none 1 (omega arith)))))
      ]

  -- The letters of a route begin with those of its first move.
  tie_letters : (r : ℕ) → r < 2
      → letters (task_route t r) ≡ letter (move_at (task_route t r) 0).from ∷ letter (move_at (task_route t r) 0).to ∷ letters (drop 1 (task_route t r))
  unfolding letters
  tie_letters r l =
      ap letters (drop-cons (task_route t r) 0 (record { disc = 0; from = 0; to = 0 }) (omega (arith, route_length t r (routed r l), tie_moves)))

  -- The first moves of the two differ without their discs too: a disc is the smallest of the peg that it leaves.
  tie_apart : (r : ℕ) → r < 2 → r ≢ 0 → plain (move_at (task_route t 0) 0) ≢ plain (move_at (task_route t r) 0)
  unfolding after
  tie_apart r l n e =
      let one : r ≡ 1 = omega arith in
      let s = (routed 0 (omega arith)).sound in
      let from : (move_at (task_route t 0) 0).from ≡ (move_at (task_route t r) 0).from = ap (λ (m : Move). m.from) e in
      let to : (move_at (task_route t 0) 0).to ≡ (move_at (task_route t r) 0).to = ap (λ (m : Move). m.to) e in
      let disc : (move_at (task_route t 0) 0).disc ≡ (move_at (task_route t r) 0).disc =
      move_disc t 0 (routed 0 (omega arith)) 0 tie_moves ∙ ap (λ (i : ℕ). suc (top (start t) i)) from ∙ sym (move_disc t r (routed r l) 0 tie_moves) in
      let same : move_at (task_route t 0) 0 ≡ move_at (task_route t r) 0 = λ i. record { disc = disc i; from = from i; to = to i } in
      routes_part (start t) (goal t) (s.start_length ∙ sym s.goal_length) s.start_formed s.goal_formed two (rw one at same)

  -- The first move of a route is from a peg to a peg.
  tie_pegs : (r : ℕ) → r < 2 → ((move_at (task_route t r) 0).from < 3) × ((move_at (task_route t r) 0).to < 3)
  tie_pegs r l =
      let head = drop-cons (task_route t r) 0 (record { disc = 0; from = 0; to = 0 }) (omega (arith, route_length t r (routed r l), tie_moves)) in
      let pegs = rw head at (route_pegs t r (routed r l)) in (pegs.0, pegs.1)

  -- So letters of one of the two begin with the first move of route 0 exactly where they are those of route 0.
  begins : (l : List ℕ) (r : ℕ) → r < 2 → l ≡ letters (task_route t r) →
      let first = move_at (task_route t 0) 0 in
      starts_with eqb l (letter first.from ∷ letter first.to ∷ []) ≡ same l (letters (task_route t 0))
  begins l r known ours =
      let first = move_at (task_route t 0) 0 in
      let mine = move_at (task_route t r) 0 in
      elim (ℕ_discrete r 0) [
        | yes z ↦
            let is : l ≡ letters (task_route t 0) = rw z at ours in
            rw (is, same_refl (letters (task_route t 0)), tie_letters 0 (omega arith))
            (begins_same (letter first.from) (letter first.to) (letters (drop 1 (task_route t 0))))
        | no n ↦
            let apart : l ≢ letters (task_route t 0) =
            λ e. tie_apart r known n (letters_same first mine (sym (tie_letters 0 (omega arith)) ∙ sym e ∙ ours ∙ tie_letters r known)) in
            rw (same_apart l (letters (task_route t 0)) apart, ours, tie_letters r known)
            (begins_other _ _ _ _ (letters (drop 1 (task_route t r))) (λ from to. tie_apart r known n (pegs_same first mine from to)))
      ]

-- Of one of our routes of a task that has one only, the letters are those of route 0.
pub only_first : (t l : List ℕ) → OneOfOurs t l → count_of t ≡ 1 → same l (letters (task_route t 0)) ≡ true
only_first t l o one =
    let zeroth : o.route ≡ 0 = omega (arith, o.there) in
    let is : l ≡ letters (task_route t 0) = rw zeroth at o.same in
    rw is (same_refl (letters (task_route t 0)))

-- Of a task that has not, there are two.
two_routes : (t : List ℕ) → count_of t ≢ 1 → count_of t ≡ 2
two_routes t n = elim (routes_count (start t) (goal t)) [ inl one ↦ absurd (n one) | inr two ↦ two ]

-- Move answers their first move.
first_answered : (t : List ℕ) → task_check t ≡ pass → count_of t ≢ 1 → move_answer t 0 0 ≡ answer (move_at (task_route t 0) 0)
first_answered t accepted tie =
    let two = two_routes t tie in move_accepts t 0 (routed t accepted two 0 (omega arith)) 0 (tie_moves t accepted two)

-- So it does not refuse.
pub first_there : (t l : List ℕ) → OneOfOurs t l → {n : ℕ} → n ≡ count_of t → n ≢ 1 → (r : Result (DiscMove × Part) Refusal)
    → move_reply r ≡ move_answer t 0 0 → IsOk r
first_there t l ours count tie (Ok (m, a)) e = refl
first_there t l ours count tie (Err r) e = absurd (refused_answer (e ∙ first_answered t ours.accepted (λ one. tie (count ∙ one))))

-- What the first move of route 0 tells of letters: they begin with it exactly where they are those of route 0.
pub record Told (t l : List ℕ) (m : DiscMove) : Type 0 where
  pub from_peg : m.from < 3
  pub to_peg : m.to < 3
  pub begins : starts_with eqb l (letter m.from ∷ letter m.to ∷ []) ≡ same l (letters (task_route t 0))

pub told : (t l : List ℕ) → OneOfOurs t l → {n : ℕ} → n ≡ count_of t → n ≢ 1 → {m : DiscMove} → answer m ≡ move_answer t 0 0 → Told t l m
told t l ours count tie {m} e =
    let several : count_of t ≢ 1 = λ one. tie (count ∙ one) in
    let two = two_routes t several in
    let known : ours.route < 2 = omega (arith, ours.there) in
    let is : move_at (task_route t 0) 0 ≡ m = answer_same (sym (first_answered t ours.accepted several) ∙ sym e) in
    let (from_peg, to_peg) = tie_pegs t ours.accepted two 0 (omega arith) in
    rw (← is)
    (record {
      from_peg = from_peg;
      to_peg = to_peg;
      begins = begins t ours.accepted two l ours.route known ours.same;
    })
