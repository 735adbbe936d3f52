-- The checks of the calls that write moves from an index on, where a move takes so many bytes.
use Prim.Native.Nat.{ℕ, ◌≤◌, ◌<◌}
use mathlib.Core.Bool.{true, ◌&&◌, and-false, and-eq-true_iff}
use mathlib.Core.List.{List, [], ◌∷◌, ◌++◌, append-nil}
use mathlib.Core.Logic.{◌↔◌}
use mathlib.Core.Path.{◌≡◌, ◌∙◌, sym, ap}
use native.Mathlib.Decide.{dec_lt}
use native.Mathlib.Omega.{arith}
use borrow.Author.Tests.{lt-ltb, le-ltb, ltb-true, ltb-false}
use lib.Dec.{ltb}
use Rattle.board.specs.Fault.{fault, Obeys}
use Rattle.board.specs.Reply.{refused, answer, ◌>>◌, pass, check}
use Rattle.board.specs.Task.{start, goal}
use Rattle.board.proofs.Obeys.{answer_obeys, check_obeys, then_obeys}
use Rattle.board.proofs.Replies.{answer_same, then_answered, then_refused, then_assoc, check_answered, check_passed}
use Rattle.plan.specs.Plan.{plan_of}
use Rattle.route.specs.Answer.{length_of, route_check}
use Rattle.route.specs.Faults.{route_faults}
use Rattle.route.specs.Inner.Open.{Opening, list_check, list_answer}
use Rattle.route.proofs.Calls.Opened.{Routed, opening_parts, route_passed, route_passes, route_obeys}

-- A test passes exactly where one number is below another.
pub below : (a b : ℕ) → (ltb a b ≡ true) ↔ (a < b)
below a b = (ltb-true a b, lt-ltb a b)

-- Two tests pass together exactly where both facts hold.
both : (a b c d : ℕ) → ((ltb a b && ltb c d) ≡ true) ↔ ((a < b) × (c < d))
both a b c d = (
  (λ e. let (x, y) = (and-eq-true_iff (ltb a b) (ltb c d)).0 e in (ltb-true a b x, ltb-true c d y)),
  λ (x, y). (and-eq-true_iff (ltb a b) (ltb c d)).1 (lt-ltb a b x, lt-ltb c d y),
)

module _ (t : List ℕ) (r i room size : ℕ) where
  -- They come before whatever is answered.
  pub list_first : {A : Type 0} (a : A)
      → (route_check t r >> (check (ltb (length_of t) i) 5 >> (check (ltb i (length_of t) && ltb room size) 6 >> answer a))) ≡ (list_check t r i room size >> answer a)
  unfolding list_check
  list_first a =
      let late = check (ltb i (length_of t) && ltb room size) 6 in
      let index = check (ltb (length_of t) i) 5 in
      sym (then_assoc (route_check t r) (index >> late) (answer a) ∙ ap (λ w. route_check t r >> w) (then_assoc index late (answer a)))

  -- They obey their faults.
  pub list_obeys : Obeys (route_faults t r ++ (fault 5 (length_of t < i) ∷ fault 6 ((i < length_of t) × (room < size)) ∷ [])) (list_check t r i room size)
  unfolding list_check
  list_obeys =
      then_obeys (route_obeys t r)
      (then_obeys (check_obeys _ 5 (below (length_of t) i)) (check_obeys _ 6 (both i (length_of t) room size)))

  pub list_answer_obeys : {A : Type 0} (a : A)
      → Obeys (route_faults t r ++ (fault 5 (length_of t < i) ∷ fault 6 ((i < length_of t) × (room < size)) ∷ []))
      (route_check t r >> (check (ltb (length_of t) i) 5 >> (check (ltb i (length_of t) && ltb room size) 6 >> answer a)))
  list_answer_obeys a = rw (list_first a) (rw append-nil at (then_obeys list_obeys (answer_obeys a)))

  -- Where they pass there is the route, the index is up to its length, and where moves remain there is room for one.
  pub record Listed : Type 0 where
    pub routed : Routed t r
    pub index : i ≤ length_of t
    pub fits : i < length_of t → size ≤ room

  pub list_passed : list_check t r i room size ≡ pass → Listed
  unfolding list_check
  list_passed e =
      let (passed, rest) = then_answered (route_check t r) _ e in
      let (index, late) = check_answered (ltb (length_of t) i) 5 _ rest in
      record {
        routed = route_passed t r passed;
        index = ltb-false (length_of t) i index;
        fits = λ some. ltb-false room size (rw (lt-ltb i (length_of t) some) at (check_passed (ltb i (length_of t) && ltb room size) 6 late));
      }

  -- And where there is all that they pass.
  pub list_passes : Listed → list_check t r i room size ≡ pass
  unfolding list_check
  list_passes l =
      let ready = route_passes t r l.routed.accepted l.routed.known in
      elim (dec_lt i (length_of t)) [
        | yes some ↦ rw (ready, le-ltb (length_of t) i l.index, le-ltb room size (l.fits some), and-false)
        | no none ↦ rw (ready, le-ltb (length_of t) i l.index, le-ltb i (length_of t) (omega arith))
      ]

  -- What is opened after them: the checks pass, and these are the task's ends, its plan and the route.
  pub record OpenedList (o : Opening) : Type 0 where
    pub listed : Listed
    pub passed : list_check t r i room size ≡ pass
    pub from : o.start ≡ start t
    pub to : o.goal ≡ goal t
    pub plan : o.plan ≡ plan_of (start t) (goal t)
    pub route : o.route ≡ r

  pub list_opened : {o : Opening} → answer o ≡ list_answer t r i room size → OpenedList o
  unfolding list_answer
  list_opened e =
      let (passed, same) = then_answered (list_check t r i room size) _ (sym e) in
      let l = list_passed passed in
      let o = opening_parts t r (route_passes t r l.routed.accepted l.routed.known) (sym (answer_same same)) in
      record { listed = l; passed = passed; from = o.from; to = o.to; plan = o.plan; route = o.route }

  -- A refusal to open it is theirs.
  pub list_refused : {k : ℕ} → refused k ≡ list_answer t r i room size → refused k ≡ list_check t r i room size
  unfolding list_answer
  list_refused e = sym (then_refused (list_check t r i room size) _ (sym e))
