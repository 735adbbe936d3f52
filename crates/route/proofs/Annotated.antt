-- What request 1 asks of Move holds of every task without faults.
use Prim.Native.Nat.{ℕ, zero, suc, ◌+◌, ◌-◌, ◌≤◌, ◌<◌}
use mathlib.Core.Bool.{Bool, true, false, cond}
use mathlib.Core.List.{List, ◌∷◌, ◌++◌, map, map-append}
use mathlib.Core.Logic.{◌↔◌}
use mathlib.Core.Path.{◌≡◌, ◌∙◌, refl, sym, ap, subst}
use native.Mathlib.Omega.{arith}
use lib.ListN.{length, take, drop, replicate}
use lib.Seq.{drop-cons, take_all}
use Rattle.board.specs.Fault.{Faultless, task_faults}
use Rattle.board.specs.Peg.{third}
use Rattle.board.specs.Position.{peg}
use Rattle.board.specs.Reply.{pass}
use Rattle.board.specs.Task.{start, goal, task_check}
use Rattle.board.proofs.Lists.{map_replicate}
use Rattle.board.proofs.Tasks.{faultless_accepted}
use Rattle.plan.specs.Gather.{gather}
use Rattle.plan.specs.Inner.Sound.{Ends}
use Rattle.plan.specs.Plan.{plan_of}
use Rattle.plan.specs.Tower.{tower_length}
use Rattle.plan.specs.declared.answer.Plan.{Plan}
use Rattle.plan.specs.declared.answer.Way.{Way}
use Rattle.plan.specs.declared.answer.Way.TheVariants.{Still, Direct, Detour, Tie}
use Rattle.plan.proofs.Sound.{task_ends}
use Rattle.route.specs.Annotated.{letters_from, whole_letters, Gs, X, Ts, Ss, direct_letters, detour_letters, Lettered, Parted, Annotated}
use Rattle.route.specs.Answer.{length_of, count_of, task_route}
use Rattle.route.specs.Inner.Stage.{is_detour, course_of, course_by, course_parts}
use Rattle.route.specs.Part.{part_letter, parts_of, part_at}
use Rattle.route.specs.Route.{move_at}
use Rattle.route.specs.declared.part.Part.{Part}
use Rattle.route.specs.declared.part.Part.TheVariants.{Gather, Cross, Shift, Spread}
use Rattle.route.proofs.Calls.Answers.{route_length, move_accepts, part_accepts}
use Rattle.route.proofs.Calls.Opened.{Routed, accepted_routed}
use Rattle.route.proofs.Courses.Found.{plan_disc}
use Rattle.route.proofs.Courses.Plan.{plan_pegs}
use Rattle.route.proofs.Shortest.View.{none, some, largest_view, plan_still}
use Rattle.route.proofs.Stretches.Crossing.{route_crosses}
use Rattle.route.proofs.Stretches.Joined.{route_joins, parts_length}
use Rattle.route.proofs.Stretches.Parts.{route_parts}

-- The letters of one crossing's parts, and of two.
direct_letters_lem : (g s : ℕ) → map part_letter (replicate g Gather ++ (Cross ∷ replicate s Spread)) ≡ Gs g ++ (X ∷ Ss s)
direct_letters_lem g s =
    rw (map-append part_letter (replicate g Gather) (Cross ∷ replicate s Spread), map_replicate part_letter g Gather, map_replicate part_letter s Spread)

detour_letters_lem : (g t s : ℕ)
    → map part_letter (replicate g Gather ++ (Cross ∷ (replicate t Shift ++ (Cross ∷ replicate s Spread)))) ≡ Gs g ++ (X ∷ (Ts t ++ (X ∷ Ss s)))
detour_letters_lem g t s =
    rw (
      map-append part_letter (replicate g Gather) (Cross ∷ (replicate t Shift ++ (Cross ∷ replicate s Spread))),
      map-append part_letter (replicate t Shift) (Cross ∷ replicate s Spread),
      map_replicate part_letter g Gather,
      map_replicate part_letter t Shift,
      map_replicate part_letter s Spread,
    )

-- X is the letter of a crossing and of no other part.
letter_cross : (a : Part) → (part_letter a ≡ X) ↔ (a ≡ Cross)
letter_cross Gather = ((λ e. absurd (omega arith)), λ e. absurd (omega (arith, ap part_letter e)))
letter_cross Cross = ((λ e. refl), λ e. refl)
letter_cross Shift = ((λ e. absurd (omega arith)), λ e. absurd (omega (arith, ap part_letter e)))
letter_cross Spread = ((λ e. absurd (omega arith)), λ e. absurd (omega (arith, ap part_letter e)))

-- The letters of a route with disc m, by whether it is a detour.
lettered : (s g : List ℕ) → Ends s g → 0 < (plan_of s g).largest → (r : ℕ) (b : Bool) → is_detour (plan_of s g).way r ≡ b
    → map part_letter (parts_of s g r) ≡ cond b (detour_letters s g (plan_of s g)) (direct_letters s g (plan_of s g))
unfolding course_of course_by course_parts
lettered s g e moves r false d =
    let k = (plan_of s g).largest - 1 in
    let free = third (peg s k) (peg g k) in
    let (from, to) = plan_pegs s g moves in
    rw (route_parts s g e moves r, d, from, to) (direct_letters_lem (gather (peg s) k free) (gather (peg g) k free))
lettered s g e moves r true d =
    let k = (plan_of s g).largest - 1 in
    let (from, to) = plan_pegs s g moves in
    rw (route_parts s g e moves r, d, from, to) (detour_letters_lem (gather (peg s) k (peg g k)) (tower_length k) (gather (peg g) k (peg s k)))

module _ (t : List ℕ) (r : ℕ) (routed : Routed t r) where
  ends : Ends (start t) (goal t)
  ends = task_ends routed.sound

  -- There is a part for each move.
  pub parts_long : length (parts_of (start t) (goal t) r) ≡ length_of t
  parts_long = parts_length (start t) (goal t) r ∙ route_length t r routed

  -- What Move answers from index i on, so many.
  pub letters_part : (n i : ℕ) → i + n ≤ length_of t → letters_from t r i n ≡ map part_letter (take n (drop i (parts_of (start t) (goal t) r)))
  unfolding letters_from
  letters_part zero i l = refl
  letters_part (suc n) i l =
      let there : i < length (parts_of (start t) (goal t) r) = omega (arith, parts_long) in
      rw (
        part_accepts t r routed i (omega arith),
        letters_part n (suc i) (omega arith),
        drop-cons (parts_of (start t) (goal t) r) i Gather there,
      )

  -- From 0 on, all of them.
  letters_all : whole_letters t r ≡ map part_letter (parts_of (start t) (goal t) r)
  letters_all =
      letters_part (length_of t) 0 (omega arith)
      ∙ ap (map part_letter) (take_all (length_of t) (parts_of (start t) (goal t) r) (omega (arith, parts_long)))

  parted : (i : ℕ) → i < length_of t → Parted t r i
  parted i l =
      record {
        move = move_at (task_route t r) i;
        letter = part_letter (part_at (parts_of (start t) (goal t) r) i);
        moved = move_accepts t r routed i l;
        answered = part_accepts t r routed i l;
        crosses =
            let part = letter_cross (part_at (parts_of (start t) (goal t) r) i) in
            let disc = route_crosses (start t) (goal t) ends r i (omega (arith, route_length t r routed)) in
            ((λ e. disc.0 (part.0 e)), λ e. part.1 (disc.1 e));
      }

module _ (t : List ℕ) (accepted : task_check t ≡ pass) where
  -- Each route below the count is one.
  routed : (r : ℕ) → r < count_of t → Routed t r
  routed = accepted_routed t accepted

  abbrev plan : Plan
  plan = plan_of (start t) (goal t)

  abbrev ours : Way → Type 0
  ours w = Lettered w (whole_letters t) (direct_letters (start t) (goal t) plan) (detour_letters (start t) (goal t) plan)

  -- The letters of one route.
  said : 0 < plan.largest → (r : ℕ) (b : Bool) → r < count_of t → is_detour plan.way r ≡ b
      → whole_letters t r ≡ cond b (detour_letters (start t) (goal t) plan) (direct_letters (start t) (goal t) plan)
  said moves r b known d = letters_all t r (routed r known) ∙ lettered (start t) (goal t) (ends t r (routed r known)) moves r b d

  -- A still plan has none.
  quiet : plan.way ≡ Still → ours Still
  unfolding letters_from
  quiet e = rw e

  -- Each way has those of its routes.
  by : 0 < plan.largest → (w : Way) → plan.way ≡ w → ours w
  unfolding is_detour
  by moves Still e = quiet e
  by moves (Direct l) e = said moves 0 false (rw e (omega arith)) (rw e)
  by moves (Detour l) e = said moves 0 true (rw e (omega arith)) (rw e)
  by moves (Tie l) e = (said moves 0 false (rw e (omega arith)) (rw e), said moves 1 true (rw e (omega arith)) (rw e))

  whole : ours plan.way
  whole =
      elim (largest_view (peg (start t)) (peg (goal t)) (length (start t))) [
        | none m home ↦ subst ours (sym (plan_still (start t) (goal t) m)) (quiet (plan_still (start t) (goal t) m))
        | some k m b away home c ↦ by (omega (arith, plan_disc (start t) (goal t) k m)) plan.way refl
      ]

-- All of it together.
pub annotated : (t : List ℕ) → Faultless (task_faults t) → Annotated t
annotated t clear =
    let accepted = faultless_accepted t clear in
    record {
      joins = route_joins (start t) (goal t);
      parted = λ r i known index. parted t r (routed t accepted r known) i index;
      whole = whole t accepted;
    }
