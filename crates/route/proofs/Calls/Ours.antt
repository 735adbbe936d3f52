-- The list that Move answers, index by index, is the route of the rules.
use Prim.Native.Nat.{ℕ, zero, suc, ◌+◌, ◌≤◌, ◌<◌}
use mathlib.Core.List.{List, map}
use mathlib.Core.Path.{◌≡◌, ◌∙◌, refl, ap}
use native.Mathlib.Omega.{arith}
use lib.ListN.{length, take, drop}
use lib.Seq.{drop-cons, take_all}
use Rattle.route.specs.Answer.{length_of, task_route}
use Rattle.route.specs.Ours.{moves_from, our_route}
use Rattle.route.specs.Route.{plain}
use Rattle.route.proofs.Calls.Answers.{route_length, move_accepts}
use Rattle.route.proofs.Calls.Opened.{Routed}

module _ (t : List ℕ) (r : ℕ) (routed : Routed t r) where
  -- From index i on, so many entries.
  moves_part : (n i : ℕ) → i + n ≤ length_of t → moves_from t r i n ≡ map plain (take n (drop i (task_route t r)))
  unfolding moves_from
  moves_part zero i l = refl
  moves_part (suc n) i l =
      let there : i < length (task_route t r) = omega (arith, route_length t r routed) in
      rw (
        move_accepts t r routed i (omega arith),
        moves_part n (suc i) (omega arith),
        drop-cons (task_route t r) i (record { disc = 0; from = 0; to = 0 }) there,
      )

  -- From 0 on, all of them.
  pub our_route_lem : our_route t r (length_of t) ≡ map plain (task_route t r)
  our_route_lem =
      moves_part (length_of t) 0 (omega arith)
      ∙ ap (map plain) (take_all (length_of t) (task_route t r) (omega (arith, route_length t r routed)))
