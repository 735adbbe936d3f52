-- What Move, Place, Run and Locate answer to a call without faults, and what an answer says of its call.
use Prim.Native.Nat.{ℕ, suc, ◌-◌, ◌*◌, ◌/◌, ◌≤◌, ◌<◌, min}
use mathlib.Core.Bool.{not}
use mathlib.Core.List.{List, ◌++◌, map}
use mathlib.Core.Path.{◌≡◌, ◌∙◌, refl, sym, ap}
use native.Mathlib.Omega.{arith}
use borrow.Author.Tests.{eqb-true, eq-eqb, lt-ltb, le-ltb, ltb-true, ltb-false, not-false}
use lib.Dec.{eqb, ltb}
use lib.ListN.{length, take, drop, length-append, length-take, length-drop}
use lib.Seq.{take_at, drop_at}
use Rattle.board.specs.Move.{Leads, top}
use Rattle.board.specs.Position.{well_formed, WellFormed}
use Rattle.board.specs.Reply.{refused, answer, pass}
use Rattle.board.specs.Task.{limit, discs, start, goal, task_check}
use Rattle.board.proofs.Leads.{leads_formed, leads_size}
use Rattle.board.proofs.Lists.{map_take, map_drop}
use Rattle.board.proofs.Replies.{then_answered, check_answered, check_passed}
use Rattle.board.proofs.Tasks.{SoundTask, task_accepted}
use Rattle.route.specs.Answer.{length_of, task_route, route_check, move_answer, part_answer, place_answer, place_writes, run_answer, run_writes, letters, Where, on, off, located_at, locate_answer}
use Rattle.route.specs.Inner.Open.{list_check}
use Rattle.route.specs.Ours.{read_moves}
use Rattle.route.specs.Part.{part_letter, parts_of, part_at}
use Rattle.route.specs.Route.{plain, move_at, after}
use Rattle.route.specs.declared.answer.DiscMove.{DiscMove}
use Rattle.route.proofs.Calls.Lists.{list_first, list_passed, list_passes}
use Rattle.route.proofs.Calls.Locating.{through, located_back}
use Rattle.route.proofs.Calls.Opened.{Routed, route_passed, route_passes}
use Rattle.route.proofs.Calls.Letters.{PegMoves, leads_pegs, pegs_take, pegs_drop, letters_read, letters_length}
use Rattle.route.proofs.Shortest.Routes.{route_walk, route_leads}
use Rattle.route.proofs.Walks.Leading.{walk_disc}

-- One place has one index and one route, and is not off.
pub on_same : {i j r l : ℕ} → answer (on i r) ≡ answer (on j l) → (i ≡ j) × (r ≡ l)
on_same e = (cc, cc)

pub off_on : {i r : ℕ} → answer off ≡ answer (on i r) → ⊥
off_on e = let z : ◌≡◌ {A = ℕ} 0 1 = cc in omega arith

-- An answered Move: the route is there, the index below its length, and the move is the route's.
pub record MoveAnswered (t : List ℕ) (r i : ℕ) (m : DiscMove) : Type 0 where
  pub routed : Routed t r
  pub index : i < length_of t
  pub move : move_at (task_route t r) i ≡ m

pub move_answered : (t : List ℕ) (r i : ℕ) {m : DiscMove} → move_answer t r i ≡ answer m → MoveAnswered t r i m
unfolding move_answer
move_answered t r i {m} e =
    let (passed, rest) = then_answered (route_check t r) _ e in
    let (index, same) = check_answered (not (ltb i (length_of t))) 5 _ rest in
    record {
      routed = route_passed t r passed;
      index = ltb-true i (length_of t) (not-false (ltb i (length_of t)) index);
      move = cc;
    }

-- An accepted Place: the index is up to the length, and the buffer, which keeps its size, has room for the n discs, at most `limit`.
pub record PlaceAnswered (t : List ℕ) (r i : ℕ) (out : List ℕ) : Type 0 where
  pub routed : Routed t r
  pub within : discs t ≤ limit
  pub index : i ≤ length_of t
  pub room : discs t ≤ length out
  pub wrote : place_writes t r i out ≡ after (start t) (take i (task_route t r)) ++ drop (discs t) out
  pub sized : length (place_writes t r i out) ≡ length out

-- An answered Run: the first index is up to the length, and the moves that it counts fit the buffer, which keeps its size.
pub record RunAnswered (t : List ℕ) (r i : ℕ) (out : List ℕ) (k : ℕ) : Type 0 where
  pub routed : Routed t r
  pub index : i ≤ length_of t
  pub count : k ≡ min (length_of t - i) (length out / 2)
  pub room : 2 * k ≤ length out
  pub wrote : run_writes t r i out ≡ letters (take k (drop i (task_route t r))) ++ drop (2 * k) out
  pub sized : length (run_writes t r i out) ≡ length out

-- An answered Locate: the position is one of n discs on pegs.
pub record LocateAnswered (t q : List ℕ) (w : Where) : Type 0 where
  pub sound : SoundTask t
  pub sized : length q ≡ discs t
  pub formed : WellFormed q
  pub place : located_at (start t) (goal t) q ≡ w

pub locate_answered : (t q : List ℕ) {w : Where} → locate_answer t q ≡ answer w → LocateAnswered t q w
unfolding locate_answer
locate_answered t q {w} e =
    let (task, rest) = then_answered (task_check t) _ e in
    let (size, more) = check_answered (not (eqb (length q) (discs t))) 7 _ rest in
    let (formed, same) = check_answered (not (well_formed q)) 3 _ more in
    record {
      sound = task_accepted t task;
      sized = eqb-true _ _ (not-false (eqb (length q) (discs t)) size);
      formed = not-false (well_formed q) formed;
      place = cc;
    }

-- Every position of n discs on pegs is answered.
pub locate_accepts : (t q : List ℕ) → task_check t ≡ pass → length q ≡ discs t → WellFormed q
    → locate_answer t q ≡ answer (located_at (start t) (goal t) q)
unfolding locate_answer
locate_accepts t q accepted sized formed = rw (accepted, eq-eqb (length q) (discs t) sized, formed)

module _ (t : List ℕ) (r : ℕ) (routed : Routed t r) where
  -- A route has as many moves as the plan says.
  pub route_length : length (task_route t r) ≡ length_of t
  route_length =
      let s = routed.sound in
      (route_walk (start t) (goal t) (s.start_length ∙ sym s.goal_length) s.start_formed s.goal_formed r routed.known).long

  -- Its moves are legal: from peg to peg.
  pub route_pegs : PegMoves (task_route t r)
  route_pegs =
      let s = routed.sound in
      leads_pegs (task_route t r)
      (route_leads (start t) (goal t) (s.start_length ∙ sym s.goal_length) s.start_formed s.goal_formed r routed.known).leads

  -- At every index below the length Move answers the entry of the route.
  pub move_accepts : (i : ℕ) → i < length_of t → move_answer t r i ≡ answer (move_at (task_route t r) i)
  unfolding move_answer
  move_accepts i l = rw (route_passes t r routed.accepted routed.known, lt-ltb i (length_of t) l)

  -- And its part.
  pub part_accepts : (i : ℕ) → i < length_of t → part_answer t r i ≡ answer (part_letter (part_at (parts_of (start t) (goal t) r) i))
  unfolding part_answer
  part_accepts i l = rw (move_accepts i l)

  -- The first i entries lead to the position after them, which has n discs on pegs.
  pub place_leads : (i : ℕ) → Leads (start t) (map plain (take i (task_route t r))) (after (start t) (take i (task_route t r)))
  place_leads i =
      let s = routed.sound in
      (through (start t) (goal t) (s.start_length ∙ sym s.goal_length) s.start_formed s.goal_formed r routed.known i).there

  pub place_size : (i : ℕ) → length (after (start t) (take i (task_route t r))) ≡ discs t
  place_size i = leads_size (place_leads i) ∙ routed.sound.start_length

  pub place_formed : (i : ℕ) → WellFormed (after (start t) (take i (task_route t r)))
  place_formed i = leads_formed routed.sound.start_formed (place_leads i)

  -- The next entry names the disc that it moves.
  pub move_disc : (i : ℕ) → i < length_of t
      → (move_at (task_route t r) i).disc ≡ suc (top (after (start t) (take i (task_route t r))) (move_at (task_route t r) i).from)
  move_disc i l =
      let s = routed.sound in
      let w = route_walk (start t) (goal t) (s.start_length ∙ sym s.goal_length) s.start_formed s.goal_formed r routed.known in
      walk_disc w.walk (start t) refl (λ d. refl) i (omega (arith, w.long))

  -- At every index up to the length, into a buffer of n bytes or more, Place is accepted.
  pub place_accepts : (i : ℕ) (out : List ℕ) → i ≤ length_of t → discs t ≤ length out → place_answer t r i out ≡ pass
  unfolding place_answer
  place_accepts i out l room =
      rw (route_passes t r routed.accepted routed.known, le-ltb (length_of t) i l, le-ltb (length out) (discs t) room)

  -- At every first index up to the length, into a buffer of 2 bytes or more where moves remain, Run answers how many remain or fit.
  pub run_accepts : (i : ℕ) (out : List ℕ) → i ≤ length_of t → (i < length_of t → 2 ≤ length out)
      → run_answer t r i out ≡ answer (min (length_of t - i) (length out / 2))
  unfolding run_answer
  run_accepts i out l room =
      let ready = list_passes t r i (length out) 2 (record { routed = routed; index = l; fits = room }) in
      list_first t r i (length out) 2 _ ∙ rw ready

  -- The letters of the moves that Run counts.
  part_length : (i : ℕ) (out : List ℕ) →
      let k = min (length_of t - i) (length out / 2) in
      length (letters (take k (drop i (task_route t r)))) ≡ 2 * k
  part_length i out =
      let k = min (length_of t - i) (length out / 2) in
      omega (
        arith,
        letters_length (take k (drop i (task_route t r))),
        length-take k (drop i (task_route t r)),
        length-drop i (task_route t r),
        route_length,
      )

-- Bytes written over the first of a buffer leave its size.
pub joined_size : (a out : List ℕ) (n : ℕ) → length a ≡ n → n ≤ length out → length (a ++ drop n out) ≡ length out
joined_size a out n e room = omega (arith, length-append a (drop n out), length-drop n out)

-- What is accepted and written, of a Place.
pub place_answered : (t : List ℕ) (r i : ℕ) (out : List ℕ) → place_answer t r i out ≡ pass → PlaceAnswered t r i out
unfolding place_answer place_writes
place_answered t r i out e =
    let (passed, rest) = then_answered (route_check t r) _ e in
    let (index, buffer) = check_answered (ltb (length_of t) i) 5 _ rest in
    let room = check_passed (ltb (length out) (discs t)) 6 buffer in
    let routed = route_passed t r passed in
    let fits = ltb-false (length out) (discs t) room in
    let q = after (start t) (take i (task_route t r)) in
    record {
      routed = routed;
      within = routed.sound.within;
      index = ltb-false (length_of t) i index;
      room = fits;
      wrote = rw (e, place_size t r routed i);
      sized = rw (e, place_size t r routed i) (joined_size q out (discs t) (place_size t r routed i) fits);
    }

-- Where the checks of the list calls refuse, Run does.
pub run_refuses : (t : List ℕ) (r i : ℕ) (out : List ℕ) {k : ℕ} → list_check t r i (length out) 2 ≡ refused k → run_answer t r i out ≡ refused k
unfolding run_answer
run_refuses t r i out e = list_first t r i (length out) 2 _ ∙ rw e

-- Of a Run.
pub run_answered : (t : List ℕ) (r i : ℕ) (out : List ℕ) {k : ℕ} → run_answer t r i out ≡ answer k → RunAnswered t r i out k
unfolding run_answer run_writes
run_answered t r i out {k} e =
    let (passed, same) = then_answered (list_check t r i (length out) 2) _ (sym (list_first t r i (length out) 2 _) ∙ e) in
    let listed = list_passed t r i (length out) 2 passed in
    let routed = listed.routed in
    let count : min (length_of t - i) (length out / 2) ≡ k = cc in
    let fits : 2 * k ≤ length out = omega arith in
    let part = rw count at (part_length t r routed i out) in
    record {
      routed = routed;
      index = listed.index;
      count = sym count;
      room = fits;
      wrote = rw (e, part);
      sized = rw (e, part) (joined_size (letters (take k (drop i (task_route t r)))) out (2 * k) part fits);
    }

-- Place and then Locate gives the index back, on the route or a lower one.
pub place_located : (t : List ℕ) (r i : ℕ) (out : List ℕ) → place_answer t r i out ≡ pass
    → (l : ℕ) × (l ≤ r) × (locate_answer t (take (discs t) (place_writes t r i out)) ≡ answer (on i l))
place_located t r i out e =
    let placed = place_answered t r i out e in
    let routed = placed.routed in
    let s = routed.sound in
    let q = after (start t) (take i (task_route t r)) in
    let read : take (discs t) (place_writes t r i out) ≡ q = rw placed.wrote (take_at q _ (discs t) (place_size t r routed i)) in
    let (l, low, found) =
    located_back (start t) (goal t) (s.start_length ∙ sym s.goal_length) s.start_formed s.goal_formed i r placed.index routed.known in
    (l, low, rw read (locate_accepts t q routed.accepted (place_size t r routed i) (place_formed t r routed i) ∙ ap answer found))

-- What Run writes, read as moves, is the route from its first index on, as many as it returns.
pub run_reads : (t : List ℕ) (r i : ℕ) (out : List ℕ) {k : ℕ} → RunAnswered t r i out k
    → read_moves (take (2 * k) (run_writes t r i out)) ≡ take k (drop i (map plain (task_route t r)))
run_reads t r i out {k} ran =
    let part = take k (drop i (task_route t r)) in
    let size : length (letters part) ≡ 2 * k = rw ran.count (part_length t r ran.routed i out) in
    rw ran.wrote
    (ap read_moves (take_at (letters part) (drop (2 * k) out) (2 * k) size)
    ∙ letters_read part (pegs_take k (drop i (task_route t r)) (pegs_drop i (task_route t r) (route_pegs t r ran.routed)))
    ∙ map_take plain k (drop i (task_route t r))
    ∙ ap (take k) (map_drop plain i (task_route t r)))

-- And its other bytes are as they stood.
pub run_stays : (t : List ℕ) (r i : ℕ) (out : List ℕ) {k : ℕ} → RunAnswered t r i out k → drop (2 * k) (run_writes t r i out) ≡ drop (2 * k) out
run_stays t r i out {k} ran =
    let part = take k (drop i (task_route t r)) in
    let size : length (letters part) ≡ 2 * k = rw ran.count (part_length t r ran.routed i out) in
    rw ran.wrote (drop_at (letters part) (drop (2 * k) out) (2 * k) size)
