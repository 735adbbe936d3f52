-- Writing the wears, from the largest disc downwards: what is stored, and what is left to write, make up the whole.
use Prim.Native.Nat.{ℕ, zero, suc, ◌+◌, ◌-◌, ◌≤◌, ◌<◌, ◌^◌}
use mathlib.Core.Bool.{true, false, not}
use mathlib.Core.List.{List, [], ◌∷◌, ◌++◌, append_assoc}
use mathlib.Core.Logic.{◌≢◌}
use mathlib.Core.Path.{◌≡◌, ◌∙◌, refl, sym, ap}
use native.Mathlib.Omega.{arith}
use borrow.Rule.Slice.PartMut.{put_mid, mid_of, mid_len}
use lib.Dec.{eqb}
use lib.ListN.{length, take, drop, set, replicate, length-set}
use lib.Seq.{length-take-le, set_split, drop_at, drop-drop}
use mir.Val.{bool_byte}
use Rattle.board.specs.Peg.{third}
use Rattle.board.specs.Position.{peg}
use Rattle.board.proofs.Formed.{formed_pegs}
use Rattle.board.proofs.Pegs.{third_peg}
use Rattle.plan.specs.Inner.Sound.{Ends}
use Rattle.plan.specs.Inner.Together.{added}
use Rattle.plan.specs.Plan.{plan_of}
use Rattle.plan.specs.declared.answer.Plan.{Plan}
use Rattle.plan.proofs.Bounds.{plan_fits}
use Rattle.route.specs.Inner.Stage.{is_detour}
use Rattle.route.specs.Route.{route_of}
use Rattle.route.specs.declared.opened.Opened.{Opened}
use Rattle.route.proofs.Courses.Plan.{plan_largest}
use Rattle.wear.specs.Inner.Below.{moves_of, wears_below, Writable}
use Rattle.wear.specs.Wear.{wears}
use Rattle.wear.specs.declared.writing.Gaps.{Gaps}
use Rattle.wear.proofs.Gaps.{moves_counted, gaps_more, gaps_least, detour_fits, direct_fits}
use Rattle.wear.proofs.Routes.{moved_wears, route_moved, route_wears}

-- What is stored before the rest of a buffer comes after what is written before it.
before_stored : (xs o : List ℕ) (k w : ℕ) → k < length o → xs ++ drop k (set o k w) ≡ (xs ++ (w ∷ [])) ++ drop (suc k) o
before_stored xs o k w h =
    rw (set_split o k w h, drop_at (take k o) (w ∷ drop (suc k) o) k (length-take-le k o (omega arith)))
    (sym (append_assoc xs (w ∷ []) (drop (suc k) o)))

-- What is stored for disc m is the last of what is left to write.
below_last : (p q : ℕ → ℕ) (m i j gaps : ℕ) (o : List ℕ) → m ≢ 0 → m ≤ length o →
    let moves = moves_of p q (m - 1) i j gaps in
    wears_below p q (m - 1) (third i (p (m - 1))) (third j (q (m - 1))) (gaps + moves) ++ drop (m - 1) (set o (m - 1) moves)
    ≡ wears_below p q m i j gaps ++ drop m o
unfolding wears_below
below_last p q zero i j gaps o some room = absurd (some refl)
below_last p q (suc m) i j gaps o some room =
    let less : suc m - 1 ≡ m = omega arith in
    let moves = moves_of p q m i j gaps in
    rw less (before_stored (wears_below p q m (third i (p m)) (third j (q m)) (gaps + moves)) o m moves (omega arith))

module _ {s t : List ℕ} {m : ℕ} {above : Gaps} {out : List ℕ} (ready : Writable s t m above out) (some : m ≢ 0) where
  -- How often disc m moves, as the code counts it.
  abbrev moves : ℕ
  moves = bool_byte (not (eqb (peg s (m - 1)) above.first)) + bool_byte (not (eqb (peg t (m - 1)) above.last)) + above.between

  counted : moves ≡ moves_of (peg s) (peg t) (m - 1) above.first above.last above.between
  counted = moves_counted (peg s) (peg t) (m - 1) above.first above.last above.between

  -- The gaps after it fit.
  pub moves_fit : above.between + moves < 2 ^ 64
  moves_fit =
      omega (
        arith,
        counted,
        ready.fits,
        gaps_more s t m above.first above.last above.between some,
        gaps_least s t (m - 1) (third above.first (peg s (m - 1))) (third above.last (peg t (m - 1))) (above.between + moves_of (peg s) (peg t) (m - 1) above.first above.last above.between),
      )

  module _ {x y : ℕ} (first : x ≡ third above.first (peg s (m - 1))) (last : y ≡ third above.last (peg t (m - 1))) where
    -- Once its entry is stored, the smaller discs can be written.
    pub below_ready : Writable s t (m - 1) (record { first = x; last = y; between = above.between + moves }) (set out (m - 1) moves)
    below_ready =
        record {
          there = omega (arith, ready.there);
          first_peg = rw first (third_peg above.first (peg s (m - 1)) ready.first_peg);
          last_peg = rw last (third_peg above.last (peg t (m - 1)) ready.last_peg);
          fits = rw (first, last, counted, gaps_more s t m above.first above.last above.between some) ready.fits;
          room = omega (arith, ready.room, length-set out (m - 1) moves);
        }

    -- With what is left to write they make up the same.
    pub below_stored : wears_below (peg s) (peg t) (m - 1) x y (above.between + moves) ++ drop (m - 1) (set out (m - 1) moves)
        ≡ wears_below (peg s) (peg t) m above.first above.last above.between ++ drop m out
    below_stored =
        rw (first, last, counted) (below_last (peg s) (peg t) m above.first above.last above.between out some ready.room)

-- With no disc left nothing is left to write.
pub below_none : (p q : ℕ → ℕ) (m i j gaps : ℕ) (o : List ℕ) → m ≡ 0 → wears_below p q m i j gaps ++ drop m o ≡ o
unfolding wears_below
below_none p q m i j gaps o e = rw e

-- Disc by disc.
pub ruleset below_steps = (formed_pegs, moves_fit, below_none)

-- The largest disc that moves is one of the discs.
pub opened_largest : (o : Opened) → o.plan.largest ≤ length o.task.start.now
opened_largest o = rw o.planned (plan_largest o.task.start.now o.task.goal.now)

module _ {s t : List ℕ} {w : Plan} (ends : Ends s t) (plan : w ≡ plan_of s t) where
  -- The pegs of a plan are pegs.
  pub moved_pegs : (w.from < 3) × (w.to < 3)
  moved_pegs =
      let fits = plan_fits s t ends.start_formed ends.goal_formed ends.within in rw plan (fits.from_fits, fits.to_fits)

  module _ (r : ℕ) (out : List ℕ) (some : 0 < w.largest) (room : w.largest ≤ length out) where
    -- Below the largest disc that moves the smaller ones can be written, where the gaps fit.
    smaller_ready : {above : Gaps} (v : ℕ) → above.first < 3 → above.last < 3 → added s t (w.largest - 1) above.first above.last above.between < 2 ^ 64
        → Writable s t (w.largest - 1) above (set out (w.largest - 1) v)
    smaller_ready v first last fits =
        let there : w.largest ≤ length s = rw plan (plan_largest s t) in
        record { there = omega arith; first_peg = first; last_peg = last; fits = fits; room = omega (arith, length-set out (w.largest - 1) v) }

    -- On a detour.
    pub detour_ready : is_detour w.way r ≡ true → {gaps : ℕ} → gaps ≤ 1 → (v : ℕ)
        → Writable s t (w.largest - 1) (record { first = w.to; last = w.from; between = gaps }) (set out (w.largest - 1) v)
    detour_ready around few v = smaller_ready v moved_pegs.1 moved_pegs.0 (detour_fits s t plan r some ends around few)

    -- On a direct route.
    pub direct_ready : is_detour w.way r ≡ false → {z : ℕ} → z ≡ third w.from w.to → (v : ℕ)
        → Writable s t (w.largest - 1) (record { first = z; last = z; between = 0 }) (set out (w.largest - 1) v)
    direct_ready straight {z} e v =
        let free : z < 3 = rw e (third_peg w.from w.to moved_pegs.0) in
        smaller_ready v free free (direct_fits s t plan r some ends straight e)

    -- What is written below the entry of the largest disc that moves, and then the entry, are the wears up to that disc.
    moved_written : (below : List ℕ) (v : ℕ) → wears w.largest (route_of s t r) ≡ below ++ (v ∷ [])
        → below ++ drop (w.largest - 1) (set out (w.largest - 1) v) ≡ wears w.largest (route_of s t r) ++ drop w.largest out
    moved_written below v there =
        let up : suc (w.largest - 1) ≡ w.largest = omega arith in
        rw (up, ← there) at (before_stored below out (w.largest - 1) v (omega arith))

    -- On a detour.
    pub detour_written : is_detour w.way r ≡ true
        → wears_below (peg s) (peg t) (w.largest - 1) w.to w.from 1 ++ drop (w.largest - 1) (set out (w.largest - 1) 2)
        ≡ wears w.largest (route_of s t r) ++ drop w.largest out
    detour_written around =
        let below = wears_below (peg s) (peg t) (w.largest - 1) w.to w.from 1 in
        moved_written below 2 (route_moved s t plan r ends some ∙ ap (moved_wears w (peg s) (peg t)) around)

    -- On a direct route.
    pub direct_written : is_detour w.way r ≡ false → {z : ℕ} → z ≡ third w.from w.to
        → wears_below (peg s) (peg t) (w.largest - 1) z z 0 ++ drop (w.largest - 1) (set out (w.largest - 1) 1)
        ≡ wears w.largest (route_of s t r) ++ drop w.largest out
    direct_written straight e =
        let free = third w.from w.to in
        let below = wears_below (peg s) (peg t) (w.largest - 1) free free 0 in
        rw e (moved_written below 1 (route_moved s t plan r ends some ∙ ap (moved_wears w (peg s) (peg t)) straight))

module _ (s t : List ℕ) {w : Plan} (plan : w ≡ plan_of s t) (r : ℕ) (out : List ℕ) (room : length s ≤ length out) where
  module _ {n : ℕ} (size : n ≡ length s) {zeros : List ℕ} (filled : zeros ≡ replicate (length (mid_of w.largest (n - w.largest) out)) 0) where
    -- The entries of the discs that move, before zeros for the others, are those of all discs.
    pub all_written : wears w.largest (route_of s t r) ++ drop w.largest (put_mid w.largest (n - w.largest) out zeros)
        ≡ wears (length s) (route_of s t r) ++ drop (length s) out
    all_written =
        let m = w.largest in
        let few : m ≤ length s = rw plan (plan_largest s t) in
        let sum : m + (n - m) ≡ n = omega (arith, few) in
        rw (
          drop_at (take m out) (zeros ++ drop (n - m) (drop m out)) m (length-take-le m out (omega (arith, few))),
          drop-drop (n - m) m out,
          sum,
          filled,
          mid_len m n out (omega arith),
          route_wears s t plan r,
          size,
        )
        (sym (append_assoc (wears m (route_of s t r)) (replicate (length s - m) 0) (drop (length s) out)))

    -- Where none moves, the zeros are.
    pub none_written : w.largest ≡ 0 → put_mid w.largest (n - w.largest) out zeros ≡ wears (length s) (route_of s t r) ++ drop (length s) out
    unfolding wears
    none_written none = rw none (rw none at all_written)
