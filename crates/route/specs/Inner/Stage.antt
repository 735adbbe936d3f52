-- Where an index of a route falls, and what the route does there, without the list. `p d` and `q d` are the pegs of disc d + 1 at the
-- start and at the goal.
use Rattle.std.specs.Prelude.{ℕ, zero, suc, ◌+◌, ◌-◌, ◌^◌, ◌<◌, Bool, true, false, cond, List, ◌∷◌, ◌++◌, eqb, ltb, leb, replicate}
use Rattle.board.specs.Peg.{third}
use Rattle.board.specs.Position.{peg}
use Rattle.board.specs.Task.{limit}
use Rattle.plan.specs.Gather.{gather}
use Rattle.plan.specs.Plan.{plan_of}
use Rattle.plan.specs.Tower.{tower_length}
use Rattle.plan.specs.declared.answer.Way.{Way}
use Rattle.plan.specs.declared.answer.Way.TheVariants.{Still, Direct, Detour, Tie}
use Rattle.route.specs.Inner.Along.{along}
use Rattle.route.specs.Route.{carry, turned, gathering, move_at}
use Rattle.route.specs.declared.answer.DiscMove.{DiscMove}
use Rattle.route.specs.declared.course.Course.{Course}
use Rattle.route.specs.declared.course.Stage.{Stage}
use Rattle.route.specs.declared.course.Stage.TheVariants.{Gathering, Shifting, Spreading}
use Rattle.route.specs.declared.part.Part.{Part}
use Rattle.route.specs.declared.part.Part.TheVariants.{Gather, Cross, Shift, Spread}

-- Whether route r of a way is a detour.
unfoldable pub is_detour : Way → ℕ → Bool
is_detour Still r = false
is_detour (Direct l) r = false
is_detour (Detour l) r = true
is_detour (Tie l) zero = false
is_detour (Tie l) (suc r) = true

-- The peg on which the smaller discs are gathered before the first crossing, that which this crossing reaches, and that from which
-- they are spread after the last.
abbrev pub first_peg : Course → ℕ
first_peg c = cond c.detour c.to c.free

abbrev pub first_stop : Course → ℕ
first_stop c = cond c.detour c.free c.to

abbrev pub last_peg : Course → ℕ
last_peg c = cond c.detour c.from c.free

-- The course of disc k + 1, direct or by a detour.
unfoldable pub course_by : (ℕ → ℕ) → (ℕ → ℕ) → ℕ → Bool → Course
course_by p q k d =
    record {
      disc = k;
      from = p k;
      to = q k;
      free = third (p k) (q k);
      detour = d;
      first = gather p k (cond d (q k) (third (p k) (q k)));
    }

-- The course of route r of a plan whose largest moving disc is not 0.
unfoldable pub course_of : List ℕ → List ℕ → ℕ → Course
course_of s t r = course_by (peg s) (peg t) ((plan_of s t).largest - 1) (is_detour (plan_of s t).way r)

-- The stage of an index: so many moves of the gathering left, of the shift left, or of the spreading done.
unfoldable pub after_first : Course → ℕ → Stage
after_first c i =
    cond c.detour
    (cond (leb i (tower_length c.disc)) (Shifting (tower_length c.disc - i)) (Spreading (i - tower_length c.disc - 1)))
    (Spreading i)

unfoldable pub stage_of : Course → ℕ → Stage
stage_of c i = cond (leb i c.first) (Gathering (c.first - i)) (after_first c (i - c.first - 1))

-- The position that is gathered at a stage, and the peg on which it is: the start, the tower on the goal peg in the shift, or the goal,
-- whose gathering is the spreading run backwards.
abbrev pub stage_position : List ℕ → List ℕ → Course → Stage → List ℕ
stage_position s g c (Gathering r) = s
stage_position s g c (Shifting r) = replicate limit c.to
stage_position s g c (Spreading i) = g

abbrev pub stage_target : Course → Stage → ℕ
stage_target c (Gathering r) = first_peg c
stage_target c (Shifting r) = c.from
stage_target c (Spreading i) = last_peg c

-- The next move at a stage.
abbrev pub first_move_of : (ℕ → ℕ) → ℕ → ℕ → DiscMove
first_move_of u k j = move_at (gathering u k j) 0

unfoldable pub stage_move : (ℕ → ℕ) → (ℕ → ℕ) → Course → Stage → DiscMove
stage_move p q c (Gathering r) =
    cond (eqb r 0) (carry c.disc c.from (first_stop c))
    (first_move_of (along p c.disc (first_peg c) r) c.disc (first_peg c))
stage_move p q c (Shifting r) =
    cond (eqb r 0) (carry c.disc c.free c.to)
    (first_move_of (along (λ _. c.to) c.disc c.from r) c.disc c.from)
stage_move p q c (Spreading i) =
    turned (first_move_of (along q c.disc (last_peg c) (i + 1)) c.disc (last_peg c))

-- Its part: a crossing where no move of the gathering or of the shift is left.
unfoldable pub stage_part : Stage → Part
stage_part (Gathering r) = cond (eqb r 0) Cross Gather
stage_part (Shifting r) = cond (eqb r 0) Cross Shift
stage_part (Spreading i) = Spread

-- The moves between the first crossing and the spreading: those of the shift and of the second crossing. A direct course has none.
abbrev pub shift_of : Course → ℕ
shift_of c = cond c.detour (tower_length c.disc) 0

abbrev pub second_of : Course → ℕ
second_of c = cond c.detour 1 0

-- The parts of all moves of a course that ends in so many moves of spreading.
unfoldable pub course_parts : Course → ℕ → List Part
course_parts c s =
    replicate c.first Gather
    ++ (Cross ∷ (replicate (shift_of c) Shift ++ (replicate (second_of c) Cross ++ replicate s Spread)))

-- The peg of each disc at a stage.
unfoldable pub stage_peg : (ℕ → ℕ) → (ℕ → ℕ) → Course → Stage → ℕ → ℕ
stage_peg p q c (Gathering r) d = along p c.disc (first_peg c) r d
stage_peg p q c (Shifting r) d =
    cond (ltb d c.disc) (along (λ _. c.to) c.disc c.from r d) (cond (eqb d c.disc) c.free (p d))
stage_peg p q c (Spreading i) d = along q c.disc (last_peg c) i d

-- The disc of a course is one of n, and its pegs are pegs.
pub record CourseFits (c : Course) (n : ℕ) : Type 0 where
  pub disc_there : c.disc < n
  pub from_peg : c.from < 3
  pub to_peg : c.to < 3
  pub free_peg : c.free < 3

-- The moves done at a stage and one more are a number of 64 bits.
abbrev pub StageFits : Stage → Type 0
StageFits (Gathering r) = Unit {0}
StageFits (Shifting r) = Unit {0}
StageFits (Spreading i) = i + 1 < 2 ^ 64
