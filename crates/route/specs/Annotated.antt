-- What request 1 asks of Move (02, CR 1): the part of the plan behind each move, said of what Move answers.
use Rattle.std.specs.Prelude.{ℕ, zero, suc, ◌-◌, ◌^◌, ◌<◌, List, [], ◌∷◌, ◌++◌, ◌↔◌, ◌≡◌, replicate}
use Rattle.board.specs.Peg.{third}
use Rattle.board.specs.Position.{peg}
use Rattle.board.specs.Reply.{Reply, refused, answer}
use Rattle.board.specs.Task.{start, goal}
use Rattle.plan.specs.Gather.{gather}
use Rattle.plan.specs.Plan.{plan_of}
use Rattle.plan.specs.declared.answer.Plan.{Plan}
use Rattle.plan.specs.declared.answer.Way.{Way}
use Rattle.plan.specs.declared.answer.Way.TheVariants.{Still, Direct, Detour, Tie}
use Rattle.route.specs.Answer.{length_of, count_of, task_route, move_answer, part_answer}
use Rattle.route.specs.Part.{stretches_of, joined}
use Rattle.route.specs.declared.answer.DiscMove.{DiscMove}

-- The letter that Move answers; none where it is refused.
abbrev pub letter_said : Reply ℕ → List ℕ
letter_said (refused k) = []
letter_said (answer a) = a ∷ []

-- The letters that Move answers for route r at so many indexes from i on.
unfoldable pub letters_from : List ℕ → ℕ → ℕ → ℕ → List ℕ
letters_from t r i zero = []
letters_from t r i (suc n) = letter_said (part_answer t r i) ++ letters_from t r (suc i) n

-- The letters of a whole route: those that Move answers for each index below the length, in that order.
abbrev pub whole_letters : List ℕ → ℕ → List ℕ
whole_letters t r = letters_from t r 0 (length_of t)

-- So many of one letter: G is 71, X 88, T 84, S 83.
abbrev pub Gs : ℕ → List ℕ
Gs n = replicate n 71

abbrev pub X : ℕ
X = 88

abbrev pub Ts : ℕ → List ℕ
Ts n = replicate n 84

abbrev pub Ss : ℕ → List ℕ
Ss n = replicate n 83

-- A direct route by disc m: Gs as the smaller discs are gathered on the third peg, an X, and Ss as they are spread from there.
abbrev pub direct_letters : List ℕ → List ℕ → Plan → List ℕ
direct_letters s g p =
    Gs (gather (peg s) (p.largest - 1) (third p.from p.to))
    ++ (X ∷ Ss (gather (peg g) (p.largest - 1) (third p.from p.to)))

-- A detour by disc m: Gs as they are gathered on its goal peg, an X, 2 ^ (m − 1) − 1 Ts, a second X, and Ss as they are spread from its
-- start peg.
abbrev pub detour_letters : List ℕ → List ℕ → Plan → List ℕ
detour_letters s g p =
    Gs (gather (peg s) (p.largest - 1) p.to)
    ++ (X ∷ (Ts (2 ^ (p.largest - 1) - 1) ++ (X ∷ Ss (gather (peg g) (p.largest - 1) p.from))))

-- The letters of each route of a plan: a tie's route 0 is direct, its route 1 the detour.
abbrev pub Lettered : Way → (ℕ → List ℕ) → List ℕ → List ℕ → Type 0
Lettered Still letters direct detour = letters 0 ≡ []
Lettered (Direct l) letters direct detour = letters 0 ≡ direct
Lettered (Detour l) letters direct detour = letters 0 ≡ detour
Lettered (Tie l) letters direct detour = (letters 0 ≡ direct) × (letters 1 ≡ detour)

-- Move answers a move and the letter of its part, which is X exactly if the disc is the plan's largest.
pub record Parted (t : List ℕ) (r i : ℕ) : Type 0 where
  pub move : DiscMove
  pub letter : ℕ
  pub moved : move_answer t r i ≡ answer move
  pub answered : part_answer t r i ≡ answer letter
  pub crosses : (letter ≡ X) ↔ (move.disc ≡ (plan_of (start t) (goal t)).largest)

pub record Annotated (t : List ℕ) : Type 0 where
  -- The moves of a route's stretches, joined, are the route.
  pub joins : (r : ℕ) → joined (stretches_of (start t) (goal t) r) ≡ task_route t r
  -- Move answers a letter at every index of a route.
  pub parted : (r i : ℕ) → r < count_of t → i < length_of t → Parted t r i
  -- All letters of each route.
  pub whole :
      Lettered (plan_of (start t) (goal t)).way (whole_letters t)
      (direct_letters (start t) (goal t) (plan_of (start t) (goal t))) (detour_letters (start t) (goal t) (plan_of (start t) (goal t)))
