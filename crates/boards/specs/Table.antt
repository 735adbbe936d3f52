-- The starred boards of document 01, "Boards to try", and that of 02, CR 6: one table. That the rules reply so is one theorem, `boards_hold`
-- (proofs/Table).
use Rattle.std.specs.Prelude.{ℕ, List, [], ◌∷◌, ◌++◌, replicate}
use Rattle.board.specs.Move.{Move}
use Rattle.board.specs.Reply.{Reply, refused, answer, Check}
use Rattle.plan.specs.Answer.{gather_answer, plan_answer}
use Rattle.plan.specs.Plan.{shortest, routes}
use Rattle.plan.specs.declared.answer.Lengths.{Lengths}
use Rattle.plan.specs.declared.answer.Plan.{Plan}
use Rattle.plan.specs.declared.answer.Way.{Way}
use Rattle.plan.specs.declared.answer.Way.TheVariants.{Still, Direct, Detour, Tie}
use Rattle.route.specs.Answer.{move_answer, Where, on, off, locate_answer}
use Rattle.route.specs.Route.{plain}
use Rattle.route.specs.declared.answer.DiscMove.{DiscMove}
use Rattle.wear.specs.Answer.{wear_answer, wear_writes}

-- A call of Gather, Plan, Move, Locate or Wear.
pub data BoardCall : Type 0 where
  gathers : (position : List ℕ) (peg : ℕ) → BoardCall
  plans : (start goal : List ℕ) → BoardCall
  moves : (start goal : List ℕ) (route index : ℕ) → BoardCall
  locates : (start goal position : List ℕ) → BoardCall
  wears : (start goal : List ℕ) (route : ℕ) (buffer : List ℕ) → BoardCall

-- What the documents say of it: a refusal's number; a length; a way with its lengths, the fewest and how many routes; a move; a place; the
-- buffer afterwards.
pub data BoardSays : Type 0 where
  refuses : (number : ℕ) → BoardSays
  stacks : (moves : ℕ) → BoardSays
  plan : (way : Way) (shortest routes : ℕ) → BoardSays
  move : Move → BoardSays
  place : Where → BoardSays
  wrote : (buffer : List ℕ) → BoardSays

abbrev says_stack : Reply ℕ → BoardSays
says_stack (refused k) = refuses k
says_stack (answer n) = stacks n

abbrev says_plan : Reply Plan → BoardSays
says_plan (refused k) = refuses k
says_plan (answer p) = plan p.way (shortest p) (routes p)

abbrev says_move : Reply DiscMove → BoardSays
says_move (refused k) = refuses k
says_move (answer m) = move (plain m)

abbrev says_place : Reply Where → BoardSays
says_place (refused k) = refuses k
says_place (answer w) = place w

abbrev says_wrote : Check → List ℕ → BoardSays
says_wrote (refused k) buffer = refuses k
says_wrote (answer u) buffer = wrote buffer

-- What the rules reply.
abbrev pub reply_to : BoardCall → BoardSays
reply_to (gathers p j) = says_stack (gather_answer p j)
reply_to (plans s t) = says_plan (plan_answer (s ++ t))
reply_to (moves s t r i) = says_move (move_answer (s ++ t) r i)
reply_to (locates s t q) = says_place (locate_answer (s ++ t) q)
reply_to (wears s t r buffer) = says_wrote (wear_answer (s ++ t) r buffer) (wear_writes (s ++ t) r buffer)

-- A call, and what the documents say of it.
pub record Board : Type 0 where
  pub call : BoardCall
  pub says : BoardSays

abbrev board : BoardCall → BoardSays → Board
board c r = record { call = c; says = r }

-- The direct and the detour length.
abbrev lengths : ℕ → ℕ → Lengths
lengths d e = record { direct = d; detour = e }

abbrev pub boards : List Board
boards =
    board (plans [] []) (plan Still 0 1)
    ∷ board (plans (0 ∷ []) (2 ∷ [])) (plan (Direct (lengths 1 2)) 1 1)
    ∷ board (plans (0 ∷ 0 ∷ []) (2 ∷ 2 ∷ [])) (plan (Direct (lengths 3 5)) 3 1)
    ∷ board (plans (1 ∷ 0 ∷ []) (0 ∷ 1 ∷ [])) (plan (Tie (lengths 3 3)) 3 2)
    ∷ board (plans (1 ∷ 1 ∷ 0 ∷ []) (0 ∷ 0 ∷ 1 ∷ [])) (plan (Detour (lengths 7 5)) 5 1)
    ∷ board (plans (0 ∷ 1 ∷ 2 ∷ 0 ∷ 0 ∷ 1 ∷ []) (1 ∷ 2 ∷ 0 ∷ 1 ∷ 1 ∷ 0 ∷ [])) (plan (Detour (lengths 58 43)) 43 1)
    ∷ board (moves (0 ∷ 1 ∷ 2 ∷ 0 ∷ 0 ∷ 1 ∷ []) (1 ∷ 2 ∷ 0 ∷ 1 ∷ 1 ∷ 0 ∷ []) 0 0) (move (record { from = 0; to = 1 }))
    ∷ board (gathers (2 ∷ 1 ∷ 1 ∷ 2 ∷ 2 ∷ 1 ∷ []) 1) (stacks 25)
    ∷ board (plans (replicate 60 0) (replicate 60 2)) (plan (Direct (lengths 1152921504606846975 1729382256910270463)) 1152921504606846975 1)
    ∷ board (plans (replicate 61 0) (replicate 61 2)) (refuses 2)
    ∷ board (locates (1 ∷ 0 ∷ []) (0 ∷ 1 ∷ []) (2 ∷ 0 ∷ [])) (place (on 1 0))
    ∷ board (locates (1 ∷ 0 ∷ []) (0 ∷ 1 ∷ []) (1 ∷ 2 ∷ [])) (place (on 1 1))
    ∷ board (locates (1 ∷ 0 ∷ []) (0 ∷ 1 ∷ []) (0 ∷ 0 ∷ [])) (place off)
    ∷ board (wears (1 ∷ 1 ∷ 0 ∷ []) (0 ∷ 0 ∷ 1 ∷ []) 0 (7 ∷ 7 ∷ 7 ∷ 7 ∷ [])) (wrote (2 ∷ 1 ∷ 2 ∷ 7 ∷ []))
    ∷ []
