-- Each number that C gets tells its reply: no answer is taken for a refusal, nor one refusal for another.
use Prim.Native.Nat.{ℕ, ◌*◌, ◌≤◌, ◌<◌, ◌^◌}
use mathlib.Core.List.{List}
use native.Mathlib.Omega.{arith}
use lib.ListN.{length}
use Rattle.board.proofs.Replies.{made_refused, made_answered}
use Rattle.plan.specs.Answer.{gather_answer, plan_answer}
use Rattle.plan.specs.Faults.{gather_faults}
use Rattle.plan.specs.Plan.{routes, routes_way}
use Rattle.plan.specs.declared.answer.Way.{Way}
use Rattle.plan.specs.declared.answer.Way.TheVariants.{Still, Direct, Detour, Tie}
use Rattle.plan.proofs.Calls.{gather_obeys, gather_answered}
use Rattle.plan.proofs.Fits.{gather_fits}
use Rattle.plan.proofs.Sound.{task_ends, ends_fit, position_gatherable}
use Rattle.route.specs.Answer.{run_answer}
use Rattle.route.specs.Faults.{run_faults}
use Rattle.route.proofs.Calls.Answers.{run_answered}
use Rattle.route.proofs.Calls.Obeys.{run_obeys}
use Rattle.word.specs.Words.{Tells}
use Rattle.word.proofs.Apart.{first_numbered, word_tells, plan_numbers}
use Rattle.batch.specs.Answer.{batch_answer}
use Rattle.batch.specs.Faults.{batch_faults}
use Rattle.batch.proofs.Calls.{batch_obeys, batch_answered}
use Rattle.towers.specs.Words.{routes_reply, routes_word, gather_word, run_word, batch_word}

-- A way has one shortest route or two.
way_few : (w : Way) → routes_way w ≤ 2
way_few Still = omega arith
way_few (Direct l) = omega arith
way_few (Detour l) = omega arith
way_few (Tie l) = omega arith

-- The count of routes.
pub routes_tells : (t : List ℕ) → Tells (routes_word t) (routes_reply t)
routes_tells t =
    word_tells (routes_reply t) (λ k e. plan_numbers t k (made_refused (plan_answer t) routes e))
    (λ n e. let (p, answered, same) = made_answered (plan_answer t) routes e in omega (arith, way_few p.way))

-- Gather's length.
pub gather_tells : (p : List ℕ) (j : ℕ) → Tells (gather_word p j) (gather_answer p j)
gather_tells p j =
    word_tells (gather_answer p j) (λ k e. first_numbered (gather_faults p j) k (omega arith) (((gather_obeys p j).refuses k).0 e))
    (λ n e. let s = gather_answered p j e in rw s.rule (gather_fits (position_gatherable s.sound s.target)))

-- Run's count, however long the buffer is.
pub run_tells : (t : List ℕ) (r i : ℕ) (out : List ℕ) → Tells (run_word t r i out) (run_answer t r i out)
run_tells t r i out =
    word_tells (run_answer t r i out) (λ k e. first_numbered (run_faults t r i out) k (omega arith) (((run_obeys t r i out).refuses k).0 e))
    (λ n e. let ran = run_answered t r i out e in
    omega (arith, ran.count, ends_fit (task_ends ran.routed.sound)))

-- Batch's count, into a buffer of fewer than 2 ^ 63 bytes, 8 for each entry, as every slice is.
pub batch_tells : (n : ℕ) (b out : List ℕ) → length out * 8 < 2 ^ 63 → Tells (batch_word n b out) (batch_answer n b out)
batch_tells n b out few =
    word_tells (batch_answer n b out) (λ k e. first_numbered (batch_faults n b out) k (omega arith) (((batch_obeys n b out).refuses k).0 e))
    (λ k e. omega (arith, (batch_answered n b out e).room))
