-- The moves of a stepper, written as letters.
use Rattle.std.specs.Prelude.{ℕ, zero, suc, List, [], ◌∷◌}
use Rattle.route.specs.Answer.{letter}
use Rattle.run.specs.Inner.Stepper.{advance}
use Rattle.run.specs.declared.stepper.Stepper.{Stepper}

-- The stepper after so many moves.
unfoldable pub steps_from : Stepper → (ℕ → ℕ) → ℕ → Stepper
steps_from s q zero = s
steps_from s q (suc i) = (advance (steps_from s q i) q).stepper

-- So many moves, each as two letters, from then to.
unfoldable pub step_letters : Stepper → (ℕ → ℕ) → ℕ → List ℕ
step_letters s q zero = []
step_letters s q (suc i) = letter (advance s q).from ∷ letter (advance s q).to ∷ step_letters (advance s q).stepper q i
