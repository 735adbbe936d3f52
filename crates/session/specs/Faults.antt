-- The faults of Play and Report, as propositions, and what a refusal leaves of the record (demand 1). Begin's are the task faults.
use Rattle.std.specs.Prelude.{ℕ, ◌+◌, List, [], ◌∷◌, ◌≢◌, ◌⊎◌, ◌≡◌}
use Rattle.board.specs.Fault.{Fault, fault, legal_faults}
use Rattle.board.specs.Move.{Move}
use Rattle.session.specs.Counts.{play_limit}
use Rattle.session.specs.Record.{current_of, Sound}
use Rattle.session.specs.declared.record.Session.{Session}

-- Play: 10, unsound record; 11, made or the fumbles are already 1,000,000 (02, CR 3); then 3, 8 and 9.
abbrev pub play_faults : Session → Move → List Fault
play_faults s m =
    fault 10 (¬ Sound s)
    ∷ fault 11 ((s.counts.made ≡ play_limit) ⊎ (s.fumbles ≡ play_limit))
    ∷ legal_faults (current_of s) m

-- What a play refused with k leaves of the record s (02, CR 3): with 8 or 9 one fumble more and nothing else altered, with any other
-- number the record as it stood.
pub record Kept (k : ℕ) (s after : Session) : Type 0 where
  pub fumbled : (k ≡ 8) ⊎ (k ≡ 9) → after
      ≡ record {
        n = s.n;
        start = s.start;
        goal = s.goal;
        current = s.current;
        counts = s.counts;
        fumbles = s.fumbles + 1;
        remaining = s.remaining;
      }
  pub kept : k ≢ 8 → k ≢ 9 → after ≡ s

-- Report: 10.
abbrev pub report_faults : Session → List Fault
report_faults s = fault 10 (¬ Sound s) ∷ []
