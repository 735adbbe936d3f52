-- The counts of a session, and what a play and a report make of them (document 01, Begin, Play and Report; 02, CR 2 and CR 3).
use Rattle.std.specs.Prelude.{ℕ, ◌+◌, ◌-◌, ◌*◌, ◌≤◌, Bool, cond, ◌&&◌, ◌||◌, ◌≡◌, eqb, ltb, leb}
use Rattle.session.specs.declared.counting.Counts.{Counts}
use Rattle.session.specs.declared.counting.Figures.{Figures}
use Rattle.session.specs.declared.counting.Mark.{Mark}
use Rattle.session.specs.declared.counting.Mark.TheVariants.{Toward, Level, Away}

-- The most plays that are counted, and the most fumbles.
abbrev pub play_limit : ℕ
play_limit = 1000000

-- No play yet.
abbrev pub no_plays : Counts
no_plays = record { made = 0; toward = 0; level = 0; away = 0 }

-- The mark of a play, from the fewest to the goal before it and after it.
unfoldable pub mark_of : ℕ → ℕ → Mark
mark_of before after = cond (ltb after before) Toward (cond (ltb before after) Away Level)

-- 1 for the same mark, 0 for another.
abbrev pub is_mark : Mark → Mark → ℕ
is_mark Toward Toward = 1
is_mark Toward Level = 0
is_mark Toward Away = 0
is_mark Level Toward = 0
is_mark Level Level = 1
is_mark Level Away = 0
is_mark Away Toward = 0
is_mark Away Level = 0
is_mark Away Away = 1

-- One play more: made rises by 1, and so does the count of its mark.
unfoldable pub counted : Counts → Mark → Counts
counted c k =
    record {
      made = c.made + 1;
      toward = c.toward + is_mark Toward k;
      level = c.level + is_mark Level k;
      away = c.away + is_mark Away k;
    }

-- What a refused play adds to the fumbles (02, CR 3): 1 if it was refused with 8 or 9, 0 with any other number.
abbrev pub fumble : ℕ → ℕ
fumble k = cond (eqb k 8) 1 (cond (eqb k 9) 1 0)

-- The test that no more plays are taken (document 01, Play; 02, CR 3): made or the fumbles stand at 1,000,000.
unfoldable pub full : Counts → ℕ → Bool
full c fumbles = eqb c.made play_limit || eqb fumbles play_limit

-- The test that the counts add up: made = toward + level + away, and made is at most 1,000,000.
unfoldable pub counts_agree : Counts → Bool
counts_agree c = eqb c.made (c.toward + c.level + c.away) && leb c.made play_limit

-- The test that the marks account for the way: toward − away is the fewest at the start less the fewest now.
unfoldable pub marks_agree : Counts → ℕ → ℕ → Bool
marks_agree c now first = eqb (c.toward + now) (c.away + first)

-- Both as a proposition. The law `account_exactly` (proofs/Account) says that the tests pass exactly here.
pub record Account (c : Counts) (now first : ℕ) : Type 0 where
  pub sum : c.made ≡ c.toward + c.level + c.away
  pub within : c.made ≤ play_limit
  pub marks : c.toward + now ≡ c.away + first

-- The excess (02, CR 2): the plays made and the fewest that remain, less the fewest at the start.
abbrev pub excess_of : Counts → ℕ → ℕ → ℕ
excess_of c now first = c.made + now - first

-- What the excess x of an account is. The law `account_excess` (proofs/Account) says that it is all this.
pub record Excess (x : ℕ) (c : Counts) (now first : ℕ) : Type 0 where
  -- The rule, said as a sum, so that nothing is cut off at 0.
  pub rule : x + first ≡ c.made + now
  -- What the plays wasted: one move for each that is level, two for each away.
  pub wasted : x ≡ c.level + 2 * c.away
  -- At the goal, where none remain: made less the fewest at the start, and made is not smaller.
  pub arrived : now ≡ 0 → (first ≤ c.made) × (x ≡ c.made - first)

-- What a report says: the counts, what remains, and the excess, from the fewest to the goal now and at the start.
abbrev pub figures_of : Counts → ℕ → ℕ → Figures
figures_of c now first = record { counts = c; remaining = now; excess = excess_of c now first }
