-- What the programs print of an answer, of a position and of a session record.
use Rattle.std.specs.Prelude.{ℕ, List, ◌++◌, codes, cond, ltb, take, Option, Some, None, Result, Ok, Err}
use Rattle.std.specs.Char.{encode_utf8}
use Rattle.std.specs.Fmt.{decimal}
use Rattle.std.specs.List.{flat_map}
use Rattle.board.specs.Printed.{refusal_text}
use Rattle.board.specs.declared.refusal.Refusal.{Refusal}
use Rattle.route.specs.Printed.{located_text}
use Rattle.route.specs.declared.answer.Located.{Located}
use Rattle.session.specs.Printed.{counts_text}
use Rattle.session.specs.declared.record.Session.{Session}

-- An answer: its value, by what the value prints, or its refusal.
abbrev pub answer_text : {T : Type 0} → (T → Option (List ℕ)) → Result T Refusal → Option (List ℕ)
answer_text print (Ok value) = print value
answer_text print (Err why) = Some (refusal_text why)

-- Where a position is, or off.
abbrev pub found_text : Option Located → List ℕ
found_text (Some place) = located_text place
found_text None = codes "off"

-- How many moves or letters were written, and the buffer. A byte is printed as the character of its number: itself below 128, as letters
-- and dots are.
abbrev pub written_text : ℕ → List ℕ → List ℕ
written_text count buffer = decimal count ++ codes " " ++ flat_map encode_utf8 buffer

-- A byte of a position: its digit, or a dot for any other byte.
abbrev pub digit_text : ℕ → List ℕ
digit_text byte = cond (ltb byte 3) (decimal byte) (codes ".")

-- A position, byte by byte.
abbrev pub digits_text : List ℕ → List ℕ
digits_text bytes = flat_map digit_text bytes

-- A session record, field by field: each position by its n discs, or whole where n is more than there can be.
abbrev pub record_text : Session → List ℕ
record_text s =
    codes "n " ++ (decimal s.n
    ++ (codes ", start " ++ (digits_text (take s.n s.start)
    ++ (codes ", goal " ++ (digits_text (take s.n s.goal)
    ++ (codes ", current " ++ (digits_text (take s.n s.current)
    ++ (codes ", " ++ (counts_text s.counts
    ++ (codes ", fumbles " ++ (decimal s.fumbles
    ++ (codes ", remaining " ++ decimal s.remaining))))))))))))
