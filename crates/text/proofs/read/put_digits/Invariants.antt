-- The digits that are put and those of the bytes from `byte-index` on are those of all; no more are put than bytes are read.
use Rattle.std.proofs.Common.{◌≡◌, ◌+◌, ◌++◌, ◌≤◌, length, drop}
use Rattle.text.specs.Reading.{digits}
use Rattle.text.proofs.read.put_digits.Given as goal

abbrev pub invariant-loop-byte : goal.invariant-loop-byte
invariant-loop-byte l =
    (l.digits.items ++ digits (drop l.byte-index l.bytes) ≡ l.initial.digits.items ++ digits l.bytes)
    × (length l.digits.items ≤ length l.initial.digits.items + l.byte-index)
