-- The refusals and their numbers (document 01, "The operations and when each refuses"; 13: 02, CR 5; 14 to 16: 02, CR 7; 19: 02, CR 9;
-- 20: 02, CR 10).
use Rattle.std.specs.Prelude.{ℕ, Result, Ok, Err}
use Rattle.board.specs.Reply.{Reply, refused, answer}
use Rattle.board.specs.declared.refusal.Refusal.{Refusal}
use Rattle.board.specs.declared.refusal.Refusal.TheVariants.{
  OddLength,
  TooManyDiscs,
  NotAPeg,
  NoSuchRoute,
  NoSuchIndex,
  ShortBuffer,
  WrongSize,
  NoDisc,
  SmallerInTheWay,
  UnsoundRecord,
  TooManyPlays,
  BadText,
  NotWholeTasks,
  NotLetterPairs,
  IllegalMove,
  NotShortest,
  EmptyTower,
  TooLargeToTotal,
}

-- The documents' number of each refusal.
abbrev pub number : Refusal → ℕ
number OddLength = 1
number TooManyDiscs = 2
number NotAPeg = 3
number NoSuchRoute = 4
number NoSuchIndex = 5
number ShortBuffer = 6
number WrongSize = 7
number NoDisc = 8
number SmallerInTheWay = 9
number UnsoundRecord = 10
number TooManyPlays = 11
number BadText = 12
number NotWholeTasks = 13
number NotLetterPairs = 14
number IllegalMove = 15
number NotShortest = 16
number EmptyTower = 19
number TooLargeToTotal = 20

-- What an answer says: its value, or its refusal in that number.
abbrev pub reply_of : {A : Type 0} → Result A Refusal → Reply A
reply_of (Ok a) = answer a
reply_of (Err r) = refused (number r)
