-- Parts of a list, as the code lends them.
use Prim.Native.Nat.{ℕ, ◌-◌}
use mathlib.Core.Path.{◌≡◌}
use mathlib.Core.List.{List}
use native.Mathlib.Omega.{arith}
use lib.ListN.{length, take, drop, length-drop}
use lib.Seq.{take_all}

-- `&s[n..]` is what comes after the first n elements.
pub part_to_end : (n : ℕ) (s : List ℕ) → take (length s - n) (drop n s) ≡ drop n s
part_to_end n s = take_all (length s - n) (drop n s) (omega (arith, length-drop n s))
