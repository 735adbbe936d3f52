-- Which routes of a way are detours.
use Prim.Native.Nat.{ℕ, zero, suc}
use mathlib.Core.Path.{◌≡◌, refl}
use mathlib.Core.Bool.{not}
use native.Mathlib.Omega.{arith}
use borrow.Author.Tests.{ne_eqb}
use lib.Dec.{eqb}
use Rattle.plan.specs.declared.answer.Lengths.{Lengths}
use Rattle.plan.specs.declared.answer.Way.TheVariants.{Tie}
use Rattle.route.specs.Inner.Stage.{is_detour}

-- Of a tie every route but route 0 is a detour.
pub tie_detour : (l : Lengths) (r : ℕ) → is_detour (Tie l) r ≡ not (eqb r 0)
unfolding is_detour
tie_detour l zero = refl
tie_detour l (suc r) = rw (ne_eqb (suc r) 0 (omega arith))
