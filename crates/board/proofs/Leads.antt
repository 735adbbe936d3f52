-- Laws of lists of moves that lead: one after another, where they lead, and what they keep.
use Prim.Native.Nat.{ℕ}
use mathlib.Core.List.{List, ◌++◌}
use mathlib.Core.Path.{◌≡◌, ◌∙◌, refl}
use lib.ListN.{length}
use Rattle.board.specs.Move.{Move, Legal, Leads, done, next, top, moved}
use Rattle.board.specs.Position.{WellFormed}
use Rattle.board.proofs.Formed.{formed_set}
use Rattle.board.proofs.Top.{length_moved}

-- One list after another.
pub leads_append : {p q r : List ℕ} {ms ns : List Move} → Leads p ms q → Leads q ns r → Leads p (ms ++ ns) r
leads_append done x = x
leads_append (next l w) x = next l (leads_append w x)

-- A list leads to one position.
pub leads_one : {p q r : List ℕ} {ms : List Move} → Leads p ms q → Leads p ms r → q ≡ r
leads_one done done = refl
leads_one (next l w) (next k x) = leads_one w x

-- A legal move leaves a well-formed position, and so do many.
pub formed_moved : (p : List ℕ) (m : Move) → WellFormed p → Legal p m → WellFormed (moved p m)
unfolding moved
formed_moved p m hp l = formed_set p (top p m.from) m.to hp l.to_peg

pub leads_formed : {p q : List ℕ} {ms : List Move} → WellFormed p → Leads p ms q → WellFormed q
leads_formed hp done = hp
leads_formed hp (next {p = p} {m = m} l w) = leads_formed (formed_moved p m hp l) w

-- They keep the number of discs.
pub leads_size : {p q : List ℕ} {ms : List Move} → Leads p ms q → length q ≡ length p
leads_size done = refl
leads_size (next {p = p} {m = m} l w) = leads_size w ∙ length_moved p m
