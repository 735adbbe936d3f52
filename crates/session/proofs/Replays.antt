-- Laws of a list of plays, two bytes at a time: what the loop of `replay` makes of a pair, and where it ends.
use Prim.Native.Nat.{ℕ, zero, suc, ◌/◌, ◌<◌, ◌≤◌}
use mathlib.Core.List.{List, [], ◌∷◌}
use mathlib.Core.Path.{◌≡◌, refl}
use native.Mathlib.Omega.{arith}
use lib.ListN.{length, drop, get_or}
use lib.Seq.{drop-cons}
use Rattle.std.specs.Simd.{first_chunks}
use Rattle.session.specs.Sessions.{record_next, record_after, calls_from}
use Rattle.session.specs.Tally.{Call, play}
use Rattle.session.specs.declared.record.Session.{Session}

-- Where two bytes are left, the first play is theirs.
pub calls_from_lem : (bs : List ℕ) (i : ℕ) → suc i < length bs
    → calls_from (drop i bs) ≡ play (record { from = get_or bs i 0; to = get_or bs (suc i) 0 }) ∷ calls_from (drop (suc (suc i)) bs)
unfolding calls_from
calls_from_lem bs i h = rw (drop-cons bs i 0 (omega arith), drop-cons bs (suc i) 0 h)

-- The play of a pair of bytes.
abbrev pub pair_play : List ℕ → Call
pair_play pair = play (record { from = get_or pair 0 0; to = get_or pair 1 0 })

-- Pair i of the bytes is the next of the plays.
pub play_here : (l : List ℕ) (k i : ℕ) → i < k → k ≤ length l / 2
    → drop i (calls_from l) ≡ pair_play (get_or (first_chunks 2 k l) i []) ∷ drop (suc i) (calls_from l)
unfolding calls_from
play_here [] k i h few = absurd (omega arith)
play_here (a ∷ []) k i h few = absurd (omega arith)
play_here (a ∷ b ∷ l) zero i h few = absurd (omega arith)
play_here (a ∷ b ∷ l) (suc k) zero h few = refl
play_here (a ∷ b ∷ l) (suc k) (suc i) h few = play_here l k i (omega arith) (omega arith)

-- A pair is played, and the plays behind it on the record that this play leaves.
pub replay_next : (s : Session) (l : List ℕ) (k i : ℕ) → i < k → k ≤ length l / 2
    → record_after (record_next s (pair_play (get_or (first_chunks 2 k l) i []))) (drop (suc i) (calls_from l)) ≡ record_after s (drop i (calls_from l))
unfolding record_after
replay_next s l k i h few = rw (play_here l k i h few) refl

-- After as many plays as there are pairs, or more, none is left.
pub plays_end : (l : List ℕ) (k : ℕ) → length l / 2 ≤ k → drop k (calls_from l) ≡ []
unfolding calls_from
plays_end [] zero e = refl
plays_end [] (suc k) e = refl
plays_end (a ∷ []) zero e = refl
plays_end (a ∷ []) (suc k) e = refl
plays_end (a ∷ b ∷ l) zero e = absurd (omega arith)
plays_end (a ∷ b ∷ l) (suc k) e = plays_end l k (omega arith)

-- So the record stands as it is.
pub replay_end : (s : Session) (l : List ℕ) (k : ℕ) → length l / 2 ≤ k → record_after s (drop k (calls_from l)) ≡ s
unfolding record_after
replay_end s l k h = rw (plays_end l k h) refl
