-- Moves put one after another, a pair of letters each.
use Rattle.std.proofs.Common.{◌≡◌, ℕ, zero, suc, ◌*◌, ◌+◌, ◌/◌, ◌≤◌, ◌<◌, List, [], ◌∷◌, ◌++◌, length, get_or, drop, refl, arith, append-nil, append_assoc, length-drop}
use Rattle.std.specs.Simd.{first_chunks}
use Rattle.text.specs.Input.{space}
use Rattle.text.specs.Inner.Page.{spaced}

-- The letters from pair i on begin with that pair.
spaced_here : (l : List ℕ) (k i : ℕ) → i < k → k ≤ length l / 2
    → spaced (drop (2 * i) l) ≡ space ∷ (get_or (first_chunks 2 k l) i [] ++ spaced (drop (2 * (i + 1)) l))
unfolding spaced
spaced_here [] k i h few = absurd (omega arith)
spaced_here (a ∷ []) k i h few = absurd (omega arith)
spaced_here (a ∷ b ∷ l) zero i h few = absurd (omega arith)
spaced_here (a ∷ b ∷ l) (suc k) zero h few = refl
spaced_here (a ∷ b ∷ l) (suc k) (suc i) h few =
    let here : 2 * suc i ≡ suc (suc (2 * i)) = omega arith in
    let next : 2 * (suc i + 1) ≡ suc (suc (2 * (i + 1))) = omega arith in
    rw (here, next) (spaced_here l k i (omega arith) (omega arith))

-- A move is put, and then those after it.
pub spaced_pair : (front l : List ℕ) (k i : ℕ) → i < k → k ≤ length l / 2
    → ((front ++ space ∷ []) ++ get_or (first_chunks 2 k l) i []) ++ spaced (drop (2 * (i + 1)) l) ≡ front ++ spaced (drop (2 * i) l)
spaced_pair front l k i h few = rw (spaced_here l k i h few) (simp append_assoc)

-- Fewer than two letters are no move.
spaced_few : (front l : List ℕ) → length l < 2 → front ++ spaced l ≡ front
unfolding spaced
spaced_few front [] h = append-nil front
spaced_few front (a ∷ []) h = append-nil front
spaced_few front (a ∷ b ∷ l) h = absurd (omega arith)

-- So after the last pair none is left.
pub spaced_end : (front l : List ℕ) (i : ℕ) → length l / 2 ≤ i → front ++ spaced (drop (2 * i) l) ≡ front
spaced_end front l i h = spaced_few front (drop (2 * i) l) (omega (arith, length-drop (2 * i) l))
