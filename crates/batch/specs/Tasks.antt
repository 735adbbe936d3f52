-- Tasks of one size laid end to end in a buffer, and the entry of each (02, CR 5).
use Rattle.std.specs.Prelude.{ℕ, zero, suc, ◌*◌, ◌/◌, List, [], ◌∷◌, map, length, take, drop}
use Rattle.word.specs.Words.{shortest_word}

-- The first so many bytes, then so many of those after them, and so on: as many pieces as are asked for.
unfoldable pub cut : ℕ → ℕ → List ℕ → List (List ℕ)
cut size zero b = []
cut size (suc k) b = take size b ∷ cut size k (drop size b)

-- How many tasks of n discs, 2n bytes each, there are in so many bytes; of no discs none.
abbrev pub tasks_in : ℕ → ℕ → ℕ
tasks_in zero bytes = 0
tasks_in (suc n) bytes = bytes / (2 * suc n)

abbrev pub tasks_of : ℕ → List ℕ → List (List ℕ)
tasks_of n b = cut (2 * n) (tasks_in n (length b)) b

-- The entry of a task is what the single call gives the C host for its bytes.
abbrev pub entries_of : ℕ → List ℕ → List ℕ
entries_of n b = map shortest_word (tasks_of n b)
