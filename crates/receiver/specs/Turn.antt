-- Document 01, "Modes, states, turns": the line bits of states in order, and lists of states that are turns of one another.
use Rattle.std.specs.Prelude.{ℕ, ◌≡◌, List, [], ◌∷◌, map}
use Rattle.line.specs.Mode.{face, turns}
use Rattle.receiver.specs.Receiver.{line_bits}

-- the line bits of states after a reference
abbrev pub lines : ℕ → ℕ → List ℕ → List (List ℕ)
lines m x [] = []
lines m x (y ∷ ys) = line_bits m x y ∷ lines m y ys

-- the line bits of a list's states from the second on
abbrev pub lines_of : ℕ → List ℕ → List (List ℕ)
lines_of m [] = []
lines_of m (x ∷ xs) = lines m x xs

-- ys is xs, all turned by k steps of the mode; of the first state the face counts, in mode 4 its quadrant
abbrev pub TurnedBy : ℕ → ℕ → List ℕ → List ℕ → Type 0
TurnedBy m k [] [] = Unit {0}
TurnedBy m k [] (y ∷ ys) = ⊥
TurnedBy m k (x ∷ xs) [] = ⊥
TurnedBy m k (x ∷ xs) (y ∷ ys) = (face m y ≡ face m (turns m k x)) × (ys ≡ map (turns m k) xs)

-- by one whole number of the mode's steps
abbrev pub Turned : ℕ → List ℕ → List ℕ → Type 0
Turned m xs ys = (k : ℕ) × TurnedBy m k xs ys
