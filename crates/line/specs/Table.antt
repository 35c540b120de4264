-- Lists of numbers as tables and as sets: what the definitions of this crate are written with.
use Rattle.std.specs.Prelude.{ℕ, zero, suc, ◌%◌, ◌<◌, ◌≡◌, Bool, true, false, ◌&&◌, ◌||◌, cond, List, [], ◌∷◌, eqb, length, get_or}

-- the entry of a table at an index; an index past the end comes round, which no valid one does
unfoldable pub entry : List ℕ → ℕ → ℕ
entry t i = get_or t (i % length t) 0

-- the first row from k on that passes the test, of n more; the row after them where none does
unfoldable pub row_from : (ℕ → Bool) → ℕ → ℕ → ℕ
row_from f k zero = k
row_from f k (suc n) = cond (f k) k (row_from f (suc k) n)

-- the first row that passes the test, of n and the one after them
abbrev pub first_row : (ℕ → Bool) → ℕ → ℕ
first_row f n = row_from f 0 n

abbrev pub member : ℕ → List ℕ → Bool
member x [] = false
member x (y ∷ ys) = eqb x y || member x ys

-- the numbers below n
abbrev pub below : ℕ → List ℕ
below zero = []
below (suc n) = n ∷ below n

-- the test holds of every member
abbrev pub every : {A : Type 0} → (A → Bool) → List A → Bool
every f [] = true
every f (x ∷ xs) = f x && every f xs

-- the statement does
abbrev pub All : {A : Type 0} → (A → Type 0) → List A → Type 0
All P [] = Unit {0}
All P (x ∷ xs) = P x × All P xs

-- a table of n entries, each by a rule; `none` stands past its end
pub record Tabled {A : Type 0} (n : ℕ) (rule : ℕ → A) (none : A) (t : List A) : Type 0 where
  pub size : length t ≡ n
  pub at : (i : ℕ) → i < n → get_or t i none ≡ rule i
