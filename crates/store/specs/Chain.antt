-- Document 01, "Track store": next is an index, zero ends the chain. Nothing here knows bytes.
use Rattle.std.specs.Prelude.{Bool, true, not, ◌&&◌, cond, List, [], ◌∷◌, ◌++◌, ℕ, zero, suc, ◌+◌, max, eqb, ltb}
use Rattle.line.specs.Table.{every}

-- the indexes met from i on, at most n of them; 0 ends the chain
abbrev pub walk : (ℕ → ℕ) → ℕ → ℕ → List ℕ
walk next zero i = []
walk next (suc n) zero = []
walk next (suc n) (suc i) = suc i ∷ walk next n (next (suc i))

-- the last index of a chain, and d where the chain is empty
abbrev pub last_of : ℕ → List ℕ → ℕ
last_of d [] = d
last_of d (i ∷ c) = last_of i c

-- the greatest index of a chain, 0 where the chain is empty
abbrev pub greatest : List ℕ → ℕ
greatest [] = 0
greatest (i ∷ c) = max i (greatest c)

-- no index is met twice
abbrev pub distinct : List ℕ → Bool
distinct [] = true
distinct (i ∷ c) = every (λ j. not (eqb i j)) c && distinct c

-- the chain from i on ends within n steps, with every index below m
abbrev pub ends : (ℕ → ℕ) → ℕ → ℕ → ℕ → Bool
ends f m zero i = eqb i 0
ends f m (suc n) i = cond (eqb i 0) true (ltb i m && ends f m n (f i))

-- the sum of a number for each member of a list, such as an index of a chain
abbrev pub sum_over : {A : Type 0} → (A → ℕ) → List A → ℕ
sum_over f [] = 0
sum_over f (x ∷ xs) = f x + sum_over f xs

-- the lists of a chain's indexes, one after the other
abbrev pub gather : {A : Type 0} → (ℕ → List A) → List ℕ → List A
gather f [] = []
gather f (i ∷ c) = f i ++ gather f c
