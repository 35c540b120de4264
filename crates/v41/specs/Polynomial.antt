-- Polynomials modulo 2 as lists of coefficients, each 0 or 1, the highest power first, and their long division.
use Rattle.std.specs.Prelude.{ℕ, zero, suc, ◌+◌, ◌*◌, ◌-◌, ◌%◌, List, [], ◌∷◌, length, drop, replicate}

-- two polynomials written with their highest powers under one another, added modulo 2; where one ends the other goes on
abbrev pub plus : List ℕ → List ℕ → List ℕ
plus [] ys = ys
plus (x ∷ xs) [] = x ∷ xs
plus (x ∷ xs) (y ∷ ys) = (x + y) % 2 ∷ plus xs ys

-- a coefficient times a polynomial
abbrev pub scaled : ℕ → List ℕ → List ℕ
scaled b [] = []
scaled b (x ∷ xs) = b * x ∷ scaled b xs

-- one step of long division by g: g goes under a leading 1 and is added, nothing under a leading 0; the leading coefficient, now 0, is
-- dropped
unfoldable pub step : List ℕ → List ℕ → List ℕ
step g [] = []
step g (b ∷ bs) = drop 1 (plus (b ∷ bs) (scaled b g))

-- n steps
abbrev pub divided : List ℕ → ℕ → List ℕ → List ℕ
divided g zero l = l
divided g (suc n) l = divided g n (step g l)

-- what the long division leaves: the steps go on while the dividend is at least as long as g
unfoldable pub remainder : List ℕ → List ℕ → List ℕ
remainder g l = divided g (suc (length l) - length g) l

-- q times g: the sum of g under each 1 of q
abbrev pub product : List ℕ → List ℕ → List ℕ
product [] g = replicate (length g - 1) 0
product (b ∷ bs) g = plus (scaled b g) (0 ∷ product bs g)
