-- Laws of polynomials modulo 2 and of their long division. Assumes nothing.
use Prim.Native.Nat.{ℕ, zero, suc, ◌+◌, ◌*◌, ◌%◌, ◌≤◌, ◌<◌}
use mathlib.Core.Path.{◌≡◌, refl, sym, ap, ap₂, ◌∙◌}
use mathlib.Core.List.{List, [], ◌∷◌, ◌++◌}
use native.Mathlib.Omega.{arith}
use lib.ListN.{length, replicate, length-append}
use Rattle.line.specs.Table.{All}
use Rattle.v41.specs.Polynomial.{plus, scaled, step, divided}

-- every coefficient is a bit; every one is 0
abbrev pub Bits : List ℕ → Type 0
Bits l = All (λ (b : ℕ). b < 2) l

abbrev pub Zeros : List ℕ → Type 0
Zeros l = All (λ (b : ℕ). b ≡ 0) l

pub bits_append : (xs ys : List ℕ) → Bits xs → Bits ys → Bits (xs ++ ys)
bits_append [] ys p q = q
bits_append (x ∷ xs) ys p q = (p.0, bits_append xs ys p.1 q)

pub bits-zeros : (n : ℕ) → Bits (replicate n 0)
bits-zeros zero = tt
bits-zeros (suc n) = (omega arith, bits-zeros n)

pub bits_left : (xs ys : List ℕ) → Bits (xs ++ ys) → Bits xs
bits_left [] ys p = tt
bits_left (x ∷ xs) ys p = (p.0, bits_left xs ys p.1)

pub zeros-left : (xs ys : List ℕ) → Zeros (xs ++ ys) → Zeros xs
zeros-left [] ys p = tt
zeros-left (x ∷ xs) ys p = (p.0, zeros-left xs ys p.1)

pub zeros_right : (xs ys : List ℕ) → Zeros (xs ++ ys) → Zeros ys
zeros_right [] ys p = p
zeros_right (x ∷ xs) ys p = zeros_right xs ys p.1

pub zeros_are : (l : List ℕ) → Zeros l → l ≡ replicate (length l) 0
zeros_are [] z = refl
zeros_are (x ∷ xs) z = ap₂ ◌∷◌ z.0 (zeros_are xs z.1)

pub are_zeros : (n : ℕ) → Zeros (replicate n 0)
are_zeros zero = tt
are_zeros (suc n) = (refl, are_zeros n)

-- ---- sums
pub length-scaled : (b : ℕ) (g : List ℕ) → length (scaled b g) ≡ length g
length-scaled b [] = refl
length-scaled b (x ∷ xs) = ap suc (length-scaled b xs)

pub bits-scaled : (b : ℕ) (g : List ℕ) → b < 2 → Bits g → Bits (scaled b g)
bits-scaled b [] h p = tt
bits-scaled b (x ∷ xs) h p = (small b x h p.0, bits-scaled b xs h p.1)
  where
    small : (b x : ℕ) → b < 2 → x < 2 → b * x < 2
    small b zero h k = omega arith
    small b (suc zero) h k = omega arith
    small b (suc (suc x)) h k = absurd (omega arith)

pub length-plus : (xs ys : List ℕ) → length ys ≤ length xs → length (plus xs ys) ≡ length xs
length-plus [] [] h = refl
length-plus [] (y ∷ ys) h = absurd (omega arith)
length-plus (x ∷ xs) [] h = refl
length-plus (x ∷ xs) (y ∷ ys) h = ap suc (length-plus xs ys (omega arith))

pub bits-plus : (xs ys : List ℕ) → Bits xs → Bits ys → Bits (plus xs ys)
bits-plus [] ys p q = q
bits-plus (x ∷ xs) [] p q = p
bits-plus (x ∷ xs) (y ∷ ys) p q = (omega arith, bits-plus xs ys p.1 q.1)

pub plus_append : (xs ys zs : List ℕ) → length ys ≤ length xs → plus (xs ++ zs) ys ≡ plus xs ys ++ zs
plus_append [] [] [] h = refl
plus_append [] [] (z ∷ zs) h = refl
plus_append [] (y ∷ ys) zs h = absurd (omega arith)
plus_append (x ∷ xs) [] zs h = refl
plus_append (x ∷ xs) (y ∷ ys) zs h = ap (λ (l : List ℕ). (x + y) % 2 ∷ l) (plus_append xs ys zs (omega arith))

-- two sums side by side
pub plus_both : (xs ys us vs : List ℕ) → length xs ≡ length ys → plus (xs ++ us) (ys ++ vs) ≡ plus xs ys ++ plus us vs
plus_both [] [] us vs e = refl
plus_both [] (y ∷ ys) us vs e = absurd (omega arith)
plus_both (x ∷ xs) [] us vs e = absurd (omega arith)
plus_both (x ∷ xs) (y ∷ ys) us vs e = ap (λ (l : List ℕ). (x + y) % 2 ∷ l) (plus_both xs ys us vs (omega arith))

-- nothing added
pub plus_none : (xs g : List ℕ) → Bits xs → length g ≤ length xs → plus xs (scaled 0 g) ≡ xs
plus_none [] [] p h = refl
plus_none [] (y ∷ ys) p h = absurd (omega arith)
plus_none (x ∷ xs) [] p h = refl
plus_none (x ∷ xs) (y ∷ ys) p h = ap₂ ◌∷◌ (same x y p.0) (plus_none xs ys p.1 (omega arith))
  where
    same : (x y : ℕ) → x < 2 → (x + 0 * y) % 2 ≡ x
    same x y h = omega arith

pub plus-zeros : (xs zs : List ℕ) → Bits xs → Zeros zs → length xs ≡ length zs → plus xs zs ≡ xs
plus-zeros [] [] p z e = refl
plus-zeros [] (y ∷ ys) p z e = absurd (omega arith)
plus-zeros (x ∷ xs) [] p z e = refl
plus-zeros (x ∷ xs) (y ∷ ys) p z e = ap₂ ◌∷◌ (same x y p.0 z.0) (plus-zeros xs ys p.1 z.1 (omega arith))
  where
    same : (x y : ℕ) → x < 2 → y ≡ 0 → (x + y) % 2 ≡ x
    same x y h e = omega arith

pub zeros-plus : (zs xs : List ℕ) → Zeros zs → Bits xs → length zs ≡ length xs → plus zs xs ≡ xs
zeros-plus [] xs z p e = refl
zeros-plus (y ∷ ys) [] z p e = absurd (omega arith)
zeros-plus (y ∷ ys) (x ∷ xs) z p e = ap₂ ◌∷◌ (same x y p.0 z.0) (zeros-plus ys xs z.1 p.1 (omega arith))
  where
    same : (x y : ℕ) → x < 2 → y ≡ 0 → (y + x) % 2 ≡ x
    same x y h e = omega arith

-- a polynomial added to itself
pub plus_self : (xs : List ℕ) → Zeros (plus xs xs)
plus_self [] = tt
plus_self (x ∷ xs) = (omega arith, plus_self xs)

-- equal polynomials are those whose sum is nothing
pub plus-apart : (xs ys : List ℕ) → Bits xs → Bits ys → length xs ≡ length ys → Zeros (plus xs ys) → xs ≡ ys
plus-apart [] [] p q e z = refl
plus-apart [] (y ∷ ys) p q e z = absurd (omega arith)
plus-apart (x ∷ xs) [] p q e z = absurd (omega arith)
plus-apart (x ∷ xs) (y ∷ ys) p q e z = ap₂ ◌∷◌ (same x y p.0 q.0 z.0) (plus-apart xs ys p.1 q.1 (omega arith) z.1)
  where
    same : (x y : ℕ) → x < 2 → y < 2 → (x + y) % 2 ≡ 0 → x ≡ y
    same x y h k e = omega arith

-- a sum of two, reduced as each is
linear_digit : (a b x y g : ℕ) → g < 2 → ((a + b) % 2 + (x + y) % 2 * g) % 2 ≡ ((a + x * g) % 2 + (b + y * g) % 2) % 2
linear_digit a b x y zero h = omega arith
linear_digit a b x y (suc zero) h =
    ap (λ (k : ℕ). ((a + b) % 2 + k) % 2) (times_one ((x + y) % 2)) ∙ joined (a + b) (x + y)
    ∙ ap (λ (k : ℕ). k % 2) (let e : a + b + (x + y) ≡ a + x * 1 + (b + y * 1) = omega arith in e) ∙ sym (joined (a + x * 1) (b + y * 1))
  where
    joined : (m n : ℕ) → (m % 2 + n % 2) % 2 ≡ (m + n) % 2
    joined m n = omega arith

    times_one : (k : ℕ) → k * 1 ≡ k
    times_one k = omega arith
linear_digit a b x y (suc (suc g)) h = absurd (omega arith)

pub plus_linear : (x y : ℕ) (g xs ys : List ℕ) → Bits g → length xs ≡ length ys → length g ≤ length xs
    → plus (plus xs ys) (scaled ((x + y) % 2) g) ≡ plus (plus xs (scaled x g)) (plus ys (scaled y g))
plus_linear x y [] [] [] p e h = refl
plus_linear x y [] [] (b ∷ ys) p e h = absurd (omega arith)
plus_linear x y [] (a ∷ xs) [] p e h = absurd (omega arith)
plus_linear x y [] (a ∷ xs) (b ∷ ys) p e h = refl
plus_linear x y (c ∷ g) [] ys p e h = absurd (omega arith)
plus_linear x y (c ∷ g) (a ∷ xs) [] p e h = absurd (omega arith)
plus_linear x y (c ∷ g) (a ∷ xs) (b ∷ ys) p e h =
    ap₂ ◌∷◌ (linear_digit a b x y c p.0) (plus_linear x y g xs ys p.1 (omega arith) (omega arith))

-- ---- steps of a division by a polynomial of which the highest coefficient is 1
module _ (low : List ℕ) (pl : Bits low) where
  pub step-length : (l : List ℕ) → length low < length l → suc (length (step (1 ∷ low) l)) ≡ length l
  unfolding step
  step-length [] h = absurd (omega arith)
  step-length (b ∷ bs) h = ap suc (length-plus bs (scaled b low) (omega (arith, length-scaled b low)))

  pub step-bits : (l : List ℕ) → Bits l → Bits (step (1 ∷ low) l)
  unfolding step
  step-bits [] p = tt
  step-bits (b ∷ bs) p = bits-plus bs (scaled b low) p.1 (bits-scaled b low p.0 pl)

  -- a leading 0 is dropped
  pub step-zero : (l : List ℕ) → Bits l → length low ≤ length l → step (1 ∷ low) (0 ∷ l) ≡ l
  unfolding step
  step-zero l p h = plus_none l low p h

  pub step_append : (xs zs : List ℕ) → length low < length xs → step (1 ∷ low) (xs ++ zs) ≡ step (1 ∷ low) xs ++ zs
  unfolding step
  step_append [] zs h = absurd (omega arith)
  step_append (x ∷ xs) zs h = plus_append xs (scaled x low) zs (omega (arith, length-scaled x low))

  pub step_linear : (xs ys : List ℕ) → length xs ≡ length ys → length low < length xs
      → step (1 ∷ low) (plus xs ys) ≡ plus (step (1 ∷ low) xs) (step (1 ∷ low) ys)
  unfolding step
  step_linear [] ys e h = absurd (omega arith)
  step_linear (x ∷ xs) [] e h = absurd (omega arith)
  step_linear (x ∷ xs) (y ∷ ys) e h = plus_linear x y low xs ys pl (omega arith) (omega arith)

  -- ---- n steps
  pub divided-length : (n : ℕ) (l : List ℕ) → n + length low ≤ length l → n + length (divided (1 ∷ low) n l) ≡ length l
  divided-length zero l h = omega arith
  divided-length (suc n) l h =
      let e = step-length l (omega arith) in
      omega (arith, divided-length n (step (1 ∷ low) l) (omega arith))

  pub divided-bits : (n : ℕ) (l : List ℕ) → Bits l → Bits (divided (1 ∷ low) n l)
  divided-bits zero l p = p
  divided-bits (suc n) l p = divided-bits n (step (1 ∷ low) l) (step-bits l p)

  -- leading zeros are dropped
  pub divided-zeros : (n : ℕ) (l : List ℕ) → Bits l → length low ≤ length l → divided (1 ∷ low) n (replicate n 0 ++ l) ≡ l
  divided-zeros zero l p h = refl
  divided-zeros (suc n) l p h =
      ap (divided (1 ∷ low) n) (step-zero (replicate n 0 ++ l) (bits_append (replicate n 0) l (bits-zeros n) p) (omega (arith, length-append (replicate n 0) l)))
      ∙ divided-zeros n l p h

  pub divided_add : (n m : ℕ) (l : List ℕ) → divided (1 ∷ low) (n + m) l ≡ divided (1 ∷ low) m (divided (1 ∷ low) n l)
  divided_add zero m l = ap (λ (k : ℕ). divided (1 ∷ low) k l) (let e : 0 + m ≡ m = omega arith in e)
  divided_add (suc n) m l = ap (λ (k : ℕ). divided (1 ∷ low) k l) (let e : suc n + m ≡ suc (n + m) = omega arith in e) ∙ divided_add n m (step (1 ∷ low) l)

  pub divided_linear : (n : ℕ) (xs ys : List ℕ) → length xs ≡ length ys → n + length low ≤ length xs
      → divided (1 ∷ low) n (plus xs ys) ≡ plus (divided (1 ∷ low) n xs) (divided (1 ∷ low) n ys)
  divided_linear zero xs ys e h = refl
  divided_linear (suc n) xs ys e h =
      let p = step-length xs (omega arith) in
      let q = step-length ys (omega arith) in
      ap (divided (1 ∷ low) n) (step_linear xs ys e (omega arith)) ∙ divided_linear n (step (1 ∷ low) xs) (step (1 ∷ low) ys) (omega arith) (omega arith)
