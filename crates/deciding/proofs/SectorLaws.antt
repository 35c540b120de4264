-- The eight sectors of mode 2 in a quarter of the plane: a point with re > 0 and im ≥ 0 is in one of three. On their edges there is no
-- whole point, since no square is twice another. Assumes nothing.
use mathlib.Core.Path.{◌≡◌, refl, sym, ap, ap₂, ◌∙◌, subst}
use mathlib.Core.Bool.{Bool, true, false, ◌&&◌, and-false}
use Prim.Native.Nat.{ℕ, zero, suc, ◌+◌, ◌*◌, ◌-◌, ◌<◌, ◌≤◌}
use native.Mathlib.Omega.{arith}
use native.Mathlib.Nat.{mul-le-mul, mul-add, add-mul}
use native.Mathlib.Decide.{dec_lt}
use borrow.Author.Tests.{le-leb, lt-ltb, le-ltb}
use lib.Dec.{eqb, ltb}
use lib.IntN.{ℤ, pos, negsuc, neg_ℤ, neg_ℤ-neg_ℤ, sub_ℕ, ◌-ℤ◌, ◌+ℤ◌, ◌*ℤ◌}
use lib.Signed.{lt_z}
use Rattle.line.specs.declared.Point.{Point}
use Rattle.line.specs.Point.{at, turned_by}
use Rattle.deciding.specs.Decide.{square, in_first, sector}
use Rattle.deciding.specs.Regions.{about0, about45, quarters_to, in_region}
use Rattle.deciding.specs.Laws.{NextToEdge}
use Rattle.deciding.specs.Sizes.{sq}
use Rattle.deciding.proofs.Differences.{sub_pos, sub_neg, same_difference, pos_difference, neg-pos, sum_difference}
use Rattle.deciding.proofs.RegionLaws.{base}
use Rattle.deciding.proofs.Squares.{strict}

pub next_to_edge : NextToEdge
unfolding about0 about45 quarters_to in_region
next_to_edge = record { past_edge = tt; before_edge = tt }

-- THE SECTORS OF A POINT WITH re > 0 AND im ≥ 0

minus : (x y : ℕ) → pos x -ℤ pos y ≡ sub_ℕ x y
minus x y = ap₂ ◌+ℤ◌ (pos_difference x) (neg-pos y) ∙ sum_difference x 0 0 y ∙ same_difference (x + 0) (0 + y) x y (omega arith)

-- the square of a difference is no larger than that of the sum
difference_below : (x y n : ℕ) → sq (x + y) < n → lt_z (square (sub_ℕ x y)) (pos n) ≡ true
difference_below x y n h = go (dec_lt x y)
  where
    go : Dec (x < y) → lt_z (square (sub_ℕ x y)) (pos n) ≡ true
    go (yes l) =
        let k : sq (suc (y - suc x)) ≤ sq (x + y) = mul-le-mul (omega arith) (omega arith) in
        ap (λ (z : ℤ). lt_z (square z) (pos n)) (sub_neg x y l) ∙ lt-ltb (sq (suc (y - suc x))) n (omega arith)
    go (no l) =
        let k : sq (x - y) ≤ sq (x + y) = mul-le-mul (omega arith) (omega arith) in
        ap (λ (z : ℤ). lt_z (square z) (pos n)) (sub_pos x y (omega (arith, l))) ∙ lt-ltb (sq (x - y)) n (omega arith)

module _ (a b : ℕ) where
  abbrev pub here : Point
  here = base 2 a b

  along : about0 here ≡ ltb (sq (suc a + b)) (2 * sq (suc a))
  unfolding about0
  along = go (dec_lt (sq (suc a + b)) (2 * sq (suc a)))
    where
      go : Dec (sq (suc a + b) < 2 * sq (suc a)) → about0 here ≡ ltb (sq (suc a + b)) (2 * sq (suc a))
      go (yes h) = rw (lt-ltb 0 (suc a) (omega arith), minus (suc a) b, lt-ltb _ _ h, difference_below (suc a) b (2 * sq (suc a)) h)
      go (no h) = rw (lt-ltb 0 (suc a) (omega arith), le-ltb (sq (suc a + b)) (2 * sq (suc a)) (omega (arith, h)))

  across : about0 (turned_by 3 here) ≡ ltb (sq (suc a + b)) (2 * sq b)
  unfolding about0
  across = ap (λ (x : ℤ). about0 (at x (negsuc a))) (neg_ℤ-neg_ℤ (pos b)) ∙ go (dec_lt (sq (suc a + b)) (2 * sq b)) (dec_lt 0 b)
    where
      e : b + suc a ≡ suc a + b
      e = omega arith

      go : Dec (sq (suc a + b) < 2 * sq b) → Dec (0 < b) → about0 (at (pos b) (negsuc a)) ≡ ltb (sq (suc a + b)) (2 * sq b)
      go (yes h) (yes p) =
          let k : sq (b + suc a) < 2 * sq b = subst (λ (n : ℕ). sq n < 2 * sq b) (sym e) h in
          ap₂ ◌&&◌ (lt-ltb 0 b p) (ap₂ ◌&&◌ (difference_below b (suc a) (2 * sq b) k) (lt-ltb _ _ k)) ∙ sym (lt-ltb _ _ h)
      go (yes h) (no p) = let l : b ≤ 0 = omega (arith, p) in let k : sq b ≤ sq 0 = mul-le-mul l l in absurd (omega arith)
      go (no h) p =
          ap (λ (n : ℕ). ltb 0 b && (lt_z (square (sub_ℕ b (suc a))) (pos (2 * sq b)) && ltb (sq n) (2 * sq b))) e
          ∙ ap (λ (t : Bool). ltb 0 b && (lt_z (square (sub_ℕ b (suc a))) (pos (2 * sq b)) && t)) out
          ∙ ap (λ (t : Bool). ltb 0 b && t) (and-false (lt_z (square (sub_ℕ b (suc a))) (pos (2 * sq b)))) ∙ and-false (ltb 0 b) ∙ sym out
        where
          out : ltb (sq (suc a + b)) (2 * sq b) ≡ false
          out = le-ltb (sq (suc a + b)) (2 * sq b) (omega (arith, h))

  between : about45 here ≡ ltb (2 * sq (suc a)) (sq (suc a + b)) && ltb (2 * sq b) (sq (suc a + b))
  unfolding about45
  between = rw (le-leb 0 b (omega arith), lt-ltb 0 (suc a) (omega arith))

  -- each of the three is one of the three ways of `sector`
  pub three : (about0 here ≡ eqb (sector here) 0) × (about0 (turned_by 3 here) ≡ eqb (sector here) 2) × (about45 here ≡ eqb (sector here) 1)
  unfolding sector
  three = go (dec_lt (sq (suc a + b)) (2 * sq (suc a))) (dec_lt (sq (suc a + b)) (2 * sq b))
    where
      parts : sq (suc a) + sq b ≤ sq (suc a + b)
      parts = simp (mul-add, add-mul) (omega arith)

      go : Dec (sq (suc a + b) < 2 * sq (suc a)) → Dec (sq (suc a + b) < 2 * sq b)
          → (about0 here ≡ eqb (sector here) 0) × (about0 (turned_by 3 here) ≡ eqb (sector here) 2) × (about45 here ≡ eqb (sector here) 1)
      go (yes p) (yes q) = absurd (omega arith)
      go (yes p) (no q) = rw (along, across, between, lt-ltb _ _ p, le-ltb (sq (suc a + b)) (2 * sq b) (omega (arith, q)), le-ltb (2 * sq (suc a)) (sq (suc a + b)) (omega arith)) (refl, refl, refl)
      go (no p) (yes q) =
          rw (along, across, between, le-ltb (sq (suc a + b)) (2 * sq (suc a)) (omega (arith, p)), lt-ltb _ _ q, le-ltb (2 * sq b) (sq (suc a + b)) (omega arith)) (refl, refl, and-false (ltb (2 * sq (suc a)) (sq (suc a + b))))
      go (no p) (no q) =
          let i : 2 * sq (suc a) < sq (suc a + b) = strict (suc a + b) (suc a) (omega arith) (omega (arith, p)) in
          let j : 2 * sq b < sq (suc a + b) = strict (suc a + b) b (omega arith) (omega (arith, q)) in
          rw (along, across, between, le-ltb (sq (suc a + b)) (2 * sq (suc a)) (omega arith), le-ltb (sq (suc a + b)) (2 * sq b) (omega arith), lt-ltb _ _ i, lt-ltb _ _ j) (refl, refl, refl)

-- not to the right
pub about0-left : (n : ℕ) (y : ℤ) → about0 (at (neg_ℤ (pos n)) y) ≡ false
unfolding about0
about0-left zero y = refl
about0-left (suc n) y = refl

pub about45_out : (z : Point) → in_first 2 z ≡ false → about45 z ≡ false
unfolding about45 in_first
about45_out z e =
    ap (λ (t : Bool). t && (lt_z (pos 2 *ℤ square z.re) (square (z.re +ℤ z.im)) && lt_z (pos 2 *ℤ square z.im) (square (z.re +ℤ z.im)))) e
