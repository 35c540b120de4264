-- The library's `closest`: when it is q and when the next number, and how far it can be off. Assumes nothing.
use Prim.Native.Nat.compare
use Prim.Native.Nat.{ℕ, zero, suc, ◌+◌, ◌*◌, ◌-◌, ◌/◌, ◌%◌, ◌^◌, ◌<◌, ◌≤◌, compare, Ordering}
use mathlib.Core.Path.{◌≡◌, refl, sym, ap, ◌∙◌}
use mathlib.Core.Logic.{◌⊎◌, inl, inr, ⊎_elim}
use native.Mathlib.Nat.{not-suc-le-zero, le_of_suc-le-suc, div-eq_of_lt, mod-eq_of_lt, suc-mul, add-mul, mul_assoc, mul-one, zero-mul, mul-le-mul_right, div-add-mod', mod-lt}
use native.Mathlib.Omega.{arith}
use lib.Dec.{lit≤}
use lib.Arith.{digits_div, digits_mod}
use lib.Pow.{pow-add, pow_pos}
use lib.Ieee.{nearest}
use lib.Ieee.Nearest.{closest}
use Rattle.line.proofs.Tests.{lt_or_ge}

-- A COMPARISON, FROM A FACT

compare-lt : (a b : ℕ) → a < b → compare a b ≡ Ordering.lt
compare-lt a zero h = absurd (not-suc-le-zero h)
compare-lt zero (suc b) h = compare.zero-suc b
compare-lt (suc a) (suc b) h = compare.suc-suc a b ∙ compare-lt a b (le_of_suc-le-suc h)

compare_gt : (a b : ℕ) → b < a → compare a b ≡ Ordering.gt
compare_gt zero b h = absurd (not-suc-le-zero h)
compare_gt (suc a) zero h = compare.suc-zero a
compare_gt (suc a) (suc b) h = compare.suc-suc a b ∙ compare_gt a b (le_of_suc-le-suc h)

compare_same : (a : ℕ) → compare a a ≡ Ordering.eq
compare_same zero = compare.zero-zero
compare_same (suc a) = compare.suc-suc a a ∙ compare_same a

compare-eq : (a b : ℕ) → a ≡ b → compare a b ≡ Ordering.eq
compare-eq a b e = rw e (compare_same b)

pub order : (a b : ℕ) → (a < b) ⊎ ((a ≡ b) ⊎ (b < a))
order zero zero = inr (inl refl)
order zero (suc b) = inl (omega arith)
order (suc a) zero = inr (inr (omega arith))
order (suc a) (suc b) = ⊎_elim (λ h. inl (omega arith)) (⊎_elim (λ h. inr (inl (ap suc h))) (λ h. inr (inr (omega arith)))) (order a b)

-- THE THREE CASES

-- below a half, at it and above it
pub closest_cases : (a b : ℕ)
    → ((a % b * 2 < b) × (closest a b ≡ a / b)) ⊎ (((a % b * 2 ≡ b) × (closest a b ≡ a / b + a / b % 2)) ⊎ ((b < a % b * 2) × (closest a b ≡ suc (a / b))))
closest_cases a b =
    ⊎_elim (λ l. inl (l, ap (nearest (a / b)) (compare-lt (a % b * 2) b l)))
    (⊎_elim (λ e. inr (inl (e, ap (nearest (a / b)) (compare-eq (a % b * 2) b e))))
    (λ g. inr (inr (g, ap (nearest (a / b)) (compare_gt (a % b * 2) b g)))))
    (order (a % b * 2) b)

pub closest_tiny : (a h : ℕ) → a < h → closest a (h * 2) ≡ 0
closest_tiny a h k =
    let l : a < h * 2 = omega arith in
    let r : a * 2 < h * 2 = omega arith in
    rw (div-eq_of_lt l, mod-eq_of_lt l, compare-lt _ _ r)

-- ROUNDING IN FEWER DIGITS

divided : (d v q z : ℕ) → 0 < d → v ≡ q * d + z → z < d → (v / d ≡ q) × (v % d ≡ z)
divided d v q z h e l = (ap (λ (i : ℕ). i / d) e ∙ digits_div q l, ap (λ (i : ℕ). i % d) e ∙ digits_mod q l)

-- in numbers: q units, f of 131072 parts of one, then digits y of p · 256, which are none just where r is 0
module _ (w f p q r y m : ℕ) (ew : w ≡ q * 131072 + f) (em : m ≡ q * 33554432 + (256 * f + y)) (lf : f + p ≤ 131072) (ly : y + p ≤ 256 * p) (lr : r < 256) (one : 1 ≤ p) where
  abbrev up : ℕ
  up = q % 2 + (r + 255) / 256

  of_w : w / 131072 ≡ q
  of_w = (divided 131072 w q f (lit≤ tt) ew (omega arith)).0

  of_m : (m / 33554432 ≡ q) × (m % 33554432 ≡ 256 * f + y)
  of_m = divided 33554432 m q (256 * f + y) (lit≤ tt) em (omega arith)

  abbrev sum : ℕ
  sum = w + 65535 + w / 131072 % 2 + (r + 255) / 256

  sum_is : sum ≡ q * 131072 + (f + 65535 + up)
  sum_is = ap (λ (i : ℕ). w + 65535 + i % 2 + (r + 255) / 256) of_w ∙ (let e : w + 65535 + q % 2 + (r + 255) / 256 ≡ q * 131072 + (f + 65535 + (q % 2 + (r + 255) / 256)) = omega (arith, ew) in e)

  stays : f + 65535 + up < 131072 → sum / 131072 ≡ q
  stays l = (divided 131072 sum q (f + 65535 + up) (lit≤ tt) sum_is l).0

  rises : 131072 ≤ f + 65535 + up → f + 65535 + up < 262144 → sum / 131072 ≡ suc q
  rises l h = (divided 131072 sum (suc q) (f + 65535 + up - 131072) (lit≤ tt) (let e = sum_is in let z : sum ≡ suc q * 131072 + (f + 65535 + up - 131072) = omega (arith, e, l) in z) (omega (arith, l, h))).0

  up-most : up ≤ 2
  up-most = omega (arith, lr)

  less : (q ≡ 0) ⊎ (2 ≤ p) → f + p ≤ 65536 → sum / 131072 ≡ closest m 33554432
  less z h =
      stays (⊎_elim (λ e. omega (arith, e, h, lr, one)) (λ e. omega (arith, e, h, up-most)) z)
      ∙ sym (⊎_elim (λ c. c.1 ∙ of_m.0) (⊎_elim (λ c. absurd (omega (arith, c.0, of_m.1, h, ly, one))) (λ c. absurd (omega (arith, c.0, of_m.1, h, ly, one)))) (closest_cases m 33554432))

  tied : r ≡ 0 → y ≡ 0 → f ≡ 65536 → sum / 131072 ≡ closest m 33554432
  tied a b h = by (q % 2) refl (omega arith) ∙ sym (⊎_elim (λ c. absurd (omega (arith, c.0, of_m.1, b, h))) (⊎_elim (λ c. c.1 ∙ ap (λ (i : ℕ). i + i % 2) of_m.0) (λ c. absurd (omega (arith, c.0, of_m.1, b, h)))) (closest_cases m 33554432))
    where
      by : (o : ℕ) → q % 2 ≡ o → o < 2 → sum / 131072 ≡ q + q % 2
      by zero e l = stays (omega (arith, e, a, h)) ∙ (let z : q ≡ q + q % 2 = omega (arith, e) in z)
      by (suc zero) e l = rises (omega (arith, e, a, h)) (omega (arith, e, a, h)) ∙ (let z : suc q ≡ q + q % 2 = omega (arith, e) in z)
      by (suc (suc o)) e l = absurd (omega (arith, l))

  above : 131072 ≤ f + 65535 + up → 65536 ≤ f → 65536 < f + y → sum / 131072 ≡ closest m 33554432
  above k h g =
      rises k (omega (arith, lf, up-most, one))
      ∙ sym (⊎_elim (λ c. absurd (omega (arith, c.0, of_m.1, h))) (⊎_elim (λ c. absurd (omega (arith, c.0, of_m.1, h, g))) (λ c. c.1 ∙ ap suc of_m.0)) (closest_cases m 33554432))

-- n digits, the last 8 of them apart, shifted to the left by k: what is added to the digits before those makes the division round
module _ (n k : ℕ) (h : k ≤ 16) (l : n < 16777216) where
  abbrev power : ℕ
  power = 2 ^ k

  abbrev before : ℕ
  before = n / 256

  abbrev last : ℕ
  last = n % 256

  abbrev shifted : ℕ
  shifted = before * power

  -- half a unit is `halves` of the shifted digit's steps
  abbrev halves : ℕ
  halves = 2 ^ (16 - k)

  half_power : halves * power ≡ 65536
  half_power = sym (pow-add 2 (16 - k) k) ∙ ap (λ (i : ℕ). 2 ^ i) (let e : 16 - k + k ≡ 16 = omega arith in e)

  abbrev whole : ℕ
  whole = before / (2 * halves)

  abbrev part : ℕ
  part = before % (2 * halves)

  halves_positive : 0 < 2 * halves
  halves_positive = let p = pow_pos (16 - k) in omega arith

  split : shifted ≡ whole * 131072 + part * power
  split =
      let d : whole * (2 * halves) + part ≡ before = div-add-mod' before (2 * halves) in
      let p = half_power in
      ap (λ (i : ℕ). i * power) (sym d) ∙ add-mul (whole * (2 * halves)) part power
      ∙ ap (λ (i : ℕ). i + part * power) (mul_assoc whole (2 * halves) power ∙ ap (λ (i : ℕ). whole * i) (mul_assoc 2 halves power ∙ ap (λ (i : ℕ). 2 * i) p))

  -- the remainder of all digits: 256 times the part of the shifted ones, and the last ones
  whole-digits : n * power ≡ whole * 33554432 + (256 * (part * power) + last * power)
  whole-digits =
      let e : n ≡ 256 * before + last = omega arith in
      let s = split in
      let a : n * power ≡ 256 * before * power + last * power = ap (λ (i : ℕ). i * power) e ∙ add-mul (256 * before) last power in
      let b : 256 * before * power ≡ 256 * shifted = mul_assoc 256 before power in
      omega arith

  f_least : part * power + power ≤ 131072
  f_least =
      let m : suc part * power ≤ 2 * halves * power = mul-le-mul_right power (mod-lt before halves_positive) in
      let s : suc part * power ≡ part * power + power = suc-mul part power in
      let w : 2 * halves * power ≡ 2 * (halves * power) = mul_assoc 2 halves power in
      let v = half_power in
      omega arith

  y_least : last * power + power ≤ 256 * power
  y_least =
      let h : last < 256 = omega arith in
      let m : suc last * power ≤ 256 * power = mul-le-mul_right power h in
      let s : suc last * power ≡ last * power + power = suc-mul last power in
      omega arith

  -- without a shift there is no unit
  no_unit : (whole ≡ 0) ⊎ (2 ≤ power)
  no_unit = ⊎_elim (λ g. inl (let o : power ≡ 1 = omega (arith, g, pow_pos k) in let s = split in let e : shifted ≡ before = ap (λ (i : ℕ). before * i) o ∙ mul-one before in omega arith)) (λ g. inr g) (lt_or_ge power 2)

  last_digits : (last ≡ 0) ⊎ ((1 ≤ last) × (1 ≤ last * power))
  last_digits = by last refl
    where
      by : (r : ℕ) → last ≡ r → (last ≡ 0) ⊎ ((1 ≤ last) × (1 ≤ last * power))
      by zero e = inl e
      by (suc r) e = inr (omega (arith, e), rw e (let s : suc r * power ≡ r * power + power = suc-mul r power in let p = pow_pos k in omega arith))

  abbrev Goal : Type 0
  Goal = (shifted + 65535 + shifted / 131072 % 2 + (last + 255) / 256) / 131072 ≡ closest (n * power) 33554432

  pub rounds_in_fewer : Goal
  rounds_in_fewer = ⊎_elim below (⊎_elim at over) (order part halves)
    where
      below : part < halves → Goal
      below g =
          let m : suc part * power ≤ halves * power = mul-le-mul_right power g in
          let s : suc part * power ≡ part * power + power = suc-mul part power in
          let w = half_power in
          less shifted (part * power) power whole last (last * power) (n * power) split whole-digits f_least y_least (omega arith) (pow_pos k) no_unit (omega arith)

      at : part ≡ halves → Goal
      at e =
          let f : part * power ≡ 65536 = ap (λ (i : ℕ). i * power) e ∙ half_power in
          ⊎_elim
          (λ (z : last ≡ 0). tied shifted (part * power) power whole last (last * power) (n * power) split whole-digits f_least y_least (omega arith) (pow_pos k) z (ap (λ (i : ℕ). i * power) z ∙ zero-mul power) f)
          (λ (z : (1 ≤ last) × (1 ≤ last * power)). above shifted (part * power) power whole last (last * power) (n * power) split whole-digits f_least y_least (omega arith) (pow_pos k) (omega (arith, f, z.0)) (omega (arith, f)) (omega (arith, f, z.1))) last_digits

      over : halves < part → Goal
      over g =
          let m : suc halves * power ≤ part * power = mul-le-mul_right power g in
          let s : suc halves * power ≡ halves * power + power = suc-mul halves power in
          let w = half_power in
          let p = pow_pos k in
          above shifted (part * power) power whole last (last * power) (n * power) split whole-digits f_least y_least (omega arith) (pow_pos k) (omega arith) (omega arith) (omega arith)

-- HALF A UNIT

-- c is within half of b of a when multiplied with b: |c · b - a| · 2 ≤ b; and even at a tie
pub record Half (a b c : ℕ) : Type 0 where
  pub above : c * b * 2 ≤ a * 2 + b
  pub below : a * 2 ≤ c * b * 2 + b
  pub even_above : c * b * 2 ≡ a * 2 + b → c % 2 ≡ 0
  pub even_below : a * 2 ≡ c * b * 2 + b → c % 2 ≡ 0

half_at : (a b q r c : ℕ) → q * b + r ≡ a → 0 < b → r < b
    → ((r * 2 < b) × (c ≡ q)) ⊎ (((r * 2 ≡ b) × (c ≡ q + q % 2)) ⊎ ((b < r * 2) × (c ≡ suc q)))
    → Half a b c
half_at a b q r c w p l (inl (h, e)) =
    rw e (record { above = omega (arith, h); below = omega (arith, h); even_above = λ i. absurd (omega (arith, h, i)); even_below = λ i. absurd (omega (arith, h, i)) })
half_at a b q r c w p l (inr (inr (h, e))) =
    let m : suc q * b ≡ q * b + b = suc-mul q b in
    rw e (record { above = omega (arith, h); below = omega (arith, h); even_above = λ i. absurd (omega (arith, h, i)); even_below = λ i. absurd (omega (arith, h, i)) })
half_at a b q r c w p l (inr (inl (h, e))) = tie (q % 2) refl (omega arith)
  where
    tie : (o : ℕ) → q % 2 ≡ o → o < 2 → Half a b c
    tie zero f k =
        let i : c ≡ q = omega (arith, e, f) in
        rw i (record { above = omega (arith, h); below = omega (arith, h); even_above = λ j. f; even_below = λ j. f })
    tie (suc zero) f k =
        let i : c ≡ suc q = omega (arith, e, f) in
        let m : suc q * b ≡ q * b + b = suc-mul q b in
        rw i (record { above = omega (arith, h); below = omega (arith, h); even_above = λ j. omega (arith, f); even_below = λ j. omega (arith, f) })
    tie (suc (suc o)) f k = absurd (omega (arith, k))

pub within_half : (a b : ℕ) → 0 < b → Half a b (closest a b)
within_half a b h = half_at a b (a / b) (a % b) (closest a b) (div-add-mod' a b) h (mod-lt a h) (closest_cases a b)
