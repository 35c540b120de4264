-- A whole number as a difference of two numbers: what the tests and sums of whole numbers are then. Assumes nothing.
use mathlib.Core.Path.{◌≡◌, refl, sym, ap, ap₂, ◌∙◌}
use mathlib.Core.Bool.{Bool, ◌&&◌, cond}
use Prim.Native.Nat.{ℕ, zero, suc, ◌+◌, ◌*◌, ◌-◌, ◌<◌, ◌≤◌}
use native.Mathlib.Omega.{arith}
use native.Mathlib.Decide.{dec_le, dec_lt}
use borrow.Author.Tests.{lt-ltb, le-ltb, le-leb, lt-leb}
use lib.Dec.{leb, ltb}
use lib.IntN.{ℤ, pos, negsuc, neg_ℤ, sub_ℕ, ◌+ℤ◌, ◌*ℤ◌}
use lib.Signed.{lt_z, le_z}
use Rattle.deciding.specs.Decide.{within45}

pub leb-same : (x y u v : ℕ) → (x ≤ y → u ≤ v) → (u ≤ v → x ≤ y) → leb x y ≡ leb u v
leb-same x y u v f g = go (dec_le x y)
  where
    go : Dec (x ≤ y) → leb x y ≡ leb u v
    go (yes h) = le-leb x y h ∙ sym (le-leb u v (f h))
    go (no h) = lt-leb x y (omega (arith, h)) ∙ sym (lt-leb u v (go' (dec_le u v)))
      where
        go' : Dec (u ≤ v) → v < u
        go' (yes k) = absurd (h (g k))
        go' (no k) = omega (arith, k)

pub sub_pos : (a b : ℕ) → b ≤ a → sub_ℕ a b ≡ pos (a - b)
sub_pos a b h = ap (λ (t : Bool). cond t (negsuc (b - suc a)) (pos (a - b))) (le-ltb a b h)

pub sub_neg : (a b : ℕ) → a < b → sub_ℕ a b ≡ negsuc (b - suc a)
sub_neg a b h = ap (λ (t : Bool). cond t (negsuc (b - suc a)) (pos (a - b))) (lt-ltb a b h)

-- two ways to be one difference
pub same_difference : (a b c d : ℕ) → a + d ≡ c + b → sub_ℕ a b ≡ sub_ℕ c d
same_difference a b c d e = go (dec_lt a b)
  where
    go : Dec (a < b) → sub_ℕ a b ≡ sub_ℕ c d
    go (yes h) = sub_neg a b h ∙ ap negsuc (let q : b - suc a ≡ d - suc c = omega arith in q) ∙ sym (sub_neg c d (omega arith))
    go (no h) = sub_pos a b (omega (arith, h)) ∙ ap pos (let q : a - b ≡ c - d = omega (arith, h) in q) ∙ sym (sub_pos c d (omega (arith, h)))

pub pos_difference : (a : ℕ) → pos a ≡ sub_ℕ a 0
pos_difference a = ap pos (let q : a ≡ a - 0 = omega arith in q) ∙ sym (sub_pos a 0 (omega arith))

pub neg-pos : (n : ℕ) → neg_ℤ (pos n) ≡ sub_ℕ 0 n
neg-pos zero = refl
neg-pos (suc n) = ap negsuc (let q : n ≡ suc n - 1 = omega arith in q) ∙ sym (sub_neg 0 (suc n) (omega arith))

pub negated_difference : (a b : ℕ) → neg_ℤ (sub_ℕ a b) ≡ sub_ℕ b a
negated_difference a b = go (dec_lt a b)
  where
    go : Dec (a < b) → neg_ℤ (sub_ℕ a b) ≡ sub_ℕ b a
    go (yes h) = ap neg_ℤ (sub_neg a b h) ∙ ap pos (let q : suc (b - suc a) ≡ b - a = omega arith in q) ∙ sym (sub_pos b a (omega arith))
    go (no h) = ap neg_ℤ (sub_pos a b (omega (arith, h))) ∙ neg-pos (a - b) ∙ same_difference 0 (a - b) b a (omega (arith, h))

pub sum_difference : (a b c d : ℕ) → sub_ℕ a b +ℤ sub_ℕ c d ≡ sub_ℕ (a + c) (b + d)
sum_difference a b c d = go (dec_lt a b) (dec_lt c d)
  where
    go : Dec (a < b) → Dec (c < d) → sub_ℕ a b +ℤ sub_ℕ c d ≡ sub_ℕ (a + c) (b + d)
    go (yes h) (yes k) =
        ap₂ ◌+ℤ◌ (sub_neg a b h) (sub_neg c d k)
        ∙ ap negsuc (let q : suc (b - suc a + (d - suc c)) ≡ b + d - suc (a + c) = omega arith in q) ∙ sym (sub_neg (a + c) (b + d) (omega arith))
    go (yes h) (no k) =
        ap₂ ◌+ℤ◌ (sub_neg a b h) (sub_pos c d (omega (arith, k)))
        ∙ same_difference (c - d) (suc (b - suc a)) (a + c) (b + d) (omega (arith, k))
    go (no h) (yes k) =
        ap₂ ◌+ℤ◌ (sub_pos a b (omega (arith, h))) (sub_neg c d k)
        ∙ same_difference (a - b) (suc (d - suc c)) (a + c) (b + d) (omega (arith, h))
    go (no h) (no k) =
        ap₂ ◌+ℤ◌ (sub_pos a b (omega (arith, h))) (sub_pos c d (omega (arith, k)))
        ∙ ap pos (let q : a - b + (c - d) ≡ a + c - (b + d) = omega (arith, h, k) in q) ∙ sym (sub_pos (a + c) (b + d) (omega (arith, h, k)))

pub less_difference : (a b c d : ℕ) → le_z (sub_ℕ a b) (sub_ℕ c d) ≡ leb (a + d) (c + b)
less_difference a b c d = go (dec_lt a b) (dec_lt c d)
  where
    go : Dec (a < b) → Dec (c < d) → le_z (sub_ℕ a b) (sub_ℕ c d) ≡ leb (a + d) (c + b)
    go (yes h) (yes k) = ap₂ le_z (sub_neg a b h) (sub_neg c d k) ∙ leb-same (d - suc c) (b - suc a) (a + d) (c + b) (λ p. omega arith) (λ p. omega arith)
    go (yes h) (no k) = ap₂ le_z (sub_neg a b h) (sub_pos c d (omega (arith, k))) ∙ sym (le-leb (a + d) (c + b) (omega (arith, k)))
    go (no h) (yes k) = ap₂ le_z (sub_pos a b (omega (arith, h))) (sub_neg c d k) ∙ sym (lt-leb (a + d) (c + b) (omega (arith, h)))
    go (no h) (no k) = ap₂ le_z (sub_pos a b (omega (arith, h))) (sub_pos c d (omega (arith, k))) ∙ leb-same (a - b) (c - d) (a + d) (c + b) (λ p. omega (arith, h, k)) (λ p. omega (arith, h, k))

pub below_difference : (a b c d : ℕ) → lt_z (sub_ℕ a b) (sub_ℕ c d) ≡ ltb (a + d) (c + b)
below_difference a b c d = go (dec_lt a b) (dec_lt c d)
  where
    go : Dec (a < b) → Dec (c < d) → lt_z (sub_ℕ a b) (sub_ℕ c d) ≡ ltb (a + d) (c + b)
    go (yes h) (yes k) = ap₂ lt_z (sub_neg a b h) (sub_neg c d k) ∙ leb-same (suc (d - suc c)) (b - suc a) (suc (a + d)) (c + b) (λ p. omega arith) (λ p. omega arith)
    go (yes h) (no k) = ap₂ lt_z (sub_neg a b h) (sub_pos c d (omega (arith, k))) ∙ sym (lt-ltb (a + d) (c + b) (omega (arith, k)))
    go (no h) (yes k) = ap₂ lt_z (sub_pos a b (omega (arith, h))) (sub_neg c d k) ∙ sym (le-ltb (a + d) (c + b) (omega (arith, h)))
    go (no h) (no k) = ap₂ lt_z (sub_pos a b (omega (arith, h))) (sub_pos c d (omega (arith, k))) ∙ leb-same (suc (a - b)) (c - d) (suc (a + d)) (c + b) (λ p. omega (arith, h, k)) (λ p. omega (arith, h, k))

-- three times a difference
pub triple_difference : (a b : ℕ) → pos 3 *ℤ sub_ℕ a b ≡ sub_ℕ (3 * a) (3 * b)
triple_difference a b = go (dec_lt a b)
  where
    go : Dec (a < b) → pos 3 *ℤ sub_ℕ a b ≡ sub_ℕ (3 * a) (3 * b)
    go (yes h) = ap (λ (z : ℤ). pos 3 *ℤ z) (sub_neg a b h) ∙ neg-pos (3 * suc (b - suc a)) ∙ same_difference 0 (3 * suc (b - suc a)) (3 * a) (3 * b) (omega arith)
    go (no h) = ap (λ (z : ℤ). pos 3 *ℤ z) (sub_pos a b (omega (arith, h))) ∙ ap pos (let q : 3 * (a - b) ≡ 3 * a - 3 * b = omega (arith, h) in q) ∙ sym (sub_pos (3 * a) (3 * b) (omega (arith, h)))

pub within_difference : (a b c d : ℕ) → within45 (sub_ℕ a b) (sub_ℕ c d) ≡ ltb (b + d) (c + a) && leb (c + b) (a + d)
within_difference a b c d =
    ap₂ ◌&&◌ (ap (λ (z : ℤ). lt_z z (sub_ℕ c d)) (negated_difference a b) ∙ below_difference b a c d) (less_difference c d a b)
