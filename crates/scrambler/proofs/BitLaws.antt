-- Bits of numbers, and groups as numbers and as lists. Assumes nothing.
use Prim.Native.Nat.{ℕ, zero, suc, ◌+◌, ◌*◌, ◌-◌, ◌^◌, ◌/◌, ◌%◌, ◌<◌, ◌≤◌}
use mathlib.Core.Path.{◌≡◌, refl, sym, ◌∙◌, ap, ap₂}
use mathlib.Core.List.{List, [], ◌∷◌}
use native.Mathlib.Nat.{mod-lt, mul-le-mul_right, two-pow-succ, mod-eq_of_lt}
use native.Mathlib.Numerals.{one-add}
use native.Mathlib.Omega.{arith}
use lib.Pow.{high, low, mod-pow-add, field, mod-mod-pow, shr-shr}
use lib.Dec.{T, ltb, ltb→lt, lt→ltb}
use lib.ListN.{length}
use Rattle.line.specs.Table.{every}
use Rattle.line.proofs.TableLaws.{and_left, and_right, and_intro}
use Rattle.scrambler.specs.Bits.{is_bit, bits, value}

-- the bit of weight 2^i
abbrev pub bit : ℕ → ℕ → ℕ
bit i n = n / 2 ^ i % 2

pub bit_small : (i n : ℕ) → bit i n < 2
bit_small i n = mod-lt (n / 2 ^ i) (omega arith)

-- of the lowest j bits
pub bit_mod : (i j n : ℕ) → i < j → bit i (n % 2 ^ j) ≡ bit i n
bit_mod i j n h =
    let e : j - i + i ≡ j = omega arith in
    let f : j - i - 1 + 1 ≡ j - i = omega arith in
    ap (λ (k : ℕ). n % 2 ^ k / 2 ^ i % 2) (sym e)
    ∙ ap (λ (x : ℕ). x % 2) (field n (j - i) i)
    ∙ ap (λ (k : ℕ). n / 2 ^ i % 2 ^ k % 2) (sym f)
    ∙ mod-mod-pow (n / 2 ^ i) (j - i - 1) 1

-- one bit further, and the new bit
pub bit_double : (i n b : ℕ) → b < 2 → bit (suc i) (n * 2 + b) ≡ bit i n
bit_double i n b h =
    let half : (n * 2 + b) / 2 ≡ n = omega arith in
    ap (λ (k : ℕ). (n * 2 + b) / 2 ^ k % 2) (sym (one-add i)) ∙ ap (λ (x : ℕ). x % 2) (sym (shr-shr (n * 2 + b) 1 i)) ∙ ap (λ (x : ℕ). x / 2 ^ i % 2) half

pub bit_new : (n b : ℕ) → b < 2 → bit 0 (n * 2 + b) ≡ b
bit_new n b h = omega arith

pub bit_shift : (i j n : ℕ) → bit i (n / 2 ^ j) ≡ bit (j + i) n
bit_shift i j n = ap (λ (x : ℕ). x % 2) (shr-shr n j i)

-- the lowest k + 1 bits
pub mod_suc_pow : (k n : ℕ) → n % 2 ^ suc k ≡ bit k n * 2 ^ k + n % 2 ^ k
mod_suc_pow k n = ap (λ (j : ℕ). n % 2 ^ j) (sym (one-add k)) ∙ mod-pow-add n 1 k

pub length-bits : (k g : ℕ) → length (bits k g) ≡ k
length-bits zero g = refl
length-bits (suc k) g = ap suc (length-bits k g)

pub bits_are : (k g : ℕ) → T (every is_bit (bits k g))
unfolding is_bit
bits_are zero g = tt
bits_are (suc k) g = and_intro (ltb (bit k g) 2) (every is_bit (bits k g)) (lt→ltb (bit k g) 2 (bit_small k g)) (bits_are k g)

-- a group's number is its lowest bits
pub value-bits : (k g : ℕ) → value (bits k g) ≡ g % 2 ^ k
value-bits zero g = omega arith
value-bits (suc k) g = rw (length-bits k g, value-bits k g) (sym (mod_suc_pow k g))

-- numbers with the same lowest bits
pub bits-same : (k u v : ℕ) → u % 2 ^ k ≡ v % 2 ^ k → bits k u ≡ bits k v
bits-same zero u v e = refl
bits-same (suc k) u v e =
    let top : bit k u ≡ bit k v = sym (bit_mod k (suc k) u (omega arith)) ∙ ap (bit k) e ∙ bit_mod k (suc k) v (omega arith) in
    let rest : u % 2 ^ k ≡ v % 2 ^ k =
    sym (below_mod k u) ∙ ap (λ (x : ℕ). x % 2 ^ k) e ∙ below_mod k v in
    ap₂ ◌∷◌ top (bits-same k u v rest)
  where
    below_mod : (k n : ℕ) → n % 2 ^ suc k % 2 ^ k ≡ n % 2 ^ k
    below_mod k n = ap (λ (j : ℕ). n % 2 ^ j % 2 ^ k) (sym (one-add k)) ∙ mod-mod-pow n 1 k

pub value_small : (bs : List ℕ) → T (every is_bit bs) → value bs < 2 ^ length bs
unfolding is_bit
value_small [] t = omega arith
value_small (b ∷ bs) t =
    let hb : b < 2 = ltb→lt b 2 (and_left (ltb b 2) (every is_bit bs) t) in
    let hv : value bs < 2 ^ length bs = value_small bs (and_right (ltb b 2) (every is_bit bs) t) in
    let hm : b * 2 ^ length bs ≤ 1 * 2 ^ length bs = mul-le-mul_right (2 ^ length bs) (omega arith) in
    omega (arith, two-pow-succ (length bs))

-- a list of bits is the bits of its number
pub bits-value : (bs : List ℕ) → T (every is_bit bs) → bits (length bs) (value bs) ≡ bs
unfolding is_bit
bits-value [] t = refl
bits-value (b ∷ bs) t =
    let hb : b < 2 = ltb→lt b 2 (and_left (ltb b 2) (every is_bit bs) t) in
    let ht : T (every is_bit bs) = and_right (ltb b 2) (every is_bit bs) t in
    let hv : value bs < 2 ^ length bs = value_small bs ht in
    let top : (b * 2 ^ length bs + value bs) / 2 ^ length bs % 2 ≡ b = ap (λ (x : ℕ). x % 2) (high b (length bs) hv) ∙ mod-eq_of_lt hb in
    let rest : (b * 2 ^ length bs + value bs) % 2 ^ length bs ≡ value bs % 2 ^ length bs = low b (length bs) hv ∙ sym (mod-eq_of_lt hv) in
    ap₂ ◌∷◌ top (bits-same (length bs) (b * 2 ^ length bs + value bs) (value bs) rest ∙ bits-value bs ht)
