-- The register of the code holds what the division leaves. Assumes nothing.
use Prim.Native.Nat.{ℕ, zero, suc, ◌+◌, ◌*◌, ◌-◌, ◌%◌, ◌^◌, ◌≤◌, ◌<◌}
use mathlib.Core.Path.{◌≡◌, refl, sym, ap, ap₂, ◌∙◌, subst}
use mathlib.Core.Bool.{Bool, true, false, cond}
use mathlib.Core.List.{List, [], ◌∷◌, ◌++◌, append_assoc, append-nil}
use native.Mathlib.Nat.{mul_assoc, pow-suc, mul-le-mul_right}
use native.Mathlib.Omega.{arith}
use borrow.Author.Tests.{eq-eqb, ne_eqb, lt-ltb, le-ltb, ltb-true}
use lib.Bits.{bit_xor, xor_block, xor_lt}
use lib.Dec.{eqb, ltb}
use lib.ListN.{length, replicate, length-append}
use lib.Pow.{pow_pos}
use Rattle.scrambler.specs.Bits.{bits, value}
use Rattle.scrambler.proofs.BitLaws.{value_small, bits-value}
use Rattle.octets.specs.Number.{zeros}
use Rattle.v41.specs.Polynomial.{plus, step, divided, remainder}
use Rattle.v41.specs.Block.{generator, leaves_nothing, check_bits}
use Rattle.v41.specs.Register.{next, register}
use Rattle.v41.proofs.PolynomialLaws.{Bits, Zeros, bits_append, bits-zeros, length-plus, step-length, step-bits, step-zero, step_append, divided-zeros, divided_add}
use Rattle.v41.proofs.Theorems.{bits_are, low as lower, low_bits, remainder_is, is_nothing, nothing_is, check_length, check_bits_lem}

-- ---- numbers of bits
pub small_value : (l : List ℕ) → Bits l → value l < 2 ^ length l
small_value l p = value_small l (bits_are l p)

-- one bit more behind
pub value_snoc : (s : List ℕ) (b : ℕ) → value (s ++ b ∷ []) ≡ 2 * value s + b
value_snoc [] b = omega arith
value_snoc (x ∷ s) b =
    ap₂ (λ (n v : ℕ). x * 2 ^ n + v) (length-append s (b ∷ []) ∙ (let e : length s + 1 ≡ suc (length s) = omega arith in e)) (value_snoc s b)
    ∙ ap (λ (k : ℕ). x * k + (2 * value s + b)) (pow-suc 2 (length s)) ∙ ap (λ (k : ℕ). k + (2 * value s + b)) (sym (mul_assoc x (2 ^ length s) 2))
    ∙ doubled (x * 2 ^ length s) (value s) b
  where
    doubled : (p v b : ℕ) → p * 2 + (2 * v + b) ≡ 2 * (p + v) + b
    doubled p v b = omega arith

two_bits : (a b : ℕ) → a < 2 → b < 2 → bit_xor a b ≡ (a + b) % 2
two_bits zero zero h l = refl
two_bits zero (suc zero) h l = refl
two_bits (suc zero) zero h l = refl
two_bits (suc zero) (suc zero) h l = refl
two_bits zero (suc (suc b)) h l = absurd (omega arith)
two_bits (suc zero) (suc (suc b)) h l = absurd (omega arith)
two_bits (suc (suc a)) b h l = absurd (omega arith)

-- a sum modulo 2 is an xor
pub value-plus : (xs ys : List ℕ) → Bits xs → Bits ys → length xs ≡ length ys → value (plus xs ys) ≡ bit_xor (value xs) (value ys)
value-plus [] [] p q e = refl
value-plus [] (y ∷ ys) p q e = absurd (omega arith)
value-plus (x ∷ xs) [] p q e = absurd (omega arith)
value-plus (x ∷ xs) (y ∷ ys) p q e =
    let l : length xs ≡ length ys = omega arith in
    ap₂ (λ (n v : ℕ). (x + y) % 2 * 2 ^ n + v) (length-plus xs ys (omega arith)) (value-plus xs ys p.1 q.1 l)
    ∙ ap (λ (k : ℕ). k * 2 ^ length xs + bit_xor (value xs) (value ys)) (sym (two_bits x y p.0 q.0))
    ∙ sym (xor_block (length xs) x y (value xs) (value ys) (small_value xs p.1) (subst (λ (n : ℕ). value ys < 2 ^ n) (sym l) (small_value ys q.1)))
    ∙ ap (λ (n : ℕ). bit_xor (x * 2 ^ length xs + value xs) (y * 2 ^ n + value ys)) l

-- a number of bits is 0 where every bit is
value-zero : (l : List ℕ) → value l ≡ 0 → Zeros l
value-zero [] e = tt
value-zero (b ∷ bs) e = (first b e, value-zero bs (let q : value bs ≡ 0 = omega arith in q))
  where
    first : (b : ℕ) → b * 2 ^ length bs + value bs ≡ 0 → b ≡ 0
    first zero e = refl
    first (suc b) e =
        let h : 1 * 2 ^ length bs ≤ suc b * 2 ^ length bs = mul-le-mul_right (2 ^ length bs) (omega arith) in
        let z = pow_pos (length bs) in
        absurd (omega arith)

zero-value : (l : List ℕ) → Zeros l → value l ≡ 0
zero-value [] z = refl
zero-value (b ∷ bs) z = ap₂ (λ (k v : ℕ). k * 2 ^ length bs + v) z.0 (zero-value bs z.1) ∙ (let q : 0 * 2 ^ length bs + 0 ≡ 0 = omega arith in q)

pub value_nothing : (l : List ℕ) → eqb (value l) 0 ≡ zeros l
value_nothing l = go (zeros l) refl
  where
    go : (t : Bool) → zeros l ≡ t → eqb (value l) 0 ≡ t
    go true e = eq-eqb (value l) 0 (zero-value l (is_nothing l e))
    go false e = ne_eqb (value l) 0 (λ q. let z : true ≡ false = sym (nothing_is l (value-zero l q)) ∙ e in let w : ◌≡◌ {A = ℕ} 0 1 = cc in omega arith)

-- ---- the register
pub next_small : (r b : ℕ) → r < 65536 → b < 2 → next r b < 65536
unfolding next
next_small r b h k = go (ltb (2 * r + b) 65536) refl
  where
    go : (t : Bool) → ltb (2 * r + b) 65536 ≡ t → cond t (2 * r + b) (bit_xor (2 * r + b - 65536) 0x1021) < 65536
    go true e = omega (arith, ltb-true (2 * r + b) 65536 e)
    go false e = xor_lt 16 (2 * r + b - 65536) 0x1021 (omega arith) (omega arith)

pub next_low : (r b : ℕ) → 2 * r + b < 65536 → 2 * r + b ≡ next r b
unfolding next
next_low r b h = rw (lt-ltb (2 * r + b) 65536 h)

pub next-high : (r b : ℕ) → 65536 ≤ 2 * r + b → bit_xor (2 * r + b - 65536) 0x1021 ≡ next r b
unfolding next
next-high r b h = rw (le-ltb (2 * r + b) 65536 h)

-- a step of the division of 16 bits with one behind
step-next : (t : List ℕ) (x : ℕ) → x < 2 → Bits t → length t ≡ 16
    → value (step (1 ∷ lower) (x ∷ t)) ≡ cond (ltb (value (x ∷ t)) 65536) (value (x ∷ t)) (bit_xor (value (x ∷ t) - 65536) 0x1021)
unfolding step
step-next t zero h p e =
    let v : value t < 65536 = subst (λ (n : ℕ). value t < 2 ^ n) e (small_value t p) in
    ap value (step-zero lower low_bits t p (omega arith))
    ∙ (let q : value t ≡ 0 * 2 ^ length t + value t = omega arith in q)
    ∙ sym (ap (λ (b : Bool). cond b (0 * 2 ^ length t + value t) (bit_xor (0 * 2 ^ length t + value t - 65536) 0x1021)) (lt-ltb (0 * 2 ^ length t + value t) 65536 (omega arith)))
step-next t (suc zero) h p e =
    let w : 1 * 2 ^ length t + value t ≡ 65536 + value t = ap (λ (n : ℕ). 1 * 2 ^ n + value t) e in
    value-plus t lower p low_bits e
    ∙ ap (λ (n : ℕ). bit_xor n 0x1021) (let q : value t ≡ 1 * 2 ^ length t + value t - 65536 = omega arith in q)
    ∙ sym (ap (λ (b : Bool). cond b (1 * 2 ^ length t + value t) (bit_xor (1 * 2 ^ length t + value t - 65536) 0x1021)) (le-ltb (1 * 2 ^ length t + value t) 65536 (omega arith)))
step-next t (suc (suc x)) h p e = absurd (omega arith)

pub step_value : (s : List ℕ) (b : ℕ) → Bits s → b < 2 → length s ≡ 16 → value (step (1 ∷ lower) (s ++ b ∷ [])) ≡ next (value s) b
unfolding next
step_value [] b p h e = absurd (omega arith)
step_value (x ∷ s) b p h e =
    step-next (s ++ b ∷ []) x p.0 (bits_append s (b ∷ []) p.1 (h, tt)) (length-append s (b ∷ []) ∙ (let q : length s + 1 ≡ 16 = omega arith in q))
    ∙ ap (λ (n : ℕ). cond (ltb n 65536) n (bit_xor (n - 65536) 0x1021)) (value_snoc (x ∷ s) b)

pub register-divided : (l s : List ℕ) → Bits l → Bits s → length s ≡ 16 → register (value s) l ≡ value (divided (1 ∷ lower) (length l) (s ++ l))
register-divided [] s p q e = ap value (sym (append-nil s))
register-divided (b ∷ bs) s p q e =
    ap (λ (r : ℕ). register r bs) (sym (step_value s b q p.0 e))
    ∙ register-divided bs (step (1 ∷ lower) (s ++ b ∷ [])) p.1 (step-bits lower low_bits (s ++ b ∷ []) (bits_append s (b ∷ []) q (p.0, tt)))
    (let z = step-length lower low_bits (s ++ b ∷ []) (omega (arith, n)) in omega (arith, n))
    ∙ ap (λ (m : List ℕ). value (divided (1 ∷ lower) (length bs) m))
    (sym (ap (step (1 ∷ lower)) (sym (append_assoc s (b ∷ []) bs)) ∙ step_append lower low_bits (s ++ b ∷ []) bs (omega (arith, n))))
  where
    n : length (s ++ b ∷ []) ≡ 17
    n = length-append s (b ∷ []) ∙ (let q : length s + 1 ≡ 17 = omega arith in q)

-- the register after all the bits is the remainder
pub register-remainder : (l : List ℕ) → Bits l → 16 ≤ length l → register 0 l ≡ value (remainder generator l)
register-remainder l p h =
    register-divided l (replicate 16 0) p (bits-zeros 16) refl
    ∙ ap (λ (n : ℕ). value (divided (1 ∷ lower) n (replicate 16 0 ++ l))) (let q : length l ≡ 16 + (length l - 16) = omega arith in q)
    ∙ ap value
    (divided_add lower low_bits 16 (length l - 16) (replicate 16 0 ++ l) ∙ ap (divided (1 ∷ lower) (length l - 16)) (divided-zeros lower low_bits 16 l p h)
    ∙ sym (remainder_is (length l - 16) l (omega arith)))

pub check_register : (l : List ℕ) → Bits l → 16 ≤ length l → eqb (register 0 l) 0 ≡ leaves_nothing l
unfolding leaves_nothing
check_register l p h = ap (λ (r : ℕ). eqb r 0) (register-remainder l p h) ∙ value_nothing (remainder generator l)

pub register_append : (xs ys : List ℕ) (r : ℕ) → register r (xs ++ ys) ≡ register (register r xs) ys
register_append [] ys r = refl
register_append (x ∷ xs) ys r = register_append xs ys (next r x)

-- the check bits are those of the register after 16 zeros more
pub register-bits : (given : List ℕ) → Bits given → bits 16 (register (register 0 given) (replicate 16 0)) ≡ check_bits given
unfolding check_bits
register-bits given p =
    ap (bits 16)
    (sym (register_append given (replicate 16 0) 0)
    ∙ register-remainder (given ++ replicate 16 0) (bits_append given (replicate 16 0) p (bits-zeros 16)) (omega (arith, length-append given (replicate 16 0))))
    ∙ ap (λ (n : ℕ). bits n (value (check_bits given))) (sym (check_length given)) ∙ bits-value (check_bits given) (bits_are (check_bits given) (check_bits_lem given p))
