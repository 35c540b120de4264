-- Eight bits shifted into the register at once are eight shifted in one by one. Assumes nothing.
use Prim.Native.Nat.{ℕ, zero, suc, ◌+◌, ◌*◌, ◌/◌, ◌%◌, ◌^◌, ◌<◌}
use mathlib.Core.Path.{◌≡◌, refl, sym, ap, ap₂, ◌∙◌}
use mathlib.Core.Bool.{Bool}
use mathlib.Core.List.{List, [], ◌∷◌, ◌++◌, append_assoc}
use native.Mathlib.Nat.{add_comm, mul_assoc, add_assoc, add-mul}
use native.Mathlib.Omega.{arith}
use lib.Bits.{bit_xor, xor_lt}
use lib.Dec.{T, eqb, eqb→eq}
use lib.ListN.{length, replicate, length-append}
use lib.Pow.{pow-add, shr-shr}
use Rattle.line.specs.Table.{every, below}
use Rattle.line.proofs.TableLaws.{below_at}
use Rattle.scrambler.specs.Bits.{bits, value}
use Rattle.scrambler.proofs.BitLaws.{bits_are, value-bits}
use Rattle.v41.specs.Polynomial.{plus, step, divided}
use Rattle.v41.specs.Register.{register, folded, next_eight}
use Rattle.v41.proofs.PolynomialLaws.{Bits, bits_append, bits-zeros, are_zeros, plus_both, plus-zeros, zeros-plus, divided-length, divided-bits, divided-zeros, divided_linear}
use Rattle.v41.proofs.Theorems.{are_bits, low as lower, low_bits}
use Rattle.v41.proofs.RegisterLaws.{value-plus, register-divided}

-- the upper and the lower bits of a number
bits_split : (a b n : ℕ) → bits (a + b) n ≡ bits a (n / 2 ^ b) ++ bits b n
bits_split zero b n = ap (λ (k : ℕ). bits k n) (let e : 0 + b ≡ b = omega arith in e)
bits_split (suc a) b n =
    ap (λ (k : ℕ). bits k n) (let e : suc a + b ≡ suc (a + b) = omega arith in e)
    ∙ ap₂ ◌∷◌
    (ap (λ (k : ℕ). n / 2 ^ k % 2) (add_comm a b) ∙ ap (λ (x : ℕ). x % 2) (sym (shr-shr n b a)))
    (bits_split a b n)

-- what the division leaves of eight bits with 16 behind: one test of all 256
abbrev folded_so : ℕ → Bool
folded_so h = eqb (value (divided (1 ∷ lower) 8 (bits 8 h ++ replicate 16 0))) (folded h)

all_folded : T (every folded_so (below 256))
unfolding step folded
all_folded = tt

folded_law : (h : ℕ) → h < 256 → value (divided (1 ∷ lower) 8 (bits 8 h ++ replicate 16 0)) ≡ folded h
folded_law h k = eqb→eq _ _ (below_at folded_so 256 all_folded h k)

-- the number of one list of bits behind another
value_append : (xs ys : List ℕ) → value (xs ++ ys) ≡ value xs * 2 ^ length ys + value ys
value_append [] ys = omega arith
value_append (x ∷ xs) ys =
    ap₂ (λ (n v : ℕ). x * 2 ^ n + v) (length-append xs ys) (value_append xs ys)
    ∙ ap (λ (k : ℕ). x * k + (value xs * 2 ^ length ys + value ys)) (pow-add 2 (length xs) (length ys))
    ∙ grouped x (2 ^ length xs) (value xs) (2 ^ length ys) (value ys)
  where
    grouped : (x a v b w : ℕ) → x * (a * b) + (v * b + w) ≡ (x * a + v) * b + w
    grouped x a v b w =
        ap (λ (k : ℕ). k + (v * b + w)) (sym (mul_assoc x a b)) ∙ sym (add_assoc (x * a * b) (v * b) w) ∙ ap (λ (k : ℕ). k + w) (sym (add-mul (x * a) v b))

eight_bits : (k n : ℕ) → Bits (bits k n)
eight_bits k n = are_bits (bits k n) (bits_are k n)

folded_small : (h : ℕ) → folded h < 65536
unfolding folded
folded_small h = omega arith

module _ (r v : ℕ) (hr : r < 65536) (hv : v < 256) where
  abbrev upper : List ℕ
  upper = bits 8 (r / 256)

  abbrev rest : List ℕ
  rest = bits 8 r ++ bits 8 v

  rest_bits : Bits rest
  rest_bits = bits_append (bits 8 r) (bits 8 v) (eight_bits 8 r) (eight_bits 8 v)

  -- the upper eight bits and the rest, as a sum
  apart : bits 16 r ++ bits 8 v ≡ plus (upper ++ replicate 16 0) (replicate 8 0 ++ rest)
  apart =
      ap (λ (l : List ℕ). l ++ bits 8 v) (bits_split 8 8 r) ∙ append_assoc upper (bits 8 r) (bits 8 v)
      ∙ sym (plus_both upper (replicate 8 0) (replicate 16 0) rest refl
      ∙ ap₂ (λ (a b : List ℕ). a ++ b) (plus-zeros upper (replicate 8 0) (eight_bits 8 (r / 256)) (are_zeros 8) refl) (zeros-plus (replicate 16 0) rest (are_zeros 16) rest_bits refl))

  left-bits : Bits (divided (1 ∷ lower) 8 (upper ++ replicate 16 0))
  left-bits = divided-bits lower low_bits 8 (upper ++ replicate 16 0) (bits_append upper (replicate 16 0) (eight_bits 8 (r / 256)) (bits-zeros 16))

  left-length : length (divided (1 ∷ lower) 8 (upper ++ replicate 16 0)) ≡ 16
  left-length =
      let e : 8 + length (divided (1 ∷ lower) 8 (upper ++ replicate 16 0)) ≡ 24 = divided-length lower low_bits 8 (upper ++ replicate 16 0) (omega arith) in
      omega arith

  rest_value : value rest ≡ r % 256 * 256 + v
  rest_value =
      value_append (bits 8 r) (bits 8 v)
      ∙ ap₂ (λ (a b : ℕ). a * 256 + b) (value-bits 8 r) (value-bits 8 v ∙ (let e : v % 256 ≡ v = omega arith in e))

  pub eight_law : next_eight r v ≡ register r (bits 8 v)
  unfolding next_eight
  eight_law =
      sym
      (ap (λ (n : ℕ). register n (bits 8 v)) (sym (value-bits 16 r ∙ (let e : r % 65536 ≡ r = omega arith in e)))
      ∙ register-divided (bits 8 v) (bits 16 r) (eight_bits 8 v) (eight_bits 16 r) refl
      ∙ ap (λ (l : List ℕ). value (divided (1 ∷ lower) 8 l)) apart
      ∙ ap value (divided_linear lower low_bits 8 (upper ++ replicate 16 0) (replicate 8 0 ++ rest) refl (omega arith))
      ∙ ap (λ (l : List ℕ). value (plus (divided (1 ∷ lower) 8 (upper ++ replicate 16 0)) l)) (divided-zeros lower low_bits 8 rest rest_bits (omega arith))
      ∙ value-plus (divided (1 ∷ lower) 8 (upper ++ replicate 16 0)) rest left-bits rest_bits left-length
      ∙ ap₂ bit_xor (folded_law (r / 256) (omega arith)) rest_value)

  pub eight_small : next_eight r v < 65536
  unfolding next_eight
  eight_small = xor_lt 16 (folded (r / 256)) (r % 256 * 256 + v) (folded_small (r / 256)) (omega arith)
