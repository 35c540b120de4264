-- The text block by block. Assumes nothing.
use Prim.Native.Nat.{ℕ, zero, suc, ◌+◌, ◌-◌, ◌*◌, ◌/◌, ◌≤◌, ◌<◌}
use mathlib.Core.Path.{◌≡◌, sym, ap, ap₂, ◌∙◌}
use mathlib.Core.Bool.{Bool, true, false, ◌&&◌, cond}
use mathlib.Core.List.{List, [], ◌∷◌, ◌++◌, append_assoc}
use native.Mathlib.Nat.{div-eq_of_lt, div-eq-sub-div, suc-mul}
use native.Mathlib.Numerals.{add-one}
use native.Mathlib.Omega.{arith}
use lib.Dec.{ltb, leb, leb→le}
use lib.ListN.{length, take, drop, length-drop, length-append}
use lib.Seq.{take-append-le, drop-append-le}
use Rattle.line.proofs.RefusalLaws.{need_met, next_rest}
use Rattle.line.proofs.TableLaws.{and_left}
use Rattle.line.proofs.Tests.{by_test}
use Rattle.v41.specs.Block.{bits_refusal, check_answer, is_accepted}
use Rattle.verdicts.specs.Verdicts.{digits, decimal, whole_word, broken_word, verdict, line, lines_of, text, lines_refusal}
use Rattle.verdicts.specs.Laws.{InCalls, Fits}

module _ (size : ℕ) (some : 0 < size) where
  -- one block less
  pub blocks_step : (n : ℕ) → size ≤ n → n / size ≡ suc ((n - size) / size)
  blocks_step n h = div-eq-sub-div some h ∙ add-one ((n - size) / size)

  pub text-step : (place : ℕ) (bits : List ℕ) → size ≤ length bits → text size place bits ≡ line place (take size bits) ++ text size (place + size) (drop size bits)
  unfolding text
  text-step place bits h =
      ap (λ (k : ℕ). lines_of size k place bits)
      (blocks_step (length bits) h ∙ ap (λ (n : ℕ). suc (n / size)) (sym (length-drop size bits)))

  pub text_none : (place : ℕ) (bits : List ℕ) → length bits < size → text size place bits ≡ []
  unfolding text
  text_none place bits h = ap (λ (k : ℕ). lines_of size k place bits) (div-eq_of_lt h)

pub in_calls : InCalls
in_calls size place zero [] b some e =
    sym
    (ap (λ (l : List ℕ). l ++ text size (place + 0) b) (text_none size some place [] some)
    ∙ ap (λ (p : ℕ). text size p b) (let z : place + 0 ≡ place = omega arith in z))
in_calls size place zero (x ∷ a) b some e = absurd (omega arith)
in_calls size place (suc k) a b some e =
    let h : size ≤ length a = omega (arith, suc-mul k size) in
    let m : length (drop size a) ≡ k * size = omega (arith, length-drop size a, suc-mul k size) in
    text-step size some place (a ++ b) (omega (arith, length-append a b))
    ∙ ap₂ (λ (t d : List ℕ). line place t ++ text size (place + size) d) (take-append-le size a b h) (drop-append-le size a b h)
    ∙ ap (λ (l : List ℕ). line place (take size a) ++ l) (in_calls size (place + size) k (drop size a) b some m)
    ∙ sym (append_assoc (line place (take size a)) _ _)
    ∙ ap₂ (λ (l : List ℕ) (p : ℕ). l ++ text size p b) (sym (text-step size some place a h)) (omega (arith, length-drop size a))

-- the lent bytes hold it
digits_long : (k n : ℕ) → length (digits k n) ≤ k
digits_long zero n = omega arith
digits_long (suc k) n =
    by_test (ltb n 10)
    (λ e. rw e (omega arith))
    (λ e. rw e (simp length-append (omega (arith, digits_long k (n / 10)))))

pub word_long : (v : Bool) → length (cond v whole_word broken_word) ≤ 8
word_long true = omega arith
word_long false = omega arith

line_long : (place : ℕ) (b : List ℕ) → length (line place b) ≤ 28
unfolding line decimal verdict
line_long place b = omega (arith, length-append (digits 20 place) (verdict b), digits_long 20 place, word_long (is_accepted (check_answer b)))

lines_long : (size k place : ℕ) (bits : List ℕ) → length (lines_of size k place bits) ≤ 28 * k
lines_long size zero place bits = omega arith
lines_long size (suc k) place bits =
    omega (arith, length-append (line place (take size bits)) (lines_of size k (place + size) (drop size bits)), line_long place (take size bits), lines_long size k (place + size) (drop size bits))

pub fits : Fits
unfolding text lines_refusal
fits size place bits lent z =
    let room : Bool = leb (28 * (length bits / size)) lent in
    let counted : Bool = leb (place + length bits) 18446744073709551615 in
    omega (arith, lines_long size (length bits / size) place bits, leb→le (28 * (length bits / size)) lent (and_left room counted (need_met (room && counted) 6 0 (next_rest (bits_refusal size bits) _ z))))
