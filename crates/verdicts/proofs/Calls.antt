-- What `check_blocks` refuses and answers, by the tests that it makes. Assumes nothing.
use Prim.Native.Nat.{ℕ, zero, suc, ◌+◌, ◌-◌, ◌*◌, ◌/◌, ◌≤◌, ◌<◌}
use mathlib.Core.Path.{◌≡◌, refl, sym, ap, ap₂, ◌∙◌, subst}
use mathlib.Core.Bool.{Bool, true, ◌&&◌}
use mathlib.Core.List.{List}
use native.Mathlib.Omega.{arith}
use borrow.Author.Tests.{le-leb, lt-leb, leb-true, leb-false}
use lib.Dec.{T, leb, leb→le}
use lib.ListN.{length}
use lib.Seq.{sets}
use Rattle.line.specs.Table.{every}
use Rattle.std.specs.Prelude.{Result, Ok, Err}
use Rattle.line.specs.declared.refusal.Refusal.{Refusal}
use Rattle.line.specs.Refusal.{number, named, answered, need}
use Rattle.line.proofs.RefusalLaws.{need_met, need-zero, next-first, next_rest, some_number, answer_given, answer_refused, Listed, listed_need, listed_next, left_done, left_kept}
use Rattle.line.proofs.TableLaws.{and_left, and_right}
use Rattle.line.proofs.Tests.{by_test}
use Rattle.scrambler.specs.Bits.{is_bit}
use Rattle.v41.specs.Block.{is_size, bits_refusal}
use Rattle.v41.proofs.Theorems.{size_least, bits_met}
use Rattle.verdicts.specs.declared.Lines.{Lines}
use Rattle.verdicts.specs.Verdicts.{text, text_lines, lines_refusal, lines_answer, lines_bytes, LinesTold}

-- `lines_fault`: the tests without a product and without a sum
room_test : (q lent : ℕ) → leb q (lent / 28) ≡ leb (28 * q) lent
room_test q lent =
    by_test (leb q (lent / 28))
    (λ e. e ∙ sym (le-leb (28 * q) lent (omega (arith, leb-true q (lent / 28) e))))
    (λ e. e ∙ sym (lt-leb (28 * q) lent (omega (arith, leb-false q (lent / 28) e))))

place_test : (p n m : ℕ) → n ≤ m → leb p (m - n) ≡ leb (p + n) m
place_test p n m h =
    by_test (leb p (m - n))
    (λ e. e ∙ sym (le-leb (p + n) m (omega (arith, leb-true p (m - n) e))))
    (λ e. e ∙ sym (lt-leb (p + n) m (omega (arith, leb-false p (m - n) e))))

module _ (size place lent : ℕ) (bits : List ℕ) (s : Bool) (es : s ≡ is_size size) (zs : 0 ≡ need s 19 0) where
  sized : s ≡ true
  sized = (need-zero s 19 0 (omega arith) (sym zs)).0

  pub size_some : 0 < size
  size_some = omega (arith, size_least size (sym es ∙ sized))

  pub fault_law : (a : Bool) (n : ℕ) → a ≡ every is_bit bits → 0 ≡ need a 5 0 → length bits ≤ 18446744073709551615
      → n ≡ need (leb (length bits / size) (lent / 28) && leb place (18446744073709551615 - length bits)) 7 0 → n ≡ lines_refusal size place bits lent
  unfolding lines_refusal bits_refusal
  fault_law a n ea za h e =
      e ∙ ap₂ (λ (b c : Bool). need (b && c) 7 0) (room_test (length bits / size) lent) (place_test place (length bits) 18446744073709551615 h)
      ∙ rw (sym es ∙ sized, sym ea ∙ (need-zero a 5 0 (omega arith) (sym za)).0) refl

-- WHAT THE CASES SAY

none_listed : Listed 0
none_listed h = absurd (h refl)

listed : (size place : ℕ) (bits : List ℕ) (lent : ℕ) → Listed (lines_refusal size place bits lent)
unfolding lines_refusal bits_refusal named
listed size place bits lent =
    listed_next _ _ (listed_need (is_size size) 19 _ (λ h. refl) (listed_need (every is_bit bits) 5 0 (λ h. refl) none_listed))
    (listed_need _ 7 0 (λ h. refl) none_listed)

told : (size place lent : ℕ) (bits : List ℕ) (r : Result Lines Refusal) → r ≡ lines_answer size place bits lent → LinesTold size place bits lent r
unfolding lines_answer
told size place lent bits r e = subst (LinesTold size place bits lent) (sym e) (go (lines_refusal size place bits lent) (listed size place bits lent) refl)
  where
    go : (n : ℕ) → Listed n → lines_refusal size place bits lent ≡ n → LinesTold size place bits lent (answered n (text_lines size place bits))
    go zero h p = record { number_is = sym p; length_is = rw p refl; taken_is = rw p refl }
    go (suc n) h p = record { number_is = h (λ (z : suc n ≡ 0). omega arith) ∙ sym p; length_is = rw p refl; taken_is = rw p refl }

-- `check_blocks`
module _ (size place : ℕ) (bits out : List ℕ) where
  abbrev Ends : Result Lines Refusal → List ℕ → Type 0
  Ends r w = (r ≡ lines_answer size place bits (length out)) × ((w ≡ lines_bytes size place bits out) × LinesTold size place bits (length out) r)

  pub lines_refused : (f : Refusal) → number f ≡ lines_refusal size place bits (length out) → Ends (Err f) out
  unfolding lines_answer lines_bytes
  lines_refused f e =
      let answer : Err f ≡ lines_answer size place bits (length out) = answer_refused f _ (text_lines size place bits) e in
      (answer, (left_kept _ _ out (λ z. some_number f (e ∙ z)), told size place (length out) bits (Err f) answer))

  module _ (z : 0 ≡ lines_refusal size place bits (length out)) where
    pub lines_free : (0 < size) × (28 * (length bits / size) ≤ length out) × (place + length bits ≤ 18446744073709551615)
    unfolding lines_refusal
    lines_free =
        let r : lines_refusal size place bits (length out) ≡ 0 = sym z in
        let room : Bool = leb (28 * (length bits / size)) (length out) in
        let counted : Bool = leb (place + length bits) 18446744073709551615 in
        let m : T (room && counted) = need_met (room && counted) 6 0 (next_rest (bits_refusal size bits) _ r) in
        let sized : 260 ≤ size = size_least size (bits_met size bits (next-first (bits_refusal size bits) _ r)).0 in
        (omega arith, leb→le _ _ (and_left room counted m), leb→le _ _ (and_right room counted m))

    pub lines_done : (r : Lines) (w : List ℕ) → (r ≡ text_lines size place bits) × (w ≡ sets out 0 (text size place bits)) → Ends (Ok r) w
    unfolding lines_answer lines_bytes
    lines_done r w e =
        let answer : Ok r ≡ lines_answer size place bits (length out) = ap Ok e.0 ∙ answer_given _ (text_lines size place bits) (sym z) in
        (answer, (e.1 ∙ left_done _ _ out (sym z), told size place (length out) bits (Ok r) answer))
