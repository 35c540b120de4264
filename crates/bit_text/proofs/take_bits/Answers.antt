use mathlib.Core.Path.{sym, ◌∙◌}
use native.Mathlib.Omega.{arith}
use Rattle.bit_text.proofs.TextLaws.{digit_range}
use Rattle.bit_text.proofs.Reading.{too_few, read_all, ended}
use Rattle.bit_text.proofs.take_bits.Goals as goal

pub returns-then-out-input : goal.returns-then-out-input
returns-then-out-input c =
    let answer = too_few _ _ c.if-out-input.true in
    record { value = answer.0; out_after = answer.1.0; text_told = answer.1.1 }

pub overflow_sub-out : goal.overflow_sub-out
overflow_sub-out c = omega (arith, digit_range _ (sym c.is_digit.ensures ∙ c.if-is_digit.true))

pub returns-then-not-is_blank : goal.returns-then-not-is_blank
returns-then-not-is_blank c =
    let answer = ended _ _ _ _ _ c.loop-c.invariant _ c.loop-c-test.true c.is_digit.ensures _ c.if-is_digit.false c.is_blank.ensures c.if-not-is_blank.true in
    record { value = answer.0; out_after = answer.1.0; text_told = answer.1.1 }

pub returns : goal.returns
returns c =
    let answer = read_all _ _ _ _ _ c.loop-c.invariant c.loop-c-test.false in
    record { value = answer.0; out_after = answer.1.0; text_told = answer.1.1 }
