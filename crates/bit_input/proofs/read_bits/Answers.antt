use Rattle.std.proofs.Common.{◌+◌, ap, ◌∙◌, arith}
use mathlib.Core.Bool.{not}
use Rattle.bit_text.specs.BitText.{bit_count}
use Rattle.bit_input.proofs.InputLaws.{count_given, whole_given, count_of_fits, bits-behind}
use Rattle.bit_input.proofs.read_bits.Goals as goal

pub overflow_add-result : goal.overflow_add-result
overflow_add-result g c =
    let n = count_of_fits c.unwrap_or-given.result.count _ c.args.bits.now c.min-at.result (count_given _ c.take_bits.result c.unwrap_or-given.ensures ∙ ap bit_count c.take_bits.ensures.value) in
    omega (arith, c.min-at.ensures, n)

pub returns-clause-ok : goal.returns-clause-ok
returns-clause-ok g c =
    bits-behind c.args.have c.read_more.new.buf c.args.bits.now c.take_bits.new.out c.min-at.result c.take_bits.result _
    c.min-at.ensures c.in_ok-came.ensures.ok.counts.0 c.take_bits.ensures.value c.take_bits.ensures.out_after
    (ap (λ n. c.min-at.result + n) (count_given _ c.take_bits.result c.unwrap_or-given.ensures)) (ap not (whole_given _ c.take_bits.result c.unwrap_or-given.ensures))
