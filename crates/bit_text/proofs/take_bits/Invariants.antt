use Rattle.bit_text.proofs.Reading.{Left}
use Rattle.bit_text.proofs.take_bits.Given as goal

abbrev pub invariant-loop-c : goal.invariant-loop-c
invariant-loop-c l = Left l.input l.initial.out l.out l.n l.c-index
