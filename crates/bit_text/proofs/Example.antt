-- Computed values. Assumes nothing.
use mathlib.Core.Path.{refl}
use Rattle.line.specs.Refusal.{named}
use Rattle.bit_text.specs.BitText.{is_blank, is_digit, text_refusal, text_answer, text_bytes}
use Rattle.bit_text.specs.Laws.{Worked}

pub worked : Worked
unfolding named is_blank is_digit text_refusal text_answer text_bytes
worked = record { told = refl; written = refl; ended = refl; too_few = refl }
