use mathlib.Core.Path.{sym, ◌∙◌}
use lib.ListN.{drop}
use Rattle.line.proofs.Sets.{sets_out}
use Rattle.capture.specs.Capture.{number_bytes}
use Rattle.capture.proofs.put_numbers.Goals as goal

pub returns-then-out-at : goal.returns-then-out-at
returns-then-out-at c = sym (sets_out (number_bytes (drop c.loop-number.number-index c.args.numbers.now)) c.loop-number.out c.loop-number.at c.if-out-at.true) ∙ c.loop-number.invariant.2
