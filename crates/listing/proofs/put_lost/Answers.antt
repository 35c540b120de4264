use native.Mathlib.Omega.{arith}
use Rattle.listing.specs.Text.{kind_text, line_text}
use Rattle.listing.proofs.Writes.{wrote_then}
use Rattle.listing.proofs.put_lost.Goals as goal

pub returns : goal.returns
unfolding line_text kind_text
returns c =
    (wrote_then c.put_decimal-kind.ensures.0 (wrote_then c.put_number-end.ensures.0 c.put_text.ensures), omega (arith, c.put_decimal-kind.ensures.1, c.put_number-end.ensures.1, c.put_text.ensures.behind))
