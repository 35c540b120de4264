use native.Mathlib.Omega.{arith}
use Rattle.listing.proofs.Writes.{wrote_then}
use Rattle.listing.proofs.put_number.Goals as goal

pub returns : goal.returns
returns c = (wrote_then c.put_text-digits.ensures c.put_decimal.ensures.0, omega (arith, c.put_text-digits.ensures.behind, c.put_decimal.ensures.1))
