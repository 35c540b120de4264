use native.Mathlib.Omega.{arith}
use Rattle.listing.proofs.Writes.{group-wrote}
use Rattle.listing.proofs.put_group.Goals as goal

pub returns : goal.returns
returns c = (
  group-wrote c.args.place c.args.w c.args.line c.args.plain c.args.unsettled c.put_decimal-kind.ensures.0 c.put_text-first.ensures c.put_bits-space.ensures.0 c.put_text-second.ensures c.put_bits-end.ensures.0 c.put_text.ensures,
  omega (arith, c.put_decimal-kind.ensures.1, c.put_text-first.ensures.behind, c.put_bits-space.ensures.1, c.put_text-second.ensures.behind, c.put_bits-end.ensures.1, c.put_text.ensures.behind),
)
