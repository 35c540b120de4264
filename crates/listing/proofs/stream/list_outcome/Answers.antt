use borrow.Author.Rules.{rules}
use native.Mathlib.Omega.{arith}
use Rattle.line.proofs.ByMode.{width_range}
use Rattle.listing.proofs.Answers.{gives_refused, gives_reference, gives_bits, gives_gap}
use Rattle.listing.proofs.stream.list_outcome.Goals as goal

pub put_group-end-requires : goal.put_group-end-requires
put_group-end-requires c = omega (arith, c.width_of-w.ensures, width_range c.args.h.state.mode)

pub returns-in-Err : goal.returns-in-Err
returns-in-Err c =
    gives_refused c.args.h c.args.o c.args.bytes _ c.args.out.now c.in-Err.is

pub returns-in-Ok-Referenced : goal.returns-in-Ok-Referenced
returns-in-Ok-Referenced c =
    gives_reference c.args.h c.args.o c.args.bytes c.in-Ok-Referenced.field-0-0 c.in-Ok-Referenced.t (search rules) c.put_reference-end.ensures.0 c.further.ensures

pub returns-in-Ok-Bits : goal.returns-in-Ok-Bits
returns-in-Ok-Bits c =
    gives_bits c.args.h c.args.o c.args.bytes _ c.in-Ok-Bits.g c.in-Ok-Bits.field-0-1 c.in-Ok-Bits.t (search rules) c.width_of-w.ensures c.put_group-end.ensures.0 c.further-in-Ok-Bits.ensures

pub returns-in-Ok-Gap : goal.returns-in-Ok-Gap
returns-in-Ok-Gap c =
    gives_gap c.args.h c.args.o c.args.bytes c.in-Ok-Gap.n c.in-Ok-Gap.t (search rules) c.put_lost-end.ensures.0 c.further-in-Ok-Gap.ensures
