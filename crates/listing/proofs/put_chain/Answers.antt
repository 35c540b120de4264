use mathlib.Core.Path.{◌∙◌}
use borrow.Author.Rules.{rules}
use Rattle.listing.proofs.Lines.{listing_start, listing_here, listing_step, listing_end}
use Rattle.listing.proofs.put_chain.Goals as goal

pub loop-record-init : goal.loop-record-init
loop-record-init c = listing_start _ _ c.args.at c.args.state _ c.args.track.accepted c.requires.0 (c.into_iter-record-iterator.ensures.into_iter_gives ∙ c.records-record-items.ensures)

pub put_record-p-requires : goal.put_record-p-requires
put_record-p-requires c = listing_here _ _ _ _ _ c.loop-record.p _ c.loop-record.invariant _ _ c.in-Some.ensures.steps _ c.requires.1

pub loop-record-preserved : goal.loop-record-preserved
loop-record-preserved c = listing_step _ _ _ _ _ c.loop-record.p _ c.loop-record.invariant _ _ c.in-Some.ensures.steps _ _ (search rules) c.put_record-p.ensures

pub returns : goal.returns
returns c = listing_end _ _ _ _ _ c.loop-record.p _ c.loop-record.invariant c.in-None.ensures.steps.0
