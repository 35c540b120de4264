use Rattle.line.proofs.Tests.{tests}
use Rattle.listing.proofs.glyph_at.Goals as goal

pub returns-then-k-unsettled : goal.returns-then-k-unsettled
returns-then-k-unsettled c = search tests

pub returns : goal.returns
returns c = search tests
