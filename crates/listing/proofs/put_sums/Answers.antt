use Rattle.listing.proofs.Writes.{numbers_wrote}
use Rattle.listing.proofs.put_sums.Goals as goal

pub returns : goal.returns
returns c = numbers_wrote _ _ _ _ _ _ c.put_number-at.ensures.0 c.put_number-at-2.ensures.0 c.put_number-at-3.ensures.0 c.put_text.ensures
