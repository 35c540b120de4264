use Rattle.coding.proofs.CodeLaws.{change16_law}
use borrow.Author.Rules.{rules}
use Rattle.coding.proofs.change16.Goals as goal

pub returns : goal.returns
returns c = record { value = change16_law _ _ _ _ _ (search rules) c.turns_for.ensures.value c.ring_place.ensures.value c.ring_place-2.ensures.value; upper_bound = c.ring_place-2.ensures.upper_bound }
