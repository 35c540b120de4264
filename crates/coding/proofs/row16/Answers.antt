use Rattle.coding.proofs.CodeLaws.{row16_law}
use borrow.Author.Rules.{rules}
use Rattle.coding.proofs.row16.Goals as goal

pub returns : goal.returns
returns c = record { value = row16_law _ _ _ _ _ (search rules) (search rules) c.ring_place.ensures.value c.ring_place-2.ensures.value c.turns_for.ensures.value; upper_bound = search rules }
