use mathlib.Core.Path.{◌≡◌}
use borrow.Author.Rules.{rules}
use Rattle.listing.specs.Text.{track_mode, its_role, its_total}
use Rattle.listing.proofs.Writes.{numbers_wrote}
use Rattle.listing.proofs.put_first.Goals as goal

pub returns : goal.returns
returns c =
    let m : c.from.result ≡ c.args.mode = search rules in
    let r : c.from-2.result ≡ c.args.role = search rules in
    rw (m, r) at (numbers_wrote track_mode c.from.result its_role c.from-2.result its_total c.args.total c.put_number-at.ensures.0 c.put_number-at-2.ensures.0 c.put_number-at-3.ensures.0 c.put_text.ensures)
