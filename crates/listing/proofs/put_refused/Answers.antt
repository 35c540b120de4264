use mathlib.Core.Path.{◌≡◌}
use borrow.Author.Rules.{rules}
use Rattle.listing.specs.Text.{refused_by, refused_line}
use Rattle.listing.proofs.Writes.{number_wrote}
use Rattle.listing.proofs.put_refused.Goals as goal

pub returns : goal.returns
unfolding refused_line
returns c =
    let e : c.from.result ≡ c.args.number = search rules in
    rw e at (number_wrote refused_by c.from.result c.put_number-end.ensures.0 c.put_text.ensures)
