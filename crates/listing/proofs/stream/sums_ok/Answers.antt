use mathlib.Core.Path.{◌≡◌}
use borrow.Author.Rules.{rules}
use Rattle.listing.proofs.Streams.{sums_within}
use Rattle.listing.proofs.stream.sums_ok.Goals as goal

pub returns : goal.returns
returns c =
    let e : c.from.result ≡ c.args.place = search rules in
    sums_within c.args.v c.args.place _ _ c.saturating_add.ensures e (search rules)
