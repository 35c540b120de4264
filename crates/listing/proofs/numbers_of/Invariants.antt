use mathlib.Core.Path.{◌≡◌}
use lib.ListN.{length, drop}
use lib.Seq.{sets}
use Rattle.listing.specs.Wrote.{numbers_in}
use Rattle.listing.proofs.PointTexts.{numbers_left}
use Rattle.listing.proofs.numbers_of.Given as goal

abbrev pub invariant-loop-k : goal.invariant-loop-k
invariant-loop-k l = (length l.numbers ≡ 14) × (sets l.numbers l.k (numbers_left l.r l.k) ≡ numbers_in (drop 4 l.r) 14)
