-- How large the sums of some records can be: the contracts of the private functions.
use Rattle.std.specs.Prelude.{ℕ, ◌*◌, ◌≤◌}
use Rattle.summing.specs.declared.EventSums.{EventSums}

-- no more than n records can sum to, whatever their bytes: a count is one byte, a lost count four
pub record OfRecords (n : ℕ) (v : EventSums) : Type 0 where
  pub points_in_lem : v.points ≤ 255 * n
  pub lost_in_lem : v.lost ≤ 4294967295 * n
  pub gaps_in_lem : v.gaps ≤ 255 * n
