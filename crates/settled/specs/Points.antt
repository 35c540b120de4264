-- For the contracts of private functions only; nobody need believe this file: law `run_bits_lem` of proofs/RunLaws says that what is written
-- of a run's points is `run_bits` of specs/Run.
use Rattle.std.specs.Prelude.{ℕ, ◌-◌, ◌/◌, Bool, List, map, leb}
use Rattle.scrambler.specs.Bits.{bits}
use Rattle.receiver.specs.Calls.{row}

-- at most w of a point's data bits are unsettled
abbrev pub at_most : ℕ → ℕ → Bool
at_most w plain = leb (plain / 16) w

-- the settled data bits of a point, and of one point after the other
abbrev pub point_bits : ℕ → ℕ → List ℕ
point_bits w plain = bits (w - plain / 16) plain

abbrev pub points_bits : ℕ → List ℕ → List ℕ
points_bits w plains = row (map (point_bits w) plains)
