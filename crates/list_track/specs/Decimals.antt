-- The digits that a listing has are those that the toolchain's io library gives a number of at most ten digits, so every one that is
-- listed. The proof is in proofs/Decimals.
use Rattle.std.specs.Prelude.{ℕ, ◌≤◌, ◌≡◌}
use Rattle.io.specs.Digits.{last_digits, IsDigitCount}
use Rattle.listing.specs.Text.{decimal}

abbrev pub IoDecimal : Type 0
IoDecimal = (n k : ℕ) → k ≤ 10 → IsDigitCount 10 1 n k → decimal n ≡ last_digits 10 k n
