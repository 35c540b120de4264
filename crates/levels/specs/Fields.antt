-- A size by the fields of its bit pattern, for the contracts of private functions of `readings`.
use Rattle.std.specs.Prelude.{ℕ, zero, suc, ◌+◌, ◌*◌, ◌^◌}
use Rattle.std.specs.Float.Ieee.Nearest.{closest}

-- in units of 2 ^ -149, by the exponent's field and the digits below the leading one
unfoldable pub magnitude : ℕ → ℕ → ℕ
magnitude zero t = t
magnitude (suc x) t = (8388608 + t) * 2 ^ x

-- the whole number nearest 1024 times it
unfoldable pub size_of : ℕ → ℕ → ℕ
size_of x t = closest (magnitude x t) (2 ^ 139)
