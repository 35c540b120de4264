-- A point's w bits at once, as numbers.
use Rattle.std.specs.Prelude.{ℕ, zero, suc, ◌+◌, ◌*◌, ◌^◌, List, [], ◌∷◌, cond, leb, length}
use Rattle.line.specs.Mode.{width}
use Rattle.scrambler.specs.declared.Register.{Register}
use Rattle.scrambler.specs.declared.Scrambled.{Scrambled}
use Rattle.scrambler.specs.declared.Descrambled.{Descrambled}
use Rattle.scrambler.specs.Bits.{bits, value}
use Rattle.scrambler.specs.Register.{pushes}
use Rattle.scrambler.specs.Scramble.{scramble, Datum, unsettled, settled, descramble}

-- the line bits of w data bits, and the register after them
unfoldable pub scrambled : ℕ → ℕ → Register → ℕ → Scrambled
scrambled m role h d =
    record { line = value (scramble m role h (bits (width m) d)); next = pushes m h (scramble m role h (bits (width m) d)) }

-- the mode with the guard that a mode above 4 counts as: 5, or 6 like every greater number
abbrev pub guard_mode : ℕ → ℕ
guard_mode m = cond (leb m 5) 5 6

-- data bits as a number, an unsettled one as 0, and how many are unsettled
abbrev pub plain_of : List Datum → ℕ
plain_of [] = 0
plain_of (unsettled ∷ ds) = plain_of ds
plain_of (settled x ∷ ds) = x * 2 ^ length ds + plain_of ds

abbrev pub unsettled_in : List Datum → ℕ
unsettled_in [] = 0
unsettled_in (unsettled ∷ ds) = suc (unsettled_in ds)
unsettled_in (settled x ∷ ds) = unsettled_in ds

-- the data bits of w line bits, and the register after them
unfoldable pub descrambled : ℕ → ℕ → Register → ℕ → Descrambled
descrambled m role h g =
    record {
      plain = plain_of (descramble m role h (bits (width m) g));
      unsettled = record { 0 = unsettled_in (descramble m role h (bits (width m) g)) };
      next = pushes m h (bits (width m) g);
    }

-- the same read back from the numbers: the first u bits of a group are unsettled, the others settled
abbrev pub marked : ℕ → List ℕ → List Datum
marked u [] = []
marked zero (b ∷ bs) = settled b ∷ marked zero bs
marked (suc u) (b ∷ bs) = unsettled ∷ marked u bs
