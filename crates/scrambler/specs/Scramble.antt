-- Document 01, "Scrambler" and "Receiver", and document 02, R-6: line bits from data bits, and data bits with their marks from line bits.
use Rattle.std.specs.Prelude.{ℕ, ◌+◌, ◌%◌, Bool, true, false, cond, List, [], ◌∷◌, leb}
use Rattle.line.specs.Mode.{far_tap, capacity}
use Rattle.scrambler.specs.declared.Register.{Register}
use Rattle.scrambler.specs.Register.{back, near_tap, inverting, push}

-- a bit xor the line bits a and R back: the sender's line bit from its data bit, and the receiver's data bit from the line bit; inverted
-- where the guard says so ("The receiver counts on received line bits and inverts likewise")
unfoldable pub mix : ℕ → ℕ → Register → ℕ → ℕ
mix m role h x = (x + back (near_tap m role) h + back (far_tap m) h + cond (inverting m h) 1 0) % 2

-- the line bits of data bits
abbrev pub scramble : ℕ → ℕ → Register → List ℕ → List ℕ
scramble m role h [] = []
scramble m role h (d ∷ ds) = mix m role h d ∷ scramble m role (push m h (mix m role h d)) ds

-- a received data bit: settled, or marked unsettled
pub data Datum : Type 0 where
  unsettled : Datum
  settled : ℕ → Datum

abbrev pub mark : Bool → ℕ → Datum
mark true x = settled x
mark false x = unsettled

-- the data bits of line bits; unsettled when fewer than R line bits, with the guard 12, came before since the last gap
abbrev pub descramble : ℕ → ℕ → Register → List ℕ → List Datum
descramble m role h [] = []
descramble m role h (b ∷ bs) = mark (leb (capacity m) h.held.0) (mix m role h b) ∷ descramble m role (push m h b) bs
