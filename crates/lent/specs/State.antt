-- What the receiver's and the sender's calls for C share: a state is 16 lent bytes; lent bytes beyond them stay as they are.
--   0 mode, 1 role, 2 and 3 as each of them says, 4 the register's line bits (u32, newest lowest), 8 how many they are, 9 the guard's
--   count (document 02, R-6), 10 and 11 zero, 12 a number (u32); numbers little-endian
use Rattle.std.specs.Prelude.{ℕ, Bool, ◌&&◌, List, [], ◌∷◌, ◌++◌, leb, eqb, length, get_or}
use Rattle.line.specs.Refusal.{need, or_next}
use Rattle.octets.specs.Number.{u32, le32}
use Rattle.scrambler.specs.declared.Register.{Register}
use Rattle.scrambler.specs.Register.{register}

-- THE REGISTER: bytes 4 to 11

abbrev pub register_in : List ℕ → Register
register_in s = register (u32 s 4) (get_or s 8 0) (get_or s 9 0)

-- the bytes after the register are zero
abbrev pub clear : List ℕ → Bool
clear s = eqb (get_or s 10 0) 0 && eqb (get_or s 11 0) 0

abbrev pub register_out : Register → List ℕ
register_out h = le32 h.bits ++ (h.held.0 ∷ h.count.0 ∷ 0 ∷ 0 ∷ [])

-- A STATE, with bytes 2 and 3 and the number at 12

abbrev pub state_out : ℕ → ℕ → ℕ → ℕ → Register → ℕ → List ℕ
state_out m role a b h n = (m ∷ role ∷ a ∷ b ∷ []) ++ (register_out h ++ le32 n)

-- NUMBER 7: too few lent bytes for a state

abbrev pub holds_state : List ℕ → Bool
holds_state b = leb 16 (length b)

-- of a call that makes a state and has the number n, at most 7, besides
abbrev pub making_number : List ℕ → ℕ → ℕ
making_number state n = or_next n (need (holds_state state) 7 0)
