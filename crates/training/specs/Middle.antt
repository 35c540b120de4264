-- Document 01, "Sender": "The middle changes follow every third bit (the first of three) of ones scrambled from the register
-- 0 1 1 1 1 0 0, oldest first. They stand as a table of 1,074 entries."
use Rattle.std.specs.Prelude.{ℕ, zero, suc, ◌≡◌, Bool, true, ◌&&◌, List, [], ◌∷◌, T, eqb, length, get_or}
use Rattle.line.specs.Table.{Tabled}
use Rattle.scrambler.specs.declared.Register.{Register}
use Rattle.scrambler.specs.Register.{register, pushes}
use Rattle.scrambler.specs.Scramble.{scramble}
use Rattle.training.specs.Training.{spent}

-- the three line bits of a middle interval, in all modes of V.27 ter alike
abbrev pub three : Register → List ℕ
three h = scramble 2 0 h (spent 2)

-- the register after k middle intervals
abbrev pub threes : ℕ → Register
threes zero = register 0b0111100 7 0
threes (suc k) = pushes 2 (threes k) (three (threes k))

-- the change of a middle interval: 1 is 180°, 0 is none
unfoldable pub change : ℕ → ℕ
change k = get_or (three (threes k)) 0 0

-- the table's rule, at each of its entries
abbrev pub MiddleTable : List ℕ → Type 0
MiddleTable t = Tabled 1074 change 0 t

-- the test of a whole table, in one pass that carries the register: each entry is the first of the three bits that follow it
abbrev pub walk : Register → List ℕ → Bool
walk h [] = true
walk h (x ∷ xs) = eqb x (get_or (three h) 0 0) && walk (pushes 2 h (three h)) xs

-- a table of 1,074 entries that passes the test follows the rule at each of them; proved in proofs/MiddleLaws
abbrev pub TableRule : Type 0
TableRule = (t : List ℕ) → 1074 ≡ length t → T (walk (threes 0) t) → MiddleTable t
