-- Document 01, "Refusals": "the lowest that applies is given, and only when its condition holds". A refusal is its number, 0 is none.
-- Document 02, R-5: number 10, a mode 2 point in none of the eight sectors, is gone, since no point is one; "the number is not used again".
use Rattle.std.specs.Prelude.{ℕ, zero, suc, ◌-◌, Bool, true, false, Result, Ok, Err, [], ◌∷◌, get_or}
use Rattle.line.specs.declared.refusal.Refusal.{Refusal}
use Rattle.line.specs.declared.refusal.Refusal.TheVariants.{Mode, Role, TrainingLength, State, Bit, BitCount, Lent, Coordinate, NoIntervals, StoreSize, StoreHead, StoreIndex, StoreRecord, StoreTotal, Intervals, StoreFull, NotFinite, BlockSize}
use Rattle.line.specs.Mode.{is_mode, is_role}

-- the number of each refusal that a call can give
abbrev pub number : Refusal → ℕ
number Mode = 1
number Role = 2
number TrainingLength = 3
number State = 4
number Bit = 5
number BitCount = 6
number Lent = 7
number Coordinate = 8
number NoIntervals = 9
number StoreSize = 11
number StoreHead = 12
number StoreIndex = 13
number StoreRecord = 14
number StoreTotal = 15
number Intervals = 16
number StoreFull = 17
number NotFinite = 18
number BlockSize = 19

-- the refusal of a number of the list; no call asks for another, and of 0 it is `Mode`, of 10 and of those above 19 `BlockSize`
unfoldable pub named : ℕ → Refusal
named n =
    get_or (Mode ∷ Role ∷ TrainingLength ∷ State ∷ Bit ∷ BitCount ∷ Lent ∷ Coordinate ∷ NoIntervals ∷ BlockSize
    ∷ StoreSize ∷ StoreHead ∷ StoreIndex ∷ StoreRecord ∷ StoreTotal ∷ Intervals ∷ StoreFull ∷ NotFinite ∷ BlockSize ∷ []) (n - 1) BlockSize

-- the number of what a call gives, 0 for none
abbrev pub numbered : {A : Type 0} → Result A Refusal → ℕ
numbered (Ok a) = 0
numbered (Err e) = number e

-- what a call gives whose number is n: the value where that is 0, else the refusal of the number
abbrev pub answered : {A : Type 0} → ℕ → A → Result A Refusal
answered zero a = Ok a
answered (suc n) a = Err (named (suc n))

-- the number n unless the need is met, and then what the later needs say
abbrev pub need : Bool → ℕ → ℕ → ℕ
need true n rest = rest
need false n rest = n

-- the first of two refusals
abbrev pub or_next : ℕ → ℕ → ℕ
or_next zero rest = rest
or_next (suc n) rest = suc n

-- what an accepted call gives, or what a refused one leaves
abbrev pub accepted : {A : Type 0} → ℕ → A → A → A
accepted zero a b = a
accepted (suc n) a b = b

-- "1 mode not 1 to 4, a handed-in state's included; 2 role not one of the mode's, a state's included"; R-6: "Numbers 1 and 12 now refuse a
-- mode not 1 to 6"
unfoldable pub mode_refusal : ℕ → ℕ → ℕ
mode_refusal m role = need (is_mode m) 1 (need (is_role m role) 2 0)
