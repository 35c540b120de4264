-- What holds of the register and of the scrambler: the statements, whose proofs are `register_holds`, `same_after` and
-- `same_after_reset` of proofs/RegisterLaws and `unscramble` and `zeros-sent` of proofs/GroupLaws.
use Rattle.std.specs.Prelude.{ℕ, ◌-◌, ◌≤◌, min, ◌≡◌, true, false, List, [], ◌∷◌, ◌++◌, map, T, length, get_or, replicate}
use Rattle.line.specs.Table.{every}
use Rattle.line.specs.Mode.{guarded, capacity}
use Rattle.scrambler.specs.declared.Register.{Register}
use Rattle.scrambler.specs.Bits.{is_bit}
use Rattle.scrambler.specs.Register.{register, fresh, back, differs, pushes}
use Rattle.scrambler.specs.Scramble.{scramble, settled, descramble}

-- the line bits so far, the newest first
abbrev pub newest_first : List ℕ → List ℕ → List ℕ
newest_first older [] = older
newest_first older (b ∷ bs) = newest_first (b ∷ older) bs

-- the k-th of the newest line bits is the line bit k back, for k up to R; the count is theirs, up to R
pub record Holds (m : ℕ) (h : Register) (newest : List ℕ) : Type 0 where
  pub at : (k : ℕ) → 1 ≤ k → k ≤ capacity m → back k h ≡ get_or newest (k - 1) 0
  pub count : h.held.0 ≡ min (length newest) (capacity m)

-- after the line bits since the last gap, the register holds the last of them
abbrev pub RegisterHolds : Type 0
RegisterHolds = (m : ℕ) (bs : List ℕ) → T (every is_bit bs) → Holds m (pushes m fresh bs) (newest_first [] bs)

-- without the guard, after R equal line bits two registers are equal, whatever they held
abbrev pub SameAfter : Type 0
SameAfter = (m : ℕ) (h h' : Register) (bs : List ℕ) → guarded m ≡ false → capacity m ≤ length bs → pushes m h bs ≡ pushes m h' bs

-- with the guard, after 12 equal line bits and one that differs from all three of those 8, 9 and 12 back, whatever they held and counted
abbrev pub SameAfterReset : Type 0
SameAfterReset =
    (m : ℕ) (h h' : Register) (bs : List ℕ) (b : ℕ) → guarded m ≡ true → capacity m ≤ length bs → T (differs (pushes m fresh bs) b)
    → pushes m h (bs ++ (b ∷ [])) ≡ pushes m h' (bs ++ (b ∷ []))

-- the receiver undoes the scrambler: after R line bits the sender's data bits come back, all settled
abbrev pub Unscrambled : Type 0
Unscrambled = (m role : ℕ) (h : Register) (ds : List ℕ) → capacity m ≤ h.held.0 → T (every is_bit ds) → descramble m role h (scramble m role h ds) ≡ map settled ds

-- R-6, a worked value: zeros sent after zeros. The 34th line bit is the first that the guard inverts.
abbrev pub ZerosSent : Type 0
ZerosSent =
    (scramble 5 0 (register 0 12 0) (replicate 48 0) ≡ replicate 33 0 ++ (1 ∷ 0 ∷ 0 ∷ 0 ∷ 0 ∷ 0 ∷ 1 ∷ 1 ∷ 0 ∷ 0 ∷ 0 ∷ 0 ∷ 1 ∷ 0 ∷ 1 ∷ []))
    × (scramble 6 0 (register 0 12 0) (replicate 48 0) ≡ scramble 5 0 (register 0 12 0) (replicate 48 0))
