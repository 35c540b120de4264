-- Document 01, "Sender", the training of V.27 ter (000, 2.5.1) and of V.32 (001, 5.2): what each interval does. Document 02, R-6: where the
-- guard comes in.
use Rattle.std.specs.Prelude.{ℕ, zero, suc, ◌+◌, ◌*◌, ◌%◌, cond, List, [], ◌∷◌, eqb, ltb, get_or, replicate}
use Rattle.line.specs.Mode.{column, by_mode, width, capacity}
use Rattle.scrambler.specs.Bits.{value}
use Rattle.scrambler.specs.declared.Register.{Register}
use Rattle.scrambler.specs.Register.{register, pushes}
use Rattle.scrambler.specs.Scramble.{scramble}
use Rattle.training.specs.declared.Coder.{Coder}
use Rattle.training.specs.Coder.{coder, coding}

-- "length choice 0 or 1 .. 14 or 50 reversals .. then 58 or 1074 changes"
unfoldable pub reversals : ℕ → ℕ
reversals choice = cond (eqb choice 0) 14 50

unfoldable pub changes : ℕ → ℕ
changes choice = cond (eqb choice 0) 58 1074

-- "three bits are spent for each", in mode 1 too; "the first of three" says whether the state turns by 180°
abbrev pub spent : ℕ → List ℕ
spent m = replicate 3 1

-- line bits without the guard, in modes 5 and 6 with 12 of them kept: the count is zero, and so it is "at the first of the 8 points after
-- the middle training"
abbrev pub uncounted : Register → Register
uncounted h = register h.bits h.held.0 0

-- a middle interval: the guard's modes scramble here as modes 1 and 2
unfoldable pub middle : ℕ → ℕ → Coder → Coder
middle m role c =
    let l : List ℕ = scramble (column m) role c.line (spent m) in
    coder ((c.reference + 4 * get_or l 0 0) % 8) (uncounted (pushes m c.line l))

-- interval i of V.27 ter: a reversal, a change of 0° or 180°, or a point of scrambled ones
unfoldable pub train27 : ℕ → ℕ → ℕ → ℕ → Coder → Coder
train27 m role choice i c =
    cond (ltb i (reversals choice)) (coder ((c.reference + 4) % 8) c.line)
    (cond (ltb i (reversals choice + changes choice)) (middle m role c)
    (coding m role c (replicate (width m) 1)))

-- A, B, C and D of "Modes, states, turns"
abbrev pub A : ℕ
A = 0b0001

abbrev pub B : ℕ
B = 0b0101

abbrev pub C : ℕ
C = 0b1101

abbrev pub D : ℕ
D = 0b1001

-- the state of a dibit of scrambled ones: "in the first 256 the dibit's first bit gives A for 0, C for 1; later 00, 01, 11, 10 give
-- A, B, C, D"
unfoldable pub dibit_state : ℕ → List ℕ → ℕ
dibit_state i l = cond (ltb i 528) (get_or (A ∷ C ∷ []) (get_or l 0 0) A) (get_or (A ∷ B ∷ D ∷ C ∷ []) (value l) A)

-- interval i of V.32: "256 intervals A B A B .., 16 of C D C D .., then .. ones scrambled two by two .. with no differential code"
unfoldable pub train32 : ℕ → ℕ → ℕ → Coder → Coder
train32 m role i c =
    let l : List ℕ = scramble m role c.line (replicate 2 1) in
    cond (ltb i 256) (coder (get_or (A ∷ B ∷ []) (i % 2) A) c.line)
    (cond (ltb i 272) (coder (get_or (C ∷ D ∷ []) (i % 2) C) c.line)
    (coder (dibit_state i l) (pushes m c.line l)))

unfoldable pub train : ℕ → ℕ → ℕ → ℕ → Coder → Coder
train m role length i c =
    by_mode m (train27 m role length i c) (train27 m role length i c) (train32 m role i c) (train32 m role i c)

-- "from state 0", with "the register 0 1 1 1 1 0 0, oldest first" (of the 12 line bits of modes 5 and 6 the five before these are zero, and
-- are gone before anything reads them); V.32 has "a zero register", and its first interval needs no reference
unfoldable pub start : ℕ → Coder
start m =
    let v27 : Coder = coder 0 (register 0b0111100 (capacity m) 0) in
    let v32 : Coder = coder A (register 0 (capacity m) 0) in
    by_mode m v27 v27 v32 v32

-- how many intervals there are
unfoldable pub intervals : ℕ → ℕ → ℕ
intervals m length =
    let v27 : ℕ = reversals length + changes length + 8 in
    by_mode m v27 v27 (272 + length) (272 + length)

-- n intervals by a rule, from the i-th on: what they leave, and the states that they send
abbrev pub trained : (ℕ → Coder → Coder) → ℕ → ℕ → Coder → Coder
trained f i zero c = c
trained f i (suc n) c = trained f (suc i) n (f i c)

abbrev pub trained_states : (ℕ → Coder → Coder) → ℕ → ℕ → Coder → List ℕ
trained_states f i zero c = []
trained_states f i (suc n) c = (f i c).reference ∷ trained_states f (suc i) n (f i c)
