-- What no refusal says of the needs. Assumes nothing.
use Prim.Native.Nat.{ℕ, zero, suc, ◌<◌}
use mathlib.Core.Path.{◌≡◌, refl, sym, ap, ◌∙◌}
use mathlib.Core.Bool.{Bool, true, false}
use mathlib.Core.List.{[], ◌∷◌}
use native.Mathlib.Omega.{arith}
use lib.Dec.{T}
use lib.ListN.{length}
use Rattle.line.specs.Mode.{is_mode, is_role}
use Rattle.std.specs.Prelude.{Ok, Err}
use Rattle.line.specs.declared.refusal.Refusal.{Refusal}
use Rattle.line.specs.declared.refusal.Refusal.TheVariants.{Mode, Role, TrainingLength, State, Bit, BitCount, Lent, Coordinate, NoIntervals, StoreSize, StoreHead, StoreIndex, StoreRecord, StoreTotal, Intervals, StoreFull, NotFinite, BlockSize}
use Rattle.line.specs.Refusal.{number, named, numbered, answered, need, or_next, accepted, mode_refusal}

-- A REFUSAL AND ITS NUMBER

pub named_number : (e : Refusal) → named (number e) ≡ e
unfolding named
named_number Mode = refl
named_number Role = refl
named_number TrainingLength = refl
named_number State = refl
named_number Bit = refl
named_number BitCount = refl
named_number Lent = refl
named_number Coordinate = refl
named_number NoIntervals = refl
named_number StoreSize = refl
named_number StoreHead = refl
named_number StoreIndex = refl
named_number StoreRecord = refl
named_number StoreTotal = refl
named_number Intervals = refl
named_number StoreFull = refl
named_number NotFinite = refl
named_number BlockSize = refl

pub some_number : (e : Refusal) → number e ≡ 0 → ⊥
some_number Mode z = omega arith
some_number Role z = omega arith
some_number TrainingLength z = omega arith
some_number State z = omega arith
some_number Bit z = omega arith
some_number BitCount z = omega arith
some_number Lent z = omega arith
some_number Coordinate z = omega arith
some_number NoIntervals z = omega arith
some_number StoreSize z = omega arith
some_number StoreHead z = omega arith
some_number StoreIndex z = omega arith
some_number StoreRecord z = omega arith
some_number StoreTotal z = omega arith
some_number Intervals z = omega arith
some_number StoreFull z = omega arith
some_number NotFinite z = omega arith
some_number BlockSize z = omega arith

-- what a call gives, from its number: of one that is not refused, of a refused one
pub answer_given : {A : Type 0} (n : ℕ) (a : A) → n ≡ 0 → Ok a ≡ answered n a
answer_given zero a z = refl
answer_given (suc n) a z = absurd (omega arith)

pub answer_refused : {A : Type 0} (e : Refusal) (n : ℕ) (a : A) → number e ≡ n → Err e ≡ answered n a
answer_refused e zero a h = absurd (some_number e h)
answer_refused e (suc n) a h = ap Err (sym (named_number e) ∙ ap named h)

-- a number that a call can give
abbrev pub Listed : ℕ → Type 0
Listed n = (n ≡ 0 → ⊥) → number (named n) ≡ n

pub listed_number : (e : Refusal) → Listed (number e)
listed_number e h = ap number (named_number e)

pub listed_need : (b : Bool) (n rest : ℕ) → Listed n → Listed rest → Listed (need b n rest)
listed_need true n rest h k = k
listed_need false n rest h k = h

pub listed_next : (a b : ℕ) → Listed a → Listed b → Listed (or_next a b)
listed_next zero b h k = k
listed_next (suc a) b h k = h

pub numbered_answer : {A : Type 0} (n : ℕ) (a : A) → Listed n → numbered (answered n a) ≡ n
numbered_answer zero a h = refl
numbered_answer (suc n) a h = h (λ (z : suc n ≡ 0). omega arith)

-- THE NEEDS

pub need_met : (b : Bool) (n k : ℕ) → need b (suc n) k ≡ 0 → T b
need_met true n k e = tt
need_met false n k e = absurd (omega arith)

pub need_rest : (b : Bool) (n k : ℕ) → need b (suc n) k ≡ 0 → k ≡ 0
need_rest true n k e = e
need_rest false n k e = absurd (omega arith)

pub need_intro : (b : Bool) (n k : ℕ) → T b → k ≡ 0 → need b n k ≡ 0
need_intro true n k t e = e
need_intro false n k t e = absurd t

pub next-first : (a b : ℕ) → or_next a b ≡ 0 → a ≡ 0
next-first zero b e = refl
next-first (suc a) b e = absurd (omega arith)

pub next_rest : (a b : ℕ) → or_next a b ≡ 0 → b ≡ 0
next_rest zero b e = e
next_rest (suc a) b e = absurd (omega arith)

-- a chain of needs that gives 0
pub need-zero : (b : Bool) (n rest : ℕ) → 0 < n → need b n rest ≡ 0 → (b ≡ true) × (rest ≡ 0)
need-zero true n rest h e = (refl, e)
need-zero false n rest h e = absurd (omega arith)

-- the first of two numbers
pub or_some : (a b : ℕ) → (a ≡ 0 → ⊥) → a ≡ or_next a b
or_some zero b h = absurd (h refl)
or_some (suc a) b h = refl

pub or_zero : (a b : ℕ) → or_next a b ≡ 0 → (a ≡ 0) × (b ≡ 0)
or_zero a b e = (next-first a b e, next_rest a b e)

pub or_same : (a b b' : ℕ) → (a ≡ 0 → b ≡ b') → or_next a b ≡ or_next a b'
or_same zero b b' h = h refl
or_same (suc a) b b' h = refl

-- what a call leaves: of an accepted one, of a refused one
pub left_done : {A : Type 0} (n : ℕ) (a b : A) → n ≡ 0 → a ≡ accepted n a b
left_done zero a b e = refl
left_done (suc n) a b e = absurd (omega arith)

pub left_kept : {A : Type 0} (n : ℕ) (a b : A) → (n ≡ 0 → ⊥) → b ≡ accepted n a b
left_kept zero a b h = absurd (h refl)
left_kept (suc n) a b h = refl

pub left_none : {A : Type 0} (n : ℕ) (a : A) → accepted n (a ∷ []) [] ≡ [] → n ≡ 0 → ⊥
left_none zero a e z = let l : ◌≡◌ {A = ℕ} 1 0 = ap length e in omega arith
left_none (suc n) a e z = omega arith

-- numbers 1 and 2, and of a state's other fields 4: what they ask, and that it is enough
pub mode_met : (m role : ℕ) → mode_refusal m role ≡ 0 → T (is_mode m) × T (is_role m role)
unfolding mode_refusal
mode_met m role z = (need_met (is_mode m) 0 _ z, need_met (is_role m role) 1 0 (need_rest (is_mode m) 0 _ z))

pub state_met : (m role : ℕ) (fields : Bool) → or_next (mode_refusal m role) (need fields 4 0) ≡ 0 → T (is_mode m) × T (is_role m role) × T fields
state_met m role fields z =
    let k = mode_met m role (next-first (mode_refusal m role) _ z) in
    (k.0, k.1, need_met fields 3 0 (next_rest (mode_refusal m role) _ z))

pub state_free : (m role : ℕ) (fields : Bool) → T (is_mode m) → T (is_role m role) → T fields → or_next (mode_refusal m role) (need fields 4 0) ≡ 0
unfolding mode_refusal
state_free m role fields a b c =
    ap (λ (n : ℕ). or_next n (need fields 4 0)) (need_intro (is_mode m) 1 _ a (need_intro (is_role m role) 2 0 b refl)) ∙ need_intro fields 4 0 c refl
