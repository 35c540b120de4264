-- A state written into lent bytes is read back, and the number of a call that makes one, whichever call it is. Assumes nothing.
use Prim.Native.Nat.{ℕ, zero, suc, ◌+◌, ◌/◌, ◌%◌, ◌≤◌, ◌<◌}
use mathlib.Core.Path.{◌≡◌, refl, ap, ◌∙◌}
use mathlib.Core.Bool.{true}
use mathlib.Core.List.{List}
use native.Mathlib.Omega.{arith}
use borrow.Author.Tests.{le-leb, lt-leb}
use lib.ListN.{length, get_or}
use lib.Seq.{sets}
use Rattle.line.specs.Refusal.{or_next, accepted}
use Rattle.octets.specs.Number.{u32, le32}
use Rattle.std.specs.Int.{w32, to_le_bytes}
use Rattle.octets.proofs.Numbers.{quarters}
use Rattle.line.proofs.Sets.{get_d_sets_in}
use Rattle.scrambler.specs.declared.Register.{Register}
use Rattle.lent.specs.State.{register_in, clear, state_out, making_number}

-- THE FOUR BYTES OF A NUMBER, as std writes them

pub le_word : (n : ℕ) → to_le_bytes w32 n ≡ le32 n
le_word n =
    let a : n % 256 ≡ n % 65536 % 256 = omega arith in
    let b : n / 256 % 256 ≡ n % 65536 / 256 % 256 = omega arith in
    let d : n / 16777216 % 256 ≡ n / 65536 / 256 % 256 = omega arith in
    rw (← a, ← b, ← d)

-- READ BACK

-- what bytes that hold a state read as
pub record Reads (s : List ℕ) (m role x y : ℕ) (h : Register) (n : ℕ) : Type 0 where
  pub mode : get_or s 0 0 ≡ m
  pub role_of : get_or s 1 0 ≡ role
  pub second : get_or s 2 0 ≡ x
  pub third : get_or s 3 0 ≡ y
  pub line : register_in s ≡ h
  pub is_clear : clear s ≡ true
  pub number : u32 s 12 ≡ n

front : (v b : List ℕ) (k : ℕ) → k < length v → length v ≤ length b → get_or (sets b 0 v) k 0 ≡ get_or v k 0
front v b k h l = ap (λ (a : ℕ). get_or (sets b 0 v) a 0) (let e : k ≡ 0 + k = omega arith in e) ∙ get_d_sets_in v b 0 k 0 h (omega arith)

pub state_back : (b : List ℕ) (m role x y : ℕ) (h : Register) (n : ℕ) → 16 ≤ length b → h.bits < 4294967296 → n < 4294967296
    → Reads (sets b 0 (state_out m role x y h n)) m role x y h n
state_back b m role x y h n l i j =
    record {
      mode = at 0 (omega arith);
      role_of = at 1 (omega arith);
      second = at 2 (omega arith);
      third = at 3 (omega arith);
      line = rw (at 4 (omega arith), at 5 (omega arith), at 6 (omega arith), at 7 (omega arith), at 8 (omega arith), at 9 (omega arith), quarters h.bits i);
      is_clear = rw (at 10 (omega arith), at 11 (omega arith));
      number = rw (at 12 (omega arith), at 13 (omega arith), at 14 (omega arith), at 15 (omega arith)) (quarters n j);
    }
  where
    at : (k : ℕ) → k < 16 → get_or (sets b 0 (state_out m role x y h n)) k 0 ≡ get_or (state_out m role x y h n) k 0
    at k e = front (state_out m role x y h n) b k e l

-- A CALL THAT MAKES A STATE, with the number f besides: k is given and st is left

module _ (state : List ℕ) (f k : ℕ) (x : List ℕ) where
  pub making_short : length state < 16 → k ≡ or_next f 7 → (k ≡ making_number state f) × (state ≡ accepted (making_number state f) x state)
  making_short h e = rw (lt-leb 16 (length state) h) (e, left f)
    where
      left : (n : ℕ) → state ≡ accepted (or_next n 7) x state
      left zero = refl
      left (suc n) = refl

  pub making_done : (st : List ℕ) → 16 ≤ length state → (k ≡ f) × (st ≡ accepted f x state)
      → (k ≡ making_number state f) × (st ≡ accepted (making_number state f) x state)
  making_done st h g = rw (le-leb 16 (length state) h, none f) g
    where
      none : (n : ℕ) → or_next n 0 ≡ n
      none zero = refl
      none (suc n) = refl
