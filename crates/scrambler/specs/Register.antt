-- Document 01, "Scrambler": the register of line bits, and what number 4 asks of one. Document 02, R-6: the guard's count, which the
-- register of every mode has and which only modes 5 and 6 move.
-- The register holds the last line bits since the last gap, at most R, as a number with the newest bit lowest, and their count:
-- that this is so is `RegisterHolds` of specs/Laws.
use Rattle.std.specs.Prelude.{ℕ, ◌+◌, ◌*◌, ◌-◌, ◌^◌, ◌/◌, ◌%◌, min, Bool, ◌&&◌, ◌||◌, not, cond, List, [], ◌∷◌, eqb, leb, ltb, get_or}
use Rattle.line.specs.Mode.{by_mode, guarded, capacity}
use Rattle.scrambler.specs.declared.Register.{Register}

-- line bits as a number, how many they are, and the guard's count
abbrev pub register : ℕ → ℕ → ℕ → Register
register n k c = record { bits = n; held = record { 0 = k }; count = record { 0 = c } }

-- no line bits, and a count of zero
abbrev pub fresh : Register
fresh = register 0 0 0

-- the line bit k back
unfoldable pub back : ℕ → Register → ℕ
back k h = h.bits / 2 ^ (k - 1) % 2

-- a: V.27 ter 6; V.32 18 for role 0 and 5 for role 1
unfoldable pub near_tap : ℕ → ℕ → ℕ
near_tap m role = by_mode m 6 6 (get_or (18 ∷ 5 ∷ []) role 5) (get_or (18 ∷ 5 ∷ []) role 5)

-- THE GUARD

-- where the guard works: in modes 5 and 6, once 12 line bits are held ("while it holds fewer than 12 its count stays zero")
unfoldable pub counting : ℕ → Register → Bool
counting m h = guarded m && leb (capacity m) h.held.0

-- "When the count is 33, the scrambled bit is inverted"; a greater count is none that number 4 lets pass
unfoldable pub inverting : ℕ → Register → Bool
inverting m h = counting m h && leb 33 h.count.0

-- "the line bit differs from all three line bits 8, 9 and 12 back"
unfoldable pub differs : Register → ℕ → Bool
differs h b = not (eqb b (back 8 h)) && (not (eqb b (back 9 h)) && not (eqb b (back 12 h)))

-- after the line bit b: at 33 "the count becomes 0. Otherwise the count becomes 0 if the line bit differs from all three .., and else
-- grows by one."
unfoldable pub count_after : ℕ → Register → ℕ → ℕ
count_after m h b = cond (counting m h) (cond (leb 33 h.count.0 || differs h b) 0 (h.count.0 + 1)) 0

-- A LINE BIT

-- the register after one line bit, and after several
unfoldable pub push : ℕ → Register → ℕ → Register
push m h b = register ((h.bits * 2 + b) % 2 ^ capacity m) (min (h.held.0 + 1) (capacity m)) (count_after m h b)

abbrev pub pushes : ℕ → Register → List ℕ → Register
pushes m h [] = h
pushes m h (b ∷ bs) = pushes m (push m h b) bs

-- number 4: at most R line bits, and none set beyond them; R-6: no "count above 33, or above zero in modes 1 to 4 or in a receiver with
-- fewer than 12 line bits"
unfoldable pub register_ok : ℕ → Register → Bool
register_ok m h = (leb h.held.0 (capacity m) && ltb h.bits (2 ^ h.held.0)) && leb h.count.0 (cond (counting m h) 33 0)
