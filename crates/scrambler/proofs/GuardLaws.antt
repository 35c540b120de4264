-- The guard along a group: all bits together, from the first that comes after 12 line bits. Assumes nothing.
use Prim.Native.Nat.{ℕ, zero, suc, ◌+◌, ◌*◌, ◌-◌, ◌^◌, ◌/◌, ◌%◌, ◌<◌, ◌≤◌, min}
use mathlib.Core.Path.{◌≡◌, refl, sym, ◌∙◌, ap}
use mathlib.Core.Bool.{Bool, ◌&&◌, cond}
use mathlib.Core.List.{List, [], ◌∷◌}
use native.Mathlib.Nat.{mod-mod, div-le_self, pow-le-pow_right}
use native.Mathlib.Decide.{dec_le, dec_lt}
use native.Mathlib.Omega.{arith}
use mir.Syntax.{w8}
use mir.Val.{Fits}
use borrow.Author.Tests.{le-leb, lt-leb, lt-ltb, le-ltb}
use lib.Bits.{bit_or, or_lt}
use lib.Dec.{T, eqb, ltb, eqb→eq, lit<}
use lib.ListN.{length}
use lib.Pow.{mod-mod-pow}
use Rattle.line.specs.Table.{every, below}
use Rattle.line.specs.Mode.{guarded, capacity}
use Rattle.line.proofs.TableLaws.{and_left, and_right, below_at}
use Rattle.scrambler.specs.Bits.{bits, value}
use Rattle.scrambler.proofs.BitLaws.{bits-same}
use Rattle.scrambler.specs.Windows.{inversions, count_over}

-- ALL BITS TOGETHER

-- the place of the bit at which the count comes to 33, what is inverted, and the count after the bits that set it to zero
abbrev place_of : ℕ → ℕ
place_of last = 4 / 2 ^ (36 - last)

abbrev inverted_at : ℕ → ℕ → ℕ
inverted_at p d = cond (ltb d (2 * p)) p 0

abbrev tally : ℕ → ℕ → ℕ
tally last z = cond (eqb z 0) last (4624 / 2 ^ (2 * z) % 4)

abbrev zeros : ℕ → ℕ → ℕ
zeros last d = bit_or d (inverted_at (place_of last) d)

abbrev test : ℕ → ℕ → ℕ → Bool
test l c d =
    eqb (inverted_at (place_of (c + l)) d) (value (inversions 6 12 c (bits l d))) && eqb (tally (c + l) (zeros (c + l) d)) (count_over 6 12 c (bits l d))

tested : (l c d : ℕ) → l ≤ 3 → c ≤ 33 → d < 2 ^ l → T (test l c d)
unfolding guarded capacity
tested l c d hl hc hd =
    below_at (test l c) (2 ^ l) (below_at (λ x. every (test l x) (below (2 ^ l))) 34 (below_at (λ k. every (λ x. every (test k x) (below (2 ^ k))) (below 34)) 4 tt l (omega arith)) c (omega arith)) d hd

-- numbers that are small
pub place_small : (n k : ℕ) → n ≤ 15 → n / 2 ^ k ≤ 15
place_small n k h = omega (arith, div-le_self n (2 ^ k))

pub place-fits : (n k : ℕ) → n ≤ 15 → Fits w8 (n / 2 ^ k)
place-fits n k h = omega (arith, div-le_self n (2 ^ k))

pub zeros_small : (l p d f : ℕ) → l ≤ 3 → p ≤ 15 → d < 2 ^ l → f ≤ p → bit_or d f < 16
zeros_small l p d f hl hp hd hf =
    let h : l ≤ 4 = omega arith in
    let m : 2 ^ l ≤ 2 ^ 4 = pow-le-pow_right (lit< tt) h in
    or_lt 4 d f (omega arith) (omega arith)

pub over_law : (l c d : ℕ) → l ≤ 3 → c ≤ 33 → d < 2 ^ l
    → (inverted_at (place_of (c + l)) d ≡ value (inversions 6 12 c (bits l d))) × (tally (c + l) (zeros (c + l) d) ≡ count_over 6 12 c (bits l d))
over_law l c d hl hc hd =
    let a : Bool = eqb (inverted_at (place_of (c + l)) d) (value (inversions 6 12 c (bits l d))) in
    let t = tested l c d hl hc hd in
    (eqb→eq _ _ (and_left a _ t), eqb→eq _ _ (and_right a _ t))

-- FROM THE FIRST BIT AFTER 12

abbrev Same : ℕ → ℕ → List ℕ → ℕ → ℕ → List ℕ → Type 0
Same k c es j d fs = (value (inversions 6 k c es) ≡ value (inversions 6 j d fs)) × (count_over 6 k c es ≡ count_over 6 j d fs)

-- a full register is a full register
full_alike : (k c : ℕ) (es : List ℕ) → 12 ≤ k → (inversions 6 k c es ≡ inversions 6 12 c es) × (count_over 6 k c es ≡ count_over 6 12 c es)
unfolding guarded capacity
full_alike k c [] h = (refl, refl)
full_alike k c (e ∷ es) h =
    let r : min (k + 1) 12 ≡ 12 = omega arith in
    rw (le-leb 12 k h, r) (refl, refl)

-- a count above 33 is as 33
at_most_33 : (c e : ℕ) (es : List ℕ) → Same 12 c (e ∷ es) 12 (min c 33) (e ∷ es)
unfolding guarded capacity
at_most_33 c e es = go (dec_le c 33)
  where
    go : Dec (c ≤ 33) → Same 12 c (e ∷ es) 12 (min c 33) (e ∷ es)
    go (yes h) = let m : min c 33 ≡ c = omega arith in rw m (refl, refl)
    go (no h) = let m : min c 33 ≡ 33 = omega (arith, h) in rw (m, le-leb 33 c (omega (arith, h))) (refl, refl)

zero-first : (bs : List ℕ) → 0 * 2 ^ length bs + value bs ≡ value bs
zero-first bs = omega arith

-- with fewer than 12 line bits nothing is counted and nothing inverted
below_12 : (k c e : ℕ) (es : List ℕ) → k < 12 → Same k c (e ∷ es) (k + 1) 0 es
unfolding guarded capacity
below_12 k c e es h =
    let r : min (k + 1) 12 ≡ k + 1 = omega arith in
    rw (lt-leb 12 k h, r) (zero-first (inversions 6 (k + 1) 0 es), refl)

from_zero : (w k f : ℕ) → Same k 0 (bits w f) 12 0 (bits (w - (12 - k)) f)
from_zero zero k f = let e : zero - (12 - k) ≡ zero = omega arith in rw e (refl, refl)
from_zero (suc w) k f = go (from_zero w (k + 1) f) (dec_lt k 12)
  where
    go : Same (k + 1) 0 (bits w f) 12 0 (bits (w - (12 - (k + 1))) f) → Dec (k < 12) → Same k 0 (bits (suc w) f) 12 0 (bits (suc w - (12 - k)) f)
    go i (yes h) =
        let e : suc w - (12 - k) ≡ w - (12 - (k + 1)) = omega arith in
        let a = below_12 k 0 (f / 2 ^ w % 2) (bits w f) h in
        rw e (a.0 ∙ i.0, a.1 ∙ i.1)
    go i (no h) =
        let e : suc w - (12 - k) ≡ suc w = omega (arith, h) in
        let a = full_alike k 0 (bits (suc w) f) (omega (arith, h)) in
        rw e (ap value a.0, a.1)

-- the lowest bits of a number's lowest bits
lowest : (w x f d : ℕ) → x ≤ w → d ≡ f % 2 ^ w % 2 ^ x → bits x f ≡ bits x d
lowest w x f d h e =
    let n : w ≡ w - x + x = omega arith in
    let m : f % 2 ^ w % 2 ^ x ≡ f % 2 ^ x = ap (λ (i : ℕ). f % 2 ^ i % 2 ^ x) n ∙ mod-mod-pow f (w - x) x in
    bits-same x f d (sym (ap (λ (i : ℕ). i % 2 ^ x) (e ∙ m) ∙ mod-mod f (2 ^ x)))

-- the whole group by its last bits
pub last_bits : (w k c f u d : ℕ) → 0 < w → u ≡ min (12 - k) w → d ≡ f % 2 ^ w % 2 ^ (w - u)
    → Same k c (bits w f) 12 (cond (ltb 0 u) 0 (min c 33)) (bits (w - u) d)
last_bits zero k c f u d p eu ed = absurd (omega arith)
last_bits (suc w) k c f u d p eu ed = go (dec_lt k 12)
  where
    go : Dec (k < 12) → Same k c (bits (suc w) f) 12 (cond (ltb 0 u) 0 (min c 33)) (bits (suc w - u) d)
    go (yes h) =
        let e : suc w - u ≡ w - (12 - (k + 1)) = omega arith in
        let a = below_12 k c (f / 2 ^ w % 2) (bits w f) h in
        let i = from_zero w (k + 1) f in
        let b = lowest (suc w) (w - (12 - (k + 1))) f d (omega arith) (ed ∙ ap (λ (x : ℕ). f % 2 ^ suc w % 2 ^ x) e) in
        rw (lt-ltb 0 u (omega arith), e) (a.0 ∙ i.0 ∙ ap (λ (l : List ℕ). value (inversions 6 12 0 l)) b, a.1 ∙ i.1 ∙ ap (count_over 6 12 0) b)
    go (no h) =
        let z : u ≡ 0 = omega (arith, h) in
        let e : suc w - u ≡ suc w = omega arith in
        let a = full_alike k c (bits (suc w) f) (omega (arith, h)) in
        let m = at_most_33 c (f / 2 ^ w % 2) (bits w f) in
        let b = lowest (suc w) (suc w) f d (omega arith) (ed ∙ ap (λ (x : ℕ). f % 2 ^ suc w % 2 ^ x) e) in
        rw (le-ltb 0 u (omega arith), e) (ap value a.0 ∙ m.0 ∙ ap (λ (l : List ℕ). value (inversions 6 12 (min c 33) l)) b, a.1 ∙ m.1 ∙ ap (count_over 6 12 (min c 33)) b)
