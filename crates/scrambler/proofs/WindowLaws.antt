-- A group is mixed at once: the bits a and R back of a group's bits all stand in the register before it, and so do those that the guard
-- compares them with. Assumes nothing.
use Prim.Native.Nat.{ℕ, zero, suc, ◌+◌, ◌*◌, ◌-◌, ◌^◌, ◌/◌, ◌%◌, ◌<◌, ◌≤◌, min}
use mathlib.Core.Path.{◌≡◌, refl, sym, ◌∙◌, ap, ap₂}
use mathlib.Core.Bool.{Bool, true, false, ◌&&◌, ◌||◌, not, cond}
use mathlib.Core.List.{List, [], ◌∷◌}
use native.Mathlib.Nat.{mod-lt, mod-eq_of_lt}
use native.Mathlib.Decide.{dec_le}
use native.Mathlib.Omega.{arith}
use lib.Bits.{bit_and, bit_xor, and_shr, and_mod, xor_shr, xor_mod}
use lib.Dec.{T, eqb, leb, ltb}
use lib.ListN.{length, get_or, drop}
use lib.Pow.{pow_pos}
use Rattle.line.specs.Table.{every, below}
use Rattle.line.specs.Mode.{column, width, far_tap, guarded, capacity}
use Rattle.line.proofs.TableLaws.{and_intro, below_at, alike, alike_eq}
use Rattle.line.proofs.ByMode.{mode_short, mode_long, by_all, width_range, far_kept, kept_guarded}
use Rattle.scrambler.specs.declared.Register.{Register}
use Rattle.scrambler.specs.Bits.{is_bit, bits, value}
use Rattle.scrambler.specs.Register.{back, near_tap, counting, inverting, differs, count_after, push, pushes}
use Rattle.scrambler.specs.Scramble.{mix, scramble}
use Rattle.scrambler.specs.Windows.{mixed_at_once, differ_at_once, inversion, counted, inversions, count_over}
use Rattle.scrambler.proofs.BitLaws.{bit, bit_small, bit_mod, bit_double, bit_shift, length-bits, bits-same, bits-value}

-- a in V.32
abbrev v32_tap : ℕ → ℕ
v32_tap role = get_or (18 ∷ 5 ∷ []) role 5

v32_tap_lem : (role : ℕ) → (5 ≤ v32_tap role) × (v32_tap role ≤ 18)
v32_tap_lem zero = omega arith
v32_tap_lem (suc zero) = omega arith
v32_tap_lem (suc (suc role)) = omega arith

tap_low : (m role : ℕ) → 5 ≤ near_tap m role
unfolding near_tap
tap_low m role = by_all (λ (n : ℕ). 5 ≤ n) 6 6 (v32_tap role) (v32_tap role) (omega arith) (omega arith) (v32_tap_lem role).0 (v32_tap_lem role).0 m

tap_high : (m role : ℕ) → near_tap m role ≤ far_tap m
unfolding near_tap far_tap
tap_high m role = go (dec_le (column m) 2)
  where
    go : Dec (column m ≤ 2) → near_tap m role ≤ far_tap m
    go (yes h) = let a : 6 ≡ near_tap m role = mode_short 6 (v32_tap role) m _ refl h in let r : 7 ≡ far_tap m = mode_short 7 23 m _ refl h in omega arith
    go (no h) =
        let k : 2 < column m = omega (arith, h) in
        let a : v32_tap role ≡ near_tap m role = mode_long 6 (v32_tap role) m _ refl k in
        let r : 23 ≡ far_tap m = mode_long 7 23 m _ refl k in
        let z = (v32_tap_lem role).1 in omega arith

-- the taps lie behind a group, and within the register
pub tap_range : (m role : ℕ) → (width m ≤ near_tap m role) × (near_tap m role ≤ far_tap m) × (far_tap m ≤ capacity m)
tap_range m role =
    (let w = (width_range m).1 in let a = tap_low m role in omega arith, tap_high m role, far_kept m)

-- a bit of an xor, and of an and
two_bits : (a b : ℕ) → a < 2 → b < 2 → (bit_xor a b ≡ (a + b) % 2) × (bit_and a b ≡ min a b)
two_bits zero zero h l = (refl, refl)
two_bits zero (suc zero) h l = (refl, refl)
two_bits (suc zero) zero h l = (refl, refl)
two_bits (suc zero) (suc zero) h l = (refl, refl)
two_bits zero (suc (suc b)) h l = absurd (omega arith)
two_bits (suc zero) (suc (suc b)) h l = absurd (omega arith)
two_bits (suc (suc a)) b h l = absurd (omega arith)

bit_xor_lem : (i a b : ℕ) → bit i (bit_xor a b) ≡ (bit i a + bit i b) % 2
bit_xor_lem i a b =
    ap (λ (x : ℕ). x % 2) (xor_shr a b i) ∙ xor_mod (a / 2 ^ i) (b / 2 ^ i) 1 ∙ (two_bits (bit i a) (bit i b) (bit_small i a) (bit_small i b)).0

bit_and_lem : (i a b : ℕ) → bit i (bit_and a b) ≡ min (bit i a) (bit i b)
bit_and_lem i a b =
    ap (λ (x : ℕ). x % 2) (and_shr a b i) ∙ and_mod (a / 2 ^ i) (b / 2 ^ i) 1 ∙ (two_bits (bit i a) (bit i b) (bit_small i a) (bit_small i b)).1

bit_three : (i g p q : ℕ) → bit i (bit_xor (bit_xor g p) q) ≡ (bit i g + bit i p + bit i q) % 2
bit_three i g p q =
    bit_xor_lem i (bit_xor g p) q ∙ ap (λ (x : ℕ). (x + bit i q) % 2) (bit_xor_lem i g p) ∙ (let z : ((bit i g + bit i p) % 2 + bit i q) % 2 ≡ (bit i g + bit i p + bit i q) % 2 = omega arith in z)

-- bits xor bits
abbrev xor_row : List ℕ → List ℕ → List ℕ
xor_row [] ys = []
xor_row (x ∷ xs) [] = []
xor_row (x ∷ xs) (y ∷ ys) = (x + y) % 2 ∷ xor_row xs ys

xor_row_lem : (k a b : ℕ) → xor_row (bits k a) (bits k b) ≡ bits k (bit_xor a b)
xor_row_lem zero a b = refl
xor_row_lem (suc k) a b = ap₂ ◌∷◌ (sym (bit_xor_lem k a b)) (xor_row_lem k a b)

-- WHAT A REGISTER SHOWS

-- what stood at a window is one further after a push
window_push : (m : ℕ) (h : Register) (b t k i : ℕ) → b < 2 → suc k ≤ t → t ≤ capacity m → i < k
    → bit i ((push m h b).bits / 2 ^ (t - k)) ≡ bit i (h.bits / 2 ^ (t - suc k))
unfolding push
window_push m h b t k i hb ht hr hi =
    let e : t - k + i ≡ suc (t - suc k + i) = omega arith in
    bit_shift i (t - k) _
    ∙ bit_mod (t - k + i) (capacity m) (h.bits * 2 + b) (omega arith)
    ∙ ap (λ (j : ℕ). bit j (h.bits * 2 + b)) e
    ∙ bit_double (t - suc k + i) h.bits b hb
    ∙ sym (bit_shift i (t - suc k) h.bits)

-- the bit t back is the first of a window
window_top : (h : Register) (t k : ℕ) → suc k ≤ t → back t h ≡ bit k (h.bits / 2 ^ (t - suc k))
unfolding back
window_top h t k ht = ap (λ (j : ℕ). bit j h.bits) (let e : t - 1 ≡ t - suc k + k = omega arith in e) ∙ sym (bit_shift k (t - suc k) h.bits)

-- at a window of k line bits, t back, stand the lowest bits of p
abbrev Sees : Register → ℕ → ℕ → ℕ → Type 0
Sees h t k p = (i : ℕ) → i < k → bit i (h.bits / 2 ^ (t - k)) ≡ bit i p

sees_push : (m : ℕ) (h : Register) (b t k p : ℕ) → b < 2 → suc k ≤ t → t ≤ capacity m → Sees h t (suc k) p → Sees (push m h b) t k p
sees_push m h b t k p hb ht hr s i l = window_push m h b t k i hb ht hr l ∙ s i (omega arith)

sees_top : (h : Register) (t k p : ℕ) → suc k ≤ t → Sees h t (suc k) p → back t h ≡ bit k p
sees_top h t k p ht s = window_top h t k ht ∙ s k (omega arith)

-- the five places that a group looks at: a and R back, and 8, 9 and 12 where there is the guard
record Shows (m role k : ℕ) (h : Register) (p q u v w : ℕ) : Type 0 where
  near : Sees h (near_tap m role) k p
  far : Sees h (far_tap m) k q
  eight : guarded m ≡ true → Sees h 8 k u
  nine : guarded m ≡ true → Sees h 9 k v
  twelve : guarded m ≡ true → Sees h 12 k w

shows_push : (m role k : ℕ) (h : Register) (b p q u v w : ℕ) → b < 2 → suc k ≤ near_tap m role → suc k ≤ 8 → Shows m role (suc k) h p q u v w
    → Shows m role k (push m h b) p q u v w
shows_push m role k h b p q u v w hb hk h8 s =
    let z = tap_range m role in
    let full : guarded m ≡ true → 12 ≤ capacity m = λ e. let r = kept_guarded m e in omega arith in
    record {
      near = sees_push m h b (near_tap m role) k p hb hk (omega arith) s.near;
      far = sees_push m h b (far_tap m) k q hb (omega arith) z.2 s.far;
      eight = λ e. sees_push m h b 8 k u hb h8 (let f = full e in omega arith) (s.eight e);
      nine = λ e. sees_push m h b 9 k v hb (omega arith) (let f = full e in omega arith) (s.nine e);
      twelve = λ e. sees_push m h b 12 k w hb (omega arith) (full e) (s.twelve e);
    }

pub mix_small : (m role : ℕ) (h : Register) (x : ℕ) → mix m role h x < 2
unfolding mix
mix_small m role h x = omega arith

-- a bit of a group, mixed
mix_head : (m role k : ℕ) (h : Register) (g p q u v w : ℕ) → suc k ≤ near_tap m role → Shows m role (suc k) h p q u v w
    → mix m role h (bit k g) ≡ (bit k (bit_xor (bit_xor g p) q) + inversion m h.held.0 h.count.0) % 2
unfolding mix inverting counting
mix_head m role k h g p q u v w hk s =
    let i : ℕ = inversion m h.held.0 h.count.0 in
    ap₂ (λ (x y : ℕ). (bit k g + x + y + i) % 2) (sees_top h (near_tap m role) k p hk s.near)
    (sees_top h (far_tap m) k q (let z = (tap_range m role).1 in omega arith) s.far)
    ∙ (let z : (bit k g + bit k p + bit k q + i) % 2 ≡ ((bit k g + bit k p + bit k q) % 2 + i) % 2 = omega arith in z)
    ∙ ap (λ (x : ℕ). (x + i) % 2) (sym (bit_three k g p q))

-- THE GUARD ALONG A GROUP

-- of four bits: whether the first differs from all others
abbrev test : ℕ → ℕ → ℕ → ℕ → Bool
test b p q r = alike (eqb (min (min ((b + p) % 2) ((b + q) % 2)) ((b + r) % 2)) 1) (not (eqb b p) && (not (eqb b q) && not (eqb b r)))

all_three : (b p q r : ℕ) → b < 2 → p < 2 → q < 2 → r < 2
    → eqb (min (min ((b + p) % 2) ((b + q) % 2)) ((b + r) % 2)) 1 ≡ not (eqb b p) && (not (eqb b q) && not (eqb b r))
all_three b p q r hb hp hq hr =
    alike_eq _ _ (at (λ z. test b p q z) (at (λ y. every (λ z. test b p y z) (below 2)) (at (λ x. every (λ y. every (λ z. test b x y z) (below 2)) (below 2))
    (at (λ x. every (λ y. every (λ z. every (λ i. test x y z i) (below 2)) (below 2)) (below 2)) tt b hb) p hp) q hq) r hr)
  where
    at : (f : ℕ → Bool) → T (every f (below 2)) → (x : ℕ) → x < 2 → T (f x)
    at f t x h = below_at f 2 t x h

abbrev differing : ℕ → ℕ → ℕ → ℕ → ℕ
differing y u v w = bit_and (bit_and (bit_xor y u) (bit_xor y v)) (bit_xor y w)

flag_law : (m role k : ℕ) (h : Register) (y p q u v w : ℕ) → suc k ≤ 8 → guarded m ≡ true → Shows m role (suc k) h p q u v w
    → eqb (bit k (differing y u v w)) 1 ≡ differs h (bit k y)
unfolding differs
flag_law m role k h y p q u v w hk g s =
    let e : bit k (differing y u v w) ≡ min (min ((bit k y + bit k u) % 2) ((bit k y + bit k v) % 2)) ((bit k y + bit k w) % 2) =
    bit_and_lem k (bit_and (bit_xor y u) (bit_xor y v)) (bit_xor y w)
    ∙ ap₂ min (bit_and_lem k (bit_xor y u) (bit_xor y v) ∙ ap₂ min (bit_xor_lem k y u) (bit_xor_lem k y v)) (bit_xor_lem k y w) in
    let e8 : back 8 h ≡ bit k u = sees_top h 8 k u hk (s.eight g) in
    let e9 : back 9 h ≡ bit k v = sees_top h 9 k v (omega arith) (s.nine g) in
    let e12 : back 12 h ≡ bit k w = sees_top h 12 k w (omega arith) (s.twelve g) in
    ap (λ (x : ℕ). eqb x 1) e ∙ all_three (bit k y) (bit k u) (bit k v) (bit k w) (bit_small k y) (bit_small k u) (bit_small k v) (bit_small k w)
    ∙ rw (e8, e9, e12)

-- the count after a line bit: whether the bit differs does not matter at 33, nor where the guard does not count
counted_law : (m : ℕ) (h : Register) (l e : ℕ) → (guarded m ≡ true → inversion m h.held.0 h.count.0 ≡ 0 → eqb e 1 ≡ differs h l)
    → count_after m h l ≡ counted m h.held.0 h.count.0 e
unfolding count_after counting
counted_law m h l e f = go (guarded m) (leb (capacity m) h.held.0) (leb 33 h.count.0) f
  where
    go : (a b c : Bool) → (a ≡ true → ◌≡◌ {A = ℕ} (cond ((a && b) && c) 1 0) 0 → eqb e 1 ≡ differs h l)
        → cond (a && b) (cond (c || differs h l) 0 (h.count.0 + 1)) 0 ≡ cond (a && b) (cond (c || eqb e 1) 0 (h.count.0 + 1)) 0
    go false b c f = refl
    go true false c f = refl
    go true true true f = refl
    go true true false f = ap (λ (x : Bool). cond x 0 (h.count.0 + 1)) (sym (f refl refl))

-- the bits of a group mixed one after the other: the sender pushes what it mixed, the receiver what it got
abbrev pub line_bit : Bool → ℕ → ℕ → Register → ℕ → ℕ
line_bit s m role h x = cond s (mix m role h x) x

abbrev pub mixes : Bool → ℕ → ℕ → Register → List ℕ → List ℕ
mixes s m role h [] = []
mixes s m role h (x ∷ xs) = mix m role h x ∷ mixes s m role (push m h (line_bit s m role h x)) xs

abbrev pub pushed : Bool → ℕ → ℕ → Register → List ℕ → Register
pushed s m role h [] = h
pushed s m role h (x ∷ xs) = pushed s m role (push m h (line_bit s m role h x)) xs

sent : (m role : ℕ) (h : Register) (ds : List ℕ) → (mixes true m role h ds ≡ scramble m role h ds) × (pushed true m role h ds ≡ pushes m h (scramble m role h ds))
sent m role h [] = (refl, refl)
sent m role h (d ∷ ds) = let e = sent m role (push m h (mix m role h d)) ds in (ap (λ (l : List ℕ). mix m role h d ∷ l) e.0, e.1)

-- line bits with the scrambler undone, settled or not
abbrev pub unmixed : ℕ → ℕ → Register → List ℕ → List ℕ
unmixed m role h bs = mixes false m role h bs

got : (m role : ℕ) (h : Register) (bs : List ℕ) → pushed false m role h bs ≡ pushes m h bs
got m role h [] = refl
got m role h (b ∷ bs) = got m role (push m h b) bs

-- what is mixed, and the count after it, of the lowest k bits of a number
module _ (s : Bool) (m role g p q u v w : ℕ) where
  -- the group mixed without the guard, and its line bits without the guard
  abbrev plain_mix : ℕ
  plain_mix = bit_xor (bit_xor g p) q

  abbrev flags : ℕ
  flags = differing (cond s plain_mix g) u v w

  line_small : (h : Register) (k : ℕ) → line_bit s m role h (bit k g) < 2
  line_small h k = go s
    where
      go : (s : Bool) → line_bit s m role h (bit k g) < 2
      go true = mix_small m role h (bit k g)
      go false = bit_small k g

  line_plain : (h : Register) (k : ℕ) → suc k ≤ near_tap m role → Shows m role (suc k) h p q u v w → inversion m h.held.0 h.count.0 ≡ 0
      → line_bit s m role h (bit k g) ≡ bit k (cond s plain_mix g)
  line_plain h k hk z e = go s
    where
      go : (s : Bool) → line_bit s m role h (bit k g) ≡ bit k (cond s plain_mix g)
      go true =
          mix_head m role k h g p q u v w hk z ∙ ap (λ (i : ℕ). (bit k plain_mix + i) % 2) e
          ∙ (let b = bit_small k plain_mix in let y : (bit k plain_mix + 0) % 2 ≡ bit k plain_mix = omega arith in y)
      go false = refl

  walk : (h : Register) (k : ℕ) → k ≤ near_tap m role → k ≤ 8 → Shows m role k h p q u v w
      → (mixes s m role h (bits k g) ≡ xor_row (bits k plain_mix) (inversions m h.held.0 h.count.0 (bits k flags)))
      × ((pushed s m role h (bits k g)).count.0 ≡ count_over m h.held.0 h.count.0 (bits k flags))
  unfolding push
  walk h zero hk h8 z = (refl, refl)
  walk h (suc k) hk h8 z =
      let l : ℕ = line_bit s m role h (bit k g) in
      let i = walk (push m h l) k (omega arith) (omega arith) (shows_push m role k h l p q u v w (line_small h k) hk h8 z) in
      let c : count_after m h l ≡ counted m h.held.0 h.count.0 (bit k flags) =
      counted_law m h l (bit k flags) (λ e n. flag_law m role k h (cond s plain_mix g) p q u v w h8 e z ∙ ap (differs h) (sym (line_plain h k hk z n))) in
      let r : ℕ = min (h.held.0 + 1) (capacity m) in (
        ap₂ ◌∷◌ (mix_head m role k h g p q u v w hk z) (i.0 ∙ ap (λ (n : ℕ). xor_row (bits k plain_mix) (inversions m r n (bits k flags))) c),
        i.1 ∙ ap (λ (n : ℕ). count_over m r n (bits k flags)) c,
      )

-- A GROUP AT ONCE

-- the inversions are bits, as many as the flags
pub bits-inversions : (m k c : ℕ) (es : List ℕ) → (length (inversions m k c es) ≡ length es) × T (every is_bit (inversions m k c es))
unfolding is_bit
bits-inversions m k c [] = (refl, tt)
bits-inversions m k c (e ∷ es) =
    let i = bits-inversions m (min (k + 1) (capacity m)) (counted m k c e) es in
    (ap suc i.0, and_intro (ltb (inversion m k c) 2) _ (small ((guarded m && leb (capacity m) k) && leb 33 c)) i.1)
  where
    small : (b : Bool) → T (ltb (cond b 1 0) 2)
    small true = tt
    small false = tt

-- those of w bits, as a number
abbrev pub inverted : ℕ → ℕ → Register → ℕ → ℕ
inverted m w h y = value (inversions m h.held.0 h.count.0 (bits w (differ_at_once w h.bits y)))

inverted_bits : (m w : ℕ) (h : Register) (y : ℕ) → inversions m h.held.0 h.count.0 (bits w (differ_at_once w h.bits y)) ≡ bits w (inverted m w h y)
inverted_bits m w h y =
    let es : List ℕ = bits w (differ_at_once w h.bits y) in
    let b = bits-inversions m h.held.0 h.count.0 es in
    sym (bits-value (inversions m h.held.0 h.count.0 es) b.1) ∙ ap (λ (n : ℕ). bits n (inverted m w h y)) (b.0 ∙ length-bits w (differ_at_once w h.bits y))

module _ (m role : ℕ) (h : Register) (g : ℕ) where
  shows_all : Shows m role (width m) h (h.bits / 2 ^ (near_tap m role - width m)) (h.bits / 2 ^ (far_tap m - width m)) (h.bits / 2 ^ (8 - width m)) (h.bits / 2 ^ (9 - width m)) (h.bits / 2 ^ (12 - width m))
  shows_all = record { near = λ i l. refl; far = λ i l. refl; eight = λ e i l. refl; nine = λ e i l. refl; twelve = λ e i l. refl }

  -- the number that the code mixes has the bits of all of it
  low_same : bits (width m) (bit_xor (bit_xor g (h.bits / 2 ^ (near_tap m role - width m))) (h.bits / 2 ^ (far_tap m - width m))) ≡ bits (width m) (mixed_at_once m role h.bits g)
  unfolding mixed_at_once
  low_same = bits-same (width m) _ _ (sym (mod-eq_of_lt (mod-lt (bit_xor (bit_xor g (h.bits / 2 ^ (near_tap m role - width m))) (h.bits / 2 ^ (far_tap m - width m))) (pow_pos (width m)))))

  at_once : (s : Bool) (y : ℕ) → bits (width m) (differ_at_once (width m) h.bits y) ≡ bits (width m) (flags s m role g (h.bits / 2 ^ (near_tap m role - width m)) (h.bits / 2 ^ (far_tap m - width m)) (h.bits / 2 ^ (8 - width m)) (h.bits / 2 ^ (9 - width m)) (h.bits / 2 ^ (12 - width m)))
      → (mixes s m role h (bits (width m) g) ≡ bits (width m) (bit_xor (mixed_at_once m role h.bits g) (inverted m (width m) h y)))
      × ((pushed s m role h (bits (width m) g)).count.0 ≡ count_over m h.held.0 h.count.0 (bits (width m) (differ_at_once (width m) h.bits y)))
  at_once s y e =
      let r = walk s m role g _ _ _ _ _ h (width m) (tap_range m role).0 (let z = (width_range m).1 in omega arith) shows_all in (
        r.0 ∙ ap₂ xor_row low_same (ap (inversions m h.held.0 h.count.0) (sym e) ∙ inverted_bits m (width m) h y) ∙ xor_row_lem (width m) (mixed_at_once m role h.bits g) (inverted m (width m) h y),
        r.1 ∙ ap (count_over m h.held.0 h.count.0) (sym e),
      )

  -- what of a number its flags depend on
  flags_same : (y z : ℕ) → bits (width m) y ≡ bits (width m) z → bits (width m) (differ_at_once (width m) h.bits y) ≡ bits (width m) (differ_at_once (width m) h.bits z)
  unfolding differ_at_once
  flags_same y z e = rows (width m) e
    where
      u : ℕ
      u = h.bits / 2 ^ (8 - width m)

      v : ℕ
      v = h.bits / 2 ^ (9 - width m)

      w : ℕ
      w = h.bits / 2 ^ (12 - width m)

      one : (k : ℕ) → bit k y ≡ bit k z → bit k (differing y u v w) ≡ bit k (differing z u v w)
      one k f =
          bit_and_lem k (bit_and (bit_xor y u) (bit_xor y v)) (bit_xor y w)
          ∙ ap₂ min (bit_and_lem k (bit_xor y u) (bit_xor y v) ∙ ap₂ min (same u) (same v) ∙ sym (bit_and_lem k (bit_xor z u) (bit_xor z v))) (same w)
          ∙ sym (bit_and_lem k (bit_and (bit_xor z u) (bit_xor z v)) (bit_xor z w))
        where
          same : (x : ℕ) → bit k (bit_xor y x) ≡ bit k (bit_xor z x)
          same x = bit_xor_lem k y x ∙ ap (λ (b : ℕ). (b + bit k x) % 2) f ∙ sym (bit_xor_lem k z x)

      rows : (k : ℕ) → bits k y ≡ bits k z → bits k (differing y u v w) ≡ bits k (differing z u v w)
      rows zero f = refl
      rows (suc k) f = ap₂ ◌∷◌ (one k (ap (λ (l : List ℕ). get_or l 0 0) f)) (rows k (ap (drop 1) f))

  -- the line bits of a group of data bits, and the count after them
  pub scramble_at_once : (scramble m role h (bits (width m) g) ≡ bits (width m) (bit_xor (mixed_at_once m role h.bits g) (inverted m (width m) h (mixed_at_once m role h.bits g))))
      × ((pushes m h (scramble m role h (bits (width m) g))).count.0 ≡ count_over m h.held.0 h.count.0 (bits (width m) (differ_at_once (width m) h.bits (mixed_at_once m role h.bits g))))
  scramble_at_once =
      let r = at_once true (mixed_at_once m role h.bits g) (flags_same _ _ (sym low_same) ∙ unfold differ_at_once in refl) in
      let t = sent m role h (bits (width m) g) in
      (sym t.0 ∙ r.0, ap (λ (k : Register). k.count.0) (sym t.1) ∙ r.1)

  -- a group of line bits undone, and the count after them
  pub unmixed_at_once : (unmixed m role h (bits (width m) g) ≡ bits (width m) (bit_xor (mixed_at_once m role h.bits g) (inverted m (width m) h g)))
      × ((pushes m h (bits (width m) g)).count.0 ≡ count_over m h.held.0 h.count.0 (bits (width m) (differ_at_once (width m) h.bits g)))
  unmixed_at_once =
      let r = at_once false g (unfold differ_at_once in refl) in
      (r.0, ap (λ (k : Register). k.count.0) (sym (got m role h (bits (width m) g))) ∙ r.1)

-- the nearer tap, by the tests that the code makes; k is the mode's column, as the code found it
pub tap_6 : (m k role : ℕ) → k ≡ column m → k ≤ 2 → 6 ≡ near_tap m role
unfolding near_tap
tap_6 m k role e h = mode_short 6 (v32_tap role) m k e h

pub tap_18 : (m k role : ℕ) → k ≡ column m → 2 < k → role ≡ 0 → 18 ≡ near_tap m role
unfolding near_tap
tap_18 m k role e h f = ap v32_tap (sym f) ∙ mode_long 6 (v32_tap role) m k e h

v32_other : (role : ℕ) → (role ≡ 0 → ⊥) → v32_tap role ≡ 5
v32_other zero f = absurd (f refl)
v32_other (suc zero) f = refl
v32_other (suc (suc role)) f = refl

pub tap_5 : (m k role : ℕ) → k ≡ column m → 2 < k → (role ≡ 0 → ⊥) → 5 ≡ near_tap m role
unfolding near_tap
tap_5 m k role e h f = sym (v32_other role f) ∙ mode_long 6 (v32_tap role) m k e h

-- the farther one
pub tap_7 : (m k : ℕ) → k ≡ column m → k ≤ 2 → 7 ≡ far_tap m
unfolding far_tap
tap_7 m k e h = mode_short 7 23 m k e h

pub tap_23 : (m k : ℕ) → k ≡ column m → 2 < k → 23 ≡ far_tap m
unfolding far_tap
tap_23 m k e h = mode_long 7 23 m k e h
