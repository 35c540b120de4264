-- Descrambling: the marks stand in front, the scrambler is undone, and what the functions compute of a group. Assumes nothing.
use Prim.Native.Nat.{ℕ, zero, suc, ◌+◌, ◌*◌, ◌-◌, ◌^◌, ◌/◌, ◌%◌, ◌<◌, ◌≤◌, min}
use mathlib.Core.Path.{◌≡◌, refl, sym, ◌∙◌, ap, ap₂, subst, subst⁻¹}
use mathlib.Core.Bool.{Bool, true, false, cond}
use mathlib.Core.List.{List, [], ◌∷◌, ◌++◌}
use native.Mathlib.Nat.{mod-le, mod-lt, mod-eq_of_lt, mul_assoc, mul-add-mod_self_right, sub-zero}
use native.Mathlib.Decide.{dec_le}
use native.Mathlib.Omega.{arith}
use borrow.Author.Tests.{le-leb, lt-leb, ltb-false}
use lib.Dec.{T, leb, ltb, ltb→lt, lt→ltb}
use lib.ListN.{length}
use lib.Bits.{bit_xor, xor_lt, xor_zero_r}
use lib.Pow.{pow_pos, pow-add}
use Rattle.line.specs.Table.{every}
use Rattle.line.specs.Mode.{column, by_mode, width, far_tap, guarded, capacity}
use Rattle.line.proofs.TableLaws.{and_left, and_right, and_intro}
use Rattle.line.proofs.ByMode.{column-low, column-most, same-column, by_all, width_range, kept_guarded, kept_plain}
use Rattle.scrambler.specs.declared.Register.{Register}
use Rattle.scrambler.specs.declared.Scrambled.{Scrambled}
use Rattle.scrambler.specs.declared.Descrambled.{Descrambled}
use Rattle.scrambler.specs.Bits.{is_bit, bits, value}
use Rattle.scrambler.specs.Register.{register, back, near_tap, counting, inverting, differs, count_after, push, pushes}
use Rattle.scrambler.specs.Scramble.{mix, scramble, Datum, unsettled, settled, mark, descramble}
use Rattle.scrambler.specs.Group.{scrambled, guard_mode, plain_of, unsettled_in, descrambled, marked}
use Rattle.scrambler.specs.Laws.{Unscrambled, ZerosSent}
use Rattle.scrambler.specs.Windows.{mixed_at_once, differ_at_once, inversion, counted, inversions, count_over}
use Rattle.scrambler.proofs.BitLaws.{length-bits, value-bits, value_small, bits-value}
use Rattle.scrambler.proofs.RegisterLaws.{same-register, push-group, full_push, plain_count}
use Rattle.scrambler.proofs.GuardLaws.{last_bits}
use Rattle.scrambler.proofs.WindowLaws.{mix_small, unmixed, bits-inversions, inverted, scramble_at_once, unmixed_at_once}

-- lengths, and bits that are bits
pub length-scramble : (m role : ℕ) (h : Register) (ds : List ℕ) → length (scramble m role h ds) ≡ length ds
length-scramble m role h [] = refl
length-scramble m role h (d ∷ ds) = ap suc (length-scramble m role (push m h (mix m role h d)) ds)

pub bits-scramble : (m role : ℕ) (h : Register) (ds : List ℕ) → T (every is_bit (scramble m role h ds))
unfolding is_bit
bits-scramble m role h [] = tt
bits-scramble m role h (d ∷ ds) =
    and_intro (ltb (mix m role h d) 2) _ (lt→ltb _ 2 (mix_small m role h d)) (bits-scramble m role (push m h (mix m role h d)) ds)

length_unmixed : (m role : ℕ) (h : Register) (bs : List ℕ) → length (unmixed m role h bs) ≡ length bs
length_unmixed m role h [] = refl
length_unmixed m role h (b ∷ bs) = ap suc (length_unmixed m role (push m h b) bs)

bits_unmixed : (m role : ℕ) (h : Register) (bs : List ℕ) → T (every is_bit (unmixed m role h bs))
unfolding is_bit
bits_unmixed m role h [] = tt
bits_unmixed m role h (b ∷ bs) =
    and_intro (ltb (mix m role h b) 2) _ (lt→ltb _ 2 (mix_small m role h b)) (bits_unmixed m role (push m h b) bs)

-- THE SCRAMBLER IS UNDONE

mix-mix : (m role : ℕ) (h : Register) (d : ℕ) → d < 2 → mix m role h (mix m role h d) ≡ d
unfolding mix
mix-mix m role h d p = omega arith

pub unscramble : Unscrambled
unfolding is_bit
unscramble m role h [] p t = refl
unscramble m role h (d ∷ ds) p t =
    rw (
      le-leb (capacity m) h.held.0 p,
      mix-mix m role h d (ltb→lt d 2 (and_left (ltb d 2) (every is_bit ds) t)),
      unscramble m role (push m h (mix m role h d)) ds (full_push m h (mix m role h d) p) (and_right (ltb d 2) (every is_bit ds) t),
    )

pub descramble_append : (m role : ℕ) (h : Register) (cs bs : List ℕ)
    → descramble m role h (cs ++ bs) ≡ descramble m role h cs ++ descramble m role (pushes m h cs) bs
descramble_append m role h [] bs = refl
descramble_append m role h (c ∷ cs) bs =
    ap (λ (t : List Datum). mark (leb (capacity m) h.held.0) (mix m role h c) ∷ t) (descramble_append m role (push m h c) cs bs)

pub length-descramble : (m role : ℕ) (h : Register) (bs : List ℕ) → length (descramble m role h bs) ≡ length bs
length-descramble m role h [] = refl
length-descramble m role h (b ∷ bs) = ap suc (length-descramble m role (push m h b) bs)

-- THE MARKS STAND IN FRONT

held-push : (m : ℕ) (h : Register) (b : ℕ) → (push m h b).held.0 ≡ min (h.held.0 + 1) (capacity m)
unfolding push
held-push m h b = refl

marked_unmixed : (m role u : ℕ) (h : Register) (bs : List ℕ) → capacity m - h.held.0 ≡ u → descramble m role h bs ≡ marked u (unmixed m role h bs)
marked_unmixed m role u h [] e = refl
marked_unmixed m role zero h (b ∷ bs) e =
    rw (le-leb (capacity m) h.held.0 (omega arith))
    (ap (λ (t : List Datum). settled (mix m role h b) ∷ t) (marked_unmixed m role zero (push m h b) bs (omega (arith, held-push m h b))))
marked_unmixed m role (suc u) h (b ∷ bs) e =
    rw (lt-leb (capacity m) h.held.0 (omega arith))
    (ap (λ (t : List Datum). unsettled ∷ t) (marked_unmixed m role u (push m h b) bs (omega (arith, held-push m h b))))

pub length_marked : (u : ℕ) (bs : List ℕ) → length (marked u bs) ≡ length bs
length_marked u [] = refl
length_marked zero (b ∷ bs) = ap suc (length_marked zero bs)
length_marked (suc u) (b ∷ bs) = ap suc (length_marked u bs)

unsettled_marked : (u : ℕ) (bs : List ℕ) → unsettled_in (marked u bs) ≡ min u (length bs)
unsettled_marked u [] = omega arith
unsettled_marked zero (b ∷ bs) = unsettled_marked zero bs ∙ (let e : min 0 (length bs) ≡ min 0 (suc (length bs)) = omega arith in e)
unsettled_marked (suc u) (b ∷ bs) = ap suc (unsettled_marked u bs) ∙ (let e : suc (min u (length bs)) ≡ min (suc u) (suc (length bs)) = omega arith in e)

plain_marked : (u : ℕ) (bs : List ℕ) → T (every is_bit bs) → plain_of (marked u bs) ≡ value bs % 2 ^ (length bs - u)
unfolding is_bit
plain_marked u [] t = sym (mod-eq_of_lt (pow_pos (0 - u)))
plain_marked zero (b ∷ bs) t =
    let ht : T (every is_bit bs) = and_right (ltb b 2) (every is_bit bs) t in
    let v : value (b ∷ bs) < 2 ^ length (b ∷ bs) = value_small (b ∷ bs) t in
    let i : plain_of (marked zero bs) ≡ value bs = plain_marked zero bs ht ∙ ap (λ (n : ℕ). value bs % 2 ^ n) (let e : length bs - 0 ≡ length bs = omega arith in e) ∙ mod-eq_of_lt (value_small bs ht) in
    ap₂ (λ (n k : ℕ). b * 2 ^ n + k) (length_marked zero bs) i ∙ sym (mod-eq_of_lt v)
    ∙ ap (λ (n : ℕ). value (b ∷ bs) % 2 ^ n) (let e : suc (length bs) ≡ suc (length bs) - 0 = omega arith in e)
plain_marked (suc u) (b ∷ bs) t =
    let ht : T (every is_bit bs) = and_right (ltb b 2) (every is_bit bs) t in
    plain_marked u bs ht
    ∙ rest u b bs (value_small bs ht)
  where
    rest : (u b : ℕ) (bs : List ℕ) → value bs < 2 ^ length bs → value bs % 2 ^ (length bs - u) ≡ (b * 2 ^ length bs + value bs) % 2 ^ (suc (length bs) - suc u)
    rest u b bs v =
        let k : ℕ = length bs - u in
        let e : length bs ≡ length bs - k + k = omega arith in
        let f : suc (length bs) - suc u ≡ k = omega arith in
        let p : b * 2 ^ length bs ≡ b * 2 ^ (length bs - k) * 2 ^ k =
        ap (λ (n : ℕ). b * 2 ^ n) e ∙ ap (λ (n : ℕ). b * n) (pow-add 2 (length bs - k) k) ∙ sym (mul_assoc b (2 ^ (length bs - k)) (2 ^ k)) in
        sym (mul-add-mod_self_right (b * 2 ^ (length bs - k)) (2 ^ k) (value bs))
        ∙ ap₂ (λ (x n : ℕ). (x + value bs) % 2 ^ n) (sym p) (sym f)

-- the numbers give the bits and marks back
read_marked : (u : ℕ) (bs : List ℕ) → T (every is_bit bs) → marked (unsettled_in (marked u bs)) (bits (length bs) (plain_of (marked u bs))) ≡ marked u bs
unfolding is_bit
read_marked u [] t = refl
read_marked zero (b ∷ bs) t =
    let n : unsettled_in (marked zero (b ∷ bs)) ≡ 0 = unsettled_marked zero (b ∷ bs) ∙ (let e : min 0 (suc (length bs)) ≡ 0 = omega arith in e) in
    let p : plain_of (marked zero (b ∷ bs)) ≡ value (b ∷ bs) =
    plain_marked zero (b ∷ bs) t ∙ ap (λ (k : ℕ). value (b ∷ bs) % 2 ^ k) (let e : suc (length bs) - 0 ≡ suc (length bs) = omega arith in e)
    ∙ mod-eq_of_lt (value_small (b ∷ bs) t) in
    ap₂ (λ (i j : ℕ). marked i (bits (suc (length bs)) j)) n p ∙ ap (marked zero) (bits-value (b ∷ bs) t)
read_marked (suc u) (b ∷ bs) t =
    ap (λ (ds : List Datum). unsettled ∷ ds) (read_marked u bs (and_right (ltb b 2) (every is_bit bs) t))

-- WHAT THE FUNCTIONS COMPUTE

pub mixed_law : (m role n x w a far r : ℕ) → w ≡ width m → a ≡ near_tap m role → far ≡ far_tap m
    → r ≡ bit_xor (bit_xor x (n / 2 ^ (a - w))) (n / 2 ^ (far - w)) % 2 ^ width m → r ≡ mixed_at_once m role n x
unfolding mixed_at_once
mixed_law m role n x w a far r ew ea ef e =
    e ∙ ap₂ (λ (i j : ℕ). bit_xor (bit_xor x (n / 2 ^ i)) (n / 2 ^ j) % 2 ^ width m)
    (ap₂ (λ (i j : ℕ). i - j) ea ew) (ap₂ (λ (i j : ℕ). i - j) ef ew)

same-mix : (k m role n g : ℕ) → width k ≡ width m → near_tap k role ≡ near_tap m role → far_tap k ≡ far_tap m → mixed_at_once k role n g ≡ mixed_at_once m role n g
unfolding mixed_at_once
same-mix k m role n g ew en ef = rw (ew, en, ef)

pub small_column : (m k : ℕ) → k ≡ column m → k ≤ 4
small_column m k e = let l = column-most m in omega arith

-- a mode's column mixes as the mode; k is the column, as the code found it
pub mixed_column : (m k role n g : ℕ) → k ≡ column m → mixed_at_once k role n g ≡ mixed_at_once m role n g
unfolding width near_tap far_tap
mixed_column m k role n g e = same-mix k m role n g (same-column _ _ _ _ m k e) (same-column _ _ _ _ m k e) (same-column _ _ _ _ m k e)

pub width-column : (m k : ℕ) → k ≡ column m → width k ≡ width m
unfolding width
width-column m k e = same-column _ _ _ _ m k e

-- without the guard a mode is its own column
pub plain_column : (m : ℕ) → guarded m ≡ false → column m ≡ m
unfolding guarded
plain_column m g = sym (column-low m (ltb-false 4 m g))

width-suc : (m : ℕ) → suc (width m - 1) ≡ width m
width-suc m = let z = (width_range m).0 in omega arith

-- the line bits that a register holds after a group
pub push_law : (m : ℕ) (h : Register) (g w full low size next held : ℕ) → w ≡ width m → full ≡ capacity m → low ≡ g % 2 ^ width m → size ≡ 2 ^ w
    → next ≡ (h.bits * size + low) % 2 ^ capacity m → held ≡ min (h.held.0 + w) full
    → (next ≡ (pushes m h (bits (width m) g)).bits) × (held ≡ (pushes m h (bits (width m) g)).held.0)
push_law m h g w full low size next held ew ef el es en eh =
    let p : pushes m h (bits (width m) g) ≡ register ((h.bits * 2 ^ width m + g % 2 ^ width m) % 2 ^ capacity m) (min (h.held.0 + width m) (capacity m)) (pushes m h (bits (width m) g)).count.0 =
    subst (λ (k : ℕ). pushes m h (bits k g) ≡ register ((h.bits * 2 ^ k + g % 2 ^ k) % 2 ^ capacity m) (min (h.held.0 + k) (capacity m)) (pushes m h (bits k g)).count.0) (width-suc m) (push-group m h (width m - 1) g) in (
      en ∙ ap₂ (λ (i j : ℕ). (h.bits * i + j) % 2 ^ capacity m) (es ∙ ap (λ (i : ℕ). 2 ^ i) ew) el ∙ ap (λ (k : Register). k.bits) (sym p),
      eh ∙ ap₂ (λ (i j : ℕ). min (h.held.0 + i) j) ew ef ∙ ap (λ (k : Register). k.held.0) (sym p),
    )

-- and without the guard the count after it is zero
pub push_plain : (m : ℕ) (h : Register) (g next held : ℕ) → guarded m ≡ false → (next ≡ (pushes m h (bits (width m) g)).bits) × (held ≡ (pushes m h (bits (width m) g)).held.0)
    → register next held 0 ≡ pushes m h (bits (width m) g)
push_plain m h g next held p e =
    same-register _ _ e.0 e.1
    (subst (λ (k : ℕ). 0 ≡ (pushes m h (bits k g)).count.0) (width-suc m) (sym (plain_count m h (g / 2 ^ (width m - 1) % 2) (bits (width m - 1) g) p)))

-- THE GUARD ALONG A GROUP

-- modes that count alike
like_modes : (m n k c : ℕ) (es : List ℕ) → guarded m ≡ guarded n → capacity m ≡ capacity n
    → (inversions m k c es ≡ inversions n k c es) × (count_over m k c es ≡ count_over n k c es)
like_modes m n k c [] eg ec = (refl, refl)
like_modes m n k c (e ∷ es) eg ec =
    let i = like_modes m n (min (k + 1) (capacity m)) (counted m k c e) es eg ec in
    let ei : inversion m k c ≡ inversion n k c = rw (eg, ec) refl in
    let ek : min (k + 1) (capacity m) ≡ min (k + 1) (capacity n) = ap (min (k + 1)) ec in
    let ed : counted m k c e ≡ counted n k c e = rw (eg, ec) refl in
    (ap₂ ◌∷◌ ei (i.0 ∙ ap₂ (λ (x y : ℕ). inversions n x y es) ek ed), i.1 ∙ ap₂ (λ (x y : ℕ). count_over n x y es) ek ed)

-- with the guard they count as mode 6
as_six : (m : ℕ) → guarded m ≡ true → (guarded m ≡ guarded 6) × (capacity m ≡ capacity 6)
as_six m e = (e ∙ sym six, sym (kept_guarded m e) ∙ kept_guarded 6 six)
  where
    six : guarded 6 ≡ true
    six = unfold guarded in refl

-- the whole of what the guard does to a group of a mode, by the last bits of the group
pub guard_law : (m w k c n y f u d b v r : ℕ) → guarded m ≡ true → w ≡ width m → f ≡ differ_at_once w n y → u ≡ min (12 - k) w → d ≡ f % 2 ^ w % 2 ^ (w - u)
    → b ≡ cond (ltb 0 u) 0 (min c 33) → (v ≡ value (inversions 6 12 b (bits (w - u) d))) × (r ≡ count_over 6 12 b (bits (w - u) d))
    → (v ≡ value (inversions m k c (bits (width m) (differ_at_once (width m) n y)))) × (r ≡ count_over m k c (bits (width m) (differ_at_once (width m) n y)))
guard_law m w k c n y f u d b v r g ew ef eu ed eb p =
    let z = as_six m g in
    let es : List ℕ = bits (width m) (differ_at_once (width m) n y) in
    let e : bits w f ≡ es = ap₂ bits ew (ef ∙ ap (λ (x : ℕ). differ_at_once x n y) ew) in
    let l = like_modes m 6 k c es z.0 z.1 in
    let s = last_bits w k c f u d (let q = width_range m in omega arith) eu ed in (
      p.0 ∙ ap (λ (x : ℕ). value (inversions 6 12 x (bits (w - u) d))) eb ∙ sym s.0 ∙ ap (λ (l : List ℕ). value (inversions 6 k c l)) e ∙ sym (ap value l.0),
      p.1 ∙ ap (λ (x : ℕ). count_over 6 12 x (bits (w - u) d)) eb ∙ sym s.1 ∙ ap (count_over 6 k c) e ∙ sym l.1,
    )

zero_times : (n : ℕ) → 0 * n + 0 ≡ 0
zero_times n = omega arith

-- without the guard nothing is inverted, and the count is zero after a bit
plain_along : (m k c : ℕ) (es : List ℕ) → guarded m ≡ false → (value (inversions m k c es) ≡ 0) × ((e : ℕ) → count_over m k c (e ∷ es) ≡ 0)
plain_along m k c [] g = (refl, λ e. rw g refl)
plain_along m k c (x ∷ xs) g =
    let r : ℕ = min (k + 1) (capacity m) in
    let v = (plain_along m r (counted m k c x) xs g).0 in
    let i : inversion m k c ≡ 0 = rw g refl in (
      ap₂ (λ (b n : ℕ). b * 2 ^ length (inversions m r (counted m k c x) xs) + n) i v ∙ zero_times (2 ^ length (inversions m r (counted m k c x) xs)),
      λ e. (plain_along m r (counted m k c e) xs g).1 x,
    )

pub plain_guard : (m k c f : ℕ) → guarded m ≡ false → (0 ≡ value (inversions m k c (bits (width m) f))) × (0 ≡ count_over m k c (bits (width m) f))
plain_guard m k c f g = (
  sym (plain_along m k c (bits (width m) f) g).0,
  subst (λ (n : ℕ). 0 ≡ count_over m k c (bits n f)) (width-suc m) (sym ((plain_along m k c (bits (width m - 1) f) g).1 (f / 2 ^ (width m - 1) % 2))),
)

-- a group mixed, with its inversions
pub mixed_small : (m role n x : ℕ) → mixed_at_once m role n x < 2 ^ width m
unfolding mixed_at_once
mixed_small m role n x = mod-lt (bit_xor (bit_xor x (n / 2 ^ (near_tap m role - width m))) (n / 2 ^ (far_tap m - width m))) (pow_pos (width m))

inverted_small : (m w : ℕ) (h : Register) (y : ℕ) → inverted m w h y < 2 ^ w
inverted_small m w h y =
    let es : List ℕ = bits w (differ_at_once w h.bits y) in
    let b = bits-inversions m h.held.0 h.count.0 es in
    subst (λ (n : ℕ). inverted m w h y < 2 ^ n) (b.0 ∙ length-bits w (differ_at_once w h.bits y)) (value_small (inversions m h.held.0 h.count.0 es) b.1)

abbrev mixed_with : ℕ → ℕ → Register → ℕ → ℕ → ℕ
mixed_with m role h g y = bit_xor (mixed_at_once m role h.bits g) (inverted m (width m) h y)

with_small : (m role : ℕ) (h : Register) (g y : ℕ) → mixed_with m role h g y < 2 ^ width m
with_small m role h g y = xor_lt (width m) _ _ (mixed_small m role h.bits g) (inverted_small m (width m) h y)

with_value : (m role : ℕ) (h : Register) (g y : ℕ) (l : List ℕ) → l ≡ bits (width m) (mixed_with m role h g y) → value l ≡ mixed_with m role h g y
with_value m role h g y l e = ap value e ∙ value-bits (width m) _ ∙ mod-eq_of_lt (with_small m role h g y)

pub scramble_law : (m role d all inv line : ℕ) (h : Register) (s : Scrambled) (k : ℕ) → all ≡ mixed_at_once m role h.bits d → inv ≡ inverted m (width m) h all → line ≡ bit_xor all inv
    → s.line ≡ line → s.next.bits ≡ (pushes m h (bits (width m) line)).bits → s.next.held.0 ≡ (pushes m h (bits (width m) line)).held.0
    → s.next.count.0 ≡ k → k ≡ count_over m h.held.0 h.count.0 (bits (width m) (differ_at_once (width m) h.bits all))
    → s ≡ scrambled m role h d
unfolding scrambled
scramble_law m role d all inv line h s k ea ei el es eb eh en ec =
    let l : List ℕ = scramble m role h (bits (width m) d) in
    let r = scramble_at_once m role h d in
    let v : line ≡ mixed_with m role h d (mixed_at_once m role h.bits d) = el ∙ ap₂ bit_xor ea (ei ∙ ap (inverted m (width m) h) ea) in
    let b : bits (width m) line ≡ l = ap (bits (width m)) v ∙ sym r.0 in
    let n : s.next ≡ pushes m h l =
    same-register s.next (pushes m h l) (eb ∙ ap (λ (k : List ℕ). (pushes m h k).bits) b) (eh ∙ ap (λ (k : List ℕ). (pushes m h k).held.0) b)
    (en ∙ ec ∙ ap (λ (y : ℕ). count_over m h.held.0 h.count.0 (bits (width m) (differ_at_once (width m) h.bits y))) ea ∙ sym r.1) in
    let w : s.line ≡ value l = es ∙ v ∙ sym (with_value m role h d _ l r.0) in
    λ i. record { line = w i; next = n i }

-- without the guard the group as it is mixed
pub plain_scramble_law : (m role d line : ℕ) (h next : Register) → guarded m ≡ false → line ≡ mixed_at_once m role h.bits d → next ≡ pushes m h (bits (width m) line)
    → ◌≡◌ {A = Scrambled} (record { line = line; next = next }) (scrambled m role h d)
plain_scramble_law m role d line h next g e f =
    let z = plain_guard m h.held.0 h.count.0 (differ_at_once (width m) h.bits line) g in
    let c : (pushes m h (bits (width m) line)).count.0 ≡ 0 =
    subst (λ (k : ℕ). (pushes m h (bits k line)).count.0 ≡ 0) (width-suc m) (plain_count m h (line / 2 ^ (width m - 1) % 2) (bits (width m - 1) line) g) in
    scramble_law m role d line 0 line h (record { line = line; next = next }) 0 e z.0 (sym (xor_zero_r line)) refl
    (ap (λ (k : Register). k.bits) f) (ap (λ (k : Register). k.held.0) f) (ap (λ (k : Register). k.count.0) f ∙ c) z.1

-- the data bits of a group, as the answer has them
module _ (m role : ℕ) (h : Register) (g : ℕ) where
  group_marks : descramble m role h (bits (width m) g) ≡ marked (capacity m - h.held.0) (unmixed m role h (bits (width m) g))
  group_marks = marked_unmixed m role (capacity m - h.held.0) h (bits (width m) g) refl

  group-length : length (unmixed m role h (bits (width m) g)) ≡ width m
  group-length = length_unmixed m role h (bits (width m) g) ∙ length-bits (width m) g

  group_unsettled : unsettled_in (descramble m role h (bits (width m) g)) ≡ min (capacity m - h.held.0) (width m)
  group_unsettled =
      ap unsettled_in group_marks ∙ unsettled_marked (capacity m - h.held.0) (unmixed m role h (bits (width m) g)) ∙ ap (min (capacity m - h.held.0)) group-length

  group_plain : plain_of (descramble m role h (bits (width m) g)) ≡ mixed_with m role h g g % 2 ^ (width m - (capacity m - h.held.0))
  group_plain =
      ap plain_of group_marks ∙ plain_marked (capacity m - h.held.0) (unmixed m role h (bits (width m) g)) (bits_unmixed m role h (bits (width m) g))
      ∙ ap₂ (λ (x k : ℕ). x % 2 ^ (k - (capacity m - h.held.0))) (with_value m role h g g _ (unmixed_at_once m role h g).0) group-length

  pub descramble_law : (w full u all inv plain c : ℕ) (next : Register) → w ≡ width m → full ≡ capacity m → u ≡ min (full - h.held.0) w
      → all ≡ mixed_at_once m role h.bits g → inv ≡ inverted m (width m) h g → plain ≡ bit_xor all inv % 2 ^ (w - u)
      → next.bits ≡ (pushes m h (bits (width m) g)).bits → next.held.0 ≡ (pushes m h (bits (width m) g)).held.0
      → next.count.0 ≡ c → c ≡ count_over m h.held.0 h.count.0 (bits (width m) (differ_at_once (width m) h.bits g))
      → ◌≡◌ {A = Descrambled} (record { plain = plain; unsettled = record { 0 = u }; next = next }) (descrambled m role h g)
  unfolding descrambled
  descramble_law w full u all inv plain c next ew ef eu ea ei ep eb eh en ec =
      let x : u ≡ unsettled_in (descramble m role h (bits (width m) g)) = eu ∙ ap₂ (λ (i j : ℕ). min (i - h.held.0) j) ef ew ∙ sym group_unsettled in
      let k : w - u ≡ width m - (capacity m - h.held.0) = omega arith in
      let y : plain ≡ plain_of (descramble m role h (bits (width m) g)) = ep ∙ ap₂ (λ (i j : ℕ). i % 2 ^ j) (ap₂ bit_xor ea ei) k ∙ sym group_plain in
      let n : next ≡ pushes m h (bits (width m) g) = same-register next _ eb eh (en ∙ ec ∙ sym (unmixed_at_once m role h g).1) in
      λ i. record { plain = y i; unsettled = record { 0 = x i }; next = n i }

  -- without the guard the bits as they are mixed
  pub plain_descramble_law : (w full u all plain : ℕ) (next : Register) → guarded m ≡ false → w ≡ width m → full ≡ capacity m → u ≡ min (full - h.held.0) w
      → all ≡ mixed_at_once m role h.bits g → plain ≡ all % 2 ^ (w - u) → next ≡ pushes m h (bits (width m) g)
      → ◌≡◌ {A = Descrambled} (record { plain = plain; unsettled = record { 0 = u }; next = next }) (descrambled m role h g)
  plain_descramble_law w full u all plain next p ew ef eu ea ep en =
      let z = plain_guard m h.held.0 h.count.0 (differ_at_once (width m) h.bits g) p in
      descramble_law w full u all 0 plain next.count.0 next ew ef eu ea z.0 (ep ∙ ap (λ (x : ℕ). x % 2 ^ (w - u)) (sym (xor_zero_r all)))
      (ap (λ (k : Register). k.bits) en) (ap (λ (k : Register). k.held.0) en) refl (ap (λ (k : Register). k.count.0) en ∙ (unmixed_at_once m role h g).1)

  -- a group's marks and data bits are read back from the numbers
  pub group_read : marked (unsettled_in (descramble m role h (bits (width m) g))) (bits (width m) (plain_of (descramble m role h (bits (width m) g)))) ≡ descramble m role h (bits (width m) g)
  group_read =
      subst (λ (ds : List Datum). marked (unsettled_in ds) (bits (width m) (plain_of ds)) ≡ ds) (sym group_marks)
      (subst (λ (w : ℕ). marked (unsettled_in ds₀) (bits w (plain_of ds₀)) ≡ ds₀) group-length
      (read_marked (capacity m - h.held.0) (unmixed m role h (bits (width m) g)) (bits_unmixed m role h (bits (width m) g))))
    where
      ds₀ : List Datum
      ds₀ = marked (capacity m - h.held.0) (unmixed m role h (bits (width m) g))

-- a group's numbers are small, so that one byte holds both
pub descrambled_small : (m role : ℕ) (h : Register) (g : ℕ) → ((descrambled m role h g).plain < 16) × ((descrambled m role h g).unsettled.0 ≤ 4)
unfolding descrambled width
descrambled_small m role h g =
    let p = group_plain m role h g in
    let u = group_unsettled m role h g in
    let w : 2 ^ width m ≤ 16 = by_all (λ (k : ℕ). 2 ^ k ≤ 16) 2 3 2 4 (omega arith) (omega arith) (omega arith) (omega arith) m in
    let a = with_small m role h g g in
    let b = mod-le (mixed_with m role h g g) (2 ^ (width m - (capacity m - h.held.0))) in
    let r = (width_range m).1 in
    (omega arith, omega arith)

-- the mixed bits are no more than w
pub all_small : (m role : ℕ) (h : Register) (g w all inv : ℕ) → w ≡ width m → all ≡ mixed_at_once m role h.bits g → inv ≡ inverted m (width m) h g → bit_xor all inv < 2 ^ w
all_small m role h g w all inv ew ea ei =
    subst⁻¹ (λ (k : ℕ). bit_xor all inv < 2 ^ k) ew (subst⁻¹ (λ (x : ℕ). x < 2 ^ width m) (ap₂ bit_xor ea ei) (with_small m role h g g))

-- a group after a full register
module _ (m role n c g : ℕ) where
  pub full_law : (w full low size next all inv count : ℕ) → w ≡ width m → full ≡ capacity m → low ≡ g % 2 ^ width m → size ≡ 2 ^ w → next ≡ (n * size + low) % 2 ^ capacity m
      → all ≡ mixed_at_once m role n g → inv ≡ value (inversions m full c (bits (width m) (differ_at_once (width m) n g)))
      → count ≡ count_over m full c (bits (width m) (differ_at_once (width m) n g))
      → ◌≡◌ {A = Descrambled} (record { plain = bit_xor all inv; unsettled = record { 0 = 0 }; next = register next full count }) (descrambled m role (register n (capacity m) c) g)
  full_law w full low size next all inv count ew ef el es en ea ei ec =
      let h : Register = register n (capacity m) c in
      let fs : List ℕ = bits (width m) (differ_at_once (width m) n g) in
      let ei' : inv ≡ inverted m (width m) h g = ei ∙ ap (λ (k : ℕ). value (inversions m k c fs)) ef in
      let small : bit_xor all inv < 2 ^ (w - 0) = subst⁻¹ (λ (k : ℕ). bit_xor all inv < 2 ^ k) (sub-zero w) (all_small m role h g w all inv ew ea ei') in
      let u : 0 ≡ min (full - capacity m) w = omega arith in
      let k : full ≡ min (capacity m + w) full = omega arith in
      let p = push_law m h g w full low size next full ew ef el es en k in
      descramble_law m role h g w full 0 all inv (bit_xor all inv) count (register next full count) ew ef u ea ei' (sym (mod-eq_of_lt small)) p.0 p.1 refl (ec ∙ ap (λ (k : ℕ). count_over m k c fs) ef)

  -- the same without the guard
  pub plain_full_law : (w full low size next all : ℕ) → guarded m ≡ false → w ≡ width m → full ≡ capacity m → low ≡ g % 2 ^ width m → size ≡ 2 ^ w → next ≡ (n * size + low) % 2 ^ capacity m
      → all ≡ mixed_at_once m role n g
      → ◌≡◌ {A = Descrambled} (record { plain = all; unsettled = record { 0 = 0 }; next = register next full 0 }) (descrambled m role (register n (capacity m) c) g)
  plain_full_law w full low size next all p ew ef el es en ea =
      let z = plain_guard m full c (differ_at_once (width m) n g) p in
      ap (λ (x : ℕ). record { plain = x; unsettled = record { 0 = 0 }; next = register next full 0 }) (sym (xor_zero_r all))
      ∙ full_law w full low size next all 0 0 ew ef el es en ea z.0 z.1

  -- the same as one value, and that its data bits are settled and the register stays full
  full_group : Descrambled
  full_group =
      record {
        plain = bit_xor (mixed_at_once m role n g) (value (inversions m (capacity m) c (bits (width m) (differ_at_once (width m) n g))));
        unsettled = record { 0 = 0 };
        next = register ((n * 2 ^ width m + g % 2 ^ width m) % 2 ^ capacity m) (capacity m) (count_over m (capacity m) c (bits (width m) (differ_at_once (width m) n g)));
      }

  full_whole : full_group ≡ descrambled m role (register n (capacity m) c) g
  unfolding full_group
  full_whole = full_law (width m) (capacity m) _ _ _ _ _ _ refl refl refl refl refl refl refl refl

  pub after_full : ((descrambled m role (register n (capacity m) c) g).unsettled.0 ≡ 0) × ((descrambled m role (register n (capacity m) c) g).next.held.0 ≡ capacity m)
  unfolding full_group
  after_full = (sym (ap (λ (d : Descrambled). d.unsettled.0) full_whole), sym (ap (λ (d : Descrambled). d.next.held.0) full_whole))

-- two modes that read one column and both count, or both do not, descramble alike
like_law : (k m role n c g : ℕ) → guarded k ≡ guarded m → ((x y z w : ℕ) → by_mode k x y z w ≡ by_mode m x y z w)
    → descrambled k role (register n (capacity k) c) g ≡ descrambled m role (register n (capacity m) c) g
unfolding full_group width far_tap near_tap capacity
like_law k m role n c g eg read =
    let ew : width k ≡ width m = read 2 3 2 4 in
    let ef : far_tap k ≡ far_tap m = read 7 7 23 23 in
    let ec : capacity k ≡ capacity m = ap₂ (λ (t : Bool) (r : ℕ). cond t 12 r) eg ef in
    let ei : (full_group k role n c g).plain ≡ (full_group m role n c g).plain =
    ap₂ bit_xor (same-mix k m role n g ew (read 6 6 _ _) ef)
    (ap₂ (λ (w r : ℕ). value (inversions k r c (bits w (differ_at_once w n g)))) ew ec ∙ ap value (like_modes k m (capacity m) c (bits (width m) (differ_at_once (width m) n g)) eg ec).0) in
    let en : (full_group k role n c g).next ≡ (full_group m role n c g).next =
    same-register _ _ (ap₂ (λ (w r : ℕ). (n * 2 ^ w + g % 2 ^ w) % 2 ^ r) ew ec) ec
    (ap₂ (λ (w r : ℕ). count_over k r c (bits w (differ_at_once w n g))) ew ec ∙ (like_modes k m (capacity m) c (bits (width m) (differ_at_once (width m) n g)) eg ec).1) in
    sym (full_whole k role n c g) ∙ (λ i. record { plain = ei i; unsettled = record { 0 = 0 }; next = en i }) ∙ full_whole m role n c g

-- so a mode with the guard as the one that it counts as
pub counted_law : (m role n c g : ℕ) (d : Descrambled) → guarded m ≡ true → d ≡ descrambled (guard_mode m) role (register n (capacity (guard_mode m)) c) g
    → d ≡ descrambled m role (register n (capacity m) c) g
unfolding guarded
counted_law m role n c g d p e = go (dec_le m 5)
  where
    above : 4 < m
    above = ltb→lt 4 m (subst T (sym p) tt)

    go : Dec (m ≤ 5) → d ≡ descrambled m role (register n (capacity m) c) g
    go (yes h) = e ∙ ap (λ (k : ℕ). descrambled k role (register n (capacity k) c) g) (let f : m ≡ 5 = (let a = above in omega arith) in rw f refl)
    go (no h) =
        let a = above in
        e ∙ ap (λ (k : ℕ). descrambled k role (register n (capacity k) c) g) (let f : guard_mode m ≡ 6 = rw (lt-leb m 5 (omega (arith, h))) refl in f)
        ∙ like_law 6 m role n c g (sym p) (λ x y z w. rw (lt-leb m 4 (omega arith), lt-leb m 5 (omega (arith, h))) refl)

-- two modes of one column, without the guard, descramble alike, whatever is counted
pub column_law : (k m role n c g : ℕ) (d : Descrambled) → d ≡ descrambled k role (register n (capacity k) 0) g → guarded k ≡ false → guarded m ≡ false
    → ((x y z w : ℕ) → by_mode k x y z w ≡ by_mode m x y z w) → d ≡ descrambled m role (register n (capacity m) c) g
unfolding full_group width far_tap near_tap
column_law k m role n c g d e gk gm read =
    let ew : width k ≡ width m = read 2 3 2 4 in
    let ef : far_tap k ≡ far_tap m = read 7 7 23 23 in
    let en : near_tap k role ≡ near_tap m role = read 6 6 _ _ in
    let ec : capacity k ≡ capacity m = sym (kept_plain k gk) ∙ ef ∙ kept_plain m gm in
    let pk = plain_guard k (capacity k) 0 (differ_at_once (width k) n g) gk in
    let pm = plain_guard m (capacity m) c (differ_at_once (width m) n g) gm in
    let x : mixed_at_once k role n g ≡ mixed_at_once m role n g = same-mix k m role n g ew en ef in
    let y : ℕ → ℕ → ℕ = λ w r. (n * 2 ^ w + g % 2 ^ w) % 2 ^ r in
    let plain : (full_group k role n 0 g).plain ≡ (full_group m role n c g).plain = ap₂ bit_xor x (sym pk.0 ∙ pm.0) in
    let next : (full_group k role n 0 g).next ≡ (full_group m role n c g).next =
    same-register _ _ (ap₂ y ew ec) ec (sym pk.1 ∙ pm.1) in
    e ∙ sym (full_whole k role n 0 g) ∙ (λ i. record { plain = plain i; unsettled = record { 0 = 0 }; next = next i }) ∙ full_whole m role n c g

-- and without the guard as the column, whatever is counted
pub next_law : (m role n c g : ℕ) (d : Descrambled) → d ≡ descrambled (column m) role (register n (capacity (column m)) 0) g → guarded m ≡ false
    → d ≡ descrambled m role (register n (capacity m) c) g
next_law m role n c g d e p =
    column_law m m role n c g d (e ∙ ap (λ (k : ℕ). descrambled k role (register n (capacity k) 0) g) (plain_column m p)) p p (λ x y z w. refl)

-- without the guard, after any register: the bits as after a full one, of the data bits the first ones unsettled
pub fill_law : (m role n h c k g : ℕ) → guarded m ≡ false
    → ◌≡◌ {A = Descrambled}
    (descrambled m role (register n h k) g)
    (record {
      plain = (descrambled m role (register n (capacity m) c) g).plain % 2 ^ (width m - min (capacity m - h) (width m));
      unsettled = record { 0 = min (capacity m - h) (width m) };
      next = register (descrambled m role (register n (capacity m) c) g).next.bits (min (h + width m) (capacity m)) (descrambled m role (register n (capacity m) c) g).next.count.0;
    })
fill_law m role n h c k g p =
    sym (plain_descramble_law m role (register n h k) g (width m) (capacity m) _ _ _ _ p refl refl refl refl refl
    (push_plain m (register n h k) g _ _ p (push_law m (register n h k) g (width m) (capacity m) _ _ _ _ refl refl refl refl refl refl)))
    ∙ ap (λ (d : Descrambled). record {
      plain = d.plain % 2 ^ (width m - min (capacity m - h) (width m));
      unsettled = record { 0 = min (capacity m - h) (width m) };
      next = register d.next.bits (min (h + width m) (capacity m)) d.next.count.0;
    })
    (plain_full_law m role n c g (width m) (capacity m) _ _ _ _ p refl refl refl refl refl refl)

pub zeros-sent : ZerosSent
unfolding far_tap guarded capacity back near_tap counting inverting differs count_after push mix
zeros-sent = (refl, refl)
