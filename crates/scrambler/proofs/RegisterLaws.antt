-- The register: what it holds, what a group pushes into it, and that R equal line bits make two registers one. Assumes nothing.
use Prim.Native.Nat.{ℕ, zero, suc, ◌+◌, ◌*◌, ◌-◌, ◌^◌, ◌/◌, ◌%◌, ◌<◌, ◌≤◌, min}
use mathlib.Core.Path.{◌≡◌, refl, sym, ◌∙◌, ap, ap₂, subst}
use mathlib.Core.Bool.{Bool, true, false, ◌&&◌, ◌||◌, not, cond, false≢true}
use mathlib.Core.List.{List, [], ◌∷◌, ◌++◌}
use native.Mathlib.Nat.{mod-lt, mod-le, mod-eq_of_lt, div-add-mod', mul-add-mod_self_right, add-mod, pow-le-pow_right, le_trans, two-pow-succ, div-eq_of_lt}
use native.Mathlib.Omega.{arith}
use native.Mathlib.Decide.{dec_le, dec_lt}
use borrow.Author.Tests.{le-leb, lt-leb, lt-ltb, le-ltb, eq-eqb, ne_eqb}
use lib.Dec.{T, leb, ltb, eqb, ltb→lt, leb→le, lt→ltb, le→leb, lit<}
use lib.ListN.{length, get_or}
use lib.Pow.{pow_pos, mod-mod-pow}
use Rattle.line.specs.Table.{every}
use Rattle.line.specs.Mode.{guarded, capacity}
use Rattle.line.proofs.TableLaws.{and_left, and_right, and_intro}
use Rattle.line.proofs.ByMode.{capacity_range, kept_guarded}
use Rattle.scrambler.specs.declared.Register.{Register}
use Rattle.scrambler.specs.Bits.{is_bit, bits}
use Rattle.scrambler.specs.Register.{register, fresh, back, counting, differs, count_after, push, pushes, register_ok}
use Rattle.scrambler.specs.Laws.{newest_first, Holds, RegisterHolds, SameAfter, SameAfterReset}
use Rattle.scrambler.proofs.BitLaws.{bit, bit_mod, bit_double, bit_new, mod_suc_pow}

pub same-register : (h h' : Register) → h.bits ≡ h'.bits → h.held.0 ≡ h'.held.0 → h.count.0 ≡ h'.count.0 → h ≡ h'
same-register h h' e f g = λ i. record { bits = e i; held = record { 0 = f i }; count = record { 0 = g i } }

-- A GROUP AT ONCE

mod_scale : (x c y n : ℕ) → (x % n * c + y) % n ≡ (x * c + y) % n
mod_scale x c y n =
    let e : x * c + y ≡ x / n * c * n + (x % n * c + y) = omega (arith, ap (λ (z : ℕ). z * c) (sym (div-add-mod' x n))) in
    sym (ap (λ (z : ℕ). z % n) e ∙ mul-add-mod_self_right (x / n * c) n (x % n * c + y))

pub push-group : (m : ℕ) (h : Register) (n g : ℕ)
    → pushes m h (bits (suc n) g)
    ≡ register ((h.bits * 2 ^ suc n + g % 2 ^ suc n) % 2 ^ capacity m) (min (h.held.0 + suc n) (capacity m)) (pushes m h (bits (suc n) g)).count.0
unfolding push
push-group m h zero g =
    same-register _ _ (let e : h.bits * 2 + g / 2 ^ 0 % 2 ≡ h.bits * 2 ^ 1 + g % 2 ^ 1 = omega arith in ap (λ (x : ℕ). x % 2 ^ capacity m) e) refl refl
push-group m h (suc n) g =
    let b : ℕ = bit (suc n) g in
    let k : ℕ = 2 ^ suc n in
    let x : ℕ = h.bits in
    let e : (x * 2 + b) * k + g % k ≡ x * 2 ^ suc (suc n) + g % 2 ^ suc (suc n) =
    omega (arith, mod_suc_pow (suc n) g, ap (λ (z : ℕ). x * z) (two-pow-succ (suc n))) in
    push-group m (push m h b) n g
    ∙ same-register _ _ (mod_scale (x * 2 + b) k (g % k) (2 ^ capacity m) ∙ ap (λ (z : ℕ). z % 2 ^ capacity m) e)
    (let z = (capacity_range m).0 in let q : min (min (h.held.0 + 1) (capacity m) + suc n) (capacity m) ≡ min (h.held.0 + suc (suc n)) (capacity m) = omega arith in q)
    refl

-- WHAT IT HOLDS

back-push : (m : ℕ) (h : Register) (b k : ℕ) → b < 2 → suc k < capacity m → back (suc (suc k)) (push m h b) ≡ back (suc k) h
unfolding back push
back-push m h b k hb hk =
    let e : suc (suc k) - 1 ≡ suc k = omega arith in
    let f : suc k - 1 ≡ k = omega arith in
    ap (λ (j : ℕ). bit j ((h.bits * 2 + b) % 2 ^ capacity m)) e
    ∙ bit_mod (suc k) (capacity m) (h.bits * 2 + b) hk
    ∙ bit_double k h.bits b hb
    ∙ ap (λ (j : ℕ). bit j h.bits) (sym f)

back_new : (m : ℕ) (h : Register) (b : ℕ) → b < 2 → back 1 (push m h b) ≡ b
unfolding back push
back_new m h b hb = bit_mod 0 (capacity m) (h.bits * 2 + b) (let z = (capacity_range m).0 in omega arith) ∙ bit_new h.bits b hb

holds_push : (m : ℕ) (h : Register) (b : ℕ) (newest : List ℕ) → b < 2 → Holds m h newest → Holds m (push m h b) (b ∷ newest)
holds_push m h b newest hb p =
    record {
      at = places;
      count = unfold push in (let z = p.count in let y : min (h.held.0 + 1) (capacity m) ≡ min (suc (length newest)) (capacity m) = omega arith in y);
    }
  where
    places : (k : ℕ) → 1 ≤ k → k ≤ capacity m → back k (push m h b) ≡ get_or (b ∷ newest) (k - 1) 0
    places zero l r = absurd (omega arith)
    places (suc zero) l r = back_new m h b hb
    places (suc (suc k)) l r =
        back-push m h b k hb r ∙ p.at (suc k) (omega arith) (omega arith)
        ∙ ap (λ (j : ℕ). get_or newest j 0) (let e : suc k - 1 ≡ k = omega arith in e)
        ∙ ap (λ (j : ℕ). get_or (b ∷ newest) j 0) (let e : suc k ≡ suc (suc k) - 1 = omega arith in e)

holds_pushes : (m : ℕ) (h : Register) (bs newest : List ℕ) → T (every is_bit bs) → Holds m h newest → Holds m (pushes m h bs) (newest_first newest bs)
unfolding is_bit
holds_pushes m h [] newest t p = p
holds_pushes m h (b ∷ bs) newest t p =
    holds_pushes m (push m h b) bs (b ∷ newest) (and_right (ltb b 2) (every is_bit bs) t)
    (holds_push m h b newest (ltb→lt b 2 (and_left (ltb b 2) (every is_bit bs) t)) p)

pub register_holds : RegisterHolds
register_holds m bs t =
    holds_pushes m fresh bs [] t
    (record { at = λ k l r. unfold back in (omega_zero (2 ^ (k - 1)) (pow_pos (k - 1))); count = let z = (capacity_range m).0 in omega arith })
  where
    omega_zero : (n : ℕ) → 0 < n → 0 / n % 2 ≡ 0
    omega_zero n h = ap (λ (x : ℕ). x % 2) (div-eq_of_lt h)

-- WHAT NUMBER 4 ASKS

-- the greatest count, by the test that the code makes
pub guarded_limit : (m k limit : ℕ) → guarded m ≡ true → limit ≡ cond (leb 12 k) 33 0 → limit ≡ cond (guarded m && leb (capacity m) k) 33 0
guarded_limit m k limit g e = rw (g, sym (kept_guarded m g)) e

pub ok_law : (m : ℕ) (h : Register) (full limit : ℕ) → full ≡ capacity m → h.held.0 ≤ full → limit ≡ cond (guarded m && leb (capacity m) h.held.0) 33 0
    → eqb (h.bits / 2 ^ h.held.0) 0 && leb h.count.0 limit ≡ register_ok m h
unfolding register_ok counting
ok_law m h full limit e l f =
    ap₂ (λ (t : Bool) (n : ℕ). t && leb h.count.0 n)
    (below h.bits (2 ^ h.held.0) (pow_pos h.held.0)
    ∙ ap (λ (t : Bool). t && ltb h.bits (2 ^ h.held.0)) (sym (le-leb h.held.0 (capacity m) (omega arith)))) f
  where
    below : (x p : ℕ) → 0 < p → eqb (x / p) 0 ≡ ltb x p
    below x p q = go (dec_lt x p)
      where
        go : Dec (x < p) → eqb (x / p) 0 ≡ ltb x p
        go (yes h) = eq-eqb (x / p) 0 (div-eq_of_lt h) ∙ sym (lt-ltb x p h)
        go (no h) =
            ne_eqb (x / p) 0 (λ z. h (let s = div-add-mod' x p in let r = mod-lt x q in let y : x / p * p ≡ 0 * p = ap (λ (n : ℕ). n * p) z in omega arith))
            ∙ sym (le-ltb x p (omega (arith, h)))

-- without the guard the count is zero
pub plain_ok_law : (m : ℕ) (h : Register) (full : ℕ) → full ≡ capacity m → h.held.0 ≤ full → guarded m ≡ false
    → eqb (h.bits / 2 ^ h.held.0) 0 && eqb h.count.0 0 ≡ register_ok m h
plain_ok_law m h full e l g =
    ap (λ (t : Bool). eqb (h.bits / 2 ^ h.held.0) 0 && t) (nothing h.count.0) ∙ ok_law m h full 0 e l (rw g refl)
  where
    nothing : (c : ℕ) → eqb c 0 ≡ leb c 0
    nothing zero = refl
    nothing (suc c) = ne_eqb (suc c) 0 (λ z. omega arith) ∙ sym (lt-leb (suc c) 0 (omega arith))

pub not_ok_law : (m : ℕ) (h : Register) (full : ℕ) → full ≡ capacity m → full < h.held.0 → false ≡ register_ok m h
unfolding register_ok
not_ok_law m h full e l = ap (λ (t : Bool). (t && ltb h.bits (2 ^ h.held.0)) && leb h.count.0 (cond (counting m h) 33 0)) (sym (lt-leb h.held.0 (capacity m) (omega arith)))

-- a register that number 4 lets pass
pub record Ok (m : ℕ) (h : Register) : Type 0 where
  pub small : h.bits < 2 ^ h.held.0
  pub most : h.held.0 ≤ capacity m
  pub counts : h.count.0 ≤ cond (counting m h) 33 0

pub ok : (m : ℕ) (h : Register) → T (register_ok m h) → Ok m h
unfolding register_ok
ok m h t =
    let a : Bool = leb h.held.0 (capacity m) in
    let b : Bool = ltb h.bits (2 ^ h.held.0) in
    let u : T (a && b) = and_left (a && b) (leb h.count.0 (cond (counting m h) 33 0)) t in
    record {
      small = ltb→lt _ _ (and_right a b u);
      most = leb→le _ _ (and_left a b u);
      counts = leb→le _ _ (and_right (a && b) (leb h.count.0 (cond (counting m h) 33 0)) t);
    }

pub passes : (m : ℕ) (h : Register) → Ok m h → T (register_ok m h)
unfolding register_ok
passes m h p =
    and_intro (leb h.held.0 (capacity m) && ltb h.bits (2 ^ h.held.0)) _
    (and_intro (leb h.held.0 (capacity m)) _ (le→leb _ _ p.most) (lt→ltb _ _ p.small)) (le→leb _ _ p.counts)

zero-le : (n : ℕ) → 0 ≤ n
zero-le n = omega arith

pub ok_fresh : (m : ℕ) → Ok m fresh
ok_fresh m = record { small = omega arith; most = omega arith; counts = zero-le (cond (counting m fresh) 33 0) }

-- the count after a line bit is at most 33, and zero where the guard does not count
count-push : (m : ℕ) (h : Register) (b : ℕ) → (push m h b).count.0 ≤ cond (counting m (push m h b)) 33 0
unfolding push count_after counting
count-push m h b = go (guarded m) (dec_le (capacity m) h.held.0) (dec_le 33 h.count.0)
  where
    go : (a : Bool) → Dec (capacity m ≤ h.held.0) → Dec (33 ≤ h.count.0)
        → cond (a && leb (capacity m) h.held.0) (cond (leb 33 h.count.0 || differs h b) 0 (h.count.0 + 1)) 0
        ≤ cond (a && leb (capacity m) (min (h.held.0 + 1) (capacity m))) 33 0
    go false k c = zero-le 0
    go true (no k) c = rw (lt-leb (capacity m) h.held.0 (omega (arith, k))) (zero-le _)
    go true (yes k) (yes c) = rw (le-leb (capacity m) h.held.0 k, le-leb 33 h.count.0 c) (zero-le _)
    go true (yes k) (no c) =
        rw (le-leb (capacity m) h.held.0 k, lt-leb 33 h.count.0 (omega (arith, c)), le-leb (capacity m) (min (h.held.0 + 1) (capacity m)) (omega arith)) (last (differs h b))
      where
        last : (t : Bool) → cond t 0 (h.count.0 + 1) ≤ 33
        last true = omega arith
        last false = omega (arith, c)

pub ok_push : (m : ℕ) (h : Register) (b : ℕ) → b < 2 → Ok m h → Ok m (push m h b)
ok_push m h b hb p = record { small = unfold push in (go (dec_lt h.held.0 (capacity m))); most = unfold push in (omega arith); counts = count-push m h b }
  where
    go : Dec (h.held.0 < capacity m) → (h.bits * 2 + b) % 2 ^ capacity m < 2 ^ min (h.held.0 + 1) (capacity m)
    go (yes l) =
        let e : min (h.held.0 + 1) (capacity m) ≡ suc h.held.0 = omega arith in
        subst (λ (n : ℕ). (h.bits * 2 + b) % 2 ^ capacity m < 2 ^ n) (sym e)
        (mod_below (h.bits * 2 + b) (2 ^ capacity m) (2 ^ suc h.held.0) (let s = p.small in omega (arith, two-pow-succ h.held.0)))
      where
        mod_below : (n k l : ℕ) → n < l → n % k < l
        mod_below n k l h = let z = mod-le n k in omega arith
    go (no l) =
        let e : min (h.held.0 + 1) (capacity m) ≡ capacity m = omega (arith, l) in
        subst (λ (n : ℕ). (h.bits * 2 + b) % 2 ^ capacity m < 2 ^ n) (sym e) (mod-lt (h.bits * 2 + b) (pow_pos (capacity m)))

pub ok_pushes : (m : ℕ) (h : Register) (bs : List ℕ) → T (every is_bit bs) → Ok m h → Ok m (pushes m h bs)
unfolding is_bit
ok_pushes m h [] t p = p
ok_pushes m h (b ∷ bs) t p =
    ok_pushes m (push m h b) bs (and_right (ltb b 2) (every is_bit bs) t) (ok_push m h b (ltb→lt b 2 (and_left (ltb b 2) (every is_bit bs) t)) p)

-- a register that is full stays full
pub full_push : (m : ℕ) (h : Register) (b : ℕ) → capacity m ≤ h.held.0 → capacity m ≤ (push m h b).held.0
unfolding push
full_push m h b p = omega arith

pub full_pushes : (m : ℕ) (h : Register) (bs : List ℕ) → capacity m ≤ h.held.0 → capacity m ≤ (pushes m h bs).held.0
full_pushes m h [] p = p
full_pushes m h (b ∷ bs) p = full_pushes m (push m h b) bs (full_push m h b p)

-- R EQUAL LINE BITS

-- two registers whose newest k line bits agree, after at least one push
record Agree (m k : ℕ) (h h' : Register) : Type 0 where
  newest : h.bits % 2 ^ k ≡ h'.bits % 2 ^ k
  held : min k (capacity m) ≤ h.held.0
  held' : min k (capacity m) ≤ h'.held.0
  most : h.held.0 ≤ capacity m
  most' : h'.held.0 ≤ capacity m
  small : h.bits < 2 ^ capacity m
  small' : h'.bits < 2 ^ capacity m

mod_double : (k x : ℕ) → (x * 2) % 2 ^ suc k ≡ x % 2 ^ k * 2
mod_double k x =
    let q : ℕ = x / 2 ^ k in
    let r : ℕ = x % 2 ^ k in
    let l : r < 2 ^ k = mod-lt x (pow_pos k) in
    let e : x ≡ q * 2 ^ k + r = sym (div-add-mod' x (2 ^ k)) in
    let f : x * 2 ≡ q * 2 ^ suc k + r * 2 = omega (arith, ap (λ (n : ℕ). q * n) (two-pow-succ k)) in
    ap (λ (n : ℕ). n % 2 ^ suc k) f ∙ mul-add-mod_self_right q (2 ^ suc k) (r * 2) ∙ mod-eq_of_lt (omega (arith, two-pow-succ k))

agree_double : (k x x' b : ℕ) → x % 2 ^ k ≡ x' % 2 ^ k → (x * 2 + b) % 2 ^ suc k ≡ (x' * 2 + b) % 2 ^ suc k
agree_double k x x' b e =
    add-mod (x * 2) b (2 ^ suc k) ∙ ap (λ (n : ℕ). (n + b % 2 ^ suc k) % 2 ^ suc k) (mod_double k x ∙ ap (λ (n : ℕ). n * 2) e ∙ sym (mod_double k x'))
    ∙ sym (add-mod (x' * 2) b (2 ^ suc k))

-- two remainders by powers of two, in either order
mod_small : (i j y : ℕ) → i ≤ j → y % 2 ^ i % 2 ^ j ≡ y % 2 ^ i
mod_small i j y h = mod-eq_of_lt (le_trans (mod-lt y (pow_pos i)) (pow-le-pow_right (lit< tt) h))

pub mod_large : (i j y : ℕ) → i ≤ j → y % 2 ^ j % 2 ^ i ≡ y % 2 ^ i
mod_large i j y h = ap (λ (n : ℕ). y % 2 ^ n % 2 ^ i) (let e : j ≡ j - i + i = omega arith in e) ∙ mod-mod-pow y (j - i) i

mod_swap : (i j y : ℕ) → y % 2 ^ i % 2 ^ j ≡ y % 2 ^ j % 2 ^ i
mod_swap i j y = go (dec_le i j)
  where
    go : Dec (i ≤ j) → y % 2 ^ i % 2 ^ j ≡ y % 2 ^ j % 2 ^ i
    go (yes h) = mod_small i j y h ∙ sym (mod_large i j y h)
    go (no h) = let k : j ≤ i = omega arith in mod_large j i y k ∙ sym (mod_small j i y k)

-- of registers of two modes, their lowest i bits
pub low-push : (m n i : ℕ) (h h' : Register) (b : ℕ) → i ≤ capacity m → i ≤ capacity n → h.bits % 2 ^ i ≡ h'.bits % 2 ^ i
    → (push m h b).bits % 2 ^ i ≡ (push n h' b).bits % 2 ^ i
unfolding push
low-push m n i h h' b hm hn e =
    mod_large i (capacity m) (h.bits * 2 + b) hm ∙ sym (mod_scale h.bits 2 b (2 ^ i)) ∙ ap (λ (x : ℕ). (x * 2 + b) % 2 ^ i) e
    ∙ mod_scale h'.bits 2 b (2 ^ i) ∙ sym (mod_large i (capacity n) (h'.bits * 2 + b) hn)

agree_push : (m k : ℕ) (h h' : Register) (b : ℕ) → h.bits % 2 ^ k ≡ h'.bits % 2 ^ k → min k (capacity m) ≤ h.held.0 → min k (capacity m) ≤ h'.held.0
    → Agree m (suc k) (push m h b) (push m h' b)
unfolding push
agree_push m k h h' b e p p' =
    record {
      newest = mod_swap (capacity m) (suc k) (h.bits * 2 + b) ∙ ap (λ (n : ℕ). n % 2 ^ capacity m) (agree_double k h.bits h'.bits b e)
          ∙ sym (mod_swap (capacity m) (suc k) (h'.bits * 2 + b));
      held = omega arith;
      held' = omega arith;
      most = omega arith;
      most' = omega arith;
      small = mod-lt (h.bits * 2 + b) (pow_pos (capacity m));
      small' = mod-lt (h'.bits * 2 + b) (pow_pos (capacity m));
    }

-- the same line bits, and as many
agree_all : (m k : ℕ) (h h' : Register) → capacity m ≤ k → Agree m k h h' → (h.bits ≡ h'.bits) × (h.held.0 ≡ h'.held.0)
agree_all m k h h' r a =
    let w : 2 ^ capacity m ≤ 2 ^ k = pow-le-pow_right (lit< tt) r in (
      sym (mod-eq_of_lt (le_trans a.small w)) ∙ a.newest ∙ mod-eq_of_lt (le_trans a.small' w),
      (let x = a.held in let y = a.held' in let u = a.most in let v = a.most' in omega arith),
    )

agree_pushes : (m k : ℕ) (h h' : Register) (bs : List ℕ) → Agree m k h h' → Agree m (k + length bs) (pushes m h bs) (pushes m h' bs)
agree_pushes m k h h' [] a = subst (λ (n : ℕ). Agree m n h h') (let e : k ≡ k + 0 = omega arith in e) a
agree_pushes m k h h' (b ∷ bs) a =
    subst (λ (n : ℕ). Agree m n (pushes m h (b ∷ bs)) (pushes m h' (b ∷ bs))) (let e : suc k + length bs ≡ k + suc (length bs) = omega arith in e)
    (agree_pushes m (suc k) (push m h b) (push m h' b) bs (agree_push m k h h' b a.newest a.held a.held'))

-- R equal line bits: the same are held, whatever was held before
pub same_bits : (m : ℕ) (h h' : Register) (bs : List ℕ) → capacity m ≤ length bs
    → ((pushes m h bs).bits ≡ (pushes m h' bs).bits) × ((pushes m h bs).held.0 ≡ (pushes m h' bs).held.0)
same_bits m h h' [] r = absurd (let z = (capacity_range m).0 in omega arith)
same_bits m h h' (b ∷ bs) r =
    agree_all m (1 + length bs) (pushes m h (b ∷ bs)) (pushes m h' (b ∷ bs)) (omega arith)
    (agree_pushes m 1 (push m h b) (push m h' b) bs (agree_push m 0 h h' b (omega arith) (omega arith) (omega arith)))

-- without the guard the count is zero after a line bit
pub plain_count : (m : ℕ) (h : Register) (b : ℕ) (bs : List ℕ) → guarded m ≡ false → (pushes m h (b ∷ bs)).count.0 ≡ 0
plain_count m h b [] e = unfold push count_after counting in (rw e refl)
plain_count m h b (x ∷ xs) e = plain_count m (push m h b) x xs e

pub same_after : SameAfter
same_after m h h' [] e r = absurd (let z = (capacity_range m).0 in omega arith)
same_after m h h' (b ∷ bs) e r =
    let s = same_bits m h h' (b ∷ bs) r in
    same-register (pushes m h (b ∷ bs)) (pushes m h' (b ∷ bs)) s.0 s.1 (plain_count m h b bs e ∙ sym (plain_count m h' b bs e))

pub pushes_append : (m : ℕ) (h : Register) (cs bs : List ℕ) → pushes m h (cs ++ bs) ≡ pushes m (pushes m h cs) bs
pushes_append m h [] bs = refl
pushes_append m h (c ∷ cs) bs = pushes_append m (push m h c) cs bs

-- registers that hold the same, with a line bit that differs from all three: whatever was counted, the count becomes 0
same_differs : (h h' : Register) (b : ℕ) → h.bits ≡ h'.bits → differs h b ≡ differs h' b
unfolding differs back
same_differs h h' b e = ap (λ (n : ℕ). not (eqb b (n / 2 ^ (8 - 1) % 2)) && (not (eqb b (n / 2 ^ (9 - 1) % 2)) && not (eqb b (n / 2 ^ (12 - 1) % 2)))) e

reset_count : (m : ℕ) (h : Register) (b : ℕ) → differs h b ≡ true → count_after m h b ≡ 0
unfolding count_after
reset_count m h b e = go (counting m h) (leb 33 h.count.0) (differs h b) e
  where
    go : (x y z : Bool) → z ≡ true → cond x (cond (y || z) 0 (h.count.0 + 1)) 0 ≡ 0
    go false y z f = refl
    go true true z f = refl
    go true false true f = refl
    go true false false f = absurd (false≢true f)

pub same_after_reset : SameAfterReset
same_after_reset m h h' bs b g r t =
    pushes_append m h bs (b ∷ []) ∙ both ∙ sym (pushes_append m h' bs (b ∷ []))
  where
    of_true : (z : Bool) → T z → z ≡ true
    of_true true k = refl
    of_true false k = absurd k

    zero-count : (k : Register) → (push m (pushes m k bs) b).count.0 ≡ 0
    zero-count k = unfold push in reset_count m (pushes m k bs) b (same_differs (pushes m k bs) (pushes m fresh bs) b (same_bits m k fresh bs r).0 ∙ of_true _ t)

    both : push m (pushes m h bs) b ≡ push m (pushes m h' bs) b
    both =
        let s = same_bits m h h' bs r in
        same-register (push m (pushes m h bs) b) (push m (pushes m h' bs) b)
        (unfold push in (ap (λ (n : ℕ). (n * 2 + b) % 2 ^ capacity m) s.0))
        (unfold push in (ap (λ (n : ℕ). min (n + 1) (capacity m)) s.1))
        (zero-count h ∙ sym (zero-count h'))
