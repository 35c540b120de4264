-- The intervals of training: what the code computes of them, and that a coder that can send stays one. Assumes nothing.
use Prim.Native.Nat.{ℕ, zero, suc, ◌+◌, ◌*◌, ◌-◌, ◌^◌, ◌/◌, ◌%◌, ◌<◌, ◌≤◌}
use mathlib.Core.Path.{◌≡◌, refl, sym, ◌∙◌, ap, ap₂, subst}
use mathlib.Core.Bool.{Bool, false, cond}
use mathlib.Core.List.{List, [], ◌∷◌}
use native.Mathlib.Nat.{le_of_eq, le_antisymm}
use native.Mathlib.Omega.{arith}
use native.Mathlib.Decide.{dec_lt, dec_le}
use borrow.Author.Tests.{lt-ltb, le-ltb}
use lib.Dec.{T, leb, ltb, leb→le, ltb→lt}
use lib.ListN.{length, get_or, replicate, length-replicate}
use Rattle.line.specs.Table.{every, below}
use Rattle.line.specs.Mode.{column, is_mode, guarded, is_state, states, width, far_tap, capacity}
use Rattle.line.proofs.ByMode.{mode_short, mode_long, guard_column, not-guarded, kept_plain}
use Rattle.line.proofs.Tests.{by_test}
use Rattle.line.proofs.StateLaws.{mode_cases}
use Rattle.line.proofs.TableLaws.{every-at, below_at}
use Rattle.scrambler.specs.declared.Register.{Register}
use Rattle.scrambler.specs.declared.Scrambled.{Scrambled}
use Rattle.scrambler.specs.Bits.{bits, value}
use Rattle.scrambler.specs.Register.{register, near_tap, counting, pushes}
use Rattle.scrambler.specs.Scramble.{scramble}
use Rattle.scrambler.specs.Group.{scrambled}
use Rattle.scrambler.proofs.BitLaws.{bits-value, value_small}
use Rattle.scrambler.proofs.RegisterLaws.{Ok, ok_pushes, full_pushes}
use Rattle.scrambler.proofs.WindowLaws.{mix_small}
use Rattle.scrambler.proofs.GroupLaws.{length-scramble, bits-scramble}
use Rattle.training.specs.declared.Coder.{Coder}
use Rattle.training.specs.Coder.{coder}
use Rattle.training.specs.Training.{reversals, changes, spent, uncounted, middle, train27, A, B, C, D, dibit_state, train32, train, start, intervals, trained}
use Rattle.training.proofs.CoderLaws.{same-coder, scramble-same, pushes_same, Ready, ready_pushes, ready_coding}

-- HOW MANY

-- k is the mode's column, as the code found it
pub intervals_short : (m k n a b : ℕ) → k ≡ column m → k ≤ 2 → a ≡ reversals n → b ≡ changes n → a + b + 8 ≡ intervals m n
unfolding intervals
intervals_short m k n a b c h e f = ap₂ (λ (x y : ℕ). x + y + 8) e f ∙ mode_short (reversals n + changes n + 8) (272 + n) m k c h

pub intervals_long : (m k n : ℕ) → k ≡ column m → 2 < k → 272 + n ≡ intervals m n
unfolding intervals
intervals_long m k n c h = mode_long (reversals n + changes n + 8) (272 + n) m k c h

-- the modes of V.32 have no guard
long_plain : (m : ℕ) → 2 < column m → guarded m ≡ false
long_plain m h = by_test (guarded m) (λ e. absurd (let z = guard_column m e in omega arith)) (λ e. e)

-- WHICH SEGMENT

pub segment_1 : (a b i : ℕ) (x y z : Coder) → i < a → cond (ltb i a) x (cond (ltb i b) y z) ≡ x
segment_1 a b i x y z h = ap (λ (t : Bool). cond t x (cond (ltb i b) y z)) (lt-ltb i a h)

pub segment_2 : (a b i : ℕ) (x y z : Coder) → a ≤ i → i < b → cond (ltb i a) x (cond (ltb i b) y z) ≡ y
segment_2 a b i x y z h k = ap₂ (λ (t u : Bool). cond t x (cond u y z)) (le-ltb i a h) (lt-ltb i b k)

pub segment_3 : (a b i : ℕ) (x y z : Coder) → a ≤ i → b ≤ i → cond (ltb i a) x (cond (ltb i b) y z) ≡ z
segment_3 a b i x y z h k = ap₂ (λ (t u : Bool). cond t x (cond u y z)) (le-ltb i a h) (le-ltb i b k)

-- V.32

-- by the two values of a bit
two : (P : ℕ → Type 0) → P 0 → P 1 → (b : ℕ) → b < 2 → P b
two P p q zero h = p
two P p q (suc zero) h = q
two P p q (suc (suc b)) h = absurd (omega arith)

pub dibit_first : (i d : ℕ) → d < 4 → i < 528 → d / 2 * 12 + 1 ≡ dibit_state i (bits 2 d)
unfolding dibit_state
dibit_first i d h k =
    rw (lt-ltb i 528 k)
    (two (λ (b : ℕ). d / 2 ≡ b → d / 2 * 12 + 1 ≡ get_or (A ∷ C ∷ []) (d / 2 % 2) A)
    (λ e. rw e) (λ e. rw e) (d / 2) (omega arith) refl)

pub dibit_later : (i d : ℕ) → d < 4 → 528 ≤ i → 4 * d + 1 ≡ dibit_state i (bits 2 d)
unfolding dibit_state
dibit_later i d h k = rw (le-ltb i 528 k) (four d h)
  where
    four : (d : ℕ) → d < 4 → 4 * d + 1 ≡ get_or (A ∷ B ∷ D ∷ C ∷ []) (value (bits 2 d)) A
    four zero h = refl
    four (suc zero) h = refl
    four (suc (suc zero)) h = refl
    four (suc (suc (suc zero))) h = refl
    four (suc (suc (suc (suc d)))) h = absurd (omega arith)

pub dibit_small : (role : ℕ) (h : Register) (s : Scrambled) → s ≡ scrambled 3 role h 3 → s.line < 4
unfolding scrambled width
dibit_small role h s e =
    subst (λ (x : ℕ). x < 4) (sym (ap (λ (x : Scrambled). x.line) e))
    (value_small (scramble 3 role h (bits 2 3)) (bits-scramble 3 role h (bits 2 3)))

module _ (m role i : ℕ) (c : Coder) where
  pub first_32 : i < 256 → ◌≡◌ {A = Coder} (record { reference = 1 + i % 2 * 4; line = c.line }) (train32 m role i c)
  unfolding train32
  first_32 h =
      same-coder (two (λ (b : ℕ). 1 + b * 4 ≡ get_or (A ∷ B ∷ []) b A) refl refl (i % 2) (omega arith)) refl
      ∙ sym (segment_1 256 272 i _ _ _ h)

  pub second_32 : 256 ≤ i → i < 272 → ◌≡◌ {A = Coder} (record { reference = 13 - i % 2 * 4; line = c.line }) (train32 m role i c)
  unfolding train32
  second_32 h k =
      same-coder (two (λ (b : ℕ). 13 - b * 4 ≡ get_or (C ∷ D ∷ []) b C) refl refl (i % 2) (omega arith)) refl
      ∙ sym (segment_2 256 272 i _ _ _ h k)

  -- modes 3 and 4 have one scrambler
  pub ones_32 : (s : Scrambled) → 2 < column m → s ≡ scrambled 3 role c.line 3
      → (s.line ≡ value (scramble m role c.line (replicate 2 1))) × (s.next ≡ pushes m c.line (scramble m role c.line (replicate 2 1)))
  unfolding scrambled width near_tap far_tap
  ones_32 s h e =
      let three : guarded 3 ≡ false = not-guarded 3 (omega arith) in
      let p : guarded m ≡ false = long_plain m h in
      let a : near_tap m role ≡ near_tap 3 role = sym (mode_long 6 (get_or (18 ∷ 5 ∷ []) role 5) m _ refl h) in
      let f : far_tap m ≡ far_tap 3 = sym (mode_long 7 23 m _ refl h) in
      let g : guarded m ≡ guarded 3 = p ∙ sym three in
      let r : capacity m ≡ capacity 3 = sym (kept_plain m p) ∙ f ∙ kept_plain 3 three in
      let l = scramble-same m 3 role role a f g r c.line (replicate 2 1) in (
        ap (λ (x : Scrambled). x.line) e ∙ ap value (sym l),
        ap (λ (x : Scrambled). x.next) e ∙ sym (pushes_same m 3 role role a f g r c.line (scramble m role c.line (replicate 2 1)) ∙ ap (pushes 3 c.line) l),
      )

  pub third_32 : (s : Scrambled) (r : ℕ) → 2 < column m → 256 ≤ i → 272 ≤ i → s ≡ scrambled 3 role c.line 3 → r ≡ dibit_state i (bits 2 s.line)
      → ◌≡◌ {A = Coder} (record { reference = r; line = s.next }) (train32 m role i c)
  unfolding train32
  third_32 s r g h k e f =
      let z = ones_32 s g e in
      let l : List ℕ = scramble m role c.line (replicate 2 1) in
      let n : 2 ≡ length l = sym (length-scramble m role c.line (replicate 2 1)) in
      let b : bits 2 s.line ≡ l = ap₂ bits n z.0 ∙ bits-value l (bits-scramble m role c.line (replicate 2 1)) in
      same-coder (f ∙ ap (dibit_state i) b) z.1 ∙ sym (segment_3 256 272 i _ _ _ h k)

-- A CODER THAT CAN SEND

-- a V.27 ter state turned by 180° or not is one of the mode
half_states : (m r b : ℕ) → T (is_mode m) → column m ≤ 2 → T (is_state m r) → b < 2 → T (is_state m ((r + 4 * b) % 8))
unfolding is_state
half_states m r b hm h =
    mode_cases (λ (n : ℕ). column n ≤ 2 → T (is_state n r) → b < 2 → T (is_state n ((r + 4 * b) % 8)))
    (λ l. turned 1 (unfold states is_state in tt)) (λ l. turned 2 (unfold states is_state in tt)) (λ l. absurd (omega arith)) (λ l. absurd (omega arith))
    (λ l. turned 5 (unfold states is_state in tt)) (λ l. turned 6 (unfold states is_state in tt)) m hm h
  where
    turned : (n : ℕ) → T (every (λ x. every (λ k. is_state n ((x + 4 * k) % 8)) (below 2)) (states n)) → T (is_state n r) → b < 2 → T (is_state n ((r + 4 * b) % 8))
    turned n t p q = below_at (λ k. is_state n ((r + 4 * k) % 8)) 2 (every-at (λ x. every (λ k. is_state n ((x + 4 * k) % 8)) (below 2)) (states n) r t p) b q

-- A, B, C and D are states of both modes
abcd_states : (m d : ℕ) → T (is_mode m) → 2 < column m → d < 4 → T (is_state m (4 * d + 1))
abcd_states m d hm h =
    mode_cases (λ (n : ℕ). 2 < column n → d < 4 → T (is_state n (4 * d + 1)))
    (λ l. absurd (omega arith)) (λ l. absurd (omega arith))
    (λ l. below_at (λ k. is_state 3 (4 * k + 1)) 4 (unfold states is_state in tt) d) (λ l. below_at (λ k. is_state 4 (4 * k + 1)) 4 (unfold states is_state in tt) d)
    (λ l. absurd (omega arith)) (λ l. absurd (omega arith)) m hm h

-- a register with a count of zero
zero-le : (n : ℕ) → 0 ≤ n
zero-le n = omega arith

ok_uncounted : (m : ℕ) (h : Register) → Ok m h → Ok m (uncounted h)
ok_uncounted m h o = record { small = o.small; most = o.most; counts = zero-le (cond (counting m (uncounted h)) 33 0) }

-- another state, and the same register
moved : (m r : ℕ) (c : Coder) → Ready m c → T (is_state m r) → Ready m (coder r c.line)
moved m r c k t = record { state = t; full = k.full; fit = k.fit }

first_bit : (m role : ℕ) (h : Register) (ds : List ℕ) → get_or (scramble m role h ds) 0 0 < 2
first_bit m role h [] = omega arith
first_bit m role h (d ∷ ds) = mix_small m role h d

module _ (m role i : ℕ) (c : Coder) (hm : T (is_mode m)) (k : Ready m c) where
  ready_middle : column m ≤ 2 → Ready m (middle m role c)
  unfolding middle
  ready_middle h =
      let l : List ℕ = scramble (column m) role c.line (spent m) in
      let fit : Ok m (pushes m c.line l) = ok_pushes m c.line l (bits-scramble (column m) role c.line (spent m)) k.fit in
      record {
        state = half_states m c.reference _ hm h k.state (first_bit (column m) role c.line (spent m));
        full = le_antisymm fit.most (full_pushes m c.line l (le_of_eq (sym k.full)));
        fit = ok_uncounted m (pushes m c.line l) fit;
      }

  ready_27 : (n : ℕ) → column m ≤ 2 → Ready m (train27 m role n i c)
  unfolding train27
  ready_27 n h = go (dec_lt i (reversals n)) (dec_lt i (reversals n + changes n))
    where
      go : Dec (i < reversals n) → Dec (i < reversals n + changes n) → Ready m (train27 m role n i c)
      go (yes a) b = subst (Ready m) (sym (segment_1 _ _ i _ _ _ a)) (moved m _ c k (half_states m c.reference 1 hm h k.state (omega arith)))
      go (no a) (yes b) =
          subst (Ready m) (sym (segment_2 _ _ i _ _ _ (omega (arith, a)) b))
          (ready_middle h)
      go (no a) (no b) =
          subst (Ready m) (sym (segment_3 _ _ i _ _ _ (omega (arith, a)) (omega (arith, b))))
          (ready_coding m role c (replicate (width m) 1) hm k (length-replicate (width m) 1))

  dibit_is : (d : ℕ) → d < 4 → 2 < column m → T (is_state m (dibit_state i (bits 2 d)))
  dibit_is d l h = go (dec_lt i 528)
    where
      go : Dec (i < 528) → T (is_state m (dibit_state i (bits 2 d)))
      go (yes a) =
          subst (λ (x : ℕ). T (is_state m x)) ((let e : 4 * (d / 2 * 3) + 1 ≡ d / 2 * 12 + 1 = omega arith in e) ∙ dibit_first i d l a)
          (abcd_states m (d / 2 * 3) hm h (omega arith))
      go (no a) = subst (λ (x : ℕ). T (is_state m x)) (dibit_later i d l (omega (arith, a))) (abcd_states m d hm h l)

  ready_32 : 2 < column m → Ready m (train32 m role i c)
  unfolding train32
  ready_32 h = go (dec_lt i 256) (dec_lt i 272)
    where
      go : Dec (i < 256) → Dec (i < 272) → Ready m (train32 m role i c)
      go (yes a) b =
          subst (Ready m) (first_32 m role i c a)
          (moved m _ c k (subst (λ (x : ℕ). T (is_state m x)) (let e : 4 * (i % 2) + 1 ≡ 1 + i % 2 * 4 = omega arith in e) (abcd_states m (i % 2) hm h (omega arith))))
      go (no a) (yes b) =
          subst (Ready m) (second_32 m role i c (omega (arith, a)) b)
          (moved m _ c k (subst (λ (x : ℕ). T (is_state m x)) (let e : 4 * (3 - i % 2) + 1 ≡ 13 - i % 2 * 4 = omega arith in e) (abcd_states m (3 - i % 2) hm h (omega arith))))
      go (no a) (no b) =
          let ones : List ℕ = replicate 2 1 in
          let bs = bits-scramble m role c.line ones in
          let e : bits 2 (value (scramble m role c.line ones)) ≡ scramble m role c.line ones = bits-value (scramble m role c.line ones) bs in
          subst (Ready m) (sym (segment_3 256 272 i _ _ _ (omega (arith, a)) (omega (arith, b))))
          (ready_pushes m role _ c ones k
          (subst (λ (x : List ℕ). T (is_state m (dibit_state i x))) e (dibit_is (value (scramble m role c.line ones)) (value_small (scramble m role c.line ones) bs) h)))

  ready_train : (n : ℕ) → Ready m (train m role n i c)
  unfolding train
  ready_train n = go (dec_le (column m) 2)
    where
      go : Dec (column m ≤ 2) → Ready m (train m role n i c)
      go (yes h) = subst (Ready m) (mode_short _ _ m _ refl h) (ready_27 n h)
      go (no h) = subst (Ready m) (mode_long _ _ m _ refl (omega (arith, h))) (ready_32 (omega (arith, h)))

ready_start : (m : ℕ) → T (is_mode m) → Ready m (start m)
unfolding start states is_state guarded capacity far_tap
ready_start =
    mode_cases (λ (m : ℕ). Ready m (start m)) (ready 1 _ tt refl (fit 1 60 7 tt tt)) (ready 2 _ tt refl (fit 2 60 7 tt tt)) (ready 3 _ tt refl (fit 3 0 23 tt tt)) (ready 4 _ tt refl (fit 4 0 23 tt tt))
    (ready 5 _ tt refl (fit 5 60 12 tt tt)) (ready 6 _ tt refl (fit 6 60 12 tt tt))
  where
    ready : (m : ℕ) (c : Coder) → T (is_state m c.reference) → c.line.held.0 ≡ capacity m → Ok m c.line → Ready m c
    ready m c s f o = record { state = s; full = f; fit = o }

    fit : (m n k : ℕ) → T (ltb n (2 ^ k)) → T (leb k (capacity m)) → Ok m (register n k 0)
    fit m n k s t = record { small = ltb→lt n (2 ^ k) s; most = leb→le k (capacity m) t; counts = zero-le (cond (counting m (register n k 0)) 33 0) }

ready_intervals : (m role n : ℕ) → T (is_mode m) → (i k : ℕ) (c : Coder) → Ready m c → Ready m (trained (train m role n) i k c)
ready_intervals m role n hm i zero c r = r
ready_intervals m role n hm i (suc k) c r = ready_intervals m role n hm (suc i) k (train m role n i c) (ready_train m role i c hm r n)

-- what training leaves can send, for all modes, roles and lengths
pub ready_trained : (m role n : ℕ) → T (is_mode m) → Ready m (trained (train m role n) 0 (intervals m n) (start m))
ready_trained m role n hm = ready_intervals m role n hm 0 (intervals m n) (start m) (ready_start m hm)
