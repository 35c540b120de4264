-- Training by the table is training: what the code computes of an interval, and the proof of `ByTable`. Assumes nothing.
use Prim.Native.Nat.{ℕ, zero, suc, ◌+◌, ◌*◌, ◌-◌, ◌^◌, ◌%◌, ◌<◌, ◌≤◌}
use mathlib.Core.Path.{◌≡◌, refl, sym, ◌∙◌, ap, ap₂, subst}
use mathlib.Core.Bool.{Bool, true, false, cond}
use mathlib.Core.List.{List, [], ◌∷◌}
use native.Mathlib.Nat.{add-zero}
use native.Mathlib.Omega.{arith}
use native.Mathlib.Decide.{dec_lt, dec_le}
use lib.Dec.{eqb}
use lib.ListN.{get_or, replicate}
use Rattle.line.specs.Mode.{column, width, far_tap, guarded, capacity}
use Rattle.line.proofs.ByMode.{column-low, mode_short, mode_long, guard_column, not-guarded, kept_guarded, kept_plain, kept_short, capacity_range}
use Rattle.scrambler.specs.declared.Register.{Register}
use Rattle.scrambler.specs.Bits.{bits}
use Rattle.scrambler.specs.Register.{register, near_tap, pushes}
use Rattle.scrambler.specs.Scramble.{scramble}
use Rattle.scrambler.proofs.RegisterLaws.{same-register}
use Rattle.training.specs.declared.Coder.{Coder}
use Rattle.training.specs.Coder.{coder, coding}
use Rattle.training.specs.Training.{reversals, changes, spent, uncounted, middle, train27, train32, train, start, intervals, trained, trained_states}
use Rattle.training.specs.Middle.{three, threes, change, MiddleTable}
use Rattle.training.specs.Ahead.{ahead27, ahead, ahead_start, sent_by, ByTable}
use Rattle.training.proofs.CoderLaws.{same-coder, ones_bits, scramble-same, scramble-low}
use Rattle.training.proofs.MiddleLaws.{follow, follow_low, middle_end}
use Rattle.training.proofs.TrainingLaws.{segment_1, segment_2, segment_3}

-- WHAT THE CODE COMPUTES

module _ (t : List ℕ) (m role n i : ℕ) (c : Coder) (a : ℕ) (ea : a ≡ reversals n) where
  pub reversal_27 : (r : ℕ) → i < a → r ≡ (c.reference + 4 * 1) % 8 → ◌≡◌ {A = Coder} (record { reference = r; line = c.line }) (ahead27 t m role n i c)
  unfolding ahead27
  reversal_27 r h e = same-coder e refl ∙ sym (segment_1 _ _ i _ _ _ (omega arith))

  pub change_27 : (b r : ℕ) → b ≡ changes n → a ≤ i → i < a + b → r ≡ (c.reference + 4 * get_or t (i - a) 0) % 8
      → ◌≡◌ {A = Coder} (record { reference = r; line = c.line }) (ahead27 t m role n i c)
  unfolding ahead27
  change_27 b r eb h k e =
      same-coder (e ∙ ap (λ (x : ℕ). (c.reference + 4 * get_or t (i - x) 0) % 8) ea) refl ∙ sym (segment_2 _ _ i _ _ _ (omega arith) (omega arith))

  pub ones_27 : (b : ℕ) (d : Coder) → b ≡ changes n → a ≤ i → a + b ≤ i → d ≡ coding m role c (bits (width m) 15) → d ≡ ahead27 t m role n i c
  unfolding ahead27
  ones_27 b d eb h k e = e ∙ ap (coding m role c) (ones_bits m) ∙ sym (segment_3 _ _ i _ _ _ (omega arith) (omega arith))

-- what training by the table starts from; k is the mode's column, as the code found it
module _ (m k : ℕ) (e : k ≡ column m) where
  pub start_short : k ≤ 2 → coder 0 (register (0b110100010001 % 2 ^ capacity m) (capacity m) 0) ≡ ahead_start m
  unfolding ahead_start
  start_short h = mode_short _ _ m k e h

  pub start_long : 2 < k → coder 1 (register 0 (capacity m) 0) ≡ ahead_start m
  unfolding ahead_start
  start_long h = mode_long _ _ m k e h

  -- its reference, and its register's bits
  pub state_short : k ≤ 2 → 0 ≡ (ahead_start m).reference
  state_short h = ap (λ (c : Coder). c.reference) (start_short h)

  pub state_long : 2 < k → 1 ≡ (ahead_start m).reference
  state_long h = ap (λ (c : Coder). c.reference) (start_long h)

  pub bits_short : k ≤ 2 → guarded m ≡ false → 17 ≡ (ahead_start m).line.bits
  bits_short h g = ap (λ (n : ℕ). 3345 % 2 ^ n) (kept_short m k e h g) ∙ ap (λ (c : Coder). c.line.bits) (start_short h)

  pub bits_long : 2 < k → 0 ≡ (ahead_start m).line.bits
  bits_long h = ap (λ (c : Coder). c.line.bits) (start_long h)

pub bits-guarded : (m : ℕ) → guarded m ≡ true → 3345 ≡ (ahead_start m).line.bits
bits-guarded m g = ap (λ (n : ℕ). 3345 % 2 ^ n) (kept_guarded m g) ∙ ap (λ (c : Coder). c.line.bits) (start_short m (column m) refl (guard_column m g))

-- the other fields of its register
pub start-register : (m n k : ℕ) → n ≡ (ahead_start m).line.bits → k ≡ capacity m → register n k 0 ≡ (ahead_start m).line
start-register m n k en ek =
    go (dec_le (column m) 2)
  where
    to : (c : Coder) → c ≡ ahead_start m → c.line.held.0 ≡ capacity m → c.line.count.0 ≡ 0 → register n k 0 ≡ (ahead_start m).line
    to c e h z =
        same-register _ _ en (ek ∙ sym h ∙ ap (λ (x : Coder). x.line.held.0) e) (sym z ∙ ap (λ (x : Coder). x.line.count.0) e)

    go : Dec (column m ≤ 2) → register n k 0 ≡ (ahead_start m).line
    go (yes h) = to _ (start_short m (column m) refl h) refl refl
    go (no h) = to _ (start_long m (column m) refl (omega (arith, h))) refl refl

-- TWO RULES THAT SEND THE SAME

module _ (f g : ℕ → Coder → Coder) (Rel : ℕ → Coder → Coder → Type 0)
    (next : (i : ℕ) (c d : Coder) → Rel i c d → ((f i c).reference ≡ (g i d).reference) × Rel (suc i) (f i c) (g i d)) where
  same : (i n : ℕ) (c d : Coder) → Rel i c d → (trained_states f i n c ≡ trained_states g i n d) × Rel (i + n) (trained f i n c) (trained g i n d)
  same i zero c d r = (refl, subst (λ (k : ℕ). Rel k c d) (sym (add-zero i)) r)
  same i (suc n) c d r =
      let z = next i c d r in
      let y = same (suc i) n (f i c) (g i d) z.1 in (
        ap₂ ◌∷◌ z.0 y.0,
        subst (λ (k : ℕ). Rel k (trained f (suc i) n (f i c)) (trained g (suc i) n (g i d))) (let e : suc i + n ≡ i + suc n = omega arith in e) y.1,
      )

-- V.27 TER

-- c by the table, d by the scrambler: one state, and registers that meet where the middle changes end
record Ahead (m n i : ℕ) (c d : Coder) : Type 0 where
  state : c.reference ≡ d.reference
  till : i ≤ reversals n + changes n → (c.line ≡ follow m (changes n)) × (d.line ≡ follow m (i - reversals n))
  past : reversals n + changes n ≤ i → c.line ≡ d.line

-- up to the end of the middle changes, it is enough to follow the registers
till_end : (m n i : ℕ) (c d : Coder) → i ≤ reversals n + changes n → c.reference ≡ d.reference → c.line ≡ follow m (changes n) → d.line ≡ follow m (i - reversals n) → Ahead m n i c d
till_end m n i c d h e p q =
    record { state = e; till = λ k. (p, q); past = λ k. p ∙ ap (follow m) (let z : changes n ≡ i - reversals n = omega arith in z) ∙ sym q }

-- interval i sends the same, and goes on so
abbrev Sends : ℕ → ℕ → ℕ → Coder → Coder → Type 0
Sends m n i c d = (c.reference ≡ d.reference) × Ahead m n (suc i) c d

both : {m n i : ℕ} {f g x y : Coder} → f ≡ x → g ≡ y → Sends m n i x y → Sends m n i f g
both {m} {n} {i} {f} {g} {x} {y} e k o = subst (λ (z : Coder). Sends m n i z g) (sym e) (subst (λ (z : Coder). Sends m n i x z) (sym k) o)

changes-most : (n : ℕ) → changes n ≤ 1074
unfolding changes
changes-most n = either (eqb n 0)
  where
    either : (b : Bool) → cond b 58 1074 ≤ 1074
    either true = omega arith
    either false = omega arith

-- the four columns have no guard
column_plain : (m : ℕ) → column m ≤ 2 → guarded (column m) ≡ false
column_plain m h = not-guarded (column m) (omega arith)

column_short : (m : ℕ) → column m ≤ 2 → column (column m) ≤ 2
column_short m h = subst (λ (n : ℕ). n ≤ 2) (column-low (column m) (omega arith)) h

module _ (t : List ℕ) (rule : MiddleTable t) (m role n : ℕ) (hm : column m ≤ 2) where
  -- a middle interval: the three line bits are those of mode 2, whatever else the register keeps
  three_is : (k : ℕ) → scramble (column m) role (follow m k) (spent m) ≡ three (threes k)
  unfolding near_tap far_tap
  three_is k =
      let c = column_short m hm in
      let g = column_plain m hm in
      let a : near_tap (column m) role ≡ 6 = sym (mode_short 6 (get_or (18 ∷ 5 ∷ []) role 5) (column m) _ refl c) in
      let f : far_tap (column m) ≡ 7 = sym (mode_short 7 23 (column m) _ refl c) in
      let two : guarded 2 ≡ false = unfold guarded in refl in
      let r : capacity (column m) ≡ capacity 2 = sym (kept_plain (column m) g) ∙ f ∙ kept_plain 2 two in
      scramble-low role (column m) (follow m k) (threes k) (spent m) g a f (capacity_range (column m)).0 (follow_low m k)
      ∙ scramble-same (column m) 2 role 0 a f (g ∙ sym two) r (threes k) (spent 2)

  middle_is : (k : ℕ) (d : Coder) → d.line ≡ follow m k → middle m role d ≡ coder ((d.reference + 4 * change k) % 8) (follow m (suc k))
  unfolding middle change
  middle_is k d e =
      let l : scramble (column m) role d.line (spent m) ≡ three (threes k) = ap (λ (h : Register). scramble (column m) role h (spent m)) e ∙ three_is k in
      same-coder (ap (λ (x : List ℕ). (d.reference + 4 * get_or x 0 0) % 8) l) (ap₂ (λ (h : Register) (x : List ℕ). uncounted (pushes m h x)) e l)

  step27 : (i : ℕ) (c d : Coder) → Ahead m n i c d
      → Sends m n i (ahead27 t m role n i c) (train27 m role n i d)
  unfolding ahead27 train27
  step27 i c d r = go (dec_lt i (reversals n)) (dec_lt i (reversals n + changes n))
    where
      go : Dec (i < reversals n) → Dec (i < reversals n + changes n) → Sends m n i (ahead27 t m role n i c) (train27 m role n i d)
      go (yes h) k =
          let p = r.till (omega arith) in
          let e : (c.reference + 4) % 8 ≡ (d.reference + 4) % 8 = ap (λ (x : ℕ). (x + 4) % 8) r.state in
          both (segment_1 _ _ i _ _ _ h) (segment_1 _ _ i _ _ _ h) (
            e,
            till_end m n (suc i) _ _ (omega arith) e p.0
                (p.1 ∙ ap (follow m) (let z : i - reversals n ≡ suc i - reversals n = omega arith in z)),
          )
      go (no h) (yes k) =
          let p = r.till (omega arith) in
          let j : ℕ = i - reversals n in
          let e : (c.reference + 4 * get_or t j 0) % 8 ≡ (d.reference + 4 * change j) % 8 =
          ap₂ (λ (x y : ℕ). (x + 4 * y) % 8) r.state (rule.at j (let z = changes-most n in omega (arith, h))) in
          both (segment_2 _ _ i _ _ _ (omega (arith, h)) k) (segment_2 _ _ i _ _ _ (omega (arith, h)) k ∙ middle_is j d p.1)
          (e, till_end m n (suc i) _ _ (omega arith) e p.0 (ap (follow m) (let z : suc j ≡ suc i - reversals n = omega (arith, h) in z)))
      go (no h) (no k) =
          let e : c ≡ d = same-coder r.state (r.past (omega (arith, k))) in
          let l : coding m role c (replicate (width m) 1) ≡ coding m role d (replicate (width m) 1) = ap (λ (x : Coder). coding m role x (replicate (width m) 1)) e in
          both (segment_3 _ _ i _ _ _ (omega (arith, h)) (omega (arith, k)) ∙ l) (segment_3 _ _ i _ _ _ (omega (arith, h)) (omega (arith, k)))
          (refl, record { state = refl; till = λ z. absurd (omega (arith, k)); past = λ z. refl })

-- BOTH FAMILIES

short : (t : List ℕ) → MiddleTable t → (m role n : ℕ) → column m ≤ 2 → sent_by (ahead t m role n) m n (ahead_start m) ≡ sent_by (train m role n) m n (start m)
unfolding ahead train ahead_start start intervals
short t rule m role n h =
    let f : (i : ℕ) (c : Coder) → ahead t m role n i c ≡ ahead27 t m role n i c = λ i c. sym (mode_short _ _ m _ refl h) in
    let g : (i : ℕ) (c : Coder) → train m role n i c ≡ train27 m role n i c = λ i c. sym (mode_short _ _ m _ refl h) in
    let next : (i : ℕ) (c d : Coder) → Ahead m n i c d → Sends m n i (ahead t m role n i c) (train m role n i d) =
    λ i c d r. both (f i c) (g i d) (step27 t rule m role n h i c d r) in
    let e : intervals m n ≡ reversals n + changes n + 8 = sym (mode_short _ _ m _ refl h) in
    let r : Ahead m n 0 (ahead_start m) (start m) =
    subst (λ (c : Coder). Ahead m n 0 c (start m)) (start_short m (column m) refl h)
    (subst (Ahead m n 0 (coder 0 (register (3345 % 2 ^ capacity m) (capacity m) 0))) (mode_short _ _ m _ refl h)
    (till_end m n 0 _ _ (omega arith) refl (sym (middle_end m n h)) (ap (follow m) (let z : 0 ≡ 0 - reversals n = omega arith in z)))) in
    let z = same (ahead t m role n) (train m role n) (Ahead m n) next 0 (intervals m n) (ahead_start m) (start m) r in
    ap₂ (λ (x : List ℕ) (y : Coder). (x, y)) z.0 (same-coder z.1.state (z.1.past (omega arith)))

long : (t : List ℕ) (m role n : ℕ) → 2 < column m → sent_by (ahead t m role n) m n (ahead_start m) ≡ sent_by (train m role n) m n (start m)
unfolding ahead train ahead_start start
long t m role n h =
    let next : (i : ℕ) (c d : Coder) → c ≡ d → ((ahead t m role n i c).reference ≡ (train m role n i d).reference) × (ahead t m role n i c ≡ train m role n i d) =
    λ i c d e. let z : ahead t m role n i c ≡ train m role n i d = sym (mode_long _ _ m _ refl h) ∙ ap (train32 m role i) e ∙ mode_long _ _ m _ refl h in
    (ap (λ (x : Coder). x.reference) z, z) in
    let r : ahead_start m ≡ start m = sym (mode_long _ _ m _ refl h) ∙ mode_long _ _ m _ refl h in
    let z = same (ahead t m role n) (train m role n) (λ i c d. c ≡ d) next 0 (intervals m n) (ahead_start m) (start m) r in
    ap₂ (λ (x : List ℕ) (y : Coder). (x, y)) z.0 z.1

pub by_table : ByTable
by_table t rule m role n = go (dec_le (column m) 2)
  where
    go : Dec (column m ≤ 2) → sent_by (ahead t m role n) m n (ahead_start m) ≡ sent_by (train m role n) m n (start m)
    go (yes h) = short t rule m role n h
    go (no h) = long t m role n (omega (arith, h))
