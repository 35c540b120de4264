-- The regions of a mode: each point off the origin lies in exactly one of the first region's four turns, and its answer turns with it.
-- Assumes nothing.
use mathlib.Core.Path.{◌≡◌, refl, sym, ap, ap₂, ◌∙◌, subst}
use mathlib.Core.Bool.{Bool, true, false, ◌&&◌, cond, and-false}
use Prim.Native.Nat.{ℕ, zero, suc, ◌+◌, ◌*◌, ◌-◌, ◌%◌, ◌<◌, ◌≤◌}
use native.Mathlib.Omega.{arith}
use borrow.Author.Tests.{le-leb, lt-leb}
use lib.Dec.{eqb, leb, eqb→eq}
use lib.IntN.{ℤ, pos, negsuc, nat_abs, neg_ℤ-neg_ℤ, sub_ℕ, ◌+ℤ◌}
use Rattle.line.specs.declared.Point.{Point}
use Rattle.line.specs.Mode.{column}
use Rattle.line.specs.Point.{at, is_origin, turned, turned_by}
use Rattle.deciding.specs.Decide.{State, within45, in_first, first, turned_state, quarters, decide}
use Rattle.line.proofs.ByMode.{mode_1, mode_2, mode_3, mode_4}
use Rattle.line.proofs.TableLaws.{below_at, pairs_below}
use Rattle.deciding.proofs.Differences.{leb-same, pos_difference, negated_difference, sum_difference, less_difference, below_difference, triple_difference, within_difference}

-- four turns of 90° are none
pub turn_four : (z : Point) → turned_by 4 z ≡ z
turn_four z = ap₂ at (neg_ℤ-neg_ℤ z.re) (neg_ℤ-neg_ℤ z.im)

-- a point and its turns, of which the one at j lies in the first region and no other; the region is its test, so that what holds of a mode
-- holds of one that reads the same column
pub record TurnIn (region : Point → Bool) (z : Point) (j : ℕ) : Type 0 where
  pub at_0 : region z ≡ eqb 0 j
  pub at_1 : region (turned_by 1 z) ≡ eqb 1 j
  pub at_2 : region (turned_by 2 z) ≡ eqb 2 j
  pub at_3 : region (turned_by 3 z) ≡ eqb 3 j

abbrev pub Turn : ℕ → Point → ℕ → Type 0
Turn m z j = TurnIn (in_first m) z j

turn-next : (m : ℕ) (z : Point) (j i : ℕ) → Turn m z j → eqb 1 j ≡ eqb 0 i → eqb 2 j ≡ eqb 1 i → eqb 3 j ≡ eqb 2 i → eqb 0 j ≡ eqb 3 i → Turn m (turned z) i
turn-next m z j i t p q r s =
    record { at_0 = t.at_1 ∙ p; at_1 = t.at_2 ∙ q; at_2 = t.at_3 ∙ r; at_3 = ap (in_first m) (turn_four z) ∙ t.at_0 ∙ s }

abbrev pub before : ℕ → ℕ
before j = (j + 3) % 4

pub turn-before : (m : ℕ) (z : Point) (j : ℕ) → j < 4 → Turn m z j → Turn m (turned z) (before j)
turn-before m z zero h t = turn-next m z 0 3 t refl refl refl refl
turn-before m z (suc zero) h t = turn-next m z 1 0 t refl refl refl refl
turn-before m z (suc (suc zero)) h t = turn-next m z 2 1 t refl refl refl refl
turn-before m z (suc (suc (suc zero))) h t = turn-next m z 3 2 t refl refl refl refl
turn-before m z (suc (suc (suc (suc j)))) h t = absurd (omega arith)

-- the turns back are those forth that are left of four
turn-quarters : (m : ℕ) (z : Point) (j : ℕ) → j < 4 → Turn m z j → quarters m z ≡ (4 - j) % 4
unfolding quarters
turn-quarters m z j h t =
    rw (t.at_0, t.at_3, t.at_2)
    (eqb→eq _ _ (below_at (λ i. eqb (cond (eqb 0 i) 0 (cond (eqb 3 i) 1 (cond (eqb 2 i) 2 3))) ((4 - i) % 4)) 4 tt j h))

-- the answer for a point off the origin whose turn by j lies in the first region
pub turn-decide : (m : ℕ) (z : Point) (j : ℕ) → j < 4 → Turn m z j → is_origin z ≡ false → decide m z ≡ State (turned_state m ((4 - j) % 4) (first m (turned_by j z)))
unfolding decide
turn-decide m z j h t o =
    let e : (4 - (4 - j) % 4) % 4 ≡ j = eqb→eq _ _ (below_at (λ i. eqb ((4 - (4 - i) % 4) % 4) i) 4 tt j h) in
    rw (o, turn-quarters m z j h t, e)

-- turns one after the other
pub turn_add : (i k : ℕ) (z : Point) → turned_by i (turned_by k z) ≡ turned_by (i + k) z
turn_add zero k z = ap (λ (n : ℕ). turned_by n z) (let e : k ≡ 0 + k = omega arith in e)
turn_add (suc i) k z = ap turned (turn_add i k z) ∙ ap (λ (n : ℕ). turned_by n z) (let e : suc (i + k) ≡ suc i + k = omega arith in e)

pub turn_mod : (n : ℕ) (z : Point) → n < 8 → turned_by n z ≡ turned_by (n % 4) z
turn_mod zero z h = refl
turn_mod (suc zero) z h = refl
turn_mod (suc (suc zero)) z h = refl
turn_mod (suc (suc (suc zero))) z h = refl
turn_mod (suc (suc (suc (suc zero)))) z h = turn_four z
turn_mod (suc (suc (suc (suc (suc zero))))) z h = ap turned (turn_four z)
turn_mod (suc (suc (suc (suc (suc (suc zero)))))) z h = ap (turned_by 2) (turn_four z)
turn_mod (suc (suc (suc (suc (suc (suc (suc zero))))))) z h = ap (turned_by 3) (turn_four z)
turn_mod (suc (suc (suc (suc (suc (suc (suc (suc n)))))))) z h = absurd (omega arith)

and_swap : (a b : Bool) → a && b ≡ b && a
and_swap true true = refl
and_swap true false = refl
and_swap false true = refl
and_swap false false = refl

-- a turn takes the origin to itself, and nothing else there
pub origin_turned : (x y : ℤ) → is_origin (turned (at x y)) ≡ is_origin (at x y)
unfolding is_origin
origin_turned x (pos zero) = and_swap true (eqb (nat_abs x) 0)
origin_turned x (pos (suc n)) = and_swap (eqb (suc n) 0) (eqb (nat_abs x) 0)
origin_turned x (negsuc n) = and_swap (eqb (suc n) 0) (eqb (nat_abs x) 0)

pub off-turned : (k : ℕ) (z : Point) → is_origin z ≡ false → is_origin (turned_by k z) ≡ false
off-turned zero z o = o
off-turned (suc k) z o = origin_turned (turned_by k z).re (turned_by k z).im ∙ off-turned k z o

pub turn_by : (m k : ℕ) (z : Point) (j : ℕ) → j < 4 → Turn m z j → Turn m (turned_by k z) ((j + 3 * k) % 4)
turn_by m zero z j h t = subst (Turn m z) (let e : j ≡ (j + 3 * 0) % 4 = omega arith in e) t
turn_by m (suc k) z j h t =
    subst (Turn m (turned_by (suc k) z)) (let e : ((j + 3 * k) % 4 + 3) % 4 ≡ (j + 3 * suc k) % 4 = omega arith in e)
    (turn-before m (turned_by k z) ((j + 3 * k) % 4) (omega arith) (turn_by m k z j h t))

-- the answer for k turns of such a point
pub turned-decide : (m k : ℕ) (z : Point) (j : ℕ) → k < 4 → j < 4 → Turn m z j → is_origin z ≡ false
    → decide m (turned_by k z) ≡ State (turned_state m ((k + 4 - j) % 4) (first m (turned_by j z)))
turned-decide m k z j h l t o =
    let i : ℕ = (j + 3 * k) % 4 in
    let li : i < 4 = omega arith in
    let q : (4 - i) % 4 ≡ (k + 4 - j) % 4 = eqb→eq _ _ (pairs_below (λ c d. eqb ((4 - (d + 3 * c) % 4) % 4) ((c + 4 - d) % 4)) 4 4 tt k j h l) in
    let w : (i + k) % 4 ≡ j = eqb→eq _ _ (pairs_below (λ c d. eqb (((d + 3 * c) % 4 + c) % 4) d) 4 4 tt k j h l) in
    turn-decide m (turned_by k z) i li (turn_by m k z j l t) (off-turned k z o)
    ∙ ap₂ (λ (c : ℕ) (p : Point). State (turned_state m c (first m p))) q
    (turn_add i k z ∙ turn_mod (i + k) z (omega arith) ∙ ap (λ (n : ℕ). turned_by n z) w)

-- Where a turn of a point of the plane's first quarter, re > 0 and im ≥ 0, lies in the first region
module _ (m a b : ℕ) where
  abbrev pub base : Point
  base = at (pos (suc a)) (pos b)

  -- the turns of the point as differences
  is_0 : base ≡ at (sub_ℕ (suc a) 0) (sub_ℕ b 0)
  is_0 = ap₂ at (pos_difference (suc a)) (pos_difference b)

  is_1 : turned_by 1 base ≡ at (sub_ℕ 0 b) (sub_ℕ (suc a) 0)
  is_1 = ap turned is_0 ∙ ap (λ (x : ℤ). at x (sub_ℕ (suc a) 0)) (negated_difference b 0)

  is_2 : turned_by 2 base ≡ at (sub_ℕ 0 (suc a)) (sub_ℕ 0 b)
  is_2 = ap turned is_1 ∙ ap (λ (x : ℤ). at x (sub_ℕ 0 b)) (negated_difference (suc a) 0)

  is_3 : turned_by 3 base ≡ at (sub_ℕ b 0) (sub_ℕ 0 (suc a))
  is_3 = ap turned is_2 ∙ ap (λ (x : ℤ). at x (sub_ℕ 0 (suc a))) (negated_difference 0 b)

-- the first region as two tests of differences re = a - b and im = c - d
record FirstRegion (m : ℕ) : Type 0 where
  p : ℕ → ℕ → ℕ → ℕ → ℕ
  q : ℕ → ℕ → ℕ → ℕ → ℕ
  r : ℕ → ℕ → ℕ → ℕ → ℕ
  s : ℕ → ℕ → ℕ → ℕ → ℕ
  are : (a b c d : ℕ) → in_first m (at (sub_ℕ a b) (sub_ℕ c d)) ≡ leb (p a b c d) (q a b c d) && leb (r a b c d) (s a b c d)

module _ (m : ℕ) (k : FirstRegion m) (z : Point) (a b c d : ℕ) (e : z ≡ at (sub_ℕ a b) (sub_ℕ c d)) where
  inside : k.p a b c d ≤ k.q a b c d → k.r a b c d ≤ k.s a b c d → in_first m z ≡ true
  inside f g = ap (in_first m) e ∙ k.are a b c d ∙ ap₂ ◌&&◌ (le-leb _ _ f) (le-leb _ _ g)

  not_p : k.q a b c d < k.p a b c d → in_first m z ≡ false
  not_p f = ap (in_first m) e ∙ k.are a b c d ∙ ap (λ (t : Bool). t && leb (k.r a b c d) (k.s a b c d)) (lt-leb _ _ f)

  not_r : k.s a b c d < k.r a b c d → in_first m z ≡ false
  not_r f = ap (in_first m) e ∙ k.are a b c d ∙ ap (λ (t : Bool). leb (k.p a b c d) (k.q a b c d) && t) (lt-leb _ _ f) ∙ and-false (leb (k.p a b c d) (k.q a b c d))

-- mode 2: im ≥ 0 and re > 0; here and below k is the mode's column
abbrev region_2 : (m k : ℕ) → k ≡ column m → k ≡ 2 → FirstRegion m
region_2 m k e h =
    record {
      p = λ a b c d. 0 + d;
      q = λ a b c d. c + 0;
      r = λ a b c d. suc (0 + b);
      s = λ a b c d. a + 0;
      are = unfold in_first in (λ a b c d. sym (mode_2 _ _ _ _ m k e h) ∙ ap₂ ◌&&◌ (less_difference 0 0 c d) (below_difference 0 0 a b));
    }

-- mode 4: quadrant I
abbrev region_4 : (m k : ℕ) → k ≡ column m → 1 < k → (k ≡ 2 → ⊥) → (k ≡ 3 → ⊥) → FirstRegion m
region_4 m k e h f g =
    record {
      p = λ a b c d. 0 + b;
      q = λ a b c d. a + 0;
      r = λ a b c d. suc (0 + d);
      s = λ a b c d. c + 0;
      are = unfold in_first in (λ a b c d. sym (mode_4 _ _ _ _ m k e h f g) ∙ ap₂ ◌&&◌ (less_difference 0 0 a b) (below_difference 0 0 c d));
    }

-- modes 1 and 3, about a state: up to n across for one along
abbrev pub Sloped : ℕ → ℕ → Type 0
Sloped m n = (a b c d : ℕ) → in_first m (at (sub_ℕ a b) (sub_ℕ c d)) ≡ leb (suc (b + n * d)) (n * c + a) && leb (c + n * b) (n * a + d)

pub sloped_1 : (m k : ℕ) → k ≡ column m → k ≤ 1 → Sloped m 1
unfolding in_first
sloped_1 m k e h a b c d =
    sym (mode_1 _ _ _ _ m k e h) ∙ within_difference a b c d
    ∙ ap₂ ◌&&◌ (leb-same (suc (b + d)) (c + a) (suc (b + 1 * d)) (1 * c + a) (λ l. omega arith) (λ l. omega arith))
    (leb-same (c + b) (a + d) (c + 1 * b) (1 * a + d) (λ l. omega arith) (λ l. omega arith))

pub sloped_3 : (m k : ℕ) → k ≡ column m → k ≡ 3 → Sloped m 2
unfolding in_first
sloped_3 m k e h a b c d =
    sym (mode_3 _ _ _ _ m k e h)
    ∙ ap₂ within45 (ap (λ (x : ℤ). x +ℤ sub_ℕ c d) (triple_difference a b) ∙ sum_difference (3 * a) (3 * b) c d)
    (ap₂ ◌+ℤ◌ (triple_difference c d) (negated_difference a b) ∙ sum_difference (3 * c) (3 * d) b a)
    ∙ within_difference (3 * a + c) (3 * b + d) (3 * c + b) (3 * d + a)
    ∙ ap₂ ◌&&◌ (leb-same (suc (3 * b + d + (3 * d + a))) (3 * c + b + (3 * a + c)) (suc (b + 2 * d)) (2 * c + a) (λ l. omega arith) (λ l. omega arith))
    (leb-same (3 * c + b + (3 * b + d)) (3 * a + c + (3 * d + a)) (c + 2 * b) (2 * a + d) (λ l. omega arith) (λ l. omega arith))

module _ (m n a b : ℕ) (e : Sloped m n) where
  abbrev sloped : FirstRegion m
  sloped =
      record {
        p = λ a b c d. suc (b + n * d);
        q = λ a b c d. n * c + a;
        r = λ a b c d. c + n * b;
        s = λ a b c d. n * a + d;
        are = e;
      }

  -- neither the turn by 90° nor that by 180°
  turn_near : (j : ℕ) → in_first m (base m a b) ≡ eqb 0 j → eqb 1 j ≡ false → eqb 2 j ≡ false → in_first m (turned_by 3 (base m a b)) ≡ eqb 3 j → Turn m (base m a b) j
  turn_near j f g h i =
      record {
        at_0 = f;
        at_1 = not_r m sloped _ 0 b (suc a) 0 (is_1 m a b) (omega arith) ∙ sym g;
        at_2 = not_p m sloped _ 0 (suc a) 0 b (is_2 m a b) (omega arith) ∙ sym h;
        at_3 = i;
      }

  pub turn_within : b ≤ n * suc a → Turn m (base m a b) 0
  turn_within l =
      turn_near 0 (inside m sloped _ (suc a) 0 b 0 (is_0 m a b) (omega arith) (omega arith)) refl refl (not_p m sloped _ b 0 0 (suc a) (is_3 m a b) (omega arith))

  pub turn_past : n * suc a < b → Turn m (base m a b) 3
  turn_past l =
      turn_near 3 (not_r m sloped _ (suc a) 0 b 0 (is_0 m a b) (omega arith)) refl refl (inside m sloped _ b 0 0 (suc a) (is_3 m a b) (omega arith) (omega arith))

-- the turn that lies in the first region, in modes 2 and 4
module _ (m k a b : ℕ) (e : k ≡ column m) where
  pub turn_2 : k ≡ 2 → Turn m (base m a b) 0
  turn_2 h =
      let r = region_2 m k e h in
      record {
        at_0 = inside m r _ (suc a) 0 b 0 (is_0 m a b) (omega arith) (omega arith);
        at_1 = not_r m r _ 0 b (suc a) 0 (is_1 m a b) (omega arith);
        at_2 = not_r m r _ 0 (suc a) 0 b (is_2 m a b) (omega arith);
        at_3 = not_p m r _ b 0 0 (suc a) (is_3 m a b) (omega arith);
      }

  pub turn_4 : 1 < k → (k ≡ 2 → ⊥) → (k ≡ 3 → ⊥) → 0 < b → Turn m (base m a b) 0
  turn_4 h f g l =
      let r = region_4 m k e h f g in
      record {
        at_0 = inside m r _ (suc a) 0 b 0 (is_0 m a b) (omega arith) (omega arith);
        at_1 = not_p m r _ 0 b (suc a) 0 (is_1 m a b) (omega arith);
        at_2 = not_p m r _ 0 (suc a) 0 b (is_2 m a b) (omega arith);
        at_3 = not_r m r _ b 0 0 (suc a) (is_3 m a b) (omega arith);
      }

  pub turn_4_axis : 1 < k → (k ≡ 2 → ⊥) → (k ≡ 3 → ⊥) → b ≡ 0 → Turn m (base m a b) 1
  turn_4_axis h f g l =
      let r = region_4 m k e h f g in
      record {
        at_0 = not_r m r _ (suc a) 0 b 0 (is_0 m a b) (omega arith);
        at_1 = inside m r _ 0 b (suc a) 0 (is_1 m a b) (omega arith) (omega arith);
        at_2 = not_p m r _ 0 (suc a) 0 b (is_2 m a b) (omega arith);
        at_3 = not_r m r _ b 0 0 (suc a) (is_3 m a b) (omega arith);
      }
