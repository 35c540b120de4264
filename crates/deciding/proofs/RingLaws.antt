-- What the code decides by the mode's ring is what document 01 says of the point. Assumes nothing.
use mathlib.Core.Path.{◌≡◌, refl, sym, ap, ap₂, ◌∙◌}
use mathlib.Core.Bool.{Bool, true, false, ◌&&◌, not, cond}
use mathlib.Core.List.{List}
use Prim.Native.Nat.{ℕ, zero, suc, ◌+◌, ◌*◌, ◌/◌, ◌%◌, ◌^◌, ◌<◌, ◌≤◌}
use native.Mathlib.Omega.{arith}
use native.Mathlib.Nat.{mul-pos}
use native.Mathlib.Decide.{dec_le}
use borrow.Author.Tests.{le-leb, lt-leb, lt-ltb, le-ltb}
use lib.Dec.{T, eqb, leb, ltb, eqb→eq}
use lib.ListN.{get_or}
use lib.IntN.{ℤ, pos, negsuc, nat_abs}
use lib.Signed.{lt_z}
use mir.Syntax.{w16}
use mir.Val.{to_z, of_z}
use Rattle.line.specs.Table.{below, every}
use Rattle.line.specs.Mode.{column, by_mode}
use Rattle.line.specs.Point.{at, is_origin}
use Rattle.deciding.specs.Decide.{State, Origin, decide}
use Rattle.deciding.specs.Sizes.{bit_of, below_of, quadrant_of, sq, far_of, ring_of, ring_index}
use Rattle.line.proofs.ByMode.{same-column, mode_1, mode_2, mode_3, mode_4}
use Rattle.line.proofs.TableLaws.{below_at, pairs_below}
use Rattle.deciding.proofs.Arcs.{arc, state1, state2, ring3, state3, ring4, outer_size, state4, state_arc}
use Rattle.deciding.proofs.SizeLaws.{not-zero, arc_decide}

-- A QUARTER IN THE RING

-- the quadrants I to IV
abbrev quad : ℕ → ℕ
quad k = 12 * bit_of (eqb k 2) + 8 * bit_of (eqb k 3) + 4 * bit_of (eqb k 1)

-- of an arc of k quarters: t says that `across` is far, u that `along` is; of an odd one `along` is im's size
abbrev part : ℕ → Bool → Bool → ℕ
part k t u = cond (eqb (k % 2) 0) (2 * bit_of u + bit_of t) (2 * bit_of t + bit_of u)

abbrev in_ring : ℕ → ℕ → ℕ → Bool → Bool → ℕ
in_ring m q k t u = get_or (ring_of m) (quad q + part k t u) 0

-- one computed test: all columns, all quarters, and both answers of both tests
abbrev Alike : (ℕ → ℕ → Bool → Bool → ℕ) → (ℕ → ℕ → Bool → Bool → ℕ) → Bool → Bool → Type 0
Alike f g t u = T (every (λ m. every (λ k. eqb (f m k t u) (g m k t u)) (below 4)) (below 5))

each : (f g : ℕ → ℕ → Bool → Bool → ℕ) → Alike f g true true → Alike f g true false → Alike f g false true → Alike f g false false
    → (m k : ℕ) → m < 5 → k < 4 → (t u : Bool) → f m k t u ≡ g m k t u
each f g a b c d m k h l t u = go t u
  where
    at_once : (t u : Bool) → Alike f g t u → f m k t u ≡ g m k t u
    at_once t u x =
        eqb→eq _ _ (pairs_below (λ n j. eqb (f n j t u) (g n j t u)) 5 4 x m k h l)

    go : (t u : Bool) → f m k t u ≡ g m k t u
    go true true = at_once true true a
    go true false = at_once true false b
    go false true = at_once false true c
    go false false = at_once false false d

not_past : (a b : ℕ) → cond (leb b a) 0 1 ≡ bit_of (ltb a b)
not_past a b = go (dec_le b a)
  where
    go : Dec (b ≤ a) → cond (leb b a) 0 1 ≡ bit_of (ltb a b)
    go (yes h) = rw (le-leb b a h, le-ltb a b h)
    go (no h) = let l : a < b = omega (arith, h) in rw (lt-leb b a l, lt-ltb a b l)

-- mode 2's arc by its sector
by_sector : ℕ → Bool → Bool → ℕ
by_sector k t u = cond u (k * 2) (cond t ((k * 2 + 2) % 8) (k * 2 + 1))

sector_state : (k a b : ℕ) → state2 (arc k a b) ≡ by_sector k (ltb (sq (a + b)) (2 * sq b)) (ltb (sq (b + a)) (2 * sq a))
unfolding state2 by_sector
sector_state k a b = rw (let e : b + a ≡ a + b = omega arith in e)

-- THE ARCS IN THE RING

-- off the axes
arc_state : ℕ → ℕ → Bool → Bool → ℕ
arc_state m k t u =
    by_mode m ((k + bit_of t) % 4 * 2) (by_sector k t u) (get_or ring3 ((k + bit_of t) % 4) 0) (get_or ring4 (k * 4 + bit_of t * 2 + bit_of u) 0)

in_ring_lem : (m k : ℕ) → m < 5 → k < 4 → (t u : Bool) → arc_state m k t u ≡ in_ring m k k t u
unfolding arc_state ring_of by_sector ring3 ring4
in_ring_lem m k h l t u = each arc_state (λ n j a b. in_ring n j j a b) tt tt tt tt m k h l t u

-- on the axis before a quarter, which belongs to the quadrant before it: `across` is not far, and `along` is, in mode 4 by its level
axis_state : ℕ → ℕ → Bool → ℕ
axis_state m k u =
    by_mode m ((k + 0) % 4 * 2) (by_sector k false true) (get_or ring3 ((k + 0) % 4) 0) (get_or ring4 ((k + 3) % 4 * 4 + bit_of u * 2) 0)

axis_far : ℕ → Bool → Bool
axis_far m u = by_mode m true true true u

on_ring : (m k : ℕ) → m < 5 → k < 4 → (u : Bool) → axis_state m k u ≡ in_ring m ((k + 3) % 4) k false (axis_far m u)
unfolding axis_state axis_far ring_of by_sector ring3 ring4
on_ring m k h l u = each (λ n j a b. axis_state n j b) (λ n j a b. in_ring n ((j + 3) % 4) j false (axis_far n b)) tt tt tt tt m k h l true u

-- an arc's state is found in the mode's ring
abbrev InRing : ℕ → ℕ → ℕ → ℕ → ℕ → Type 0
InRing m q k a b = state_arc m (arc k a b) ≡ in_ring m q k (far_of m a b) (far_of m b a)

-- by the column j that the mode reads: its state of the arc, its ring and its tests
by_column : (m j q k a b s : ℕ) (t u : Bool) → s ≡ state_arc m (arc k a b) → s ≡ in_ring j q k t u → ring_of j ≡ ring_of m → t ≡ far_of m a b → u ≡ far_of m b a
    → InRing m q k a b
by_column m j q k a b s t u e i r f g =
    sym e ∙ i ∙ ap (λ (x : List ℕ). get_or x (quad q + part k t u) 0) r ∙ ap₂ (λ (x y : Bool). in_ring m q k x y) f g

arc_in : (m k a b : ℕ) → k < 4 → InRing m k k (suc a) (suc b)
unfolding state_arc far_of ring_of state1 state3 state4 outer_size arc_state
arc_in m k a b l = go (column m) refl
  where
    low : (n : ℕ) → n ≡ column m → n ≤ 1 → InRing m k k (suc a) (suc b)
    low n c h =
        by_column m 1 k k (suc a) (suc b) _ _ _ (mode_1 _ _ _ _ m n c h)
        (ap (λ (i : ℕ). (k + i) % 4 * 2) (not_past (suc a) (suc b)) ∙ in_ring_lem 1 k (omega arith) l (ltb (suc a) (suc b)) (ltb (suc b) (suc a)))
        (mode_1 _ _ _ _ m n c h) (mode_1 _ _ _ _ m n c h) (mode_1 _ _ _ _ m n c h)

    go : (n : ℕ) → n ≡ column m → InRing m k k (suc a) (suc b)
    go zero c = low 0 c (omega arith)
    go (suc zero) c = low 1 c (omega arith)
    go (suc (suc zero)) c =
        by_column m 2 k k (suc a) (suc b) _ _ _ (mode_2 _ _ _ _ m 2 c refl)
        (sector_state k (suc a) (suc b)
        ∙ in_ring_lem 2 k (omega arith) l (ltb (sq (suc a + suc b)) (2 * sq (suc b))) (ltb (sq (suc b + suc a)) (2 * sq (suc a))))
        (mode_2 _ _ _ _ m 2 c refl) (mode_2 _ _ _ _ m 2 c refl) (mode_2 _ _ _ _ m 2 c refl)
    go (suc (suc (suc zero))) c =
        by_column m 3 k k (suc a) (suc b) _ _ _ (mode_3 _ _ _ _ m 3 c refl)
        (ap (λ (i : ℕ). get_or ring3 ((k + i) % 4) 0) (not_past (2 * suc a) (suc b)) ∙ in_ring_lem 3 k (omega arith) l (ltb (2 * suc a) (suc b)) (ltb (2 * suc b) (suc a)))
        (mode_3 _ _ _ _ m 3 c refl) (mode_3 _ _ _ _ m 3 c refl) (mode_3 _ _ _ _ m 3 c refl)
    go (suc (suc (suc (suc i)))) c =
        let n : ℕ = suc (suc (suc (suc i))) in
        let h : 1 < n = omega arith in
        let f : n ≡ 2 → ⊥ = λ e. omega arith in
        let g : n ≡ 3 → ⊥ = λ e. omega arith in
        let r : state4 (arc k (suc a) (suc b)) ≡ in_ring 4 k k (leb 2048 (suc b)) (leb 2048 (suc a)) =
        rw (not-zero b) (in_ring_lem 4 k (omega arith) l (leb 2048 (suc b)) (leb 2048 (suc a))) in
        by_column m 4 k k (suc a) (suc b) _ _ _ (mode_4 _ _ _ _ m n c h f g) r
        (mode_4 _ _ _ _ m n c h f g) (mode_4 _ _ _ _ m n c h f g) (mode_4 _ _ _ _ m n c h f g)

arc_on : (m k a : ℕ) → k < 4 → InRing m ((k + 3) % 4) k (suc a) 0
unfolding state_arc far_of ring_of state1 state3 state4 outer_size axis_state axis_far
arc_on m k a l = go (column m) refl
  where
    low : (n : ℕ) → n ≡ column m → n ≤ 1 → InRing m ((k + 3) % 4) k (suc a) 0
    low n c h =
        let r : state1 (arc k (suc a) 0) ≡ in_ring 1 ((k + 3) % 4) k (ltb (suc a) 0) (ltb 0 (suc a)) =
        rw (le-leb 0 (suc a) (omega arith), le-ltb (suc a) 0 (omega arith), lt-ltb 0 (suc a) (omega arith)) (on_ring 1 k (omega arith) l true) in
        by_column m 1 ((k + 3) % 4) k (suc a) 0 _ _ _ (mode_1 _ _ _ _ m n c h) r (mode_1 _ _ _ _ m n c h) (mode_1 _ _ _ _ m n c h) (mode_1 _ _ _ _ m n c h)

    go : (n : ℕ) → n ≡ column m → InRing m ((k + 3) % 4) k (suc a) 0
    go zero c = low 0 c (omega arith)
    go (suc zero) c = low 1 c (omega arith)
    go (suc (suc zero)) c =
        let p : 0 < suc a * suc a = mul-pos (omega arith) (omega arith) in
        let t : ltb (sq (suc a + 0)) (2 * sq 0) ≡ false = le-ltb (sq (suc a + 0)) (2 * sq 0) (omega arith) in
        let u : ltb (sq (0 + suc a)) (2 * sq (suc a)) ≡ true = lt-ltb (sq (0 + suc a)) (2 * sq (suc a)) (omega arith) in
        by_column m 2 ((k + 3) % 4) k (suc a) 0 _ _ _ (mode_2 _ _ _ _ m 2 c refl)
        (sector_state k (suc a) 0 ∙ ap₂ (λ (x y : Bool). by_sector k x y) t u ∙ on_ring 2 k (omega arith) l true)
        (mode_2 _ _ _ _ m 2 c refl) (sym t ∙ mode_2 _ _ _ _ m 2 c refl) (sym u ∙ mode_2 _ _ _ _ m 2 c refl)
    go (suc (suc (suc zero))) c =
        let r : state3 (arc k (suc a) 0) ≡ in_ring 3 ((k + 3) % 4) k (ltb (2 * suc a) 0) (ltb (2 * 0) (suc a)) =
        rw (le-leb 0 (2 * suc a) (omega arith), le-ltb (2 * suc a) 0 (omega arith), lt-ltb 0 (suc a) (omega arith)) (on_ring 3 k (omega arith) l true) in
        by_column m 3 ((k + 3) % 4) k (suc a) 0 _ _ _ (mode_3 _ _ _ _ m 3 c refl) r (mode_3 _ _ _ _ m 3 c refl) (mode_3 _ _ _ _ m 3 c refl) (mode_3 _ _ _ _ m 3 c refl)
    go (suc (suc (suc (suc i)))) c =
        let n : ℕ = suc (suc (suc (suc i))) in
        let h : 1 < n = omega arith in
        let f : n ≡ 2 → ⊥ = λ e. omega arith in
        let g : n ≡ 3 → ⊥ = λ e. omega arith in
        by_column m 4 ((k + 3) % 4) k (suc a) 0 _ _ _ (mode_4 _ _ _ _ m n c h f g) (on_ring 4 k (omega arith) l (leb 2048 (suc a)))
        (mode_4 _ _ _ _ m n c h f g) (mode_4 _ _ _ _ m n c h f g) (mode_4 _ _ _ _ m n c h f g)

-- by a mode's column the ring and the place in it are the mode's
module _ (m k : ℕ) (f : k ≡ column m) where
  pub ring_column : ring_of k ≡ ring_of m
  unfolding ring_of
  ring_column = same-column _ _ _ _ m k f

  far_column : (x y : ℕ) → far_of k x y ≡ far_of m x y
  unfolding far_of
  far_column x y = same-column _ _ _ _ m k f

  pub index_column : (re im : ℤ) → ring_index k re im ≡ ring_index m re im
  unfolding ring_index
  index_column re im = ap₂ (λ (t u : Bool). quadrant_of re im + (2 * bit_of t + bit_of u)) (far_column _ _) (far_column _ _)

  pub state_column : (re im : ℤ) → get_or (ring_of k) (ring_index k re im) 0 ≡ get_or (ring_of m) (ring_index m re im) 0
  state_column re im = ap₂ (λ (l : List ℕ) (i : ℕ). get_or l i 0) ring_column (index_column re im)

-- A POINT IN THE RING

below_negative : (n : ℕ) (t : Bool) → below_of (negsuc n) t ≡ true
unfolding below_of
below_negative n t = refl

below-zero : (t : Bool) → below_of (pos 0) t ≡ t
unfolding below_of
below-zero true = refl
below-zero false = refl

below_positive : (n : ℕ) (t : Bool) → below_of (pos (suc n)) t ≡ false
unfolding below_of
below_positive n true = le-ltb (suc n) 1 (omega arith)
below_positive n false = le-ltb (suc n) 0 (omega arith)

-- the state of a point in the quadrant q, from that of turns of one with re > 0 and im ≥ 0
from_arc : (m q x y s : ℕ) (re im : ℤ) → quadrant_of re im ≡ q → nat_abs re ≡ x → nat_abs im ≡ y → decide m (at re im) ≡ State s
    → s ≡ get_or (ring_of m) (q + (2 * bit_of (far_of m y x) + bit_of (far_of m x y))) 0 → State (get_or (ring_of m) (ring_index m re im) 0) ≡ decide m (at re im)
unfolding ring_index
from_arc m q x y s re im eq ex ey d e = rw (eq, ex, ey) (ap State (sym e) ∙ sym d)

pub by_ring : (m : ℕ) (re im : ℤ) → is_origin (at re im) ≡ false → State (get_or (ring_of m) (ring_index m re im) 0) ≡ decide m (at re im)
unfolding is_origin quadrant_of
by_ring m (pos zero) (pos zero) e = let z : ◌≡◌ {A = Bool} true false = e in cc
by_ring m (pos (suc x)) (pos zero) e = from_arc m 8 (suc x) 0 _ _ _ (simp (below_positive, below-zero)) refl refl (arc_decide m 0 x 0 (omega arith)) (arc_on m 0 x (omega arith))
by_ring m (pos (suc x)) (pos (suc y)) e = from_arc m 0 (suc x) (suc y) _ _ _ (simp below_positive) refl refl (arc_decide m 0 x (suc y) (omega arith)) (arc_in m 0 x y (omega arith))
by_ring m (pos zero) (pos (suc y)) e = from_arc m 0 0 (suc y) _ _ _ (simp (below_positive, below-zero)) refl refl (arc_decide m 1 y 0 (omega arith)) (arc_on m 1 y (omega arith))
by_ring m (negsuc x) (pos (suc y)) e = from_arc m 4 (suc x) (suc y) _ _ _ (simp (below_positive, below_negative)) refl refl (arc_decide m 1 y (suc x) (omega arith)) (arc_in m 1 y x (omega arith))
by_ring m (negsuc x) (pos zero) e = from_arc m 4 (suc x) 0 _ _ _ (simp (below-zero, below_negative)) refl refl (arc_decide m 2 x 0 (omega arith)) (arc_on m 2 x (omega arith))
by_ring m (negsuc x) (negsuc y) e = from_arc m 12 (suc x) (suc y) _ _ _ (simp below_negative) refl refl (arc_decide m 2 x (suc y) (omega arith)) (arc_in m 2 x y (omega arith))
by_ring m (pos zero) (negsuc y) e = from_arc m 12 0 (suc y) _ _ _ (simp (below-zero, below_negative)) refl refl (arc_decide m 3 y 0 (omega arith)) (arc_on m 3 y (omega arith))
by_ring m (pos (suc x)) (negsuc y) e = from_arc m 8 (suc x) (suc y) _ _ _ (simp (below_positive, below_negative)) refl refl (arc_decide m 3 y (suc x) (omega arith)) (arc_in m 3 y x (omega arith))

pub ring_law : (m : ℕ) (re im : ℤ) (ring : List ℕ) (n : ℕ) → n ≡ get_or ring (ring_index m re im) 0 → ring ≡ ring_of m → n ≡ get_or (ring_of m) (ring_index m re im) 0
ring_law m re im ring n q e = q ∙ ap (λ (l : List ℕ). get_or l (ring_index m re im) 0) e

pub looked_up : (m : ℕ) (re im : ℤ) (ring : List ℕ) (n : ℕ) → ring ≡ ring_of m → n ≡ get_or ring (ring_index m re im) 0 → is_origin (at re im) ≡ false → State n ≡ decide m (at re im)
looked_up m re im ring n e q o = ap State (ring_law m re im ring n q e) ∙ by_ring m re im o

pub origin_none : (m : ℕ) (re im : ℤ) → is_origin (at re im) ≡ true → Origin ≡ decide m (at re im)
unfolding decide
origin_none m re im e = rw e

-- THE PACKED RINGS

-- one computed test: the number holds the states of column j's ring, each in four bits
abbrev pub Packs : ℕ → ℕ → Type 0
Packs j n = T (every (λ i. eqb (n / 2 ^ (4 * i) % 16) (get_or (ring_of j) i 0)) (below 16))

pub unpacked : (j : ℕ) (re im : ℤ) (n i r : ℕ) → r ≡ n / 2 ^ (4 * i) % 16 → Packs j n → (i ≡ ring_index j re im) × (i < 16)
    → r ≡ get_or (ring_of j) (ring_index j re im) 0
unpacked j re im n i r q t h =
    q ∙ eqb→eq _ _ (below_at (λ k. eqb (n / 2 ^ (4 * k) % 16) (get_or (ring_of j) k 0)) 16 t i h.1) ∙ ap (λ (k : ℕ). get_or (ring_of j) k 0) h.0

-- the code takes the way of column 1 for 0 too
pub first_state : (m : ℕ) (re im : ℤ) → m ≤ 1 → get_or (ring_of 1) (ring_index 1 re im) 0 ≡ get_or (ring_of m) (ring_index m re im) 0
unfolding ring_of ring_index far_of
first_state zero re im h = refl
first_state (suc zero) re im h = refl
first_state (suc (suc m)) re im h = absurd (let f : ⊥ = omega arith in f)

pub same_state : (j m : ℕ) (re im : ℤ) → j ≡ m → get_or (ring_of j) (ring_index j re im) 0 ≡ get_or (ring_of m) (ring_index m re im) 0
same_state j m re im e = ap (λ (k : ℕ). get_or (ring_of k) (ring_index k re im) 0) e

-- WHAT THE FUNCTIONS COMPUTE

pub origin_law : (re im : ℤ) (x y : ℕ) → x ≡ nat_abs re → y ≡ nat_abs im → eqb x 0 && eqb y 0 ≡ is_origin (at re im)
unfolding is_origin
origin_law re im x y ex ey = ap₂ (λ (i j : ℕ). eqb i 0 && eqb j 0) ex ey

-- the number that `one_if` gave, as an i16 comes back
pub below_law : (x n : ℤ) (t : Bool) → n ≡ pos (bit_of t) → lt_z x (to_z w16 (of_z w16 n)) ≡ below_of x t
unfolding below_of
below_law x n true e = rw e
below_law x n false e = rw e

pub index_law : (m : ℕ) (re im : ℤ) (x y d l u v : ℕ) (right below-im below-re down far-x far-y : Bool) → x ≡ nat_abs re → y ≡ nat_abs im
    → right ≡ below_of re true → down ≡ below_of im (not right) → d ≡ bit_of down
    → below-im ≡ below_of im false → below-re ≡ below_of re below-im → l ≡ bit_of below-re
    → far-x ≡ far_of m y x → u ≡ bit_of far-x → far-y ≡ far_of m x y → v ≡ bit_of far-y
    → 8 * d + 4 * l + (2 * u + v) ≡ ring_index m re im
unfolding ring_index quadrant_of
index_law m re im x y d l u v right below-im below-re down far-x far-y ex ey e1 e2 e3 e4 e5 e6 e7 e8 e9 e10 =
    rw (e3, e2, e1, e6, e5, e4, e8, e7, e10, e9, ex, ey)
