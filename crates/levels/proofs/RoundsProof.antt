-- The rounded number is the nearest, ties to even, and the code's number is the same wherever it counts. Assumes nothing.
use Prim.Native.Nat.{ℕ, suc, ◌+◌, ◌*◌, ◌-◌, ◌%◌, ◌<◌, ◌≤◌}
use mathlib.Core.Path.{◌≡◌, sym, ap, ◌∙◌, subst, subst₂}
use mathlib.Core.Bool.{Bool, true, false, ◌&&◌}
use mathlib.Core.Logic.{⊎_elim}
use native.Mathlib.Nat.{suc-mul, mul-le-mul_right}
use native.Mathlib.Omega.{arith}
use borrow.Author.Tests.{leb-true}
use lib.Dec.{T}
use lib.IntN.{ℤ, pos, negsuc, neg_ℤ, nat_abs, neg_ℤ-neg_ℤ}
use lib.Ieee.{Float, nan, inf, fin, up, down}
use lib.Ieee.Nearest.{closest}
use Rattle.line.specs.Point.{coordinate_in}
use mir.Syntax.{w16, w32}
use mir.Val.{SFits, to_z, of_z}
use mir.Facts.{to_z-of_z, sfits_widen}
use Rattle.line.proofs.Tests.{lt_or_ge}
use Rattle.line.proofs.TableLaws.{is_true, and_right}
use Rattle.levels.specs.Levels.{is_finite, with_sign, rounded, in_reach}
use Rattle.levels.specs.Laws.{numerator, denominator, off, NearestEven, Rounds, JudgedRounded}
use Rattle.levels.proofs.NearestLaws.{order, Half, within_half}
use Rattle.levels.proofs.FieldLaws.{down_positive}
use Rattle.levels.proofs.SignLaws.{abs_negated, off_negated, off_above, off-below}

-- A NUMBER FROM 0 ON

module _ (a d : ℕ) (h : 0 < d) where
  from_half : (k : ℕ) → Half a d k → NearestEven (pos a) d (pos k)
  from_half k w =
      let o = off_above a d k in
      record {
        within_half = omega (arith, o, w.above, w.below);
        even_at_a_tie = λ t. ⊎_elim (λ l. w.even_below (omega (arith, o, t, l))) (λ l. w.even_above (omega (arith, o, t, l))) (lt_or_ge (k * d) a);
      }

  to_half : (k : ℕ) → NearestEven (pos a) d (pos k) → Half a d k
  to_half k w =
      let o = off_above a d k in
      record {
        above = omega (arith, o, w.within_half);
        below = omega (arith, o, w.within_half);
        even_above = λ e. w.even_at_a_tie (omega (arith, o, e, h));
        even_below = λ e. w.even_at_a_tie (omega (arith, o, e, h));
      }

  -- the greater of two would be one more, and both would be even
  half_not_less : (k l : ℕ) → Half a d k → Half a d l → k < l → ⊥
  half_not_less k l v w g =
      let s : suc k * d ≤ l * d = mul-le-mul_right d g in
      let t : suc k * d ≡ k * d + d = suc-mul k d in
      let e : l * d ≡ suc k * d = omega (arith, v.below, w.above) in
      let n : l ≡ suc k = ⊎_elim (λ (i : suc k < l). let j : suc (suc k) * d ≤ l * d = mul-le-mul_right d i in let u : suc (suc k) * d ≡ suc k * d + d = suc-mul (suc k) d in absurd (omega (arith, j, u, e, h))) (λ (i : l ≤ suc k). omega (arith, i, g)) (lt_or_ge (suc k) l) in
      let p : k % 2 ≡ 0 = v.even_below (omega (arith, v.below, w.above)) in
      let q : l % 2 ≡ 0 = w.even_above (omega (arith, v.below, w.above)) in
      omega arith

  half_one : (k l : ℕ) → Half a d k → Half a d l → k ≡ l
  half_one k l v w = ⊎_elim (λ g. absurd (half_not_less k l v w g)) (⊎_elim (λ e. e) (λ g. absurd (half_not_less l k w v g))) (order k l)

  one_above : (k : ℕ) → Half a d k → (n : ℤ) → NearestEven (pos a) d n → n ≡ pos k
  one_above k v (pos l) w = ap pos (half_one l k (to_half l w) v)
  one_above k v (negsuc l) w = let o = off-below a d l in let t : suc l * d ≡ l * d + d = suc-mul l d in absurd (omega (arith, o, t, w.within_half, h))

  nearer_above : (k : ℕ) → Half a d k → (n : ℤ) → off (pos a) d (pos k) ≤ off (pos a) d n
  nearer_above k v (pos l) = subst₂ ◌≤◌ (sym (off_above a d k)) (sym (off_above a d l)) (⊎_elim less (⊎_elim same more) (order k l))
    where
      less : k < l → (a - k * d) + (k * d - a) ≤ (a - l * d) + (l * d - a)
      less g = let s : suc k * d ≤ l * d = mul-le-mul_right d g in let t : suc k * d ≡ k * d + d = suc-mul k d in omega (arith, v.above, v.below)

      same : k ≡ l → (a - k * d) + (k * d - a) ≤ (a - l * d) + (l * d - a)
      same e = rw e (omega arith)

      more : l < k → (a - k * d) + (k * d - a) ≤ (a - l * d) + (l * d - a)
      more g = let s : suc l * d ≤ k * d = mul-le-mul_right d g in let t : suc l * d ≡ l * d + d = suc-mul l d in omega (arith, v.above, v.below)
  nearer_above k v (negsuc l) =
      let o = off_above a d k in
      let p = off-below a d l in
      let t : suc l * d ≡ l * d + d = suc-mul l d in
      omega (arith, o, p, v.above, v.below)

-- EITHER SIGN

negated_nearest : (a : ℤ) (d : ℕ) (n : ℤ) → NearestEven a d n → NearestEven (neg_ℤ a) d (neg_ℤ n)
negated_nearest a d n w =
    let o = off_negated a d n in
    record {
      within_half = subst (λ (i : ℕ). i * 2 ≤ d) (sym o) w.within_half;
      even_at_a_tie = λ t. ap (λ (i : ℕ). i % 2) (abs_negated n) ∙ w.even_at_a_tie (ap (λ (i : ℕ). i * 2) (sym o) ∙ t);
    }

module _ (a d k : ℕ) (h : 0 < d) (v : Half a d k) where
  signed-nearest : (s : Bool) → NearestEven (with_sign s a) d (with_sign s k)
  signed-nearest true = negated_nearest (pos a) d (pos k) (from_half a d h k v)
  signed-nearest false = from_half a d h k v

  signed_one : (s : Bool) (n : ℤ) → NearestEven (with_sign s a) d n → n ≡ with_sign s k
  signed_one true n w =
      sym (neg_ℤ-neg_ℤ n) ∙ ap neg_ℤ (one_above a d h k v (neg_ℤ n) (subst (λ (z : ℤ). NearestEven z d (neg_ℤ n)) (neg_ℤ-neg_ℤ (pos a)) (negated_nearest (neg_ℤ (pos a)) d n w)))
  signed_one false n w = one_above a d h k v n w

  signed_nearer : (s : Bool) (n : ℤ) → off (with_sign s a) d (with_sign s k) ≤ off (with_sign s a) d n
  signed_nearer true n =
      subst₂ ◌≤◌ (sym (off_negated (pos a) d (pos k))) (sym (off_negated (pos a) d (neg_ℤ n)) ∙ ap (off (neg_ℤ (pos a)) d) (neg_ℤ-neg_ℤ n)) (nearer_above a d h k v (neg_ℤ n))
  signed_nearer false n = nearer_above a d h k v n

half : (m : ℕ) (e : ℤ) → Half (1024 * (m * up e)) (down e) (closest (1024 * (m * up e)) (down e))
half m e = within_half (1024 * (m * up e)) (down e) (down_positive e)

nearest : (v : Float) → T (is_finite v) → NearestEven (numerator v) (denominator v) (rounded v)
unfolding is_finite rounded
nearest nan t = absurd t
nearest (inf s) t = absurd t
nearest (fin s m e) t = signed-nearest (1024 * (m * up e)) (down e) (closest (1024 * (m * up e)) (down e)) (down_positive e) (half m e) s

nearer : (v : Float) → T (is_finite v) → (n : ℤ) → off (numerator v) (denominator v) (rounded v) ≤ off (numerator v) (denominator v) n
unfolding is_finite rounded
nearer nan t n = absurd t
nearer (inf s) t n = absurd t
nearer (fin s m e) t n = signed_nearer (1024 * (m * up e)) (down e) (closest (1024 * (m * up e)) (down e)) (down_positive e) (half m e) s n

only : (v : Float) → T (is_finite v) → (n : ℤ) → NearestEven (numerator v) (denominator v) n → n ≡ rounded v
unfolding is_finite rounded
only nan t n w = absurd t
only (inf s) t n w = absurd t
only (fin s m e) t n w = signed_one (1024 * (m * up e)) (down e) (closest (1024 * (m * up e)) (down e)) (down_positive e) (half m e) s n w

pub rounds : Rounds
rounds = record { is_nearest = nearest; none_nearer = nearer; no_other = only }

-- RANGE

pub judged_rounded : JudgedRounded
unfolding in_reach
judged_rounded v f = ap (λ (b : Bool). b && coordinate_in (rounded v)) f

reach_range : (v : Float) → T (in_reach v) → T (coordinate_in (rounded v))
unfolding in_reach
reach_range v t = and_right (is_finite v) (coordinate_in (rounded v)) t

-- what is in reach is an i16
fitting : (z : ℤ) → nat_abs z ≤ 16384 → SFits w16 z
fitting (pos n) l = record { sfits = omega arith }
fitting (negsuc n) l = record { sfits = omega arith }

pub reach_fits : (v : Float) → T (in_reach v) → SFits w16 (rounded v)
reach_fits v t = fitting (rounded v) (leb-true _ _ (is_true _ (reach_range v t)))

-- an i32 that is it, made an i16
module _ (v : Float) (t : T (in_reach v)) (z : ℤ) (e : z ≡ rounded v) where
  wide_back : to_z w32 (of_z w32 z) ≡ rounded v
  wide_back = ap (λ (y : ℤ). to_z w32 (of_z w32 y)) e ∙ to_z-of_z {w = w32} (sfits_widen tt (reach_fits v t))

  pub cast_fits : SFits w16 (to_z w32 (of_z w32 z))
  cast_fits = subst (λ (y : ℤ). SFits w16 y) (sym wide_back) (reach_fits v t)

  pub cast_back : to_z w16 (of_z w16 (to_z w32 (of_z w32 z))) ≡ rounded v
  cast_back = to_z-of_z {w = w16} cast_fits ∙ wide_back
