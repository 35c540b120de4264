-- Two comparisons with 16384.5 / 1024 say whether a coordinate is refused. Assumes nothing.
use Prim.Native.Nat.{ℕ, suc, ◌+◌, ◌*◌, ◌<◌, ◌≤◌}
use mathlib.Core.Path.{◌≡◌, refl, sym, ap, ap₂, ◌∙◌, subst}
use mathlib.Core.Bool.{Bool, true, false, ◌&&◌, ◌||◌, and-true}
use mathlib.Core.Logic.{⊎_elim}
use native.Mathlib.Nat.{add_comm, lt_of_not-le, mul-le-mul_right}
use native.Mathlib.Omega.{arith}
use borrow.Author.Tests.{le-leb, lt-leb}
use lib.Dec.{T, leb, ltb, eqb, lit≤, eqb→eq, eqb_refl}
use lib.IntN.{ℤ, pos, negsuc}
use lib.Count.{count_trailing_zeros}
use lib.Ieee.{Float, nan, inf, fin, up, down, binary32, odd, of_fields, of_bits, neg, lt, eq, le}
use lib.Ieee.Nearest.{closest, closest_mono}
use Rattle.line.proofs.Tests.{lt_or_ge}
use Rattle.line.proofs.TableLaws.{is_true, no_so}
use Rattle.levels.specs.Levels.{is_finite, rounded, in_reach}
use Rattle.levels.proofs.NearestLaws.{order, within_half}
use Rattle.levels.proofs.SignLaws.{abs_negated}
use Rattle.levels.proofs.FieldLaws.{down_positive}

-- 32769 / 2048 levels are 16384.5 units
most : of_bits binary32 1098907904 ≡ fin false 32769 (negsuc 10)
unfolding of_bits of_fields odd count_trailing_zeros
most = refl

-- a number that is at most 16384.5 rounds to one of at most 16384, and a greater one does not
closest-most : (a b : ℕ) → 0 < b → (a * 2 ≤ 32769 * b → closest a b ≤ 16384) × (closest a b ≤ 16384 → a * 2 ≤ 32769 * b)
closest-most a b h = (
  λ l. closest_mono a b 32769 2 h (lit≤ tt) l,
  λ l.
      let w = (within_half a b h).below in
      let c : closest a b * b ≤ 16384 * b = mul-le-mul_right b l in
      omega (arith, w, c),
)

-- "less, or equal and of the same sign" is "at most"
at_most : (x y : ℕ) (q t : Bool) → (T q → x ≡ y) → (x ≡ y → T q) → (ltb x y || (q && (true || t))) ≡ leb x y
at_most x y q t f g = ⊎_elim less (⊎_elim same more) (order x y)
  where
    less : x < y → (ltb x y || (q && true)) ≡ leb x y
    less l = ap (λ (b : Bool). b || (q && true)) (le-leb (suc x) y l) ∙ sym (le-leb x y (omega arith))

    same : x ≡ y → (ltb x y || (q && true)) ≡ leb x y
    same e = rw (lt-leb (suc x) y (omega arith), is_true q (g e), le-leb x y (omega arith))

    more : y < x → (ltb x y || (q && true)) ≡ leb x y
    more l = rw (lt-leb (suc x) y (omega arith), no_so q (λ h. let e : x ≡ y = f h in omega arith), lt-leb x y l)

eqb_both : (x y : ℕ) → (T (eqb x y) → x ≡ y) × (x ≡ y → T (eqb x y))
eqb_both x y = (eqb→eq x y, λ e. subst (λ (z : ℕ). T (eqb x z)) e (eqb_refl x))

module _ (m : ℕ) (e : ℤ) where
  -- 2048 times the size of v, and 2048 times 16384.5 / 1024, each times the denominator
  abbrev scaled : ℕ
  scaled = m * up e * 2048

  abbrev bound : ℕ
  bound = 32769 * 1 * down e

  twice : 1024 * (m * up e) * 2 ≡ scaled
  twice = omega arith

  reach_size : leb scaled bound ≡ leb (closest (1024 * (m * up e)) (down e)) 16384
  reach_size = ⊎_elim beyond within (lt_or_ge bound scaled)
    where
      p : (1024 * (m * up e) * 2 ≤ 32769 * down e → closest (1024 * (m * up e)) (down e) ≤ 16384)
          × (closest (1024 * (m * up e)) (down e) ≤ 16384 → 1024 * (m * up e) * 2 ≤ 32769 * down e)
      p = closest-most (1024 * (m * up e)) (down e) (down_positive e)

      beyond : bound < scaled → leb scaled bound ≡ leb (closest (1024 * (m * up e)) (down e)) 16384
      beyond l =
          let g : 16384 < closest (1024 * (m * up e)) (down e) = lt_of_not-le (λ (h : closest (1024 * (m * up e)) (down e) ≤ 16384). let k : 1024 * (m * up e) * 2 ≤ 32769 * down e = p.1 h in let t = twice in omega arith) in
          lt-leb scaled bound l ∙ sym (lt-leb (closest (1024 * (m * up e)) (down e)) 16384 g)

      within : scaled ≤ bound → leb scaled bound ≡ leb (closest (1024 * (m * up e)) (down e)) 16384
      within l =
          let k : 1024 * (m * up e) * 2 ≤ 32769 * down e = omega (arith, twice) in
          le-leb scaled bound l ∙ sym (le-leb (closest (1024 * (m * up e)) (down e)) 16384 (p.0 k))

  bound_positive : ltb 0 (scaled + bound) ≡ true
  bound_positive = let d = down_positive e in le-leb 1 (scaled + bound) (omega (arith, d))

  finite_reach : (s : Bool) → (le (neg (fin false 32769 (negsuc 10))) (fin s m e) && le (fin s m e) (fin false 32769 (negsuc 10))) ≡ in_reach (fin s m e)
  unfolding le lt eq neg in_reach is_finite rounded
  finite_reach true =
      ap₂ ◌&&◌ (at_most scaled bound (eqb bound scaled) (eqb bound 0) (λ h. sym ((eqb_both bound scaled).0 h)) (λ h. (eqb_both bound scaled).1 (sym h)))
      (ap (λ (b : Bool). b || (eqb scaled bound && (false || eqb scaled 0))) bound_positive)
      ∙ and-true (leb scaled bound) ∙ reach_size ∙ ap (λ (n : ℕ). leb n 16384) (sym (abs_negated (pos (closest (1024 * (m * up e)) (down e)))))
  finite_reach false =
      ap₂ ◌&&◌ (ap (λ (b : Bool). b || (eqb bound scaled && (false || eqb bound 0))) (ap (ltb 0) (add_comm bound scaled) ∙ bound_positive))
      (at_most scaled bound (eqb scaled bound) (eqb scaled 0) (eqb_both scaled bound).0 (eqb_both scaled bound).1)
      ∙ reach_size

reach_by : (v : Float) → (le (neg (fin false 32769 (negsuc 10))) v && le v (fin false 32769 (negsuc 10))) ≡ in_reach v
unfolding le lt eq neg in_reach is_finite
reach_by nan = refl
reach_by (inf true) = refl
reach_by (inf false) = refl
reach_by (fin s m e) = finite_reach m e s

pub reach_law : (v : Float) → (le (neg (of_bits binary32 1098907904)) v && le v (of_bits binary32 1098907904)) ≡ in_reach v
reach_law v = ap (λ (u : Float). le (neg u) v && le v u) most ∙ reach_by v
