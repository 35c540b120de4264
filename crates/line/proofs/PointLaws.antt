-- What the public functions on points give, from what their callees ensure; and the points of a list of numbers. Assumes nothing.
use mathlib.Core.Path.{◌≡◌, refl, sym, ap, ap₂, ◌∙◌}
use mathlib.Core.Bool.{◌&&◌, and-true}
use mathlib.Core.List.{List, [], ◌∷◌, ◌++◌}
use Prim.Native.Nat.{ℕ, zero, suc, ◌+◌, ◌-◌, ◌*◌, ◌/◌, ◌%◌, ◌≤◌, ◌<◌}
use native.Mathlib.Omega.{arith}
use native.Mathlib.Decide.{dec_lt}
use lib.Dec.{leb, leb-suc-suc}
use lib.IntN.{ℤ, pos, negsuc}
use lib.Signed.{le_z}
use lib.ListN.{length, get_or, take, drop, length-drop, get_or-append}
use lib.Seq.{drop-cons, get_or-append_right}
use Rattle.line.specs.declared.Point.{Point}
use Rattle.line.specs.Table.{Tabled}
use Rattle.line.specs.Mode.{column, by_mode}
use Rattle.line.proofs.ByMode.{mode_short, mode_long}
use Rattle.line.specs.Point.{at, pairs, coordinate_in, sent27, levels32, sent32, sent_point}

-- the two tests of a coordinate
pub coordinate_in_lem : (x : ℤ) → (le_z (negsuc 16383) x && le_z x (pos 16384)) ≡ coordinate_in x
coordinate_in_lem (pos n) = refl
coordinate_in_lem (negsuc n) = and-true (leb n 16383) ∙ sym (leb-suc-suc n 16383)

-- the points from number k on
pub pairs-step : (zs : List ℤ) (k : ℕ) → k + 1 < length zs
    → pairs (drop k zs) ≡ at (get_or zs k (pos 0)) (get_or zs (k + 1) (pos 0)) ∷ pairs (drop (k + 2) zs)
pairs-step zs k h =
    ap pairs (drop-cons zs k (pos 0) (omega arith) ∙ ap (λ (l : List ℤ). get_or zs k (pos 0) ∷ l) (drop-cons zs (suc k) (pos 0) (omega arith)))
    ∙ ap₂ (λ (m n : ℕ). at (get_or zs k (pos 0)) (get_or zs m (pos 0)) ∷ pairs (drop n zs)) (let e : suc k ≡ k + 1 = omega arith in e) (let e : suc (suc k) ≡ k + 2 = omega arith in e)

short : (zs : List ℤ) → length zs ≤ 1 → pairs zs ≡ []
short [] h = refl
short (z ∷ []) h = refl
short (z ∷ y ∷ zs) h = absurd (omega arith)

pub pairs_end : (zs : List ℤ) (k : ℕ) → length zs ≤ k + 1 → pairs (drop k zs) ≡ []
pairs_end zs k h = short (drop k zs) (simp length-drop (omega arith))

pub pairs-length : (zs : List ℤ) → length (pairs zs) ≡ length zs / 2
pairs-length [] = refl
pairs-length (x ∷ []) = refl
pairs-length (x ∷ y ∷ zs) = let e : length (pairs zs) ≡ length zs / 2 = pairs-length zs in omega arith

-- some points, and then others
pub pairs_split : (m : ℕ) (ys : List ℤ) → 2 * m ≤ length ys → pairs ys ≡ pairs (take (2 * m) ys) ++ pairs (drop (2 * m) ys)
pairs_split zero ys h = refl
pairs_split (suc m) [] h = absurd (omega arith)
pairs_split (suc m) (x ∷ []) h = absurd (omega arith)
pairs_split (suc m) (x ∷ y ∷ ys) h =
    ap (λ (ps : List Point). at x y ∷ ps) (pairs_split m ys (omega arith))
    ∙ ap (λ (n : ℕ). pairs (take n (x ∷ y ∷ ys)) ++ pairs (drop n (x ∷ y ∷ ys))) (let e : suc (suc (2 * m)) ≡ 2 * suc m = omega arith in e)

-- a number comes round as the constellation of 16 does
pub sent_round : (m s : ℕ) → sent_point m (s % 16) ≡ sent_point m s
unfolding sent_point
sent_round m s =
    ap₂ (λ (i j : ℕ). let v27 : Point = get_or sent27 i (at (pos 0) (pos 0)) in let v32 : Point = get_or sent32 j (at (pos 0) (pos 0)) in by_mode m v27 v27 v32 v32)
    (let e : s % 16 % 8 ≡ s % 8 = omega arith in e) (let e : s % 16 % 16 ≡ s % 16 = omega arith in e)

-- the constellations of the two families
pub short_point : (m k s : ℕ) → k ≡ column m → k ≤ 2 → get_or sent27 (s % 8) (at (pos 0) (pos 0)) ≡ sent_point m s
unfolding sent_point
short_point m k s e h = mode_short _ _ m k e h

pub short_points : (m k : ℕ) → k ≡ column m → k ≤ 2 → Tabled 16 (sent_point m) (at (pos 0) (pos 0)) (sent27 ++ sent27)
unfolding sent27
short_points m k e h = record { size = refl; at = λ i l. twice i (dec_lt i 8) l ∙ short_point m k i e h }
  where
    none : Point
    none = at (pos 0) (pos 0)

    twice : (i : ℕ) → Dec (i < 8) → i < 16 → get_or (sent27 ++ sent27) i none ≡ get_or sent27 (i % 8) none
    twice i (yes p) l = get_or-append sent27 sent27 none i p ∙ ap (λ (j : ℕ). get_or sent27 j none) (let q : i ≡ i % 8 = omega arith in q)
    twice i (no p) l = get_or-append_right sent27 sent27 i none (omega (arith, p)) ∙ ap (λ (j : ℕ). get_or sent27 j none) (let q : i - 8 ≡ i % 8 = omega (arith, p) in q)

pub long_points : (m k : ℕ) → k ≡ column m → 2 < k → Tabled 16 (sent_point m) (at (pos 0) (pos 0)) sent32
unfolding sent_point
long_points m k e h =
    record {
      size = unfold sent32 levels32 in refl;
      at = λ i l. ap (λ (k : ℕ). get_or sent32 k (at (pos 0) (pos 0))) (let e : i ≡ i % 16 = omega arith in e) ∙ mode_long _ _ m k e h;
    }
