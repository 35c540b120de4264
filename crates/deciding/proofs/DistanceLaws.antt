-- The squared distance: what the code computes is the definition, and what holds of it. Assumes nothing.
use mathlib.Core.Path.{◌≡◌, refl, sym, ap, ap₂, ◌∙◌, subst}
use mathlib.Core.Bool.{Bool, true, false, ◌&&◌}
use mathlib.Core.List.{List, [], ◌∷◌}
use Prim.Native.Nat.{ℕ, zero, suc, ◌+◌, ◌*◌, ◌%◌, ◌<◌, ◌≤◌}
use native.Mathlib.Omega.{arith}
use native.Mathlib.Nat.{mul-le-mul, mul-pos, mod-eq_of_lt}
use native.Mathlib.Decide.{dec_lt}
use borrow.Author.Tests.{leb-true}
use lib.Dec.{T, leb}
use lib.IntN.{ℤ, pos, negsuc, neg_ℤ, nat_abs, sub_ℕ, ◌+ℤ◌, ◌-ℤ◌, neg_ℤ-+ℤ, -ℤ-+ℤ_cancel, +ℤ_idl, +ℤ_invr}
use lib.ListN.{get_or}
use lib.Signed.{le_z, non_neg}
use mir.Syntax.{w16, w32}
use mir.Val.{Fits, SFits, to_z, of_z}
use mir.Facts.{to_z-of_z}
use Rattle.line.specs.declared.Point.{Point}
use Rattle.line.specs.Table.{every}
use Rattle.line.specs.Point.{at, turned, sent27, levels32, sent32, sent_point}
use Rattle.line.proofs.ByMode.{by_all}
use Rattle.line.proofs.Signed.{back32, small, below, test_is}
use Rattle.line.proofs.Signed.{is_true as so}
use Rattle.line.proofs.StateLaws.{sent-turned}
use Rattle.line.proofs.TableLaws.{and_left, and_right, is_true}
use Rattle.deciding.specs.Distance.{apart, squared_distance, distance}
use Rattle.deciding.specs.Laws.{NoneAtSent, TurnKeeps}
use Rattle.deciding.proofs.Differences.{sub_pos, sub_neg}

-- SIZES

pub size_negated : (z : ℤ) → nat_abs (neg_ℤ z) ≡ nat_abs z
size_negated (pos zero) = refl
size_negated (pos (suc n)) = refl
size_negated (negsuc n) = refl

size_difference : (a b : ℕ) → nat_abs (sub_ℕ a b) ≤ a + b
size_difference a b = go (dec_lt a b)
  where
    go : Dec (a < b) → nat_abs (sub_ℕ a b) ≤ a + b
    go (yes h) = rw (sub_neg a b h) (omega arith)
    go (no h) = rw (sub_pos a b (omega (arith, h))) (omega arith)

size_sum : (x y : ℤ) → nat_abs (x +ℤ y) ≤ nat_abs x + nat_abs y
size_sum (pos a) (pos b) = omega arith
size_sum (pos a) (negsuc b) = size_difference a (suc b)
size_sum (negsuc a) (pos b) = omega (arith, size_difference b (suc a))
size_sum (negsuc a) (negsuc b) = omega arith

apart-sizes : (x y : ℤ) → apart x y ≤ nat_abs x + nat_abs y
apart-sizes x y = omega (arith, size_sum x (neg_ℤ y), size_negated y)

fits_small : (z : ℤ) → nat_abs z ≤ 65536 → SFits w32 z
fits_small (pos n) h = record { sfits = omega arith }
fits_small (negsuc n) h = record { sfits = omega arith }

-- THE CODE

-- two coordinates as the code widens and subtracts them
module _ (x y : ℤ) (fx : SFits w16 x) (fy : SFits w16 y) where
  abbrev between : ℤ
  between = to_z w32 (of_z w32 (to_z w16 (of_z w16 x))) -ℤ to_z w32 (of_z w32 (to_z w16 (of_z w16 y)))

  is_difference : between ≡ x -ℤ y
  is_difference = ap₂ ◌-ℤ◌ (back32 x fx) (back32 y fy)

  pub apart_small : apart x y ≤ 65536
  apart_small = omega (arith, apart-sizes x y, small x fx, small y fy)

  pub between-fits : SFits w32 between
  between-fits = subst (SFits w32) (sym is_difference) (fits_small (x -ℤ y) apart_small)

  read : to_z w32 (of_z w32 between) ≡ x -ℤ y
  read = to_z-of_z {w = w32} between-fits ∙ is_difference

  size_fits : Fits w32 (apart x y)
  size_fits = omega (arith, apart_small)

  -- not below 0
  pub up_cast : le_z (pos 0) (to_z w32 (of_z w32 between)) ≡ true → T (non_neg (to_z w32 (of_z w32 between))) × Fits w32 (nat_abs (to_z w32 (of_z w32 between)))
  up_cast e = (so (non_neg (to_z w32 (of_z w32 between))) (sym (test_is (to_z w32 (of_z w32 between))) ∙ e), rw read size_fits)

  pub up_is : (nat_abs (to_z w32 (of_z w32 between)) ≡ apart x y) × (nat_abs (to_z w32 (of_z w32 between)) ≤ 65536)
  up_is = rw read (refl, apart_small)

  -- below 0
  module _ (e : le_z (pos 0) (to_z w32 (of_z w32 between)) ≡ false) where
    turned_round : pos 0 -ℤ to_z w32 (of_z w32 between) ≡ pos (apart x y)
    turned_round = below (to_z w32 (of_z w32 between)) (sym (test_is (to_z w32 (of_z w32 between))) ∙ e) ∙ ap (λ (z : ℤ). pos (nat_abs z)) read

    pub down_fits : SFits w32 (pos 0 -ℤ to_z w32 (of_z w32 between))
    down_fits = subst (SFits w32) (sym turned_round) (fits_small (pos (apart x y)) apart_small)

    down_read : to_z w32 (of_z w32 (pos 0 -ℤ to_z w32 (of_z w32 between))) ≡ pos (apart x y)
    down_read = to_z-of_z {w = w32} down_fits ∙ turned_round

    pub down_cast : T (non_neg (to_z w32 (of_z w32 (pos 0 -ℤ to_z w32 (of_z w32 between))))) × Fits w32 (nat_abs (to_z w32 (of_z w32 (pos 0 -ℤ to_z w32 (of_z w32 between)))))
    down_cast = rw down_read (tt, size_fits)

    pub down_is : (nat_abs (to_z w32 (of_z w32 (pos 0 -ℤ to_z w32 (of_z w32 between)))) ≡ apart x y) × (nat_abs (to_z w32 (of_z w32 (pos 0 -ℤ to_z w32 (of_z w32 between)))) ≤ 65536)
    down_is = rw down_read (refl, apart_small)

-- squares of sizes, and what they come to
pub squares_most : (x y a b n : ℕ) → x ≤ a → y ≤ b → T (leb (a * a + b * b) n) → x * x + y * y ≤ n
squares_most x y a b n h k t =
    let l : a * a + b * b ≤ n = leb-true _ _ (is_true _ t) in
    let p : x * x ≤ a * a = mul-le-mul h h in
    let q : y * y ≤ b * b = mul-le-mul k k in
    omega arith

pub square-most : {x : ℕ} → x ≤ 65536 → x * x ≤ 4294967296
square-most h = mul-le-mul h h

pub distance_law : (re im : ℤ) (p : Point) (x y : ℕ) → x ≡ apart re p.re → y ≡ apart im p.im → (x * x + y * y) % 4294967296 ≡ squared_distance (at re im) p % 4294967296
unfolding squared_distance
distance_law re im p x y e f = rw (e, f)

-- A SENT POINT

entry_so : (f : Point → Bool) (l : List Point) (d : Point) → T (every f l) → T (f d) → (i : ℕ) → T (f (get_or l i d))
entry_so f [] d t u i = u
entry_so f (p ∷ l) d t u zero = and_left (f p) (every f l) t
entry_so f (p ∷ l) d t u (suc i) = entry_so f l d (and_right (f p) (every f l) t) u i

-- none lies further out than 4096
near : Point → Bool
near p = leb (nat_abs p.re) 4096 && leb (nat_abs p.im) 4096

sent_near : (m s : ℕ) → T (near (sent_point m s))
unfolding sent_point sent27 sent32 levels32 near
sent_near m s =
    let v27 = entry_so near sent27 (at (pos 0) (pos 0)) tt tt (s % 8) in
    let v32 = entry_so near sent32 (at (pos 0) (pos 0)) tt tt (s % 16) in
    by_all (λ (p : Point). T (near p)) _ _ _ _ v27 v27 v32 v32 m

-- so that nothing is cut off
pub distance_small : (m s : ℕ) (re im : ℤ) → SFits w16 re → SFits w16 im → distance m s (at re im) < 4294967296
unfolding distance squared_distance near
distance_small m s re im fr fi =
    let p : Point = sent_point m s in
    let t = sent_near m s in
    let r : nat_abs p.re ≤ 4096 = leb-true _ _ (is_true _ (and_left (leb (nat_abs p.re) 4096) (leb (nat_abs p.im) 4096) t)) in
    let i : nat_abs p.im ≤ 4096 = leb-true _ _ (is_true _ (and_right (leb (nat_abs p.re) 4096) (leb (nat_abs p.im) 4096) t)) in
    let l = squares_most (apart re p.re) (apart im p.im) 36864 36864 4294967295 (omega (arith, apart-sizes re p.re, small re fr)) (omega (arith, apart-sizes im p.im, small im fi)) tt in
    omega arith

pub sent_law : (m s : ℕ) (re im : ℤ) (p : Point) (n : ℕ) → SFits w16 re → SFits w16 im → p ≡ sent_point m s → n ≡ squared_distance (at re im) p % 4294967296 → n ≡ distance m s (at re im)
unfolding distance
sent_law m s re im p n fr fi e q =
    q ∙ ap (λ (z : Point). squared_distance (at re im) z % 4294967296) e ∙ mod-eq_of_lt (distance_small m s re im fr fi)

-- WHERE IT IS 0

square-zero : (x : ℕ) → x * x ≡ 0 → x ≡ 0
square-zero zero e = refl
square-zero (suc n) e = let p : 0 < suc n * suc n = mul-pos (omega arith) (omega arith) in absurd (omega arith)

size-zero : (z : ℤ) → nat_abs z ≡ 0 → z ≡ pos 0
size-zero (pos n) e = ap pos e
size-zero (negsuc n) e = absurd (omega arith)

not-apart : (x y : ℤ) → apart x y ≡ 0 → x ≡ y
not-apart x y e = sym (-ℤ-+ℤ_cancel x y) ∙ ap (λ (z : ℤ). z +ℤ y) (size-zero (x -ℤ y) e) ∙ +ℤ_idl y

apart_itself : (x : ℤ) → apart x x ≡ 0
apart_itself x = ap nat_abs (+ℤ_invr x)

none_between : (p q : Point) → squared_distance p q ≡ 0 → p ≡ q
unfolding squared_distance
none_between p q e =
    ap₂ at (not-apart p.re q.re (square-zero _ (omega arith))) (not-apart p.im q.im (square-zero _ (omega arith)))

pub none_at_sent : NoneAtSent
unfolding distance squared_distance
none_at_sent m s p = (
  λ e. none_between p (sent_point m s) e,
  λ e. ap (λ (z : Point). squared_distance z (sent_point m s)) e ∙ rw (apart_itself (sent_point m s).re, apart_itself (sent_point m s).im),
)

-- TURNS

apart_negated : (x y : ℤ) → apart (neg_ℤ x) (neg_ℤ y) ≡ apart x y
apart_negated x y = ap nat_abs (sym (neg_ℤ-+ℤ x (neg_ℤ y))) ∙ size_negated (x -ℤ y)

turned_apart : (p q : Point) → squared_distance (turned p) (turned q) ≡ squared_distance p q
unfolding squared_distance
turned_apart p q = rw (apart_negated p.im q.im) (omega arith)

pub turn_keeps : TurnKeeps
unfolding distance
turn_keeps m s p hm hs = ap (squared_distance (turned p)) (sent-turned m s hm hs) ∙ turned_apart p (sent_point m s)
