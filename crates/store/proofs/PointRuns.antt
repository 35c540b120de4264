-- The points of a record, one after the other. Assumes nothing.
use mathlib.Core.Path.{◌≡◌, refl, sym, ap, ap₂, ◌∙◌}
use mathlib.Core.Bool.{Bool, true, ◌&&◌, and-true, and-false, and_assoc}
use mathlib.Core.List.{List, [], ◌∷◌}
use Prim.Native.Nat.{ℕ, zero, suc, ◌+◌, ◌*◌, ◌-◌, ◌≤◌, ◌<◌}
use native.Mathlib.Omega.{arith}
use borrow.Author.Tests.{eqb-true}
use lib.Dec.{eqb}
use lib.ListN.{get_or, drop}
use lib.Seq.{drop-drop}
use Rattle.line.specs.Point.{at, in_range}
use Rattle.octets.specs.Number.{u16, i16, signed, zeros}
use Rattle.octets.proofs.Numbers.{u16-drop}
use Rattle.line.proofs.Tests.{by_test, and_split}
use Rattle.octets.proofs.Loops.{zeros-drop}
use Rattle.store.specs.Layout.{point_at, points_ok}

-- the point at byte a of a record
pub point_at_lem : (r : List ℕ) (a : ℕ) → point_at (drop a r) ≡ at (i16 r a) (i16 r (a + 2))
point_at_lem r a = ap₂ at (ap signed (u16-drop r a 0 ∙ ap (u16 r) (let e : a + 0 ≡ a = omega arith in e))) (ap signed (u16-drop r a 2))

pub drop-next : (r : List ℕ) (k : ℕ) → drop 4 (drop (4 + 4 * k) r) ≡ drop (4 + 4 * (k + 1)) r
drop-next r k = drop-drop 4 (4 + 4 * k) r ∙ ap (λ (m : ℕ). drop m r) (let e : 4 + 4 * k + 4 ≡ 4 + 4 * (k + 1) = omega arith in e)

-- ---- the n points at the start of bs are in range
abbrev pub points_in : List ℕ → ℕ → Bool
points_in bs zero = true
points_in bs (suc n) = in_range (point_at bs) && points_in (drop 4 bs) n

zeros_byte : (bs : List ℕ) (i : ℕ) → zeros bs ≡ true → get_or bs i 0 ≡ 0
zeros_byte [] i e = refl
zeros_byte (b ∷ bs) zero e = eqb-true b 0 (and_split (eqb b 0) (zeros bs) e).0
zeros_byte (b ∷ bs) (suc i) e = zeros_byte bs i (and_split (eqb b 0) (zeros bs) e).1

zeros-u16 : (bs : List ℕ) (i : ℕ) → zeros bs ≡ true → u16 bs i ≡ 0
zeros-u16 bs i e = omega (arith, zeros_byte bs i e, zeros_byte bs (i + 1) e)

-- zeros are points in range
zero-first : (b : Bool) → b ≡ true → (in_range (at (signed 0) (signed 0)) && b) ≡ true
unfolding in_range signed
zero-first b e = e

zeros_in : (n : ℕ) (bs : List ℕ) → zeros bs ≡ true → points_in bs n ≡ true
zeros_in zero bs e = refl
zeros_in (suc n) bs e =
    ap₂ (λ (x y : ℕ). in_range (at (signed x) (signed y)) && points_in (drop 4 bs) n) (zeros-u16 bs 0 e) (zeros-u16 bs 2 e)
    ∙ zero-first (points_in (drop 4 bs) n) (zeros_in n (drop 4 bs) (zeros-drop 4 bs e))

pub points_split : (m n : ℕ) (bs : List ℕ) → n ≤ m → points_ok bs n ≡ (points_in bs m && zeros (drop (4 * n) bs))
points_split zero zero bs h = refl
points_split zero (suc n) bs h = absurd (omega arith)
points_split (suc m) zero bs h =
    by_test (zeros bs)
    (λ e. sym (ap (λ (b : Bool). b && zeros bs) (zeros_in (suc m) bs e)))
    (λ e. e ∙ sym (ap (λ (b : Bool). points_in bs (suc m) && b) e ∙ and-false (points_in bs (suc m))))
points_split (suc m) (suc n) bs h =
    ap (λ (b : Bool). in_range (point_at bs) && b) (points_split m n (drop 4 bs) (omega arith))
    ∙ sym (and_assoc (in_range (point_at bs)) (points_in (drop 4 bs) m) (zeros (drop (4 * n) (drop 4 bs))))
    ∙ ap (λ (l : List ℕ). points_in bs (suc m) && zeros l) (drop-drop (4 * n) 4 bs ∙ ap (λ (k : ℕ). drop k bs) (let e : 4 + 4 * n ≡ 4 * suc n = omega arith in e))

-- ---- the loop over the 7 places
pub points-step : (r : List ℕ) (k : ℕ) (all so_far b : Bool) → k < 7 → b ≡ in_range (at (i16 r (4 + 4 * k)) (i16 r (4 + 4 * k + 2)))
    → all ≡ (so_far && points_in (drop (4 + 4 * k) r) (7 - k)) → all ≡ (so_far && b && points_in (drop (4 + 4 * (k + 1)) r) (7 - (k + 1)))
points-step r k all so_far b h e i =
    i ∙ ap (λ (n : ℕ). so_far && points_in (drop (4 + 4 * k) r) n) (let q : 7 - k ≡ suc (7 - (k + 1)) = omega arith in q)
    ∙ ap₂ (λ (x : Bool) (y : List ℕ). so_far && (x && points_in y (7 - (k + 1)))) (ap in_range (point_at_lem r (4 + 4 * k)) ∙ sym e) (drop-next r k)
    ∙ sym (and_assoc so_far b (points_in (drop (4 + 4 * (k + 1)) r) (7 - (k + 1))))

pub points_end : (r : List ℕ) (n k : ℕ) (so_far b : Bool) → n ≤ 7 → 7 ≤ k → points_in (drop 4 r) 7 ≡ (so_far && points_in (drop (4 + 4 * k) r) (7 - k))
    → b ≡ zeros (drop (4 + 4 * n) r) → (so_far && b) ≡ points_ok (drop 4 r) n
points_end r n k so_far b h q i z =
    sym (
    points_split 7 n (drop 4 r) h
    ∙ ap₂ (λ (x : Bool) (l : List ℕ). x && zeros l)
    (i ∙ ap (λ (m : ℕ). so_far && points_in (drop (4 + 4 * k) r) m) (let e : 7 - k ≡ 0 = omega arith in e) ∙ and-true so_far)
    (drop-drop (4 * n) 4 r)
    ∙ ap (λ (x : Bool). so_far && x) (sym z)
    )
