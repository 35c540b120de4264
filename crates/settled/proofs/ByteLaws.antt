-- The settled data bits that a point's two bytes stand for, by the tests that the code makes; and the loops over the bytes. Assumes
-- nothing.
use Prim.Native.Nat.{ℕ, zero, suc, ◌+◌, ◌*◌, ◌-◌, ◌/◌, ◌<◌, ◌≤◌}
use mathlib.Core.Path.{◌≡◌, refl, sym, ap, ap₂, ◌∙◌}
use mathlib.Core.Bool.{Bool, true, false, ◌&&◌, not, cond}
use mathlib.Core.List.{List, [], ◌∷◌}
use native.Mathlib.Nat.{le-div_iff_mul-le, div-lt_iff_lt-mul}
use native.Mathlib.Omega.{arith}
use borrow.Author.Tests.{ltb-true, ltb-false, lt-ltb, le-ltb, le-leb, lt-leb, leb-true, leb-false, eq-eqb, ne_eqb, not-true, not-false}
use lib.Dec.{ltb, leb, eqb}
use lib.ListN.{length, get_or, drop, drop_of_length-le}
use lib.Seq.{drop-nil, drop-cons}
use Rattle.line.proofs.Tests.{by_test}
use Rattle.scrambler.specs.Bits.{bits}
use Rattle.scrambler.specs.Scramble.{Datum}
use Rattle.scrambler.specs.Group.{marked}
use Rattle.scrambler.proofs.BitLaws.{length-bits}
use Rattle.scrambler.proofs.GroupLaws.{length_marked}
use Rattle.settled.specs.Run.{data_in, data_of_bytes, settled_ones, any_settled, all_settled, before, following}

-- of marked bits the settled ones are those after the first u
settled_marked : (u : ℕ) (bs : List ℕ) → settled_ones (marked u bs) ≡ drop u bs
settled_marked u [] = sym (drop-nil u)
settled_marked zero (b ∷ bs) = ap (λ (l : List ℕ). b ∷ l) (settled_marked zero bs)
settled_marked (suc u) (b ∷ bs) = settled_marked u bs

pub drop_bits : (u w p : ℕ) → drop u (bits w p) ≡ bits (w - u) p
drop_bits zero w p = ap (λ (n : ℕ). bits n p) (let e : w ≡ w - 0 = omega arith in e)
drop_bits (suc u) zero p = ap (λ (n : ℕ). bits n p) (let e : 0 ≡ 0 - suc u = omega arith in e)
drop_bits (suc u) (suc w) p = drop_bits u w p ∙ ap (λ (n : ℕ). bits n p) (let e : w - u ≡ suc w - suc u = omega arith in e)

-- a point with data bits, and one without
module _ (w l p : ℕ) where
  pub data_there : ltb l 16 ≡ true → data_in w l p ≡ marked (p / 16) (bits w p)
  data_there e = ap (λ (b : Bool). cond b (marked (p / 16) (bits w p)) []) e

  pub data_none : ltb l 16 ≡ false → data_in w l p ≡ []
  data_none e = ap (λ (b : Bool). cond b (marked (p / 16) (bits w p)) []) e

  pub point_bits_lem : ltb l 16 ≡ true → settled_ones (data_in w l p) ≡ bits (w - p / 16) p
  point_bits_lem e = ap settled_ones (data_there e) ∙ settled_marked (p / 16) (bits w p) ∙ drop_bits (p / 16) w p

  settled_count : ltb l 16 ≡ true → length (settled_ones (data_in w l p)) ≡ w - p / 16
  settled_count e = ap length (point_bits_lem e) ∙ length-bits (w - p / 16) p

  pub has_law : (ltb l 16 && ltb (p / 16) w) ≡ any_settled (data_in w l p)
  has_law = by_test (ltb l 16)
      (λ e. ap (λ (b : Bool). b && ltb (p / 16) w) e ∙ some ∙ sym (ap (ltb 0) (settled_count e)))
      (λ e. ap (λ (b : Bool). b && ltb (p / 16) w) e ∙ sym (ap any_settled (data_none e)))
    where
      some : ltb (p / 16) w ≡ ltb 0 (w - p / 16)
      some = by_test (ltb (p / 16) w)
          (λ e. let h = ltb-true (p / 16) w e in e ∙ sym (lt-ltb 0 (w - p / 16) (omega arith)))
          (λ e. let h = ltb-false (p / 16) w e in e ∙ sym (le-ltb 0 (w - p / 16) (omega arith)))

  pub all_law : 0 < w → (ltb l 16 && ltb p 16) ≡ all_settled (data_in w l p)
  all_law h = by_test (ltb l 16)
      (λ e. ap (λ (b : Bool). b && ltb p 16) e ∙ every ∙ sym (ap₂ (λ (i j : ℕ). ltb 0 i && eqb i j) (settled_count e) (ap length (data_there e) ∙ length_marked (p / 16) (bits w p) ∙ length-bits w p)))
      (λ e. ap (λ (b : Bool). b && ltb p 16) e ∙ sym (ap all_settled (data_none e)))
    where
      and-false : (a b : Bool) → b ≡ false → false ≡ (a && b)
      and-false true b e = sym e
      and-false false b e = refl

      every : ltb p 16 ≡ (ltb 0 (w - p / 16) && eqb (w - p / 16) w)
      every = by_test (ltb p 16)
          (λ e. let k = ltb-true p 16 e in e ∙ sym (ap₂ ◌&&◌ (lt-ltb 0 (w - p / 16) (omega arith)) (eq-eqb (w - p / 16) w (omega arith))))
          (λ e. let k = ltb-false p 16 e in e ∙ and-false (ltb 0 (w - p / 16)) _ (ne_eqb (w - p / 16) w (λ q. omega arith)))

-- THE LOOPS: the points from the k-th on
abbrev pub left : ℕ → List ℕ → List ℕ → ℕ → List (List Datum)
left w ls ps k = data_of_bytes w (drop k ls) (drop k ps)

pub left_cons : (w : ℕ) (ls ps : List ℕ) (k : ℕ) → length ls ≡ length ps → k < length ls → left w ls ps k ≡ data_in w (get_or ls k 0) (get_or ps k 0) ∷ left w ls ps (suc k)
left_cons w ls ps k e h = ap₂ (data_of_bytes w) (drop-cons ls k 0 h) (drop-cons ps k 0 (omega arith))

-- a count g of points, of which k were counted: it ends here, goes on, or has come to the end
module _ (g : List (List Datum) → ℕ) (w : ℕ) (ls ps : List ℕ) (k n : ℕ) (i : k + g (left w ls ps k) ≡ n) where
  counted_here : length ls ≡ length ps → k < length ls → g (data_in w (get_or ls k 0) (get_or ps k 0) ∷ left w ls ps (suc k)) ≡ 0 → k ≡ n
  counted_here e h z = let q : g (left w ls ps k) ≡ 0 = ap g (left_cons w ls ps k e h) ∙ z in omega arith

  counted_on : length ls ≡ length ps → k < length ls → g (data_in w (get_or ls k 0) (get_or ps k 0) ∷ left w ls ps (suc k)) ≡ suc (g (left w ls ps (suc k)))
      → (k + 1) + g (left w ls ps (k + 1)) ≡ n
  counted_on e h z =
      let q : g (left w ls ps k) ≡ suc (g (left w ls ps (suc k))) = ap g (left_cons w ls ps k e h) ∙ z in
      ap (λ (j : ℕ). j + g (left w ls ps j)) (let a : k + 1 ≡ suc k = omega arith in a) ∙ (let a : suc k + g (left w ls ps (suc k)) ≡ n = omega arith in a)

  pub counted_end : length ls ≤ k → g [] ≡ 0 → k ≡ n
  counted_end h z = let q : g (left w ls ps k) ≡ 0 = ap (λ (l : List ℕ). g (data_of_bytes w l (drop k ps))) (drop_of_length-le ls h) ∙ z in omega arith

-- what the test of the k-th point says of the two counts
module _ (w : ℕ) (ls ps : List ℕ) (k n : ℕ) (e : length ls ≡ length ps) (h : k < length ls) (b : Bool) where
  abbrev d : List Datum
  d = data_in w (get_or ls k 0) (get_or ps k 0)

  pub begins_here : k + before (left w ls ps k) ≡ n → b ≡ any_settled d → b ≡ true → k ≡ n
  begins_here i q t = counted_here before w ls ps k n i e h (ap (λ (c : Bool). cond c 0 (suc (before (left w ls ps (suc k))))) (sym q ∙ t))

  pub begins_later : k + before (left w ls ps k) ≡ n → b ≡ any_settled d → b ≡ false → (k + 1) + before (left w ls ps (k + 1)) ≡ n
  begins_later i q t = counted_on before w ls ps k n i e h (ap (λ (c : Bool). cond c 0 (suc (before (left w ls ps (suc k))))) (sym q ∙ t))

  pub ends_here : k + following (left w ls ps k) ≡ n → b ≡ all_settled d → not b ≡ true → k ≡ n
  ends_here i q t = counted_here following w ls ps k n i e h (ap (λ (c : Bool). cond c (suc (following (left w ls ps (suc k)))) 0) (sym q ∙ not-true b t))

  pub goes_on : k + following (left w ls ps k) ≡ n → b ≡ all_settled d → not b ≡ false → (k + 1) + following (left w ls ps (k + 1)) ≡ n
  goes_on i q t = counted_on following w ls ps k n i e h (ap (λ (c : Bool). cond c (suc (following (left w ls ps (suc k)))) 0) (sym q ∙ not-false b t))

-- THE ROOM
module _ (b w more lent : ℕ) where
  pub no_room : lent < b → false ≡ leb (b + more * w) lent
  no_room h = sym (lt-leb (b + more * w) lent (omega arith))

  pub room_law : 0 < w → b ≤ lent → leb more ((lent - b) / w) ≡ leb (b + more * w) lent
  room_law z h = by_test (leb more ((lent - b) / w))
      (λ e. let k : more * w ≤ lent - b = (le-div_iff_mul-le z).0 (leb-true _ _ e) in e ∙ sym (le-leb (b + more * w) lent (omega arith)))
      (λ e. e ∙ sym (lt-leb (b + more * w) lent (past (leb-false more ((lent - b) / w) e))))
    where
      past : (lent - b) / w < more → lent < b + more * w
      past o = let k : lent - b < more * w = (div-lt_iff_lt-mul z).0 o in omega arith
