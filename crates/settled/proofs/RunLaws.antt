-- Runs: of any data bits, of any bytes (`any_bytes`), and what the functions find and write (`run_bits_lem`). Assumes nothing.
use Prim.Native.Nat.{ℕ, zero, suc, ◌+◌, ◌*◌, ◌-◌, ◌/◌, ◌<◌, ◌≤◌}
use mathlib.Core.Path.{◌≡◌, refl, sym, ap, ap₂, ◌∙◌, subst}
use mathlib.Core.Bool.{Bool, true, false, cond, false≢true}
use mathlib.Core.List.{List, [], ◌∷◌, ◌++◌, map, append_assoc}
use mathlib.Core.Logic.{◌⊎◌, inl, inr}
use native.Mathlib.Nat.{suc-mul, mul-suc, add_comm}
use native.Mathlib.Omega.{arith}
use borrow.Author.Tests.{ltb-true, ltb-false, eqb-true}
use borrow.Table.Elements.{map_app}
use lib.Dec.{T, ltb, eqb, le→leb}
use lib.ListN.{length, get_or, take, drop, replicate, length-append, length-drop, drop_of_length-le}
use Rattle.line.specs.Table.{every, All}
use Rattle.line.proofs.TableLaws.{and_intro}
use Rattle.line.proofs.Tests.{by_test, and_split}
use Rattle.scrambler.specs.Bits.{bits}
use Rattle.scrambler.specs.Scramble.{Datum, unsettled, settled}
use Rattle.scrambler.specs.Group.{marked}
use Rattle.scrambler.proofs.BitLaws.{length-bits}
use Rattle.scrambler.proofs.GroupLaws.{length_marked}
use Rattle.receiver.specs.Calls.{row}
use Rattle.settled.specs.Run.{data_in, data_of_bytes, settled_ones, any_settled, all_settled, before, following, points_from, run_points, run_data, run_bits}
use Rattle.settled.specs.Laws.{AnyBytes}
use Rattle.settled.specs.Points.{at_most, point_bits, points_bits}
use Rattle.settled.proofs.ByteLaws.{data_there, point_bits_lem, has_law, all_law, left, left_cons}

-- OF ANY DATA BITS

settled_append : (xs ys : List Datum) → settled_ones (xs ++ ys) ≡ settled_ones xs ++ settled_ones ys
settled_append [] ys = refl
settled_append (unsettled ∷ xs) ys = settled_append xs ys
settled_append (settled x ∷ xs) ys = ap (λ (l : List ℕ). x ∷ l) (settled_append xs ys)

at_most_all : (xs : List Datum) → length (settled_ones xs) ≤ length xs
at_most_all [] = omega arith
at_most_all (unsettled ∷ xs) = let h = at_most_all xs in omega arith
at_most_all (settled x ∷ xs) = let h = at_most_all xs in omega arith

-- all are settled
abbrev Settled : List Datum → Type 0
Settled xs = xs ≡ map settled (settled_ones xs)

whole_settled : (xs : List Datum) → length (settled_ones xs) ≡ length xs → Settled xs
whole_settled [] e = refl
whole_settled (unsettled ∷ xs) e = let h = at_most_all xs in absurd (omega arith)
whole_settled (settled x ∷ xs) e = ap (λ (l : List Datum). settled x ∷ l) (whole_settled xs (omega arith))

all_settled_lem : (d : List Datum) → all_settled d ≡ true → Settled d
all_settled_lem d e = whole_settled d (eqb-true _ _ (and_split (any_settled d) (eqb (length (settled_ones d)) (length d)) e).1)

-- some unsettled ones, then settled ones, then more settled ones
settled_then : (u : ℕ) (xs ys : List Datum) → xs ≡ replicate u unsettled ++ map settled (settled_ones xs) → Settled ys → xs ++ ys ≡ replicate u unsettled ++ map settled (settled_ones (xs ++ ys))
settled_then u xs ys p q =
    ap₂ (λ (a b : List Datum). a ++ b) p q ∙ append_assoc (replicate u unsettled) (map settled (settled_ones xs)) (map settled (settled_ones ys))
    ∙ ap (λ (l : List Datum). replicate u unsettled ++ l) (sym (map_app settled (settled_ones xs) (settled_ones ys)) ∙ ap (map settled) (sym (settled_append xs ys)))

follow_settled : (ds : List (List Datum)) → Settled (row (take (following ds) ds))
follow_settled [] = refl
follow_settled (d ∷ ds) = by_test (all_settled d)
    (λ e. subst P (sym (ap (λ (b : Bool). cond b (suc (following ds)) 0) e)) (settled_then 0 d (row (take (following ds) ds)) (all_settled_lem d e) (follow_settled ds)))
    (λ e. subst P (sym (ap (λ (b : Bool). cond b (suc (following ds)) 0) e)) refl)
  where
    P : ℕ → Type 0
    P n = Settled (row (take n (d ∷ ds)))

-- no point before the run has a settled data bit, and its first has one
no_more : (xs : List ℕ) → ltb 0 (length xs) ≡ false → xs ≡ []
no_more [] e = refl
no_more (x ∷ xs) e = let h = ltb-false 0 (suc (length xs)) e in absurd (omega arith)

none_before : (ds : List (List Datum)) → All (λ (d : List Datum). settled_ones d ≡ []) (take (before ds) ds)
none_before [] = tt
none_before (d ∷ ds) = by_test (any_settled d)
    (λ e. subst P (sym (ap (λ (b : Bool). cond b 0 (suc (before ds))) e)) tt)
    (λ e. subst P (sym (ap (λ (b : Bool). cond b 0 (suc (before ds))) e)) (no_more (settled_ones d) e, none_before ds))
  where
    P : ℕ → Type 0
    P n = All (λ (d : List Datum). settled_ones d ≡ []) (take n (d ∷ ds))

pub first_has : (ds : List (List Datum)) (d : List Datum) (rest : List (List Datum)) → drop (before ds) ds ≡ d ∷ rest → any_settled d ≡ true
first_has [] d rest q = let z : ◌≡◌ {A = ℕ} 0 1 = cc in absurd (omega arith)
first_has (x ∷ xs) d rest q = by_test (any_settled x)
    (λ e. let r : x ∷ xs ≡ d ∷ rest = subst P (ap (λ (b : Bool). cond b 0 (suc (before xs))) e) q in let k : x ≡ d = cc in ap any_settled (sym k) ∙ e)
    (λ e. first_has xs d rest (subst P (ap (λ (b : Bool). cond b 0 (suc (before xs))) e) q))
  where
    P : ℕ → Type 0
    P n = drop n (x ∷ xs) ≡ d ∷ rest

-- OF ANY BYTES

pub drop_data : (w : ℕ) (ls ps : List ℕ) (k : ℕ) → drop k (data_of_bytes w ls ps) ≡ left w ls ps k
drop_data w ls ps zero = refl
drop_data w [] ps (suc k) = refl
drop_data w (l ∷ ls) [] (suc k) = sym (none (drop k ls))
  where
    none : (ls : List ℕ) → data_of_bytes w ls [] ≡ []
    none [] = refl
    none (l ∷ ls) = refl
drop_data w (l ∷ ls) (p ∷ ps) (suc k) = drop_data w ls ps k

marked_split : (u : ℕ) (bs : List ℕ) → u ≤ length bs → marked u bs ≡ replicate u unsettled ++ map settled (settled_ones (marked u bs))
marked_split zero [] h = refl
marked_split (suc u) [] h = absurd (omega arith)
marked_split zero (b ∷ bs) h = ap (λ (l : List Datum). settled b ∷ l) (marked_split zero bs (omega arith))
marked_split (suc u) (b ∷ bs) h = ap (λ (l : List Datum). unsettled ∷ l) (marked_split u bs (omega arith))

-- a point with a settled data bit has data bits, of which fewer than w are unsettled: the first ones
module _ (w l p : ℕ) (any : any_settled (data_in w l p) ≡ true) where
  pub point_there : (ltb l 16 ≡ true) × (p / 16 < w)
  point_there = let k = and_split (ltb l 16) (ltb (p / 16) w) (has_law w l p ∙ any) in (k.0, ltb-true (p / 16) w k.1)

  first_split : data_in w l p ≡ replicate (p / 16) unsettled ++ map settled (settled_ones (data_in w l p))
  first_split =
      let k = point_there in
      let e = data_there w l p k.0 in
      e ∙ marked_split (p / 16) (bits w p) (omega (arith, length-bits w p)) ∙ ap (λ (d : List Datum). replicate (p / 16) unsettled ++ map settled (settled_ones d)) (sym e)

-- the run, by what begins at its first point
module _ (w : ℕ) (ds : List (List Datum)) where
  abbrev Left : List ℕ → List ℕ → Type 0
  Left ls ps = drop (before ds) ds ≡ data_of_bytes w ls ps

  run_none : drop (before ds) ds ≡ [] → (run_points ds ≡ 0) × (run_data ds ≡ [])
  unfolding run_points run_data
  run_none e = let z : points_from (drop (before ds) ds) ≡ 0 = ap points_from e in (z, ap (λ (n : ℕ). row (take n (drop (before ds) ds))) z)

  run_some : (d : List Datum) (rest : List (List Datum)) → drop (before ds) ds ≡ d ∷ rest → (run_points ds ≡ suc (following rest)) × (run_data ds ≡ d ++ row (take (following rest) rest))
  unfolding run_points run_data
  run_some d rest e = (ap points_from e, ap (λ (xs : List (List Datum)). row (take (points_from xs) xs)) e)

  record Shape : Type 0 where
    first : ℕ
    fewer : (first < w) ⊎ (first ≡ 0)
    then : run_data ds ≡ replicate first unsettled ++ map settled (run_bits ds)

  shape : (ls ps : List ℕ) → Left ls ps → Shape
  unfolding run_bits
  shape [] ps e = record { first = 0; fewer = inr refl; then = let z = (run_none e).1 in z ∙ ap (λ (d : List Datum). map settled (settled_ones d)) (sym z) }
  shape (l ∷ ls) [] e = record { first = 0; fewer = inr refl; then = let z = (run_none e).1 in z ∙ ap (λ (d : List Datum). map settled (settled_ones d)) (sym z) }
  shape (l ∷ ls) (p ∷ ps) e =
      let rest : List (List Datum) = data_of_bytes w ls ps in
      let any : any_settled (data_in w l p) ≡ true = first_has ds (data_in w l p) rest e in
      let z : run_data ds ≡ data_in w l p ++ row (take (following rest) rest) = (run_some (data_in w l p) rest e).1 in
      record {
        first = p / 16;
        fewer = inl (point_there w l p any).1;
        then = z ∙ settled_then (p / 16) (data_in w l p) (row (take (following rest) rest)) (first_split w l p any) (follow_settled rest)
            ∙ ap (λ (d : List Datum). replicate (p / 16) unsettled ++ map settled (settled_ones d)) (sym z);
      }

-- a point with a settled data bit has w data bits
data_length : (w l p : ℕ) → any_settled (data_in w l p) ≡ true → length (data_in w l p) ≡ w
data_length w l p e = go (ltb l 16) refl
  where
    go : (b : Bool) → ltb l 16 ≡ b → length (data_in w l p) ≡ w
    go true f = ap length (data_there w l p f) ∙ length_marked (p / 16) (bits w p) ∙ length-bits w p
    go false f =
        let z : any_settled [] ≡ true = ap (λ (b : Bool). any_settled (cond b (marked (p / 16) (bits w p)) [])) (sym f) ∙ e in
        absurd (false≢true z)

-- and so has each that follows it in the run
row-length : (w : ℕ) (d : List Datum) (l : List Datum) (n : ℕ) → length d ≡ w → length l ≡ w * n → length (d ++ l) ≡ w * suc n
row-length w d l n e f = length-append d l ∙ ap₂ (λ (a b : ℕ). a + b) e f ∙ add_comm w (w * n) ∙ sym (mul-suc w n)

following-length : (w : ℕ) (ls ps : List ℕ) → length (row (take (following (data_of_bytes w ls ps)) (data_of_bytes w ls ps))) ≡ w * following (data_of_bytes w ls ps)
following-length w [] ps = omega arith
following-length w (l ∷ ls) [] = omega arith
following-length w (l ∷ ls) (p ∷ ps) = by_test (all_settled (data_in w l p)) (λ e. at e (row-length w (data_in w l p) _ F (data_length w l p (and_split (any_settled (data_in w l p)) _ e).0) (following-length w ls ps))) (λ e. at e (omega arith))
  where
    F : ℕ
    F = following (data_of_bytes w ls ps)

    P : ℕ → Type 0
    P n = length (row (take n (data_of_bytes w (l ∷ ls) (p ∷ ps)))) ≡ w * n

    at : {b : Bool} → all_settled (data_in w l p) ≡ b → P (cond b (suc F) 0) → P (following (data_of_bytes w (l ∷ ls) (p ∷ ps)))
    at e q = subst P (sym (ap (λ (t : Bool). cond t (suc F) 0) e)) q

run_length : (w : ℕ) (ls ps : List ℕ) → let ds : List (List Datum) = data_of_bytes w ls ps in length (row (take (points_from (drop (before ds) ds)) (drop (before ds) ds))) ≡ w * points_from (drop (before ds) ds)
run_length w [] ps = omega arith
run_length w (l ∷ ls) [] = omega arith
run_length w (l ∷ ls) (p ∷ ps) = by_test (any_settled (data_in w l p)) (λ e. begun e (row-length w (data_in w l p) _ _ (data_length w l p e) (following-length w ls ps))) (λ e. begun e (run_length w ls ps))
  where
    Q : List (List Datum) → Type 0
    Q ds = length (row (take (points_from ds) ds)) ≡ w * points_from ds

    begun : {b : Bool} → any_settled (data_in w l p) ≡ b → Q (drop (cond b 0 (suc (before (data_of_bytes w ls ps)))) (data_of_bytes w (l ∷ ls) (p ∷ ps)))
        → Q (drop (before (data_of_bytes w (l ∷ ls) (p ∷ ps))) (data_of_bytes w (l ∷ ls) (p ∷ ps)))
    begun e q = subst (λ (n : ℕ). Q (drop n (data_of_bytes w (l ∷ ls) (p ∷ ps)))) (sym (ap (λ (t : Bool). cond t 0 (suc (before (data_of_bytes w ls ps)))) e)) q

pub any_bytes : AnyBytes
unfolding run_data run_points
any_bytes w ls ps =
    let ds : List (List Datum) = data_of_bytes w ls ps in
    let s = shape w ds (drop (before ds) ls) (drop (before ds) ps) (drop_data w ls ps (before ds)) in
    record { none_before = none_before ds; w_each = run_length w ls ps; unsettled_first = s.first; fewer = s.fewer; then_settled = s.then }

-- WHAT IS FOUND AND WRITTEN

-- of n points that begin the lists: they are there, at most w of their data bits are unsettled, and the settled ones are those written
pub record Points (w : ℕ) (ls ps : List ℕ) (n : ℕ) : Type 0 where
  pub within : n ≤ length ps
  pub most : T (every (at_most w) (take n ps))
  pub written : settled_ones (row (take n (data_of_bytes w ls ps))) ≡ points_bits w (take n ps)

points_none : (w : ℕ) (ls ps : List ℕ) → Points w ls ps 0
points_none w ls ps = record { within = omega arith; most = tt; written = refl }

points_more : (w l p n : ℕ) (ls ps : List ℕ) → ltb l 16 ≡ true → p / 16 ≤ w → Points w ls ps n → Points w (l ∷ ls) (p ∷ ps) (suc n)
points_more w l p n ls ps e h k =
    record {
      within = let i = k.within in omega arith;
      most = and_intro (at_most w p) (every (at_most w) (take n ps)) (le→leb (p / 16) w h) k.most;
      written = settled_append (data_in w l p) (row (take n (data_of_bytes w ls ps))) ∙ ap₂ (λ (a b : List ℕ). a ++ b) (point_bits_lem w l p e) k.written;
    }

pub points-count : (w p : ℕ) (ps : List ℕ) → length (points_bits w (p ∷ ps)) ≡ (w - p / 16) + length (points_bits w ps)
points-count w p ps = length-append (point_bits w p) (points_bits w ps) ∙ ap (λ (k : ℕ). k + length (points_bits w ps)) (length-bits (w - p / 16) p)

-- of the points that follow all w data bits are settled
follows : (w : ℕ) → 0 < w → (ls ps : List ℕ) → Points w ls ps (following (data_of_bytes w ls ps)) × (length (points_bits w (take (following (data_of_bytes w ls ps)) ps)) ≡ following (data_of_bytes w ls ps) * w)
follows w h [] ps = (points_none w [] ps, omega arith)
follows w h (l ∷ ls) [] = (points_none w (l ∷ ls) [], omega arith)
follows w h (l ∷ ls) (p ∷ ps) = by_test (all_settled (data_in w l p))
    (λ e. subst P (sym (ap (λ (b : Bool). cond b (suc F) 0) e)) (more e (follows w h ls ps)))
    (λ e. subst P (sym (ap (λ (b : Bool). cond b (suc F) 0) e)) (points_none w (l ∷ ls) (p ∷ ps), omega arith))
  where
    F : ℕ
    F = following (data_of_bytes w ls ps)

    P : ℕ → Type 0
    P n = Points w (l ∷ ls) (p ∷ ps) n × (length (points_bits w (take n (p ∷ ps))) ≡ n * w)

    more : all_settled (data_in w l p) ≡ true → Points w ls ps F × (length (points_bits w (take F ps)) ≡ F * w) → P (suc F)
    more e f =
        let k = and_split (ltb l 16) (ltb p 16) (all_law w l p h ∙ e) in
        let i = ltb-true p 16 k.1 in
        let n = f.1 in
        let z : p / 16 ≡ 0 = omega arith in
        (points_more w l p F ls ps k.0 (omega arith) f.0, points-count w p (take F ps) ∙ (let q : (w - p / 16) + length (points_bits w (take F ps)) ≡ F * w + w = omega arith in q) ∙ sym (suc-mul F w))

before_within : (w : ℕ) (ls ps : List ℕ) → before (data_of_bytes w ls ps) ≤ length ps
before_within w [] ps = omega arith
before_within w (l ∷ ls) [] = omega arith
before_within w (l ∷ ls) (p ∷ ps) = go (any_settled (data_in w l p)) (before_within w ls ps)
  where
    go : (b : Bool) → before (data_of_bytes w ls ps) ≤ length ps → cond b 0 (suc (before (data_of_bytes w ls ps))) ≤ suc (length ps)
    go true h = omega arith
    go false h = omega arith

module _ (w : ℕ) (ls ps : List ℕ) where
  abbrev ds : List (List Datum)
  ds = data_of_bytes w ls ps

  -- its points
  run_points_lem : 0 < w → Points w (drop (before ds) ls) (drop (before ds) ps) (run_points ds)
  run_points_lem h = go (drop (before ds) ls) (drop (before ds) ps) (drop_data w ls ps (before ds))
    where
      go : (xs ys : List ℕ) → drop (before ds) ds ≡ data_of_bytes w xs ys → Points w xs ys (run_points ds)
      go [] ys e = subst (Points w [] ys) (sym (run_none w ds e).0) (points_none w [] ys)
      go (a ∷ xs) [] e = subst (Points w (a ∷ xs) []) (sym (run_none w ds e).0) (points_none w (a ∷ xs) [])
      go (a ∷ xs) (b ∷ ys) e =
          let k = point_there w a b (first_has ds (data_in w a b) (data_of_bytes w xs ys) e) in
          let i = k.1 in
          subst (Points w (a ∷ xs) (b ∷ ys)) (sym (run_some w ds (data_in w a b) (data_of_bytes w xs ys) e).0) (points_more w a b _ xs ys k.0 (omega arith) (follows w h xs ys).0)

  pub run_most : 0 < w → T (every (at_most w) (take (run_points ds) (drop (before ds) ps)))
  run_most h = (run_points_lem h).most

  pub run_bits_lem : 0 < w → run_bits ds ≡ points_bits w (take (run_points ds) (drop (before ds) ps))
  unfolding run_bits run_data
  run_bits_lem h = ap (λ (l : List (List Datum)). settled_ones (row (take (run_points ds) l))) (drop_data w ls ps (before ds)) ∙ (run_points_lem h).written

  pub run_within : 0 < w → before ds + run_points ds ≤ length ps
  run_within h = let k = (run_points_lem h).within in let b = before_within w ls ps in omega (arith, length-drop (before ds) ps)

  -- there is none
  pub without_run : length ls ≤ before ds → (run_points ds ≡ 0) × (length (run_bits ds) ≡ 0)
  unfolding run_bits
  without_run h =
      let z = run_none w ds (drop_data w ls ps (before ds) ∙ ap (λ (l : List ℕ). data_of_bytes w l (drop (before ds) ps)) (drop_of_length-le ls h)) in
      (z.0, ap (λ (d : List Datum). length (settled_ones d)) z.1)

  -- there is one
  module _ (h : 0 < w) (e : length ls ≡ length ps) (i : before ds < length ls) where
    abbrev p : ℕ
    p = get_or ps (before ds) 0

    abbrev F : ℕ
    F = following (left w ls ps (suc (before ds)))

    begun : drop (before ds) ds ≡ data_in w (get_or ls (before ds) 0) p ∷ left w ls ps (suc (before ds))
    begun = drop_data w ls ps (before ds) ∙ left_cons w ls ps (before ds) e i

    first_there : (ltb (get_or ls (before ds) 0) 16 ≡ true) × (p / 16 < w)
    first_there = point_there w (get_or ls (before ds) 0) p (first_has ds _ _ begun)

    pub first-most : p / 16 < w
    first-most = first_there.1

    pub run_count : (run_points ds ≡ suc F) × (length (run_bits ds) ≡ (w - p / 16) + F * w)
    unfolding run_bits
    run_count =
        let d : List Datum = data_in w (get_or ls (before ds) 0) p in
        let rest : List (List Datum) = left w ls ps (suc (before ds)) in
        let z = run_some w ds d rest begun in
        let f = follows w h (drop (suc (before ds)) ls) (drop (suc (before ds)) ps) in (
          z.0,
          ap (λ (l : List Datum). length (settled_ones l)) z.1 ∙ ap length (settled_append d (row (take F rest))) ∙ length-append (settled_ones d) (settled_ones (row (take F rest)))
              ∙ ap₂ (λ (a b : ℕ). a + b) (ap length (point_bits_lem w (get_or ls (before ds) 0) p first_there.0) ∙ length-bits (w - p / 16) p) (ap length f.0.written ∙ f.1),
        )
