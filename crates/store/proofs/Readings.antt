-- Along an accepted chain, and its events as numbers. Assumes nothing.
use mathlib.Core.Path.{◌≡◌, refl, sym, ap, ap₂, ◌∙◌}
use mathlib.Core.Bool.{true}
use mathlib.Core.List.{List, [], ◌∷◌, ◌++◌}
use Prim.Native.Nat.{ℕ, zero, suc, ◌+◌, ◌*◌, ◌-◌, ◌≤◌, ◌<◌}
use native.Mathlib.Nat.{sub-zero, add-zero}
use native.Mathlib.Omega.{arith}
use borrow.Author.Tests.{eq-eqb, ne_eqb, eqb-true, ltb-true, leb-false, le-leb, lt-leb}
use lib.Dec.{ltb, leb}
use lib.IntN.{ℤ, pos}
use lib.ListN.{length, drop, length-append}
use lib.Seq.{sets, length-sets}
use mir.Facts.{to_z-of_z}
use mir.Syntax.{w64}
use mir.Val.{to_z, of_z}
use Rattle.line.specs.Point.{at}
use Rattle.octets.specs.Number.{i16, u32}
use Rattle.line.proofs.Tests.{and_split}
use Rattle.line.proofs.RefusalLaws.{some_number, left_kept, or_some}
use Rattle.line.proofs.Sets.{sets_then}
use Rattle.store.specs.Chain.{walk, ends, gather}
use Rattle.store.specs.Layout.{Event, point, lost, count, rec, next, kind, held, points, events_of}
use Rattle.line.specs.Refusal.{number, need, or_next}
use Rattle.store.specs.Store.{chain, events, refusal}
use Rattle.store.specs.Reads.{numbers, read_number, read_count, read_result, Gives}
use Rattle.std.specs.Prelude.{Ok, Err}
use Rattle.line.specs.declared.refusal.Refusal.{Refusal}
use Rattle.store.specs.Walk.{Sized}
use Rattle.store.specs.Records.{records, events_in}
use Rattle.store.proofs.Chains.{run_ends, run_short}
use Rattle.store.proofs.Going.{walk_step, walk-zero, ends_step}
use Rattle.store.proofs.Sounds.{accepted_sound}
use Rattle.store.proofs.Views.{need_unmet}
use Rattle.store.proofs.RecordRuns.{records_long, records_events}
use Rattle.store.proofs.PointRuns.{point_at_lem, drop-next}

-- ---- the chain, by its indexes
-- what is left of the chain after k records, at index i
abbrev pub ahead : List ℕ → ℕ → ℕ → List ℕ
ahead s k i = walk (next s) (count s - k) i

pub record Along (s : List ℕ) (k i : ℕ) : Type 0 where
  pub size : Sized s
  pub steps : k ≤ count s
  pub ending : ends (next s) (count s) (count s - k) i ≡ true

pub along_start : (s : List ℕ) (i : ℕ) → refusal s ≡ 0 → i ≡ next s 0 → Along s 0 i
unfolding chain
along_start s i acc e =
    let o = accepted_sound s acc in
    let c : List ℕ = walk (next s) (count s) (next s 0) in
    let h : length c < count s = run_short (next s) (count s) (next s 0) c (omega (arith, o.least)) o.run o.within in
    record {
      size = record { whole = o.whole; least = o.least; most = o.most };
      steps = omega arith;
      ending = simp (sub-zero, e) (run_ends (next s) (count s) (count s) (next s 0) c o.run o.within (omega arith));
    }

-- the next index lies in the store, and there are steps left
pub along_in : (s : List ℕ) (k i : ℕ) → Along s k i → (i ≡ 0 → ⊥) → (i < count s) × (k < count s)
along_in s k i g nz = ends_in (next s) (count s) (count s - k) i nz g.ending k refl
  where
    ends_in : (f : ℕ → ℕ) (b m i : ℕ) → (i ≡ 0 → ⊥) → ends f b m i ≡ true → (k : ℕ) → b - k ≡ m → (i < b) × (k < b)
    ends_in f b zero i nz e k q = absurd (nz (eqb-true i 0 e))
    ends_in f b (suc m) i nz e k q =
        let z = and_split (ltb i b) (ends f b m (f i)) (rw (ne_eqb i 0 nz) at e) in
        (ltb-true i b z.0, omega arith)

pub along_step : (s : List ℕ) (k i i' : ℕ) → Along s k i → (i ≡ 0 → ⊥) → i' ≡ next s i → Along s (k + 1) i'
along_step s k i i' g nz e =
    let n = along_in s k i g nz in
    let kt : k < count s = n.1 in
    let m : count s - k ≡ suc (count s - (k + 1)) = omega arith in
    record {
      size = g.size;
      steps = omega arith;
      ending = sym (ends_step (next s) (count s) (count s - k) (count s - (k + 1)) i m nz n.0 ∙ ap (ends (next s) (count s) (count s - (k + 1))) (sym e)) ∙ g.ending;
    }

pub ahead-start : (s : List ℕ) (i : ℕ) → i ≡ next s 0 → ahead s 0 i ≡ chain s
unfolding chain
ahead-start s i e = ap (λ (m : ℕ). walk (next s) m i) (sub-zero (count s)) ∙ ap (walk (next s) (count s)) e

pub ahead_step : (s : List ℕ) (k i i' : ℕ) → Along s k i → (i ≡ 0 → ⊥) → i' ≡ next s i → ahead s k i ≡ i ∷ ahead s (k + 1) i'
ahead_step s k i i' g nz e =
    let kt : k < count s = (along_in s k i g nz).1 in
    walk_step (next s) (count s - k) (count s - (k + 1)) i (omega arith) nz ∙ ap (λ (x : ℕ). i ∷ walk (next s) (count s - (k + 1)) x) (sym e)

-- the events that are left
abbrev pub left : List ℕ → ℕ → ℕ → List Event
left s k i = gather (λ j. events_of (rec s j)) (ahead s k i)

pub left-start : (s : List ℕ) (i : ℕ) → i ≡ next s 0 → left s 0 i ≡ events s
unfolding events
left-start s i e = ap (gather (λ j. events_of (rec s j))) (ahead-start s i e)

pub left_step : (s : List ℕ) (k i i' : ℕ) → Along s k i → (i ≡ 0 → ⊥) → i' ≡ next s i → left s k i ≡ events_of (rec s i) ++ left s (k + 1) i'
left_step s k i i' g nz e = ap (gather (λ j. events_of (rec s j))) (ahead_step s k i i' g nz e)

pub left_end : (s : List ℕ) (k i : ℕ) → i ≡ 0 → left s k i ≡ []
left_end s k i e = ap (gather (λ j. events_of (rec s j))) (ap (walk (next s) (count s - k)) e ∙ walk-zero (next s) (count s - k))

-- ---- events counted
points_long : (bs : List ℕ) (n : ℕ) → length (points bs n) ≡ n
points_long bs zero = refl
points_long bs (suc n) = ap suc (points_long (drop 4 bs) n)

pub held-points : (r : List ℕ) → kind r ≡ 1 → held r ≡ length (events_of r)
unfolding events_of
held-points r e = rw (eq-eqb (kind r) 1 e) (sym (points_long (drop 4 r) (held r)))

pub held_lost : (r : List ℕ) → (kind r ≡ 1 → ⊥) → 1 ≡ length (events_of r)
unfolding events_of
held_lost r h = rw (ne_eqb (kind r) 1 h)

-- ---- events as numbers
numbers_append : (xs ys : List Event) → numbers (xs ++ ys) ≡ numbers xs ++ numbers ys
numbers_append [] ys = refl
numbers_append (point p ∷ xs) ys = ap (λ (l : List ℤ). pos 1 ∷ p.re ∷ p.im ∷ l) (numbers_append xs ys)
numbers_append (lost n ∷ xs) ys = ap (λ (l : List ℤ). pos 2 ∷ pos n ∷ pos 0 ∷ l) (numbers_append xs ys)

pub numbers_long : (es : List Event) → length (numbers es) ≡ 3 * length es
numbers_long [] = refl
numbers_long (point p ∷ es) = omega (arith, numbers_long es)
numbers_long (lost n ∷ es) = omega (arith, numbers_long es)

-- the numbers of some events and then of the rest
pub numbers-then : (out out' : List ℤ) (p q : ℕ) (xs ys : List Event) → out' ≡ sets out p (numbers xs) → q ≡ p + 3 * length xs
    → sets out' q (numbers ys) ≡ sets out p (numbers (xs ++ ys))
numbers-then out out' p q xs ys e f =
    ap (λ (o : List ℤ). sets o q (numbers ys)) e
    ∙ sets_then (numbers xs) (numbers ys) out p q (omega (arith, numbers_long xs, f))
    ∙ ap (sets out p) (sym (numbers_append xs ys))

-- ---- the points of a record
pub points-next : (r : List ℕ) (n k : ℕ) → k < n
    → points (drop (4 + 4 * k) r) (n - k) ≡ point (at (i16 r (4 + 4 * k)) (i16 r (4 + 4 * k + 2))) ∷ points (drop (4 + 4 * (k + 1)) r) (n - (k + 1))
points-next r n k h =
    ap (points (drop (4 + 4 * k) r)) (let e : n - k ≡ suc (n - (k + 1)) = omega arith in e)
    ∙ ap₂ (λ p (l : List ℕ). point p ∷ points l (n - (k + 1))) (point_at_lem r (4 + 4 * k)) (drop-next r k)

pub copy_start : (r : List ℕ) (n : ℕ) (out : List ℤ) (p : ℕ) → sets out (p + 3 * 0) (numbers (points (drop (4 + 4 * 0) r) (n - 0))) ≡ sets out p (numbers (points (drop 4 r) n))
copy_start r n out p = ap₂ (λ (x y : ℕ). sets out x (numbers (points (drop 4 r) y))) (add-zero p) (sub-zero n)

pub copy_step : (r : List ℕ) (n : ℕ) (out₀ out out' : List ℤ) (p k : ℕ) (x y : ℤ) → k < n → x ≡ i16 r (4 + 4 * k) → y ≡ i16 r (4 + 4 * k + 2)
    → out' ≡ sets out (p + 3 * k) (pos 1 ∷ x ∷ y ∷ [])
    → sets out (p + 3 * k) (numbers (points (drop (4 + 4 * k) r) (n - k))) ≡ sets out₀ p (numbers (points (drop 4 r) n))
    → sets out' (p + 3 * (k + 1)) (numbers (points (drop (4 + 4 * (k + 1)) r) (n - (k + 1)))) ≡ sets out₀ p (numbers (points (drop 4 r) n))
copy_step r n out₀ out out' p k x y h ex ey e g =
    let one : Event = point (at (i16 r (4 + 4 * k)) (i16 r (4 + 4 * k + 2))) in
    numbers-then out out' (p + 3 * k) (p + 3 * (k + 1)) (one ∷ []) (points (drop (4 + 4 * (k + 1)) r) (n - (k + 1)))
    (e ∙ ap₂ (λ (a b : ℤ). sets out (p + 3 * k) (pos 1 ∷ a ∷ b ∷ [])) ex ey) (omega arith)
    ∙ ap (λ (es : List Event). sets out (p + 3 * k) (numbers es)) (sym (points-next r n k h)) ∙ g

pub copy_end : (r : List ℕ) (n : ℕ) (out₀ out : List ℤ) (p k : ℕ) → n ≤ k
    → sets out (p + 3 * k) (numbers (points (drop (4 + 4 * k) r) (n - k))) ≡ sets out₀ p (numbers (points (drop 4 r) n)) → out ≡ sets out₀ p (numbers (points (drop 4 r) n))
copy_end r n out₀ out p k h g = sym (ap (λ (m : ℕ). sets out (p + 3 * k) (numbers (points (drop (4 + 4 * k) r) m))) (let e : n - k ≡ 0 = omega arith in e)) ∙ g

pub of_points : (r : List ℕ) → kind r ≡ 1 → events_of r ≡ points (drop 4 r) (held r)
unfolding events_of
of_points r e = rw (eq-eqb (kind r) 1 e)

pub of_lost : (r : List ℕ) → (kind r ≡ 1 → ⊥) → events_of r ≡ lost (u32 r 4) ∷ []
unfolding events_of
of_lost r h = rw (ne_eqb (kind r) 1 h)

-- ---- the chain copied, where some of its records are left
pub record Copying (s : List ℕ) (out₀ out : List ℤ) (offset p : ℕ) (rest : List (List ℕ)) : Type 0 where
  pub long : length out ≡ length out₀
  pub room : p + 3 * length (events_in rest) ≤ length out₀
  pub written : sets out p (numbers (events_in rest)) ≡ sets out₀ offset (numbers (events s))

pub copying_start : (s : List ℕ) (out : List ℤ) (offset : ℕ) (rest : List (List ℕ)) → offset + 3 * length (events s) ≤ length out → rest ≡ records s → Copying s out out offset offset rest
copying_start s out offset rest h e =
    let v : events_in rest ≡ events s = ap events_in e ∙ records_events s in
    record { long = refl; room = omega (arith, ap length v, h); written = ap (λ (es : List Event). sets out offset (numbers es)) v }

pub copying_room : (s : List ℕ) (out₀ out : List ℤ) (offset p : ℕ) (rest : List (List ℕ)) (r : List ℕ) (rest' : List (List ℕ)) → Copying s out₀ out offset p rest → rest ≡ r ∷ rest'
    → p + 3 * length (events_of r) ≤ length out
copying_room s out₀ out offset p rest r rest' g e =
    omega (arith, g.room, g.long, ap (λ (rs : List (List ℕ)). length (events_in rs)) e, length-append (events_of r) (events_in rest'))

pub copying_step : (s : List ℕ) (out₀ out out' : List ℤ) (offset p p' : ℕ) (rest : List (List ℕ)) (r : List ℕ) (rest' : List (List ℕ)) → Copying s out₀ out offset p rest → rest ≡ r ∷ rest'
    → out' ≡ sets out p (numbers (events_of r)) → p' ≡ p + 3 * length (events_of r) → Copying s out₀ out' offset p' rest'
copying_step s out₀ out out' offset p p' rest r rest' g e eo ep =
    record {
      long = ap length eo ∙ length-sets out p (numbers (events_of r)) ∙ g.long;
      room = omega (arith, g.room, ep, ap (λ (rs : List (List ℕ)). length (events_in rs)) e, length-append (events_of r) (events_in rest'));
      written = numbers-then out out' p p' (events_of r) (events_in rest') eo ep ∙ ap (λ (rs : List (List ℕ)). sets out p (numbers (events_in rs))) (sym e) ∙ g.written;
    }

pub copying_end : (s : List ℕ) (out₀ out : List ℤ) (offset p : ℕ) (rest : List (List ℕ)) → Copying s out₀ out offset p rest → rest ≡ [] → out ≡ sets out₀ offset (numbers (events s))
copying_end s out₀ out offset p rest g e = sym (ap (λ (rs : List (List ℕ)). sets out p (numbers (events_in rs))) e) ∙ g.written

-- ---- the chain counted
pub record Counting (s : List ℕ) (n : ℕ) (rest : List (List ℕ)) : Type 0 where
  pub most : n + 256 * length rest ≤ 524288
  pub counted : n + length (events_in rest) ≡ length (events s)

pub counting_start : (s : List ℕ) (rest : List (List ℕ)) → refusal s ≡ 0 → rest ≡ records s → Counting s 0 rest
counting_start s rest acc e = record {
  most = omega (arith, ap length e, records_long s acc);
  counted = omega (arith, ap length (ap events_in e ∙ records_events s));
}

pub counting_step : (s : List ℕ) (n m : ℕ) (rest : List (List ℕ)) (r : List ℕ) (rest' : List (List ℕ)) → Counting s n rest → rest ≡ r ∷ rest' → m ≡ length (events_of r) → m < 256 → Counting s (n + m) rest'
counting_step s n m rest r rest' g e em h = record {
  most = omega (arith, g.most, ap length e, h);
  counted = omega (arith, g.counted, em, ap (λ (rs : List (List ℕ)). length (events_in rs)) e, length-append (events_of r) (events_in rest'));
}

pub counting_end : (s : List ℕ) (n : ℕ) (rest : List (List ℕ)) → Counting s n rest → rest ≡ [] → (n ≡ length (events s)) × (n ≤ 524288)
counting_end s n rest g e = (omega (arith, g.counted, ap (λ (rs : List (List ℕ)). length (events_in rs)) e), omega (arith, g.most))

-- ---- the call
pub read_refused : (s : List ℕ) (out : List ℤ) (offset : ℕ) (e : Refusal) → number e ≡ read_number s (length out) offset
    → Gives s (length out) offset (Err e) × (out ≡ read_result s out offset)
unfolding read_result
read_refused s out offset e h =
    let z : read_number s (length out) offset ≡ 0 → ⊥ = λ q. some_number e (h ∙ q) in
    (record { number = h; counts = left_kept _ _ _ z }, left_kept _ _ _ z)

pub read_past : (s : List ℕ) (out : List ℤ) (offset : ℕ) (e : Refusal) → number e ≡ need (leb offset (length out)) 7 0
    → Gives s (length out) offset (Err e) × (out ≡ read_result s out offset)
unfolding read_number
read_past s out offset e h = let u = need_unmet (leb offset (length out)) 7 e h in read_refused s out offset e (rw u.0 u.1)

pub read_unread : (s : List ℕ) (out : List ℤ) (offset : ℕ) (e : Refusal) → offset ≤ length out → number e ≡ refusal s
    → Gives s (length out) offset (Err e) × (out ≡ read_result s out offset)
unfolding read_number
read_unread s out offset e h n =
    let few : ℕ = need (leb (offset + 3 * length (events s)) (length out)) 7 0 in
    read_refused s out offset e (rw (le-leb offset (length out) h) (or_some (number e) few (some_number e) ∙ ap (λ (x : ℕ). or_next x few) n))

module _ (s : List ℕ) (out : List ℤ) (offset : ℕ) (h : offset ≤ length out) (acc : refusal s ≡ 0) where
  pub read_few : (e : Refusal) (n : ℕ) → n ≡ length (events s) → number e ≡ need (leb (3 * n) (length out - offset)) 7 0
      → Gives s (length out) offset (Err e) × (out ≡ read_result s out offset)
  unfolding read_number
  read_few e n q k =
      let u = need_unmet (leb (3 * n) (length out - offset)) 7 e k in
      let f : length out < offset + 3 * length (events s) = let l = leb-false (3 * n) (length out - offset) u.0 in omega arith in
      read_refused s out offset e (rw (le-leb offset (length out) h, acc, lt-leb (offset + 3 * length (events s)) (length out) f) u.1)

  pub read_done : (n : ℕ) (out' : List ℤ) → n ≡ length (events s) → offset + 3 * length (events s) ≤ length out
      → out' ≡ sets out offset (numbers (events s)) → Gives s (length out) offset (Ok n) × (out' ≡ read_result s out offset)
  unfolding read_count read_result
  read_done n out' e f w =
      let z : read_number s (length out) offset ≡ 0 =
      unfold read_number in rw (le-leb offset (length out) h, acc, le-leb (offset + 3 * length (events s)) (length out) f) in
      (record { number = sym z; counts = rw (z, e) }, rw z w)

-- ---- the events of a record written
pub events_of_points : (r : List ℕ) (out out' : List ℤ) (p n : ℕ) → kind r ≡ 1 → n ≡ held r
    → out' ≡ sets out p (numbers (points (drop 4 r) n)) → out' ≡ sets out p (numbers (events_of r))
events_of_points r out out' p n k e w =
    w ∙ ap (λ (m : ℕ). sets out p (numbers (points (drop 4 r) m))) e ∙ ap (λ (es : List Event). sets out p (numbers es)) (sym (of_points r k))

wide_back : (n : ℕ) → n < 4294967296 → to_z w64 (of_z w64 (pos n)) ≡ pos n
wide_back n h = to_z-of_z {w = w64} (record { sfits = omega arith })

pub events_of_lost : (r : List ℕ) (out out' : List ℤ) (p n : ℕ) → (kind r ≡ 1 → ⊥) → n ≡ u32 r 4 → n < 4294967296
    → out' ≡ sets out p (pos 2 ∷ to_z w64 (of_z w64 (pos n)) ∷ pos 0 ∷ []) → out' ≡ sets out p (numbers (events_of r))
events_of_lost r out out' p n k e h w =
    w ∙ ap (λ (z : ℤ). sets out p (pos 2 ∷ z ∷ pos 0 ∷ [])) (wide_back n h ∙ ap pos e) ∙ ap (λ (es : List Event). sets out p (numbers es)) (sym (of_lost r k))
