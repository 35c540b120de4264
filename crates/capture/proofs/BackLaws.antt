-- What is written into a capture is read back. Assumes nothing.
use mathlib.Core.Path.{◌≡◌, refl, ap, ap₂, ◌∙◌, subst}
use mathlib.Core.Bool.{true}
use mathlib.Core.List.{List, [], ◌∷◌, ◌++◌}
use Prim.Native.Nat.{ℕ, suc, ◌+◌, ◌*◌, ◌≤◌, ◌<◌}
use native.Mathlib.Omega.{arith}
use borrow.Author.Tests.{leb-true}
use lib.IntN.{ℤ, pos, negsuc}
use lib.ListN.{drop}
use mir.Syntax.{w16}
use mir.Val.{SFits}
use Rattle.line.specs.declared.Point.{Point}
use Rattle.line.specs.Point.{at, coordinate_in, in_range}
use Rattle.line.proofs.Tests.{and_split}
use Rattle.octets.specs.Number.{u32, le16, pattern, signed}
use Rattle.octets.proofs.Numbers.{halves, quarters, pattern_small, signed-pattern}
use Rattle.store.specs.Layout.{Event, point, lost, point_bytes}
use Rattle.capture.specs.Capture.{event_bytes, captured, size, events_in, rest_in}
use Rattle.capture.specs.Laws.{Storable, ReadsBack, PointNumbers}
use Rattle.capture.proofs.BlockLaws.{Starts, starts_point, starts_lost, events_none, events_one, rest_none, rest_one}
use Rattle.capture.proofs.FirstLaws.{first_past}

-- A COORDINATE IN RANGE: it has 16 bits, and is not −32768

in_fits : (x : ℤ) → coordinate_in x ≡ true → SFits w16 x
in_fits (pos n) e = record { sfits = omega (arith, leb-true n 16384 e) }
in_fits (negsuc n) e = record { sfits = omega (arith, leb-true (suc n) 16384 e) }

not-mark : (x : ℤ) → coordinate_in x ≡ true → pattern x ≡ 32768 → ⊥
unfolding pattern
not-mark (pos n) e m = omega (arith, leb-true n 16384 e)
not-mark (negsuc n) e m = omega (arith, leb-true (suc n) 16384 e)

-- two numbers of 16 bits in four bytes
u32_pair : (x y : ℕ) (bs : List ℕ) → x < 65536 → y < 65536 → u32 (le16 x ++ le16 y ++ bs) 0 ≡ x + 65536 * y
u32_pair x y bs p q = omega (arith, halves x p, halves y q)

module _ (p : Point) (bs : List ℕ) (h : in_range p ≡ true) where
  in_both : (coordinate_in p.re ≡ true) × (coordinate_in p.im ≡ true)
  unfolding in_range
  in_both = and_split (coordinate_in p.re) (coordinate_in p.im) h

  point_back : Starts (point_bytes p ++ bs) (point p)
  point_back =
      let f = in_fits p.re in_both.0 in
      let g = in_fits p.im in_both.1 in
      let u : pattern p.re < 65536 = pattern_small p.re f in
      let v : pattern p.im < 65536 = pattern_small p.im g in
      subst (λ (q : Point). Starts (point_bytes p ++ bs) (point q))
      (ap₂ at (ap signed (halves (pattern p.re) u) ∙ signed-pattern p.re f) (ap signed (halves (pattern p.im) v) ∙ signed-pattern p.im g))
      (starts_point (point_bytes p ++ bs) (omega arith)
      (λ e. not-mark p.re in_both.0 (omega (arith, e, u32_pair (pattern p.re) (pattern p.im) bs u v))))

lost_back : (n : ℕ) (bs : List ℕ) → n ≤ 4294967295 → Starts (event_bytes (lost n) ++ bs) (lost n)
lost_back n bs h =
    subst (λ (k : ℕ). Starts (event_bytes (lost n) ++ bs) (lost k)) (quarters n (omega arith)) (starts_lost (event_bytes (lost n) ++ bs) (omega arith) refl)

event_back : (e : Event) (bs : List ℕ) → Storable e → Starts (event_bytes e ++ bs) e
event_back (point p) bs h = point_back p bs h
event_back (lost n) bs h = lost_back n bs h.1

behind : (e : Event) (bs : List ℕ) → drop (size e) (event_bytes e ++ bs) ≡ bs
behind (point p) bs = refl
behind (lost n) bs = refl

pub reads_back : ReadsBack
reads_back [] h = record { events = events_none [] (first_past [] 0 (omega arith)); rest = rest_none [] (first_past [] 0 (omega arith)) }
reads_back (e ∷ es) h =
    let s = event_back e (captured es) h.0 in
    let r = reads_back es h.1 in
    let d : drop (size e) (captured (e ∷ es)) ≡ captured es = behind e (captured es) in
    record {
      events = events_one _ e s ∙ ap (λ (x : List ℕ). e ∷ events_in x) d ∙ ap (λ (x : List Event). e ∷ x) r.events;
      rest = rest_one _ e s ∙ ap rest_in d ∙ r.rest;
    }

pub point_numbers : PointNumbers
point_numbers [] h = refl
point_numbers (x ∷ []) h = absurd (omega arith)
point_numbers (x ∷ y ∷ zs) h = ap (λ (bs : List ℕ). point_bytes (at x y) ++ bs) (point_numbers zs (omega arith))
