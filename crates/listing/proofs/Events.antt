-- The events of a capture's bytes, one by one. Assumes nothing.
use mathlib.Core.Path.{◌≡◌, refl, ap, ◌∙◌, subst}
use mathlib.Core.List.{List, [], ◌∷◌}
use Prim.Native.Nat.{ℕ, zero, suc, ◌≤◌}
use native.Mathlib.Omega.{arith}
use borrow.Author.Tests.{ltb-false}
use lib.Dec.{eqb, ltb}
use lib.ListN.{length, drop, length-drop}
use Rattle.line.proofs.Tests.{by_test}
use Rattle.octets.specs.Number.{u32}
use Rattle.store.specs.Layout.{Event, point, lost, point_at}
use Rattle.capture.specs.Capture.{mark_number, first, size, then, events_from, events_in}
use Rattle.capture.proofs.FirstLaws.{first_past}

pub size_least : (e : Event) → 4 ≤ size e
size_least (point p) = omega arith
size_least (lost n) = omega arith

-- all bytes of the event that bytes begin with are there
pub first-whole : (bs : List ℕ) (e : Event) → first bs ≡ e ∷ [] → size e ≤ length bs
unfolding first
first-whole bs e h =
    by_test (ltb (length bs) 4)
    (λ t. absurd (none (rw t at h)))
    (λ t. by_test (eqb (u32 bs 0) mark_number)
    (λ m. by_test (ltb (length bs) 8)
    (λ u. absurd (none (rw (t, m, u) at h)))
    (λ u. subst (λ (x : Event). size x ≤ length bs) (only (lost (u32 bs 4)) (rw (t, m, u) at h)) (ltb-false (length bs) 8 u)))
    (λ m. subst (λ (x : Event). size x ≤ length bs) (only (point (point_at bs)) (rw (t, m) at h)) (ltb-false (length bs) 4 t)))
  where
    none : [] ≡ e ∷ [] → ⊥
    none q = omega (arith, ap length q)

    only : (x : Event) → x ∷ [] ≡ e ∷ [] → x ≡ e
    only x q = cc

first_none : (bs : List ℕ) → length bs ≤ 0 → first bs ≡ []
first_none bs h = first_past bs 0 (omega arith)

-- as many turns as bytes are enough
enough : (j k : ℕ) (bs : List ℕ) → length bs ≤ j → length bs ≤ k → events_from j bs ≡ events_from k bs
enough zero zero bs h g = refl
enough zero (suc k) bs h g = rw (first_none bs h)
enough (suc j) zero bs h g = rw (first_none bs g)
enough (suc j) (suc k) bs h g =
    each (first bs)
    (λ e. enough j k (drop (size e) bs) (omega (arith, length-drop (size e) bs, size_least e)) (omega (arith, length-drop (size e) bs, size_least e)))
  where
    each : (l : List Event) → ((e : Event) → events_from j (drop (size e) bs) ≡ events_from k (drop (size e) bs))
        → then l (λ e. e ∷ events_from j (drop (size e) bs)) ≡ then l (λ e. e ∷ events_from k (drop (size e) bs))
    each [] r = refl
    each (e ∷ l) r = ap (λ (es : List Event). e ∷ es) (r e)

events-first : (bs : List ℕ) → events_in bs ≡ then (first bs) (λ e. e ∷ events_in (drop (size e) bs))
unfolding events_in
events-first bs = go (length bs) refl
  where
    each : (k : ℕ) → length bs ≡ suc k → (l : List Event)
        → then l (λ e. e ∷ events_from k (drop (size e) bs)) ≡ then l (λ e. e ∷ events_from (length (drop (size e) bs)) (drop (size e) bs))
    each k q [] = refl
    each k q (e ∷ l) =
        ap (λ (es : List Event). e ∷ es)
        (enough k (length (drop (size e) bs)) (drop (size e) bs) (omega (arith, length-drop (size e) bs, size_least e)) (omega arith))

    go : (k : ℕ) → length bs ≡ k → events_from k bs ≡ then (first bs) (λ e. e ∷ events_from (length (drop (size e) bs)) (drop (size e) bs))
    go zero q = rw (first_none bs (omega arith))
    go (suc k) q = each k q (first bs)

pub events_none : (bs : List ℕ) → first bs ≡ [] → events_in bs ≡ []
events_none bs q = events-first bs ∙ ap (λ (l : List Event). then l (λ e. e ∷ events_in (drop (size e) bs))) q

pub events_one : (bs : List ℕ) (e : Event) → first bs ≡ e ∷ [] → events_in bs ≡ e ∷ events_in (drop (size e) bs)
events_one bs e q = events-first bs ∙ ap (λ (l : List Event). then l (λ e. e ∷ events_in (drop (size e) bs))) q
