-- The event that stands at a place of a capture, by what the code reads there. Assumes nothing.
use mathlib.Core.Path.{◌≡◌, sym, ap, ◌∙◌}
use mathlib.Core.Logic.{◌≢◌}
use mathlib.Core.List.{List, [], ◌∷◌}
use Prim.Native.Nat.{ℕ, ◌+◌, ◌≤◌, ◌<◌}
use native.Mathlib.Omega.{arith}
use borrow.Author.Tests.{lt-ltb, le-ltb, eq-eqb, ne_eqb}
use lib.ListN.{length, drop, length-drop}
use Rattle.line.specs.Point.{at}
use Rattle.octets.specs.Number.{u16, u32, i16}
use Rattle.octets.proofs.Numbers.{u16-drop}
use Rattle.store.specs.Layout.{point, lost}
use Rattle.store.proofs.PointRuns.{point_at_lem}
use Rattle.capture.specs.Capture.{mark_number, first}

pub u32-drop : (s : List ℕ) (a b : ℕ) → u32 (drop a s) b ≡ u32 s (a + b)
u32-drop s a b =
    omega (arith, u16-drop s a b, u16-drop s a (b + 2), ap (u16 s) (let e : a + (b + 2) ≡ a + b + 2 = omega arith in e))

u32_here : (s : List ℕ) (a : ℕ) → u32 (drop a s) 0 ≡ u32 s a
u32_here s a = u32-drop s a 0 ∙ ap (u32 s) (let e : a + 0 ≡ a = omega arith in e)

pub first_past : (s : List ℕ) (a : ℕ) → length s < a + 4 → first (drop a s) ≡ []
unfolding first
first_past s a h = rw (lt-ltb (length (drop a s)) 4 (omega (arith, length-drop a s)))

pub first_point : (s : List ℕ) (a : ℕ) → a + 4 ≤ length s → u32 s a ≢ mark_number → first (drop a s) ≡ point (at (i16 s a) (i16 s (a + 2))) ∷ []
unfolding first
first_point s a h n =
    rw (le-ltb (length (drop a s)) 4 (omega (arith, length-drop a s)), ne_eqb (u32 (drop a s) 0) mark_number (λ e. n (sym (u32_here s a) ∙ e)))
    (ap (λ p. point p ∷ []) (point_at_lem s a))

pub first-cut : (s : List ℕ) (a : ℕ) → a + 4 ≤ length s → u32 s a ≡ mark_number → length s < a + 8 → first (drop a s) ≡ []
unfolding first
first-cut s a h m g =
    rw (
      le-ltb (length (drop a s)) 4 (omega (arith, length-drop a s)),
      eq-eqb (u32 (drop a s) 0) mark_number (u32_here s a ∙ m),
      lt-ltb (length (drop a s)) 8 (omega (arith, length-drop a s)),
    )

pub first_lost : (s : List ℕ) (a : ℕ) → u32 s a ≡ mark_number → a + 8 ≤ length s → first (drop a s) ≡ lost (u32 s (a + 4)) ∷ []
unfolding first
first_lost s a m g =
    rw (
      le-ltb (length (drop a s)) 4 (omega (arith, length-drop a s)),
      eq-eqb (u32 (drop a s) 0) mark_number (u32_here s a ∙ m),
      le-ltb (length (drop a s)) 8 (omega (arith, length-drop a s)),
    )
    (ap (λ n. lost n ∷ []) (u32-drop s a 4))
