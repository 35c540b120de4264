-- A signed 16-bit number and its pattern, as the code computes them. Assumes nothing.
use mathlib.Core.Path.{◌≡◌, refl, ap}
use Prim.Native.Nat.{ℕ, suc, ◌-◌, ◌≤◌, ◌<◌}
use native.Mathlib.Omega.{arith}
use borrow.Author.Tests.{ltb-true, ltb-false}
use lib.Dec.{ltb}
use lib.IntN.{ℤ, pos, negsuc}
use mir.Syntax.{w16}
use mir.Val.{SFits, to_z, of_z}
use Rattle.octets.specs.Number.{pattern, signed}
use Rattle.line.proofs.Tests.{by_test}

-- the bits of a number are its pattern, and read as signed they are the number
pub pattern_is : (x : ℤ) → of_z w16 x ≡ pattern x
unfolding pattern
pattern_is (pos n) = refl
pattern_is (negsuc n) = omega arith

pub signed_is : (u : ℕ) → to_z w16 u ≡ signed u
unfolding signed
signed_is u =
    by_test (ltb u 32768)
    (λ e. rw e)
    (λ e. rw e (ap negsuc (let q : 65536 - suc u ≡ 65535 - u = omega arith in q)))

pub sfits_signed : (u : ℕ) → u < 65536 → SFits w16 (signed u)
unfolding signed
sfits_signed u h =
    by_test (ltb u 32768)
    (λ e. rw e (let q : u < 32768 = ltb-true u 32768 e in record { sfits = q }))
    (λ e. rw e (let q : 32768 ≤ u = ltb-false u 32768 e in record { sfits = omega arith }))
