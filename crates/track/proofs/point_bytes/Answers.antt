use mathlib.Core.Path.{◌≡◌, refl, ap, ap₂, ◌∙◌}
use mathlib.Core.List.{List, [], ◌∷◌}
use Prim.Native.Nat.{ℕ, suc, ◌-◌, ◌^◌}
use native.Mathlib.Omega.{arith}
use lib.IntN.{ℤ, pos, negsuc}
use lib.ListN.{get_or}
use mir.Facts.{to_z-of_z}
use mir.Syntax.{w16}
use mir.Val.{of_z}
use Rattle.std.specs.Int.{to_le_bytes}
use Rattle.octets.specs.Number.{pattern, le16, le_i16}
use Rattle.track.proofs.point_bytes.Goals as goal

coordinate_bytes : (x : ℤ) → to_le_bytes w16 (of_z w16 x) ≡ le_i16 x
unfolding pattern
coordinate_bytes (pos n) = refl
coordinate_bytes (negsuc n) = ap le16 (let q : 2 ^ 16 - suc n ≡ 65535 - n = omega arith in q)

pub returns : goal.returns
returns c =
    ap₂ (λ (u v : List ℕ). get_or u 0 0 ∷ get_or u 1 0 ∷ get_or v 0 0 ∷ get_or v 1 0 ∷ [])
    ((rw (to_z-of_z c.ranges.re) at c.to_le_bytes.ensures) ∙ coordinate_bytes c.args.re)
    ((rw (to_z-of_z c.ranges.im) at c.to_le_bytes-2.ensures) ∙ coordinate_bytes c.args.im)
