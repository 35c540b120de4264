use mir.Facts.{to_z-of_z}
use mir.Syntax.{w16}
use native.Mathlib.Omega.{arith}
use Rattle.deciding.proofs.DistanceLaws.{square-most, distance_law}
use Rattle.deciding.proofs.squared_distance.Goals as goal

pub overflow_mul-result : goal.overflow_mul-result
overflow_mul-result c = omega (arith, square-most c.apart-x.ensures.1)

pub overflow_mul-result-2 : goal.overflow_mul-result-2
overflow_mul-result-2 c = omega (arith, square-most c.apart-y.ensures.1)

pub overflow_add-result : goal.overflow_add-result
overflow_add-result c = omega (arith, square-most c.apart-x.ensures.1, square-most c.apart-y.ensures.1)

pub returns : goal.returns
returns c =
    let x = to_z-of_z {w = w16} {z = c.args.p.re} (record { sfits = c.struct_told-1.given.0.1 }) in
    let y = to_z-of_z {w = w16} {z = c.args.p.im} (record { sfits = c.struct_told-2-1.given.1.0.1 }) in
    distance_law _ _ _ _ _ (rw (to_z-of_z c.ranges.re, x) at c.apart-x.ensures.0) (rw (to_z-of_z c.ranges.im, y) at c.apart-y.ensures.0)
