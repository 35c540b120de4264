use mir.Facts.{to_z-of_z}
use native.Mathlib.Numerals.{add-one, add-two}
use native.Mathlib.Omega.{arith}
use lib.ListN.{length-set}
use Rattle.store.proofs.put_event.Goals as goal

pub bounds-out-at-2 : goal.bounds-out-at-2
bounds-out-at-2 c = simp length-set (omega arith)

pub returns : goal.returns
returns c = rw (to_z-of_z c.ranges.kind, to_z-of_z c.ranges.a, to_z-of_z c.ranges.b, add-one, add-two)
