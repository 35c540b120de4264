-- What a store's capture is read as. Assumes nothing.
use mathlib.Core.Path.{◌≡◌, refl}
use mathlib.Core.Bool.{Bool, true, false}
use mathlib.Core.List.{List, [], ◌∷◌}
use Prim.Native.Nat.{◌≤◌}
use native.Mathlib.Omega.{arith}
use lib.Dec.{T}
use Rattle.line.specs.Point.{in_range}
use Rattle.line.specs.Table.{All}
use Rattle.store.specs.Chain.{sum_over}
use Rattle.store.specs.Layout.{Event, point, lost, intervals}
use Rattle.store.specs.Store.{events}
use Rattle.store.proofs.Records.{total-at}
use Rattle.store.proofs.Fines.{Fine, events_fine, events_span}
use Rattle.capture.specs.Laws.{Storable}
use Rattle.capture.proofs.BackLaws.{reads_back}
use Rattle.track_capture.specs.Laws.{PointsBack}

true_of : (b : Bool) → T b → b ≡ true
true_of true t = refl
true_of false t = absurd t

storable : (es : List Event) → All Fine es → sum_over intervals es ≤ 4294967295 → All Storable es
storable [] f h = tt
storable (point p ∷ es) f h = (true_of (in_range p) f.0, storable es f.1 (omega arith))
storable (lost n ∷ es) f h = ((f.0, omega arith), storable es f.1 (omega arith))

pub points-back : PointsBack
points-back s b acc =
    reads_back (events s) (storable (events s) (events_fine s acc) (omega (arith, events_span s acc, total-at s, b 8, b 9, b 10, b 11)))
