-- The intervals of a chain's events are those of its records. Assumes nothing.
use mathlib.Core.Path.{◌≡◌, refl}
use mathlib.Core.List.{List, [], ◌∷◌}
use Prim.Native.Nat.{ℕ, zero, suc}
use native.Mathlib.Omega.{arith}
use lib.ListN.{drop}
use Rattle.line.proofs.Tests.{by_test}
use Rattle.store.specs.Chain.{sum_over, gather}
use Rattle.store.specs.Layout.{intervals, held, is_points, points, span_of, events_of}
use Rattle.store.proofs.Chains.{sum_append}

points_span : (bs : List ℕ) (n : ℕ) → sum_over intervals (points bs n) ≡ n
points_span bs zero = refl
points_span bs (suc n) = omega (arith, points_span (drop 4 bs) n)

record_span : (r : List ℕ) → sum_over intervals (events_of r) ≡ span_of r
unfolding span_of events_of
record_span r = by_test (is_points r) (λ e. rw e (points_span (drop 4 r) (held r))) (λ e. rw e (omega arith))

pub chain_span : (f : ℕ → List ℕ) (c : List ℕ) → sum_over intervals (gather (λ i. events_of (f i)) c) ≡ sum_over (λ i. span_of (f i)) c
chain_span f [] = refl
chain_span f (i ∷ c) =
    omega (arith, sum_append intervals (events_of (f i)) (gather (λ j. events_of (f j)) c), record_span (f i), chain_span f c)
