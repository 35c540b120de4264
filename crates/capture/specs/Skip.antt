-- The first events of a capture, left out.
use Rattle.std.specs.Prelude.{List, ℕ, length, take}
use Rattle.store.specs.Chain.{sum_over}
use Rattle.capture.specs.Capture.{size, events_in}
use Rattle.capture.specs.declared.Skipped.{Skipped}

-- the first n events, or all where there are fewer: how many they are, and how many bytes they have
unfoldable pub skipped_of : ℕ → List ℕ → Skipped
skipped_of n bs = record { skipped = length (take n (events_in bs)); used = sum_over size (take n (events_in bs)) }
