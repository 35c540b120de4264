-- What is proved of stores and captures. The proofs are in proofs/EventLaws, proofs/CaptureLaws, proofs/BackLaws and proofs/CutLaws.
use Rattle.std.specs.Prelude.{◌≡◌, List, ◌++◌, ℕ, ◌≤◌, ◌<◌, length, get_or, take}
use Rattle.store.specs.Layout.{Event, rec}
use Rattle.store.specs.Store.{events, total, refusal}
use Rattle.track.specs.Calls.{after, Holds}
use Rattle.capture.specs.Capture.{captured}
use Rattle.capture.specs.Laws.{Returned}
use Rattle.track_capture.specs.Appending.{accepted_of}
use Rattle.track_capture.specs.Capturing.{longest}
use Rattle.track_capture.specs.Keeping.{kept_bytes}

-- an accepted store holds, after the call, the events that it held and those that were taken
abbrev pub AppendedRead : Type 0
AppendedRead = (s : List ℕ) (es : List Event) → refusal s ≡ 0 → Holds (after s (accepted_of s es)) (events s ++ accepted_of s es)

-- the capture of any store fits in the bytes that `put_events` asks for
abbrev pub NoneLonger : Type 0
NoneLonger = (s : List ℕ) → refusal s ≡ 0 → length (captured (events s)) ≤ longest

-- the capture of an accepted store is read as its events, and nothing is left. The store's bytes are bytes.
abbrev pub PointsBack : Type 0
PointsBack = (s : List ℕ) → ((k : ℕ) → get_or s k 0 < 256) → refusal s ≡ 0 → Returned (events s)

-- t is an accepted store of the mode, the role, the total and the events of s
pub record SameTrack (s t : List ℕ) : Type 0 where
  pub accepted : refusal t ≡ 0
  pub mode : get_or (rec t 0) 4 0 ≡ get_or (rec s 0) 4 0
  pub role : get_or (rec t 0) 5 0 ≡ get_or (rec s 0) 5 0
  pub total_is : total t ≡ total s
  pub events_are : events t ≡ events s

-- the first bytes of an accepted store, as many as `kept_bytes` says, are the same track
abbrev pub Cut : Type 0
Cut = (s : List ℕ) → refusal s ≡ 0 → (length (take (kept_bytes s) s) ≡ kept_bytes s) × SameTrack s (take (kept_bytes s) s)
