-- What is proved of a capture that is listed block by block. The proofs are in proofs/BlockLaws.
use Rattle.std.specs.Prelude.{◌≡◌, true, List, ◌++◌, map, ℕ, ◌≤◌, length}
use Rattle.receiver.specs.declared.Receiver.{Receiver}
use Rattle.receiver.specs.Receiver.{fresh_receiver, state_refusal}
use Rattle.receiver.specs.Calls.{after}
use Rattle.store.specs.Layout.{Event}
use Rattle.store.specs.Store.{events, total, refusal}
use Rattle.summing.specs.declared.EventSums.{EventSums}
use Rattle.summing.specs.Sums.{sums_of, plus}
use Rattle.listing.specs.declared.stream.ListedEvents.{ListedEvents}
use Rattle.listing.specs.Text.{taken, lines, first_line, sum_line, mode_in, role_in, text}
use Rattle.listing.specs.Laws.{AreBytes}
use Rattle.listing.specs.Stream.{until_refused, first_refused, sums_ok, block_refusal, listed_events}
use Rattle.listing.specs.LastLine.{small_sums}

-- THE EVENTS OF TWO BLOCKS

-- no event of the first block is refused: the second goes on from t, the state after it, and from its sums
pub record Joins (s : Receiver) (v : EventSums) (xs ys : List Event) (t : Receiver) : Type 0 where
  pub all_taken : until_refused s xs ≡ xs
  pub number : first_refused s (xs ++ ys) ≡ first_refused t ys
  pub text : lines s (map taken (until_refused s (xs ++ ys))) ≡ lines s (map taken xs) ++ lines t (map taken (until_refused t ys))
  pub state : after s (map taken (until_refused s (xs ++ ys))) ≡ after t (map taken (until_refused t ys))
  pub sums : plus v (sums_of (until_refused s (xs ++ ys))) ≡ plus (plus v (sums_of xs)) (sums_of (until_refused t ys))

abbrev pub OneAfterAnother : Type 0
OneAfterAnother = (s : Receiver) (v : EventSums) (xs ys : List Event) → first_refused s xs ≡ 0 → Joins s v xs ys (after s (map taken xs))

-- one is: what comes behind it changes nothing
abbrev pub StopsThere : Type 0
StopsThere = (s : Receiver) (xs ys : List Event) → (first_refused s xs ≡ 0 → ⊥)
    → (until_refused s (xs ++ ys) ≡ until_refused s xs) × (first_refused s (xs ++ ys) ≡ first_refused s xs)

-- WHAT A CALL GIVES

-- the lent bytes hold all lines of an accepted call
abbrev pub NoneCut : Type 0
NoneCut = (s : Receiver) (v : EventSums) (bs : List ℕ) (room : ℕ) → block_refusal s v (length bs) room ≡ 0 → (listed_events s v bs room).count ≤ room

-- the state and the sums that it hands back are accepted with the next block, and the sums by their line; a place is a number of 32 bits
pub record GoesOn (r : ListedEvents) : Type 0 where
  pub state_passes : state_refusal r.state ≡ 0
  pub sums_pass : sums_ok r.sums r.state.place.0 ≡ true
  pub sums_small : small_sums r.sums ≡ true

abbrev pub EachGoesOn : Type 0
EachGoesOn = (s : Receiver) (v : EventSums) (bs : List ℕ) (room : ℕ) → s.place.0 ≤ 4294967295 → block_refusal s v (length bs) room ≡ 0 → GoesOn (listed_events s v bs room)

-- the events of an accepted store, listed so by a fresh receiver: between the first line of the store's listing and the last one
abbrev pub AsListed : Type 0
AsListed = (s : List ℕ) → AreBytes s → refusal s ≡ 0
    → let f : Receiver = fresh_receiver (mode_in s) (role_in s) in
    let es : List Event = until_refused f (events s) in
    text s ≡ first_line (mode_in s) (role_in s) (total s) ++ (lines f (map taken es) ++ sum_line (sums_of es))
