-- The bits that a sender was given come back from its points, through a receiver that has its reference and register.
use Rattle.std.specs.Prelude.{ℕ, ◌+◌, ◌≤◌, ◌≡◌, List, [], ◌∷◌, ◌++◌, map, length, Some as some, Result, Ok, Err}
use Rattle.scrambler.specs.Scramble.{scramble, settled}
use Rattle.receiver.specs.declared.Receiver.{Receiver}
use Rattle.receiver.specs.Receiver.{receiver}
use Rattle.receiver.specs.Calls.{after, EachAccepted, Heard, heard, lines_heard, data_heard, row}
use Rattle.sender.specs.declared.Sender.{Sender}
use Rattle.line.specs.declared.refusal.Refusal.{Refusal}
use Rattle.sender.specs.Calls.{Send, answer, handed_on, data_points}
use Rattle.resync.specs.DataPoints.{received}

-- the sender after a list of sending calls, and the bits that it was given in the accepted ones
abbrev pub sender_after : Sender → List Send → Sender
sender_after s [] = s
sender_after s (c ∷ cs) = sender_after (handed_on (answer s c) s) cs

abbrev pub bits_of : Result Sender Refusal → Send → List ℕ
bits_of (Err n) c = []
bits_of (Ok t) c = c.bits

abbrev pub given_to : Sender → List Send → List ℕ
given_to s [] = []
given_to s (c ∷ cs) = bits_of (answer s c) c ++ given_to (handed_on (answer s c) s) cs

-- the receiver of its mode and role that has its reference and register, at a place
abbrev pub listening : Sender → ℕ → Receiver
listening s place = receiver s.mode s.role (some s.reference) s.line place

-- what that receiver hears of the data points, as written
abbrev pub heard_from : Sender → List Send → ℕ → List Heard
heard_from s cs place = heard (listening s place) (received (data_points s cs))

pub record ComeBack (s : Sender) (cs : List Send) (place : ℕ) : Type 0 where
  -- it accepts every point
  pub accepts_all : EachAccepted (listening s place) (received (data_points s cs))
  -- the line bits are those that were sent; the data bits are settled, and are those that were given
  pub line-bits : row (lines_heard (heard_from s cs place)) ≡ scramble s.mode s.role s.line (given_to s cs)
  pub data_bits : data_heard (heard_from s cs place) ≡ map settled (given_to s cs)
  -- afterwards it has the sender's reference and register again, and its place has grown by the points
  pub goes_along : after (listening s place) (received (data_points s cs)) ≡ listening (sender_after s cs) (place + length (data_points s cs))

-- any sender and any list of calls, refused ones among them. From a state that numbers 1, 2 and 4 refuse nothing is sent.
abbrev pub RoundTrip : Type 0
RoundTrip = (s : Sender) (cs : List Send) (place : ℕ) → place + length (data_points s cs) ≤ 4294967295 → ComeBack s cs place
