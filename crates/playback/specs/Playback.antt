-- Opening and sending into the bytes of a capture. A number of a point takes two of the lent bytes, so that n bytes are lent to the sender
-- as n / 2 numbers: number 7 says that there are fewer than four bytes for each point.
use Rattle.std.specs.Prelude.{ℕ, ◌*◌, ◌/◌, List, Result, leb, ℤ, length, take, drop}
use Rattle.std.proofs.lemmas.List.Edits.{sets}
use Rattle.line.specs.Mode.{width}
use Rattle.line.specs.declared.refusal.Refusal.{Refusal}
use Rattle.line.specs.Refusal.{answered, need, or_next, accepted}
use Rattle.sender.specs.declared.Sender.{Sender}
use Rattle.sender.specs.Sender.{send_refusal, after_bits, bit_numbers}
use Rattle.sender.specs.Open.{open_refusal, opened, training_numbers}
use Rattle.capture.specs.Capture.{number_bytes}
use Rattle.playback.specs.declared.Played.{Played}

-- A CALL with the number n, that would hand on t and write the numbers zs

-- the answer: the state and the count of bytes, or the number alone
abbrev pub played : ℕ → Sender → List ℤ → Result Played Refusal
played n t zs = answered n (record { next = t; count = 2 * length zs })

-- the lent bytes at exit: the numbers at their front, all others unchanged
abbrev pub played_bytes : ℕ → List ℤ → List ℕ → List ℕ
played_bytes n zs out = accepted n (sets out 0 (number_bytes zs)) out

-- number 7 of so many numbers and lent bytes
unfoldable pub room_refusal : ℕ → ℕ → ℕ
room_refusal count lent = need (leb count (lent / 2)) 7 0

-- OPENING

unfoldable pub open_fault : ℕ → ℕ → ℕ → ℕ → ℕ
open_fault m role n lent = open_refusal m role n (lent / 2) 0

unfoldable pub open_played : ℕ → ℕ → ℕ → ℕ → Result Played Refusal
open_played m role n lent = played (open_fault m role n lent) (opened m role n) (training_numbers m role n)

unfoldable pub open_bytes : ℕ → ℕ → ℕ → List ℕ → List ℕ
open_bytes m role n out = played_bytes (open_fault m role n (length out)) (training_numbers m role n) out

-- SENDING

-- the whole groups at the front of data bits, and the bits behind them, fewer than w, which the caller puts in front of the next ones
abbrev pub whole_bits : ℕ → List ℕ → ℕ
whole_bits w ds = length ds / w * w

unfoldable pub sent_bits : Sender → List ℕ → List ℕ
sent_bits s ds = take (whole_bits (width s.mode) ds) ds

unfoldable pub left_bits : Sender → List ℕ → List ℕ
left_bits s ds = drop (whole_bits (width s.mode) ds) ds

-- number 5 is of the bits that are sent, and 6 does not arise; 7 is of more than 8192 bits, too
unfoldable pub send_fault : Sender → List ℕ → ℕ → ℕ
send_fault s ds lent = or_next (send_refusal s (sent_bits s ds) (lent / 2) 0) (need (leb (length ds) 8192) 7 0)

unfoldable pub send_played : Sender → List ℕ → ℕ → Result Played Refusal
send_played s ds lent = played (send_fault s ds lent) (after_bits s (sent_bits s ds)) (bit_numbers s (sent_bits s ds))

unfoldable pub send_bytes : Sender → List ℕ → List ℕ → List ℕ
send_bytes s ds out = played_bytes (send_fault s ds (length out)) (bit_numbers s (sent_bits s ds)) out
