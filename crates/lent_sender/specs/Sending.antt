-- The sender's calls for C: a state is 16 lent bytes; lent bytes beyond them stay as they are.
--   state   as lent/specs/State says, with 2 the reference, 3 zero, 12 to 15 zero
use Rattle.std.specs.Prelude.{ℕ, ◌<◌, ◌≤◌, ◌≡◌, ◌&&◌, cond, List, eqb, ℤ, length, get_or}
use Rattle.std.proofs.lemmas.List.Edits.{sets}
use Rattle.line.specs.Table.{every}
use Rattle.line.specs.Refusal.{need, accepted}
use Rattle.octets.specs.Number.{u32}
use Rattle.scrambler.specs.Bits.{is_bit}
use Rattle.sender.specs.declared.Sender.{Sender}
use Rattle.sender.specs.Sender.{send_refusal, after_bits, send_numbers}
use Rattle.sender.specs.Open.{open_refusal, opened, open_numbers}
use Rattle.lent.specs.State.{register_in, clear, state_out, holds_state, making_number}

-- THE BYTES OF A STATE

-- bytes 3 and 10 to 15 that are not zero read as a reference that is no state, which number 4 refuses
unfoldable pub sent_reference : List ℕ → ℕ
sent_reference s = cond (eqb (get_or s 3 0) 0 && (clear s && eqb (u32 s 12) 0)) (get_or s 2 0) 255

unfoldable pub sender_in : List ℕ → Sender
sender_in s = record { mode = get_or s 0 0; role = get_or s 1 0; reference = sent_reference s; line = register_in s }

unfoldable pub sender_out : Sender → List ℕ
sender_out s = state_out s.mode s.role s.reference 0 s.line 0

-- a state written into lent bytes is the state that the next call reads (its line bits are u32); proved in proofs/Back
abbrev pub ReadsBack : Type 0
ReadsBack = (b : List ℕ) (s : Sender) → 16 ≤ length b → s.line.bits < 4294967296 → sender_in (sets b 0 (sender_out s)) ≡ s

-- THE CALLS

-- opening: its number, and the state's bytes and the lent numbers when it returns
unfoldable pub open_number : List ℕ → ℕ → ℕ → ℕ → List ℤ → ℕ → ℕ
open_number state m role n out offset = making_number state (open_refusal m role n (length out) offset)

unfoldable pub open_state : List ℕ → ℕ → ℕ → ℕ → List ℤ → ℕ → List ℕ
open_state state m role n out offset =
    accepted (open_number state m role n out offset) (sets state 0 (sender_out (opened m role n))) state

unfoldable pub open_out : List ℕ → ℕ → ℕ → ℕ → List ℤ → ℕ → List ℤ
open_out state m role n out offset = cond (holds_state state) (open_numbers m role n out offset) out

-- sending: the same. Without a state's bytes there is no state to refuse, and no mode to say how many bits a point has: of the lower
-- numbers only 5 is left
unfoldable pub send_number : List ℕ → List ℕ → List ℤ → ℕ → ℕ
send_number state ds out offset =
    cond (holds_state state) (send_refusal (sender_in state) ds (length out) offset) (need (every is_bit ds) 5 7)

unfoldable pub send_state : List ℕ → List ℕ → List ℤ → ℕ → List ℕ
send_state state ds out offset =
    accepted (send_number state ds out offset) (sets state 0 (sender_out (after_bits (sender_in state) ds))) state

unfoldable pub send_out : List ℕ → List ℕ → List ℤ → ℕ → List ℤ
send_out state ds out offset = cond (holds_state state) (send_numbers (sender_in state) ds out offset) out
