-- The receiver's calls for C: a state is 16 lent bytes, an answer 12; lent bytes beyond them stay as they are.
--   state   as lent/specs/State says, with 2 whether there is a reference (0 or 1), 3 the reference (0 without one), 12 the place
--   answer  0 kind (0 reference, 1 bits, 2 gap), 1 line bits, 2 data bits, 3 how many of these are unsettled, 4 the gap (u32),
--           8 the squared distance (u32; document 02, R-1), 0 for a gap
use Rattle.std.specs.Prelude.{ℕ, ◌<◌, ◌≤◌, ◌≡◌, Bool, ◌&&◌, cond, List, [], ◌∷◌, ◌++◌, map, leb, ltb, eqb, length, get_or, Some, None, Result, Ok, Err}
use Rattle.std.proofs.lemmas.List.Edits.{sets}
use Rattle.line.specs.declared.refusal.Refusal.{Refusal}
use Rattle.line.specs.Refusal.{need, accepted, mode_refusal}
use Rattle.octets.specs.Number.{u32, le32}
use Rattle.receiver.specs.Reference.{Reference}
use Rattle.receiver.specs.declared.Receiver.{Receiver}
use Rattle.receiver.specs.declared.Outcome.{Outcome}
use Rattle.receiver.specs.declared.Outcome.TheVariants.{Referenced, Bits, Gap}
use Rattle.receiver.specs.Receiver.{Event, point, receiver, fresh_receiver, state_refusal, refusal, next}
use Rattle.receiver.specs.Outcome.{outcome}
use Rattle.receiver.specs.Calls.{after}
use Rattle.bulk.specs.Block.{Given, points_of, Parts, sizes, block_refusal, parts_after}
use Rattle.lent.specs.State.{register_in, clear, state_out, holds_state, making_number}

-- THE BYTES OF A STATE

-- bytes 2, 3, 10 and 11 that are no layout read as a reference that is no state, which number 4 refuses; byte 9, the guard's count of R-6,
-- is judged with the register
unfoldable pub reference_in : List ℕ → Reference
reference_in s =
    cond (clear s && eqb (get_or s 2 0) 1) (Some (get_or s 3 0))
    (cond (clear s && (eqb (get_or s 2 0) 0 && eqb (get_or s 3 0) 0)) None (Some 255))

unfoldable pub receiver_in : List ℕ → Receiver
receiver_in s = receiver (get_or s 0 0) (get_or s 1 0) (reference_in s) (register_in s) (u32 s 12)

abbrev pub present : Reference → ℕ
present None = 0
present (Some x) = 1

abbrev pub state_byte : Reference → ℕ
state_byte None = 0
state_byte (Some x) = x

unfoldable pub receiver_out : Receiver → List ℕ
receiver_out s = state_out s.mode s.role (present s.reference) (state_byte s.reference) s.line s.place.0

-- a state written into lent bytes is the state that the next call reads (its numbers are u32); proved in proofs/Back
abbrev pub ReadsBack : Type 0
ReadsBack =
    (b : List ℕ) (s : Receiver) → 16 ≤ length b → s.line.bits < 4294967296 → s.place.0 < 4294967296
    → receiver_in (sets b 0 (receiver_out s)) ≡ s

-- THE BYTES OF AN ANSWER

unfoldable pub answer_bytes : ℕ → ℕ → ℕ → ℕ → ℕ → ℕ → List ℕ
answer_bytes kind line plain unsettled n d = (kind ∷ line ∷ plain ∷ unsettled ∷ []) ++ (le32 n ++ le32 d)

-- a refusal gives its number alone
abbrev pub answer_out : Result Outcome Refusal → List ℕ
answer_out (Err e) = []
answer_out (Ok (Referenced d t)) = answer_bytes 0 0 0 0 0 d.0
answer_out (Ok (Bits g d t)) = answer_bytes 1 g.line g.plain g.unsettled.0 0 d.0
answer_out (Ok (Gap n t)) = answer_bytes 2 0 0 0 n.0 0

-- THE CALLS

-- making a receiver: its number, and the state's bytes when it returns
unfoldable pub fresh_number : List ℕ → ℕ → ℕ → ℕ
fresh_number state m role = making_number state (mode_refusal m role)

unfoldable pub fresh_state : List ℕ → ℕ → ℕ → List ℕ
fresh_state state m role = accepted (fresh_number state m role) (sets state 0 (receiver_out (fresh_receiver m role))) state

-- number 7: too few lent bytes for an answer; the lower of it and of n, 0 is none
abbrev pub holds_answer : List ℕ → Bool
holds_answer b = leb 12 (length b)

unfoldable pub at_most7 : ℕ → ℕ
at_most7 n = cond (leb 1 n && ltb n 7) n 7

-- of a call that the number n refuses. Without a state's bytes there is no state to refuse
abbrev pub lent_number : List ℕ → List ℕ → ℕ → ℕ
lent_number state answer n = need (holds_state state) 7 (cond (holds_answer answer) n (at_most7 n))

-- the number of what is wrong with the state alone
unfoldable pub state_number : List ℕ → ℕ
state_number state = need (holds_state state) 7 (state_refusal (receiver_in state))

-- an event: its number, the state's bytes and the answer's bytes when it returns
unfoldable pub call_number : List ℕ → List ℕ → Event → ℕ
call_number state answer e = lent_number state answer (refusal (receiver_in state) e)

unfoldable pub call_state : List ℕ → List ℕ → Event → List ℕ
call_state state answer e = accepted (call_number state answer e) (sets state 0 (receiver_out (next (receiver_in state) e))) state

unfoldable pub call_answer : List ℕ → List ℕ → Event → List ℕ
call_answer state answer e = accepted (call_number state answer e) (sets answer 0 (answer_out (outcome (receiver_in state) e))) answer

-- many points: their number, the bytes of the state and the three lent parts when the call returns
unfoldable pub block_number : List ℕ → Given → Parts → ℕ
block_number state g b = need (holds_state state) 7 (block_refusal (receiver_in state) g (sizes b))

unfoldable pub block_state : List ℕ → Given → Parts → List ℕ
block_state state g b =
    accepted (block_number state g b) (sets state 0 (receiver_out (after (receiver_in state) (map point (points_of g))))) state

unfoldable pub block_parts : List ℕ → Given → Parts → Parts
block_parts state g b = cond (holds_state state) (parts_after (receiver_in state) g b) b
