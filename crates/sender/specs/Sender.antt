-- Document 01, "Sender": sending data bits; "Refusals" 1, 2, 4, 5, 6 and 7 of a sending call.
use Rattle.std.specs.Prelude.{ℕ, zero, suc, ◌+◌, ◌*◌, ◌/◌, ◌%◌, ◌≡◌, Bool, ◌&&◌, List, [], ◌∷◌, Result, Ok, Err, leb, eqb, ℤ, length, take, drop}
use Rattle.std.proofs.lemmas.List.Edits.{sets}
use Rattle.line.specs.Table.{every}
use Rattle.line.specs.Mode.{is_state, width, capacity}
use Rattle.line.specs.declared.refusal.Refusal.{Refusal}
use Rattle.line.specs.Refusal.{numbered, answered, need, or_next, accepted, mode_refusal}
use Rattle.scrambler.specs.Bits.{is_bit}
use Rattle.scrambler.specs.Register.{register_ok}
use Rattle.training.specs.declared.Coder.{Coder}
use Rattle.training.specs.Coder.{coder, coding, numbers}
use Rattle.sender.specs.declared.Sender.{Sender}

-- what sending changes of a sender
abbrev pub coder_of : Sender → Coder
coder_of s = coder s.reference s.line

abbrev pub sender_of : ℕ → ℕ → Coder → Sender
sender_of m role c = record { mode = m; role = role; reference = c.reference; line = c.line }

-- number 4: "reference not a state of the mode, more than R line bits, in a sender fewer than R"; R-6: "number 4 reads 12 for R", and
-- covers the count
unfoldable pub fields_ok : Sender → Bool
fields_ok s = is_state s.mode s.reference && (eqb s.line.held.0 (capacity s.mode) && register_ok s.mode s.line)

-- the numbers about a handed-in state
unfoldable pub state_refusal : Sender → ℕ
state_refusal s = or_next (mode_refusal s.mode s.role) (need (fields_ok s) 4 0)

-- number 7: "lent numbers too few from the offset, or an offset past their end"
unfoldable pub has_room : ℕ → ℕ → ℕ → Bool
has_room points lent offset = leb (offset + 2 * points) lent

-- the numbers about the data bits and the lent numbers
unfoldable pub data_refusal : ℕ → List ℕ → ℕ → ℕ → ℕ
data_refusal m ds lent offset =
    need (every is_bit ds) 5 (need (eqb (length ds % width m) 0) 6 (need (has_room (length ds / width m) lent offset) 7 0))

unfoldable pub send_refusal : Sender → List ℕ → ℕ → ℕ → ℕ
send_refusal s ds lent offset = or_next (state_refusal s) (data_refusal s.mode ds lent offset)

-- "Data bits are .. taken w at a time": n groups of w, and all of them
abbrev pub groups : ℕ → ℕ → List ℕ → List (List ℕ)
groups w zero ds = []
groups w (suc n) ds = take w ds ∷ groups w n (drop w ds)

unfoldable pub grouped : ℕ → List ℕ → List (List ℕ)
grouped w ds = groups w (length ds / w) ds

-- the sender after one group: its point is that of the new reference
unfoldable pub after_group : Sender → List ℕ → Sender
after_group s g = sender_of s.mode s.role (coding s.mode s.role (coder_of s) g)

abbrev pub after_groups : Sender → List (List ℕ) → Sender
after_groups s [] = s
after_groups s (g ∷ gs) = after_groups (after_group s g) gs

-- the states that are sent
abbrev pub sent_states : Sender → List (List ℕ) → List ℕ
sent_states s [] = []
sent_states s (g ∷ gs) = (after_group s g).reference ∷ sent_states (after_group s g) gs

-- the sender after data bits, and the numbers of their points
abbrev pub after_bits : Sender → List ℕ → Sender
after_bits s ds = after_groups s (grouped (width s.mode) ds)

abbrev pub bit_numbers : Sender → List ℕ → List ℤ
bit_numbers s ds = numbers s.mode (sent_states s (grouped (width s.mode) ds))

-- AN ANSWER, of opening and of sending

-- "Each call gets what the last one handed back or left, after a refusal what that one had got"
abbrev pub handed_on : Result Sender Refusal → Sender → Sender
handed_on (Err e) s = s
handed_on (Ok t) s = t

-- an answer with the number n, or with the state t
pub record Told (n : ℕ) (t : Sender) (r : Result Sender Refusal) : Type 0 where
  pub number_is : numbered r ≡ n
  pub state_is : (s : Sender) → handed_on r s ≡ accepted n t s

-- A SENDING CALL

-- the value itself: "A refusal gives back its number alone"
unfoldable pub send_answer : Sender → List ℕ → ℕ → ℕ → Result Sender Refusal
send_answer s ds lent offset = answered (send_refusal s ds lent offset) (after_bits s ds)

-- the lent numbers at exit: the points "from a given offset on, all others unchanged"
unfoldable pub send_numbers : Sender → List ℕ → List ℤ → ℕ → List ℤ
send_numbers s ds out offset = accepted (send_refusal s ds (length out) offset) (sets out offset (bit_numbers s ds)) out
