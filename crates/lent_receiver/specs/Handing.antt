-- For contracts of private functions only: the number of an outcome, and the bytes that it leaves.
use Rattle.std.specs.Prelude.{ℕ, cond, List, [], ◌∷◌, leb, length, Result, Ok, Err}
use Rattle.std.proofs.lemmas.List.Edits.{sets}
use Rattle.line.specs.declared.refusal.Refusal.{Refusal}
use Rattle.line.specs.Refusal.{numbered}
use Rattle.receiver.specs.declared.Outcome.{Outcome}
use Rattle.receiver.specs.declared.Outcome.TheVariants.{Referenced, Bits, Gap}
use Rattle.receiver.specs.declared.Receiver.{Receiver}
use Rattle.receiver.specs.Reference.{Reference}
use Rattle.lent_receiver.specs.Receiving.{present, state_byte, receiver_out, answer_out, holds_answer, at_most7}

-- bytes 2 and 3 of a state
abbrev pub reference_out : Reference → List ℕ
reference_out r = present r ∷ state_byte r ∷ []

abbrev pub state_after : Result Outcome Refusal → List ℕ → List ℕ
state_after (Err e) b = b
state_after (Ok (Referenced d t)) b = sets b 0 (receiver_out t)
state_after (Ok (Bits g d t)) b = sets b 0 (receiver_out t)
state_after (Ok (Gap n t)) b = sets b 0 (receiver_out t)

-- an outcome of no decided point, as a gap has it
abbrev pub NoPoint : Result Outcome Refusal → Type 0
NoPoint (Err e) = Unit {0}
NoPoint (Ok (Referenced d t)) = ⊥
NoPoint (Ok (Bits g d t)) = ⊥
NoPoint (Ok (Gap n t)) = Unit {0}

-- of a refused call with so many bytes lent for an answer
abbrev pub refused_number : ℕ → ℕ → ℕ
refused_number answer n = cond (leb 12 answer) n (at_most7 n)

unfoldable pub handed_number : List ℕ → Result Outcome Refusal → ℕ
handed_number answer o = refused_number (length answer) (numbered o)

unfoldable pub handed_state : List ℕ → List ℕ → Result Outcome Refusal → List ℕ
handed_state state answer o = cond (holds_answer answer) (state_after o state) state

unfoldable pub handed_answer : List ℕ → Result Outcome Refusal → List ℕ
handed_answer answer o = cond (holds_answer answer) (sets answer 0 (answer_out o)) answer

-- the bytes that a receiver leaves, if one is given
abbrev pub receiver_after : Result Receiver Refusal → List ℕ → List ℕ
receiver_after (Err e) b = b
receiver_after (Ok t) b = sets b 0 (receiver_out t)
