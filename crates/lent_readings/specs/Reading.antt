-- Document 02, R-3, for C: a reading over the lent bytes of a state and of an answer, as lent_receiver/specs/Receiving lays them out.
use Rattle.std.specs.Prelude.{ℕ, List, leb}
use Rattle.std.proofs.lemmas.List.Edits.{sets}
use Rattle.line.specs.Refusal.{need, or_next, accepted}
use Rattle.readings.specs.declared.Reading.{Reading}
use Rattle.readings.specs.Reading.{reading_refusal, reading_next, reading_outcome}
use Rattle.lent_receiver.specs.Receiving.{receiver_in, receiver_out, answer_out, lent_number, state_number}

-- its number, 18 after 7; the state's bytes and the answer's when it returns
unfoldable pub reading_number : List ℕ → List ℕ → Reading → ℕ
reading_number state answer r = lent_number state answer (reading_refusal (receiver_in state) r)

unfoldable pub reading_state : List ℕ → List ℕ → Reading → List ℕ
reading_state state answer r = accepted (reading_number state answer r) (sets state 0 (receiver_out (reading_next (receiver_in state) r))) state

unfoldable pub reading_bytes : List ℕ → List ℕ → Reading → List ℕ
reading_bytes state answer r = accepted (reading_number state answer r) (sets answer 0 (answer_out (reading_outcome (receiver_in state) r))) answer

-- for the contract of a private function: the number of a reading that n refuses, with so many bytes lent for an answer
unfoldable pub refused_number : List ℕ → ℕ → ℕ → ℕ
refused_number state answer n = or_next (state_number state) (need (leb 12 answer) 7 n)
