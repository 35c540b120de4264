-- For the contract of a private function only: the bytes that an answer leaves.
use Rattle.std.specs.Prelude.{ℕ, List, Result, Ok, Err}
use Rattle.std.proofs.lemmas.List.Edits.{sets}
use Rattle.line.specs.declared.refusal.Refusal.{Refusal}
use Rattle.sender.specs.declared.Sender.{Sender}
use Rattle.lent_sender.specs.Sending.{sender_out}

abbrev pub sent_state : Result Sender Refusal → List ℕ → List ℕ
sent_state (Err e) b = b
sent_state (Ok s) b = sets b 0 (sender_out s)
