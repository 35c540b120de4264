-- A state written into lent bytes is the state that the next call reads. Assumes nothing.
use Prim.Native.Nat.{ℕ}
use mathlib.Core.Path.{◌≡◌}
use mathlib.Core.List.{List}
use Rattle.scrambler.specs.declared.Register.{Register}
use Rattle.receiver.specs.Reference.{Reference}
use Rattle.std.specs.Prelude.{None as none, Some as some}
use Rattle.receiver.specs.Receiver.{receiver}
use Rattle.lent.proofs.StateLaws.{Reads, state_back}
use Rattle.lent_receiver.specs.Receiving.{reference_in, receiver_in, present, state_byte, receiver_out, ReadsBack}

read : (s : List ℕ) (m role : ℕ) (r : Reference) (h : Register) (p : ℕ) → Reads s m role (present r) (state_byte r) h p → receiver_in s ≡ receiver m role r h p
unfolding receiver_in reference_in
read s m role none h p k = rw (k.mode, k.role_of, k.second, k.third, k.is_clear, k.line, k.number)
read s m role (some x) h p k = rw (k.mode, k.role_of, k.second, k.third, k.is_clear, k.line, k.number)

pub receiver-back : ReadsBack
unfolding receiver_out
receiver-back b s l i j =
    read _ s.mode s.role s.reference s.line s.place.0
    (state_back b s.mode s.role (present s.reference) (state_byte s.reference) s.line s.place.0 l i j)
