-- A state written into lent bytes is the state that the next call reads. Assumes nothing.
use Rattle.lent.proofs.StateLaws.{state_back}
use native.Mathlib.Omega.{arith}
use Rattle.lent_sender.specs.Sending.{sent_reference, sender_in, sender_out, ReadsBack}

pub sender-back : ReadsBack
unfolding sender_in sent_reference sender_out
sender-back b s l i =
    let k = state_back b s.mode s.role s.reference 0 s.line 0 l i (omega arith) in
    rw (k.mode, k.role_of, k.second, k.third, k.is_clear, k.line, k.number)
