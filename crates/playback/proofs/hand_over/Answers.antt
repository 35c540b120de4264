use Rattle.playback.proofs.CallLaws.{handed, not_handed}
use Rattle.playback.proofs.hand_over.Goals as goal

pub returns-then-out-n : goal.returns-then-out-n
returns-then-out-n c =
    let answer = not_handed c.args.next c.args.numbers.now c.args.out.now c.if-out-n.true in
    record { value = answer.0; out_after = answer.1 }

pub returns : goal.returns
returns c =
    let answer = handed c.args.next c.args.numbers.now c.args.out.now _ c.if-out-n.false c.put_numbers.ensures in
    record { value = answer.0; out_after = answer.1 }
