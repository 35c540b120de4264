use Rattle.sender.proofs.SendLaws.{counted-group}
use Rattle.sender.proofs.send_counted.Goals as goal

pub returns : goal.returns
returns c =
    let answer = counted-group c.args.s c.args.plain _ _ c.requires.0 c.requires.1 c.scramble_counted-d.ensures c.next_state.ensures in
    record { value = answer.0; held_value = answer.1 }
