use Rattle.sender.proofs.RefusalLaws.{past_end, room_left}
use Rattle.sender.proofs.has_room.Goals as goal

pub returns-then-len-offset : goal.returns-then-len-offset
returns-then-len-offset c = search past_end

pub returns : goal.returns
returns c = search room_left
