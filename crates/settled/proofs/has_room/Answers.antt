use Rattle.settled.proofs.ByteLaws.{no_room, room_law}
use Rattle.settled.proofs.has_room.Goals as goal

pub returns-then-lent-b : goal.returns-then-lent-b
returns-then-lent-b c = search no_room

pub returns : goal.returns
returns c = search room_law
