use native.Mathlib.Omega.{arith}
use Rattle.track.specs.Append.{has_room}
use Rattle.store.proofs.Records.{rec_byte}
use Rattle.track.proofs.has_room.Goals as goal

pub returns : goal.returns
unfolding has_room
returns c = cc (rec_byte c.args.s.now c.args.i 2 (omega arith))
