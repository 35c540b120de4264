use mathlib.Core.Path.{sym, ◌∙◌}
use native.Mathlib.Omega.{arith}
use Rattle.track.proofs.Answers.{room_less, room_below, room_in_last, room_in_new}
use Rattle.track.proofs.room_for.Goals as goal

pub overflow_sub-fresh : goal.overflow_sub-fresh
overflow_sub-fresh c = room_below c.args.s.now c.args.v c.requires

pub overflow_sub-result : goal.overflow_sub-result
overflow_sub-result c = omega (arith, c.held_in.ensures, room_less c.args.s.now c.args.v.last (sym c.has_room.ensures ∙ c.if-has_room.true))

pub returns-then-has_room : goal.returns-then-has_room
returns-then-has_room c = room_in_last c.args.s.now c.args.v c.held_in.result c.requires (sym c.has_room.ensures ∙ c.if-has_room.true) c.held_in.ensures

pub returns : goal.returns
returns c = room_in_new c.args.s.now c.args.v c.requires (sym c.has_room.ensures ∙ c.if-has_room.false)
