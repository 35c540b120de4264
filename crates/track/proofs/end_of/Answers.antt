use mathlib.Core.Path.{sym, ◌∙◌}
use Rattle.track.proofs.Places.{ends_room, ends_full}
use Rattle.track.proofs.end_of.Goals as goal

pub returns-then-has_room : goal.returns-then-has_room
returns-then-has_room c = ends_room c.args.s.now c.args.v c.held_in-held.result c.requires (sym c.has_room.ensures ∙ c.if-has_room.true) c.held_in-held.ensures

pub returns-else-has_room : goal.returns-else-has_room
returns-else-has_room c = ends_full c.args.s.now c.args.v c.requires (sym c.has_room.ensures ∙ c.if-has_room.false)
