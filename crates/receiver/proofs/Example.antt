-- The example holds. Assumes nothing.
use mathlib.Core.Path.{refl}
use Rattle.line.specs.Table.{entry, row_from}
use Rattle.line.specs.Mode.{is_mode, is_role, is_state, states, width, far_tap, guarded, capacity, step, quadrant, turn, quarter_steps, face}
use Rattle.line.specs.Point.{in_range, is_origin, sent27, sent_point}
use Rattle.deciding.specs.Distance.{squared_distance, distance}
use Rattle.deciding.specs.Decide.{in_first, sector, outer, first, quarters, decide}
use Rattle.coding.specs.Code.{changes4, changes8, changes16, eighths, turn_row, group}
use Rattle.scrambler.specs.Register.{back, near_tap, counting, inverting, differs, count_after, push, register_ok}
use Rattle.scrambler.specs.Scramble.{mix}
use Rattle.line.specs.Refusal.{mode_refusal}
use Rattle.receiver.specs.Receiver.{fresh_receiver, is_fresh, fields_ok, state_refusal, has_room, event_refusal, refusal, state_answer, point_answer, event_answer, answer, forgotten, state_line, state_next, point_next, event_next, next}
use Rattle.receiver.specs.Laws.{Example}

pub example : Example
unfolding sent27 sent_point squared_distance distance entry row_from is_mode is_role is_state states width far_tap guarded capacity step quadrant turn quarter_steps face in_range is_origin in_first sector outer first quarters decide changes4 changes8 changes16 eighths turn_row group back near_tap counting inverting differs count_after push register_ok mix fresh_receiver is_fresh fields_ok mode_refusal state_refusal has_room event_refusal refusal state_answer point_answer event_answer answer forgotten state_line state_next point_next event_next next
example = record { answered = refl; place = refl }
