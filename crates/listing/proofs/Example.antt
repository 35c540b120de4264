-- The example of document 01, by computation, and the empty track. Assumes nothing.
use mathlib.Core.Path.{◌≡◌, refl, sym, ap, ◌∙◌}
use mathlib.Core.List.{List}
use Prim.Native.Nat.{◌+◌}
use Rattle.line.specs.Table.{entry, row_from}
use Rattle.line.specs.Mode.{is_mode, is_role, is_state, states, width, far_tap, guarded, capacity, step, quadrant, turn, quarter_steps, face}
use Rattle.line.specs.Point.{in_range, is_origin}
use Rattle.deciding.specs.Decide.{in_first, sector, outer, first, quarters, decide}
use Rattle.coding.specs.Code.{changes4, changes8, changes16, eighths, turn_row, group}
use Rattle.octets.specs.Number.{signed}
use Rattle.scrambler.specs.Register.{back, near_tap, counting, inverting, differs, count_after, push, register_ok}
use Rattle.scrambler.specs.Scramble.{mix}
use Rattle.line.specs.Refusal.{mode_refusal}
use Rattle.receiver.specs.Receiver.{fresh_receiver, is_fresh, fields_ok, state_refusal, has_room, event_refusal, state_answer, point_answer, event_answer, answer, forgotten, state_line, state_next, point_next, event_next, next}
use Rattle.receiver.specs.Receiver.{refusal as eventRefused}
use Rattle.store.specs.Layout.{Event, record_ok, span_of, events_of}
use Rattle.store.specs.Layout.{next as nextIn}
use Rattle.store.specs.Store.{chain, events, total, size_ok, has_mark, head_ok, chain_ok, records_ok, total_ok, refusal}
use Rattle.store.specs.Chain.{sum_over}
use Rattle.summing.specs.Sums.{decided_in, lost_in}
use Rattle.summing.proofs.SumLaws.{plus_is_total}
use Rattle.listing.specs.Text.{decimal, kind_text, line_text, numbers_line, chain_text, refused_line, text}
use Rattle.listing.specs.Example.{SixLines, NoneWraps, EmptyTrack}

pub six_lines : SixLines
unfolding entry row_from is_mode is_role is_state states width far_tap guarded capacity step quadrant turn quarter_steps face in_range is_origin in_first sector outer first quarters decide changes4 changes8 changes16 eighths turn_row group signed back near_tap counting inverting differs count_after push register_ok mix fresh_receiver is_fresh fields_ok mode_refusal state_refusal has_room event_refusal eventRefused state_answer point_answer event_answer answer forgotten state_line state_next point_next event_next next record_ok span_of events_of nextIn chain events total size_ok has_mark head_ok chain_ok records_ok total_ok refusal decimal kind_text line_text numbers_line chain_text refused_line text
six_lines = refl

pub none_wraps : NoneWraps
unfolding is_mode is_role record_ok span_of nextIn chain total size_ok has_mark head_ok chain_ok records_ok total_ok refusal decimal refused_line text
none_wraps = refl

pub empty_track : EmptyTrack
unfolding text chain_text numbers_line decimal
empty_track s acc none =
    let z : total s ≡ 0 = sym (plus_is_total s acc).0 ∙ ap (λ (es : List Event). sum_over decided_in es + sum_over lost_in es) none in
    rw (acc, none, z)
