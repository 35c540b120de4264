-- Every premise of demand 3 can be met. Assumes nothing.
use mathlib.Core.Path.{refl, sym}
use mathlib.Core.List.{[], ◌∷◌, append-nil}
use lib.IntN.{pos}
use lib.ListN.{replicate}
use Rattle.line.specs.Table.{entry, row_from}
use Rattle.line.specs.Mode.{is_mode, is_role, width, far_tap, guarded, capacity, step, states, is_state, quadrant, turn, quarter_steps, face}
use Rattle.line.specs.Point.{in_range, is_origin, sent27, sent_point}
use Rattle.deciding.specs.Decide.{sector, in_first, first, quarters, decide}
use Rattle.coding.specs.Code.{changes4, changes8, coded, eighths, group}
use Rattle.scrambler.specs.Bits.{is_bit}
use Rattle.scrambler.specs.Register.{back, near_tap, counting, inverting, differs, count_after, push, register_ok}
use Rattle.scrambler.specs.Scramble.{mix}
use Rattle.line.specs.Refusal.{mode_refusal}
use Rattle.receiver.specs.Receiver.{fresh_receiver, is_fresh, fields_ok, state_refusal, has_room, event_refusal, refusal, state_answer, point_answer, event_answer, answer, forgotten, state_line, state_next, point_next, event_next, next}
use Rattle.training.specs.Coder.{coding}
use Rattle.sender.specs.Sender.{data_refusal, send_refusal, grouped, after_group, send_answer, send_numbers, fields_ok as sendFieldsOk, state_refusal as sendStateRefusal, has_room as sendHasRoom}
use lib.Ieee.{neg}
use Rattle.levels.specs.Levels.{is_finite, rounded}
use Rattle.readings.specs.Reading.{reading_refusal, reading_answer, reading_next}
use Rattle.octets.specs.Number.{pattern, signed}
use Rattle.store.specs.Layout.{record_ok, span_of, events_of, next as nextIndex}
use Rattle.store.specs.Store.{chain, events, total, size_ok, has_mark, head_ok, chain_ok, records_ok, total_ok, refusal as storeRefusal}
use Rattle.store.specs.Reads.{read_number, read_count, read_result}
use Rattle.track.specs.Append.{made, has_room as recordHasRoom, point_appended, point_number, point_result}
use Rattle.resync.specs.Assured.{assured_point, unassured}
use Rattle.resync.specs.DataPoints.{Consecutive, ReadBack, received, appended, event_in}
use Rattle.resync.specs.Instance.{Premises, sender, call, sent, list_a, list_b, receiver_a, receiver_b, guard_sender, guard_call, guard_sent, guard_list_a, guard_list_b, guard_receiver_a, guard_receiver_b, Fires}

consecutive_1 : Consecutive 1 0 sent
unfolding sent
consecutive_1 = record { sender = sender; mode_is = refl; role_is = refl; calls = call ∷ []; earlier = []; later = []; are = sym (append-nil sent) }

read_back_1 : ReadBack sent (received sent)
unfolding sent entry row_from is_mode is_role mode_refusal width far_tap guarded capacity states is_state quadrant face in_range is_origin sent27 sent_point changes4 changes8 coded eighths is_bit back near_tap counting inverting differs count_after push register_ok mix coding data_refusal send_refusal grouped after_group send_answer send_numbers sendFieldsOk sendStateRefusal sendHasRoom pattern signed record_ok span_of events_of nextIndex chain events total size_ok has_mark head_ok chain_ok records_ok total_ok storeRefusal read_number read_count read_result made recordHasRoom point_appended point_number point_result event_in
read_back_1 =
    record {
      store = made 96 1 0;
      store-accepted = refl;
      appends = appended sent;
      earlier = [];
      later = [];
      in_order = refl;
      lent = replicate 24 (pos 0);
      offset = 0;
      read_accepted = refl;
      handed_on_lem = refl;
    }

pub premises : Premises 1 8 sent receiver_a receiver_b list_a list_b
unfolding sent list_a list_b entry row_from is_mode is_role width far_tap guarded capacity step states is_state quadrant turn quarter_steps face in_range is_origin sent27 sent_point sector in_first first quarters decide changes4 changes8 coded eighths group is_bit back near_tap counting inverting differs count_after push register_ok mix fresh_receiver is_fresh fields_ok mode_refusal state_refusal has_room event_refusal refusal state_answer point_answer event_answer answer forgotten state_line state_next point_next event_next next coding data_refusal send_refusal grouped after_group send_answer send_numbers sendFieldsOk sendStateRefusal sendHasRoom neg is_finite rounded reading_refusal reading_answer reading_next
premises =
    record {
      points-A = (tt, (tt, (tt, (tt, (tt, (tt, (tt, (tt, tt))))))));
      points-B = (tt, (tt, (tt, (tt, (tt, (tt, (tt, (tt, tt))))))));
      so_many = refl;
      equally_many = refl;
      are_turned = (1, (refl, refl));
      consecutive = consecutive_1;
      direct = refl;
      read_back = read_back_1;
    }

consecutive_6 : Consecutive 6 0 guard_sent
unfolding guard_sent
consecutive_6 = record { sender = guard_sender; mode_is = refl; role_is = refl; calls = guard_call ∷ []; earlier = []; later = []; are = sym (append-nil guard_sent) }

read_back_6 : ReadBack guard_sent (received guard_sent)
unfolding guard_sent entry row_from is_mode is_role mode_refusal width far_tap guarded capacity states is_state quadrant face in_range is_origin sent27 sent_point changes4 changes8 coded eighths is_bit back near_tap counting inverting differs count_after push register_ok mix coding data_refusal send_refusal grouped after_group send_answer send_numbers sendFieldsOk sendStateRefusal sendHasRoom pattern signed record_ok span_of events_of nextIndex chain events total size_ok has_mark head_ok chain_ok records_ok total_ok storeRefusal read_number read_count read_result made recordHasRoom point_appended point_number point_result event_in
read_back_6 =
    record {
      store = made 128 6 0;
      store-accepted = refl;
      appends = appended guard_sent;
      earlier = [];
      later = [];
      in_order = refl;
      lent = replicate 57 (pos 0);
      offset = 0;
      read_accepted = refl;
      handed_on_lem = refl;
    }

pub guard_premises : Premises 6 19 guard_sent guard_receiver_a guard_receiver_b guard_list_a guard_list_b
unfolding guard_sent guard_list_a guard_list_b entry row_from is_mode is_role width far_tap guarded capacity step states is_state quadrant turn quarter_steps face in_range is_origin sent27 sent_point sector in_first first quarters decide changes4 changes8 coded eighths group is_bit back near_tap counting inverting differs count_after push register_ok mix fresh_receiver is_fresh fields_ok mode_refusal state_refusal has_room event_refusal refusal state_answer point_answer event_answer answer forgotten state_line state_next point_next event_next next coding data_refusal send_refusal grouped after_group send_answer send_numbers sendFieldsOk sendStateRefusal sendHasRoom neg is_finite rounded reading_refusal reading_answer reading_next
guard_premises =
    record {
      points-A = (tt, (tt, (tt, (tt, (tt, (tt, (tt, (tt, (tt, (tt, (tt, (tt, (tt, (tt, (tt, (tt, (tt, (tt, (tt, tt)))))))))))))))))));
      points-B = (tt, (tt, (tt, (tt, (tt, (tt, (tt, (tt, (tt, (tt, (tt, (tt, (tt, (tt, (tt, (tt, (tt, (tt, (tt, tt)))))))))))))))))));
      so_many = refl;
      equally_many = refl;
      are_turned = (2, (refl, refl));
      consecutive = consecutive_6;
      direct = refl;
      read_back = read_back_6;
    }

pub fires : Fires
unfolding guard_sent guard_list_a assured_point unassured entry row_from is_mode is_role width far_tap guarded capacity step states is_state quadrant turn quarter_steps face in_range is_origin sent27 sent_point sector in_first first quarters decide changes4 changes8 coded eighths group is_bit back near_tap counting inverting differs count_after push register_ok mix fresh_receiver is_fresh fields_ok mode_refusal state_refusal has_room event_refusal refusal state_answer point_answer event_answer answer forgotten state_line state_next point_next event_next next coding data_refusal send_refusal grouped after_group send_answer send_numbers sendFieldsOk sendStateRefusal sendHasRoom neg is_finite rounded reading_refusal reading_answer reading_next
fires = record { counted = refl; zeros = refl; not_assured = refl; assured_are = refl }
