-- Concrete lists of calls for which every premise of demand 3 holds, so that none of them is empty. Mode 1: eight data points of one
-- sending call; one receiver gets them as written, after a gap and with a refused call among them, the other as readings, points in levels
-- turned by 90°, with a refused one among them. Mode 6: nineteen data points in which the guard fires; one receiver is fresh, the other has
-- taken points before and gets them turned by 90°.
use Rattle.std.specs.Prelude.{ℕ, ◌≡◌, List, [], ◌∷◌, ◌++◌, map, true, false, cond, eqb, ℤ, pos, negsuc, Float, length, take, replicate}
use Rattle.std.specs.Float.{nan, fin}
use Rattle.line.specs.Point.{turned}
use Rattle.levels.specs.Levels.{turned_levels}
use Rattle.scrambler.specs.Register.{register}
use Rattle.scrambler.specs.Scramble.{settled}
use Rattle.receiver.specs.declared.Receiver.{Receiver}
use Rattle.receiver.specs.Receiver.{point, gap, fresh_receiver}
use Rattle.line.specs.Table.{All}
use Rattle.receiver.specs.Calls.{events, IsPoint, decided_states, lines_from2, row}
use Rattle.receiver.specs.Turn.{Turned}
use Rattle.sender.specs.declared.Sender.{Sender}
use Rattle.sender.specs.Calls.{Send, DataPoint, data_points}
use Rattle.readings.specs.Reading.{levels, squelch}
use Rattle.resync.specs.CallLists.{Call, single, reading, after_calls, heard_calls}
use Rattle.resync.specs.Assured.{unassured, assured_data}
use Rattle.resync.specs.DataPoints.{Consecutive, received, ReadBack}

-- every premise, of n data points that a sender of mode m and role 0 sent
pub record Premises (m n : ℕ) (sent : List DataPoint) (receiver_a receiver_b : Receiver) (list_a list_b : List Call) : Type 0 where
  pub points-A : All IsPoint (heard_calls receiver_a list_a)
  pub points-B : All IsPoint (heard_calls receiver_b list_b)
  pub so_many : length (heard_calls receiver_a list_a) ≡ n
  pub equally_many : length (heard_calls receiver_a list_a) ≡ length (heard_calls receiver_b list_b)
  pub are_turned : Turned m (decided_states m (heard_calls receiver_a list_a)) (decided_states m (heard_calls receiver_b list_b))
  pub consecutive : Consecutive m 0 sent
  pub direct : events (heard_calls receiver_a list_a) ≡ received sent
  pub read_back : ReadBack sent (received sent)

-- MODE 1

abbrev pub sender : Sender
sender = record { mode = 1; role = 0; reference = 0; line = register 0 7 0 }

abbrev pub call : Send
call = record { bits = 1 ∷ 0 ∷ 0 ∷ 1 ∷ 1 ∷ 1 ∷ 0 ∷ 0 ∷ 1 ∷ 0 ∷ 1 ∷ 1 ∷ 0 ∷ 1 ∷ 0 ∷ 1 ∷ []; lent = replicate 16 (pos 0); offset = 0 }

unfoldable pub sent : List DataPoint
sent = data_points sender (call ∷ [])

-- as written, with a gap of no intervals, which is refused, in front
unfoldable pub list_a : List Call
list_a = map single (gap 0 ∷ received sent)

-- in levels, with a squelched interval whose power is no number, which is refused, in front; all coordinates are 0, 4096 and -4096
abbrev pub level : ℤ → Float
level (pos n) = cond (eqb n 0) (fin false 0 (pos 0)) (fin false 1 (pos 2))
level (negsuc n) = fin true 1 (pos 2)

unfoldable pub list_b : List Call
list_b = reading (squelch nan) ∷ map (λ (d : DataPoint). reading (levels (turned_levels (record { re = level d.point.re; im = level d.point.im })))) sent

abbrev pub receiver_a : Receiver
receiver_a = after_calls (fresh_receiver 1 0) (single (gap 5) ∷ [])

abbrev pub receiver_b : Receiver
receiver_b = after_calls (fresh_receiver 1 0) []

-- MODE 6

-- with zeros behind it and a count of zero
abbrev pub guard_sender : Sender
guard_sender = record { mode = 6; role = 0; reference = 0; line = register 0 12 0 }

-- the line bits are zeros but for the 18th, which differs from all three: then 33 follow that do not, and the 52nd is inverted
abbrev pub guard_call : Send
guard_call =
    record {
      bits = replicate 17 0 ++ (1 ∷ 0 ∷ 0 ∷ 0 ∷ 0 ∷ 0 ∷ 1 ∷ 1 ∷ (replicate 26 0 ++ (1 ∷ replicate 5 0)));
      lent = replicate 38 (pos 0);
      offset = 0;
    }

unfoldable pub guard_sent : List DataPoint
guard_sent = data_points guard_sender (guard_call ∷ [])

unfoldable pub guard_list_a : List Call
guard_list_a = map single (received guard_sent)

unfoldable pub guard_list_b : List Call
guard_list_b = map (λ (d : DataPoint). single (point (turned d.point))) guard_sent

abbrev pub guard_receiver_a : Receiver
guard_receiver_a = fresh_receiver 6 0

abbrev pub guard_receiver_b : Receiver
guard_receiver_b = after_calls (fresh_receiver 6 0) (take 9 guard_list_a)

-- the guard fires, past the first assured bit: after 17 points the count is 33, and the next data bit is 1 though all three line bits that
-- are xored for it are 0
pub record Fires : Type 0 where
  pub counted : (after_calls guard_receiver_a (take 17 guard_list_a)).line.count.0 ≡ 33
  pub zeros : row (lines_from2 (heard_calls guard_receiver_a guard_list_a)) ≡ replicate 14 0 ++ (1 ∷ replicate 39 0)
  pub not_assured : unassured 6 (row (lines_from2 (heard_calls guard_receiver_a guard_list_a))) ≡ 15
  pub assured_are :
      assured_data 6 (heard_calls guard_receiver_a guard_list_a)
      ≡ map settled (0 ∷ 0 ∷ 0 ∷ 0 ∷ 0 ∷ 1 ∷ 1 ∷ (replicate 26 0 ++ (1 ∷ replicate 5 0)))
