-- A sender's bits come back from its points. Assumes nothing.
use Prim.Native.Nat.{ℕ, zero, suc, ◌+◌, ◌*◌, ◌≤◌, ◌<◌}
use mathlib.Core.Path.{◌≡◌, refl, sym, ◌∙◌, ap, ap₂, subst}
use mathlib.Core.List.{List, [], ◌∷◌, ◌++◌, map, map-append, append_assoc}
use native.Mathlib.Omega.{arith}
use lib.ListN.{length, take, drop, length-drop, take-append-drop}
use Rattle.line.specs.Table.{All}
use Rattle.deciding.specs.Decide.{Region}
use Rattle.line.specs.Mode.{is_state, width}
use Rattle.line.specs.Refusal.{accepted}
use Rattle.line.proofs.TableLaws.{and_intro}
use Rattle.line.proofs.StateLaws.{OfState, of_state}
use Rattle.scrambler.specs.declared.Register.{Register}
use Rattle.scrambler.specs.Register.{register_ok, pushes}
use Rattle.scrambler.specs.Scramble.{scramble, settled, descramble}
use Rattle.scrambler.proofs.RegisterLaws.{passes}
use Rattle.std.specs.Prelude.{Some as some, Result, Ok, Err}
use Rattle.line.specs.declared.refusal.Refusal.{Refusal}
use Rattle.receiver.specs.declared.Receiver.{Receiver}
use Rattle.receiver.specs.Receiver.{receiver, point, fields_ok, state_refusal, refusal, state_line, state_next, point_next, event_next, next}
use Rattle.receiver.specs.Calls.{after, EachAccepted, Heard, heard, IsPoint, decided_states, row}
use Rattle.receiver.specs.Turn.{lines}
use Rattle.receiver.proofs.CallLaws.{no_refusal, heard-accepted, heard_all}
use Rattle.receiver.proofs.ShapeLaws.{Follows, follow}
use Rattle.bulk.proofs.BlockLaws.{accepts}
use Rattle.sender.specs.declared.Sender.{Sender}
use Rattle.sender.specs.Sender.{groups, grouped, after_group, after_groups}
use Rattle.sender.specs.Calls.{Send, DataPoint, answer, handed_on, data_of, data_points}
use Rattle.sender.proofs.RefusalLaws.{StateOk, send_ok}
use Rattle.sender.proofs.StateLaws.{can_send, whole_length}
use Rattle.sender.proofs.JoinLaws.{after_append, accepted-call}
use Rattle.sender.proofs.DataLaws.{Made, made, points_of, data_sent}
use Rattle.resync.specs.DataPoints.{received}
use Rattle.resync.specs.RoundTrip.{sender_after, bits_of, given_to, listening, RoundTrip}
use Rattle.resync.proofs.SenderLaws.{group_read, group-line, decided_made, states_of, groups_of, states-same, line-sent, data_given, made_on}

-- THE RECEIVER GOES ALONG

-- a sender that numbers 1, 2 and 4 let pass, as a receiver
listens : (s : Sender) (place : ℕ) → StateOk s → state_refusal (listening s place) ≡ 0
unfolding fields_ok
listens s place k =
    let c = can_send s k.fields in
    no_refusal (listening s place) (record { mode = k.mode; role = k.role; fields = and_intro (is_state s.mode s.reference) (register_ok s.mode s.line) c.state (passes s.mode s.line c.fit) })

module _ (s : Sender) (place : ℕ) (d : DataPoint) (ds : List DataPoint) (k : Made s (d ∷ ds)) (l : place < 4294967295) where
  abbrev then : Sender
  then = after_group s d.bits

  sent : OfState s.mode then.reference
  unfolding after_group
  sent = of_state s.mode then.reference k.0.mode (can_send then (made_on s d ds k).fields).state

  takes : refusal (listening s place) (point d.point) ≡ 0
  takes = accepts (listening s place) d.point (listens s place k.0) (rw k.3 sent.range) l

  moves : next (listening s place) (point d.point) ≡ listening then (place + 1)
  unfolding after_group next event_next point_next state_next state_line
  moves =
      ap₂ (λ (n : ℕ) (c : Region). accepted n (point_next (listening s place) c) (listening s place)) takes (decided_made s d ds k)
      ∙ ap (λ (h : Register). receiver s.mode s.role (some then.reference) h (place + 1))
      (ap (pushes s.mode s.line) (group_read s d.bits k.0 k.1) ∙ sym (group-line s d.bits k.0 k.1))

-- it accepts all points, they are points off the origin, and its state is the sender's
pub record Along (s : Sender) (place : ℕ) (ds : List DataPoint) : Type 0 where
  pub each : EachAccepted (listening s place) (received ds)
  pub points : All IsPoint (heard (listening s place) (received ds))
  pub there : after (listening s place) (received ds) ≡ listening (after_groups s (groups_of ds)) (place + length ds)

along : (s : Sender) (place : ℕ) (ds : List DataPoint) → Made s ds → place + length ds ≤ 4294967295 → Along s place ds
along s place [] k l = record { each = tt; points = tt; there = ap (listening s) (let e : place ≡ place + 0 = omega arith in e) }
along s place (d ∷ ds) k l =
    let h : place < 4294967295 = omega arith in
    let z = takes s place d ds k h in
    let m = moves s place d ds k h in
    let i = along (after_group s d.bits) (place + 1) ds k.4 (omega arith) in
    record {
      each = (z, subst (λ (r : Receiver). EachAccepted r (received ds)) (sym m) i.each);
      points = subst (All IsPoint) (sym (heard-accepted (listening s place) (point d.point) (received ds) z))
          (rw k.3 (sent s place d ds k h).off, subst (λ (r : Receiver). All IsPoint (heard r (received ds))) (sym m) i.points);
      there = ap (λ (r : Receiver). after r (received ds)) m ∙ i.there
          ∙ ap (listening (after_groups s (groups_of (d ∷ ds)))) (let e : place + 1 + length ds ≡ place + suc (length ds) = omega arith in e);
    }

-- THE BITS OF THE CALLS

row_append : (gs hs : List (List ℕ)) → row (gs ++ hs) ≡ row gs ++ row hs
row_append [] hs = refl
row_append (g ∷ gs) hs = ap (λ (l : List ℕ). g ++ l) (row_append gs hs) ∙ sym (append_assoc g (row gs) (row hs))

row-groups : (w n : ℕ) (ds : List ℕ) → length ds ≡ n * w → row (groups w n ds) ≡ ds
row-groups w zero [] e = refl
row-groups w zero (d ∷ ds) e = absurd (omega arith)
row-groups w (suc n) ds e =
    ap (λ (l : List ℕ). take w ds ++ l) (row-groups w n (drop w ds) (rw length-drop (omega arith))) ∙ take-append-drop w ds

groups-sent : (m : ℕ) (s : Sender) (gs : List (List ℕ)) → groups_of (points_of m s gs) ≡ gs
groups-sent m s [] = refl
groups-sent m s (g ∷ gs) = ap (λ (l : List (List ℕ)). g ∷ l) (groups-sent m (after_group s g) gs)

-- a call hands on the sender after the groups of its data points, and was given their bits
of_call : (s : Sender) (c : Send) (a : Result Sender Refusal) → answer s c ≡ a → (handed_on a s ≡ after_groups s (groups_of (data_of a s c))) × (bits_of a c ≡ row (groups_of (data_of a s c)))
unfolding grouped
of_call s c (Err n) e = (refl, refl)
of_call s c (Ok t) e =
    let w : ℕ = width s.mode in
    let a = accepted-call s c.bits (length c.lent) c.offset t e in
    let whole = (send_ok s c.bits (length c.lent) c.offset a.none).1.whole in
    let g : groups_of (data_of (Ok t) s c) ≡ grouped w c.bits =
    ap groups_of (sym (ap (λ (x : Result Sender Refusal). data_of x s c) e) ∙ data_sent s t c e) ∙ groups-sent s.mode s (grouped w c.bits) in
    (a.after ∙ ap (after_groups s) (sym g), sym (ap row g ∙ row-groups w _ c.bits (whole_length w c.bits whole)))

of_calls : (s : Sender) (cs : List Send) → (sender_after s cs ≡ after_groups s (groups_of (data_points s cs))) × (given_to s cs ≡ row (groups_of (data_points s cs)))
of_calls s [] = (refl, refl)
of_calls s (c ∷ cs) =
    let a = of_call s c (answer s c) refl in
    let t : Sender = handed_on (answer s c) s in
    let i = of_calls t cs in
    let gs : List (List ℕ) = groups_of (data_of (answer s c) s c) in
    let hs : List (List ℕ) = groups_of (data_points t cs) in
    let q = map-append (λ (d : DataPoint). d.bits) (data_of (answer s c) s c) (data_points t cs) in (
      i.0 ∙ ap (λ (u : Sender). after_groups u hs) a.0 ∙ sym (ap (after_groups s) q ∙ after_append s gs hs),
      ap₂ ◌++◌ a.1 i.1 ∙ sym (ap row q ∙ row_append gs hs),
    )

-- THE ROUND TRIP

pub round_trip : RoundTrip
round_trip s cs place l =
    let ds : List DataPoint = data_points s cs in
    let k : Made s ds = made s cs in
    let i : Along s place ds = along s place ds k l in
    let c = of_calls s cs in
    let xs : List Heard = heard (listening s place) (received ds) in
    let f : Follows s.mode s.role s.reference s.line xs = follow s.mode s.role (received ds) s.reference s.line place i.points in
    let e : lines s.mode s.reference (decided_states s.mode xs) ≡ lines s.mode s.reference (states_of s.mode ds) =
    ap (lines s.mode s.reference) (states-same s.mode xs ds (heard_all (listening s place) (received ds) i.each)) in
    record {
      accepts_all = i.each;
      line-bits = ap row (f.lines_are ∙ e) ∙ line-sent s ds k ∙ ap (scramble s.mode s.role s.line) (sym c.1);
      data_bits = f.data_are ∙ ap (λ (gs : List (List ℕ)). descramble s.mode s.role s.line (row gs)) e ∙ data_given s ds k ∙ ap (map settled) (sym c.1);
      goes_along = i.there ∙ ap (λ (t : Sender). listening t (place + length ds)) (sym c.0);
    }
