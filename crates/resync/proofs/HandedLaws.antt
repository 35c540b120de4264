-- Data points as they are handed on, and the bits that a receiver reads of them. Assumes nothing.
use Prim.Native.Nat.{ℕ, suc, ◌+◌, ◌*◌, ◌-◌, ◌<◌, ◌≤◌}
use mathlib.Core.Path.{◌≡◌, refl, sym, ◌∙◌, ap, ap₂, subst, subst₂}
use mathlib.Core.Bool.{false}
use mathlib.Core.List.{List, [], ◌∷◌, ◌++◌, map, map-append, append_assoc}
use mathlib.Core.Logic.{⊎_elim}
use native.Mathlib.Omega.{arith}
use lib.Dec.{leb, leb→le}
use lib.IntN.{ℤ, pos}
use lib.ListN.{length, get_or, take, drop, length-map, length-append}
use lib.Seq.{sets, drop_at, take_at, drop-nil}
use Rattle.line.proofs.RefusalLaws.{need_met, need_rest, next_rest}
use Rattle.line.specs.Mode.{guarded, width}
use Rattle.deciding.specs.Decide.{state_in}
use Rattle.scrambler.specs.Scramble.{Datum, settled, descramble}
use Rattle.receiver.specs.Receiver.{Event, point, gap}
use Rattle.receiver.specs.Calls.{Heard, decided_as, lines_from2, row, events as heardEvents}
use Rattle.receiver.specs.Turn.{lines}
use Rattle.sender.specs.declared.Sender.{Sender}
use Rattle.sender.specs.Calls.{DataPoint}
use Rattle.sender.specs.Sender.{after_group}
use Rattle.sender.proofs.DataLaws.{Made, From, consecutive}
use Rattle.store.specs.Layout as Stored
use Rattle.line.proofs.Sets.{get_d_sets_in}
use Rattle.line.proofs.TableLaws.{map-drop}
use Rattle.store.specs.Store.{events, refusal}
use Rattle.store.specs.Reads.{numbers, read_number, read_count, read_result}
use Rattle.track.specs.Calls.{after, taken}
use Rattle.track.proofs.CallLaws.{Run, calls_law}
use Rattle.resync.specs.Assured.{assured_point, unassured, assured_data}
use Rattle.resync.specs.DataPoints.{Consecutive, received, appended, event_in, events_in, ReadBack, Handed, given_from}
use Rattle.resync.proofs.RowLaws.{drop-row}
use Rattle.resync.proofs.ReceivedLaws.{enough, unassured_plain, line_row, heard-row, data_any}
use Rattle.receiver.proofs.ShapeLaws.{Shape}
use Rattle.resync.proofs.SenderLaws.{groups_of, decided_made, states-same, made_sized, data_given}

-- READ BACK AS WRITTEN

-- an event of a store as one of a receiver
abbrev on_line : Stored.Event → Event
on_line (Stored.point p) = point p
on_line (Stored.lost n) = gap n

numbers_long : (es : List Stored.Event) → length (numbers es) ≡ 3 * length es
numbers_long [] = refl
numbers_long (Stored.point p ∷ es) = let h = numbers_long es in omega arith
numbers_long (Stored.lost n ∷ es) = let h = numbers_long es in omega arith

-- numbers that stand in others from a place on
abbrev Stands : List ℤ → ℕ → List ℤ → Type 0
Stands ns k vs = (j : ℕ) → j < length vs → get_or ns (k + j) (pos 0) ≡ get_or vs j (pos 0)

stands_written : (out vs : List ℤ) (k : ℕ) → k + length vs ≤ length out → Stands (sets out k vs) k vs
stands_written out vs k h j l = get_d_sets_in vs out k j (pos 0) l (omega arith)

module _ (ns : List ℤ) (k : ℕ) (a b c : ℤ) (vs : List ℤ) (s : Stands ns k (a ∷ b ∷ c ∷ vs)) where
  -- the next three numbers
  three_in : event_in (get_or ns k (pos 0)) (get_or ns (k + 1) (pos 0)) (get_or ns (k + 2) (pos 0)) ≡ event_in a b c
  three_in =
      let x : get_or ns k (pos 0) ≡ a = ap (λ (i : ℕ). get_or ns i (pos 0)) (let e : k ≡ k + 0 = omega arith in e) ∙ s 0 (omega arith) in
      ap₂ (λ (u v : ℤ). event_in u v (get_or ns (k + 2) (pos 0))) x (s 1 (omega arith)) ∙ ap (event_in a b) (s 2 (omega arith))

  three_on : Stands ns (k + 3) vs
  three_on j l = ap (λ (i : ℕ). get_or ns i (pos 0)) (let e : k + 3 + j ≡ k + suc (suc (suc j)) = omega arith in e) ∙ s (suc (suc (suc j))) (omega arith)

-- events that were written are read
events_read : (ns : List ℤ) (k : ℕ) (es : List Stored.Event) → Stands ns k (numbers es) → events_in ns k (length es) ≡ map on_line es
unfolding event_in
events_read ns k [] s = refl
events_read ns k (Stored.point p ∷ es) s =
    ap₂ ◌∷◌ (three_in ns k (pos 1) p.re p.im (numbers es) s) (events_read ns (k + 3) es (three_on ns k (pos 1) p.re p.im (numbers es) s))
events_read ns k (Stored.lost n ∷ es) s =
    ap₂ ◌∷◌ (three_in ns k (pos 2) (pos n) (pos 0) (numbers es) s) (events_read ns (k + 3) es (three_on ns k (pos 2) (pos n) (pos 0) (numbers es) s))

-- what an accepted reading gives is the store's events
reading_gives : (s : List ℕ) (lent : List ℤ) (offset : ℕ) → refusal s ≡ 0 → read_number s (length lent) offset ≡ 0
    → events_in (read_result s lent offset) offset (read_count s (length lent) offset) ≡ map on_line (events s)
unfolding read_result read_count
reading_gives s lent offset ok z =
    rw z
    (events_read (sets lent offset (numbers (events s))) offset (events s)
    (stands_written lent (numbers (events s)) offset (let l = numbers_long (events s) in let r = room z in omega arith)))
  where
    room : read_number s (length lent) offset ≡ 0 → offset + 3 * length (events s) ≤ length lent
    room z =
        unfold read_number in
        (let y = need_rest (leb offset (length lent)) 6 _ z in
        leb→le _ _ (need_met (leb (offset + 3 * length (events s)) (length lent)) 6 0 (next_rest (refusal s) _ y)))

on_line_points : (ds : List DataPoint) → map on_line (appended ds) ≡ received ds
on_line_points [] = refl
on_line_points (d ∷ ds) = ap (λ (es : List Event). point d.point ∷ es) (on_line_points ds)

-- data points that were read back are those that were written
pub handed_as_written : (ds : List DataPoint) (es : List Event) → Handed ds es → es ≡ received ds
handed_as_written ds es = ⊎_elim (λ e. e) back
  where
    back : ReadBack ds es → es ≡ received ds
    back r =
        let run : Run r.store (after r.store r.appends) (taken r.store r.appends) = calls_law r.store r.appends r.store-accepted in
        let s : List ℕ = after r.store r.appends in
        let front : List Stored.Event = events r.store ++ r.earlier in
        let all : events s ≡ front ++ (appended ds ++ r.later) =
        run.events_are ∙ ap (λ (l : List Stored.Event). events r.store ++ l) r.in_order ∙ sym (append_assoc (events r.store) r.earlier (appended ds ++ r.later)) in
        let read : events_in (read_result s r.lent r.offset) r.offset (read_count s (length r.lent) r.offset) ≡ map on_line front ++ (map on_line (appended ds) ++ map on_line r.later) =
        reading_gives s r.lent r.offset run.accepted_yet r.read_accepted ∙ ap (map on_line) all
        ∙ map-append on_line front (appended ds ++ r.later) ∙ ap (λ (l : List Event). map on_line front ++ l) (map-append on_line (appended ds) r.later) in
        let n : length (map on_line front) ≡ length (events r.store) + length r.earlier = length-map front on_line ∙ length-append (events r.store) r.earlier in
        let k : length (map on_line (appended ds)) ≡ length ds = length-map (appended ds) on_line ∙ length-map ds (λ (d : DataPoint). Stored.point d.point) in
        r.handed_on_lem
        ∙ ap (λ (l : List Event). take (length ds) (drop (length (events r.store) + length r.earlier) l)) read
        ∙ ap (take (length ds)) (drop_at (map on_line front) (map on_line (appended ds) ++ map on_line r.later) _ n)
        ∙ take_at (map on_line (appended ds)) (map on_line r.later) (length ds) k
        ∙ on_line_points ds

-- THE BITS THAT WERE GIVEN

from_sender : (m role : ℕ) (ds : List DataPoint) → Consecutive m role ds → From m role ds
from_sender m role ds c =
    subst₂ (λ (n r : ℕ). From n r ds) c.mode_is c.role_is (consecutive c.sender c.calls c.earlier ds c.later c.are)

-- the assured bits: the register is the sender's own after the first point
sender-made : (s : Sender) (xs : List Heard) (ds : List DataPoint) → Shape s.mode s.role xs → Made s ds → heardEvents xs ≡ received ds
    → assured_data s.mode xs ≡ map settled (drop (unassured s.mode (row (lines_from2 xs))) (given_from 2 ds))
unfolding after_group
sender-made s [] [] k c e = rw (drop-nil {A = Datum} (unassured s.mode []), drop-nil {A = ℕ} (unassured s.mode []))
sender-made s [] (d ∷ ds) k c e = absurd (omega (arith, ap length e))
sender-made s (x ∷ xs) [] k c e = absurd (omega (arith, ap length e))
sender-made s (x ∷ xs) (d ∷ ds) k c e =
    let m : ℕ = s.mode in
    let role : ℕ = s.role in
    let t : Sender = after_group s d.bits in
    let n : ℕ = unassured m (line_row m x xs) in
    let e0 : x.event ≡ point d.point = cc in
    let e1 : heardEvents xs ≡ received ds = cc in
    let x0 : decided_as m x.event ≡ t.reference = ap (decided_as m) e0 ∙ ap state_in (decided_made s d ds c) in
    data_any m role x xs k t.line
    ∙ ap₂ (λ (y : ℕ) (ys : List ℕ). drop n (descramble m role t.line (row (lines m y ys)))) x0 (states-same m xs ds e1)
    ∙ ap (drop n) (data_given t ds c.4)
    ∙ sym (map-drop settled n (row (groups_of ds)))
    ∙ ap (λ (bs : List ℕ). map settled (drop (unassured m bs) (row (groups_of ds)))) (sym (heard-row m role x xs k))

pub sender_data : (m role : ℕ) (xs : List Heard) (ds : List DataPoint) → Shape m role xs → Consecutive m role ds → heardEvents xs ≡ received ds
    → assured_data m xs ≡ map settled (drop (unassured m (row (lines_from2 xs))) (given_from 2 ds))
sender_data m role xs ds k c e =
    let f : From m role ds = from_sender m role ds c in
    subst (λ (n : ℕ). assured_data n xs ≡ map settled (drop (unassured n (row (lines_from2 xs))) (given_from 2 ds))) f.mode
    (sender-made f.sender xs ds (subst₂ (λ (n r : ℕ). Shape n r xs) (sym f.mode) (sym f.role_is) k) f.made_by e)

-- without the guard the bits given for the points from the assured one on
given_made : (s : Sender) (ds : List DataPoint) (bs : List ℕ) → Made s ds → guarded s.mode ≡ false
    → drop (unassured s.mode bs) (given_from 2 ds) ≡ given_from (assured_point s.mode) ds
unfolding after_group
given_made s [] bs k g = drop-nil {A = ℕ} (unassured s.mode bs) ∙ sym (ap (λ (l : List DataPoint). row (groups_of l)) (drop-nil {A = DataPoint} (assured_point s.mode - 1)))
given_made s (d ∷ ds) bs k g =
    let m : ℕ = s.mode in
    let p : ℕ = assured_point m in
    let q = enough m in
    ap (λ (n : ℕ). drop n (row (groups_of ds))) (unassured_plain m bs g)
    ∙ drop-row (width m) (p - 2) (groups_of ds) (made_sized (after_group s d.bits) ds k.4)
    ∙ ap row (sym (map-drop (λ (t : DataPoint). t.bits) (p - 2) ds))
    ∙ ap (λ (n : ℕ). row (groups_of (drop n (d ∷ ds)))) (let w : suc (p - 2) ≡ p - 1 = omega arith in w)

pub given_from_point : (m role : ℕ) (ds : List DataPoint) (bs : List ℕ) → Consecutive m role ds → guarded m ≡ false
    → drop (unassured m bs) (given_from 2 ds) ≡ given_from (assured_point m) ds
given_from_point m role ds bs c g =
    let f : From m role ds = from_sender m role ds c in
    subst (λ (n : ℕ). drop (unassured n bs) (given_from 2 ds) ≡ given_from (assured_point n) ds) f.mode
    (given_made f.sender ds bs f.made_by (ap guarded f.mode ∙ g))
