-- The line bits of a sender's data points are its scrambled bits, from its own reference and register. Assumes nothing.
use Prim.Native.Nat.{ℕ}
use mathlib.Core.Path.{◌≡◌, refl, sym, ◌∙◌, ap, ap₂}
use mathlib.Core.List.{List, [], ◌∷◌, ◌++◌, map}
use native.Mathlib.Omega.{arith}
use native.Mathlib.Nat.{le_of_eq}
use lib.Dec.{T}
use lib.ListN.{length}
use Rattle.line.specs.Table.{every, All}
use Rattle.line.specs.Mode.{width, face}
use Rattle.line.specs.Point.{sent_point}
use Rattle.deciding.specs.Decide.{State, decide, state_in}
use Rattle.deciding.proofs.DecideLaws.{decided_sent}
use Rattle.coding.specs.Code.{group}
use Rattle.scrambler.specs.declared.Register.{Register}
use Rattle.scrambler.specs.Bits.{is_bit, bits, value}
use Rattle.scrambler.specs.Register.{push, pushes}
use Rattle.scrambler.specs.Scramble.{mix, scramble, settled, descramble}
use Rattle.scrambler.proofs.BitLaws.{bits-value}
use Rattle.scrambler.proofs.GroupLaws.{length-scramble, bits-scramble, unscramble}
use Rattle.receiver.specs.Receiver.{line_bits, point}
use Rattle.receiver.specs.Calls.{Heard, events, decided_as, decided_states, row}
use Rattle.receiver.specs.Turn.{lines}
use Rattle.training.specs.Coder.{coding}
use Rattle.training.proofs.CoderLaws.{lands}
use Rattle.sender.specs.declared.Sender.{Sender}
use Rattle.sender.specs.Sender.{coder_of, after_group}
use Rattle.sender.specs.Calls.{DataPoint}
use Rattle.sender.proofs.RefusalLaws.{StateOk, state_ok}
use Rattle.sender.proofs.StateLaws.{can_send, state_after_lem}
use Rattle.line.proofs.TableLaws.{every_append}
use Rattle.sender.proofs.DataLaws.{Made}
use Rattle.resync.specs.DataPoints.{received}

-- a group is read back
module _ (s : Sender) (g : List ℕ) (k : StateOk s) (l : length g ≡ width s.mode) where
  pub group_read : bits (width s.mode) (group s.mode (face s.mode s.reference) (after_group s g).reference) ≡ scramble s.mode s.role s.line g
  unfolding after_group coding
  group_read =
      let b : List ℕ = scramble s.mode s.role s.line g in
      let e : width s.mode ≡ length b = sym (length-scramble s.mode s.role s.line g ∙ l) in
      ap (bits (width s.mode)) (lands s.mode s.role (coder_of s) g k.mode (can_send s k.fields) l).read
      ∙ ap (λ (w : ℕ). bits w (value b)) e ∙ bits-value b (bits-scramble s.mode s.role s.line g)

  group_decided : decide s.mode (sent_point s.mode (after_group s g).reference) ≡ State (after_group s g).reference
  unfolding after_group coding
  group_decided =
      decided_sent s.mode _ k.mode (lands s.mode s.role (coder_of s) g k.mode (can_send s k.fields) l).lands

  pub group-line : (after_group s g).line ≡ pushes s.mode s.line (scramble s.mode s.role s.line g)
  unfolding after_group coding
  group-line = refl

-- a data point is decided as the state that it was coded as
pub decided_made : (s : Sender) (d : DataPoint) (ds : List DataPoint) → Made s (d ∷ ds) → decide s.mode d.point ≡ State (after_group s d.bits).reference
decided_made s d ds k = ap (decide s.mode) k.3 ∙ group_decided s d.bits k.0 k.1

-- the states that data points are decided as, and the groups of bits that they were made from
abbrev pub states_of : ℕ → List DataPoint → List ℕ
states_of m ds = map (λ (d : DataPoint). state_in (decide m d.point)) ds

abbrev pub groups_of : List DataPoint → List (List ℕ)
groups_of ds = map (λ (d : DataPoint). d.bits) ds

-- the decided states of the points that were handed on
pub states-same : (m : ℕ) (xs : List Heard) (ds : List DataPoint) → events xs ≡ received ds → decided_states m xs ≡ states_of m ds
states-same m [] [] e = refl
states-same m [] (d ∷ ds) e = absurd (omega (arith, ap length e))
states-same m (x ∷ xs) [] e = absurd (omega (arith, ap length e))
states-same m (x ∷ xs) (d ∷ ds) e =
    let e0 : x.event ≡ point d.point = cc in
    let e1 : events xs ≡ received ds = cc in
    ap₂ ◌∷◌ (ap (decided_as m) e0) (states-same m xs ds e1)

scramble_append : (m role : ℕ) (h : Register) (cs ds : List ℕ)
    → scramble m role h (cs ++ ds) ≡ scramble m role h cs ++ scramble m role (pushes m h (scramble m role h cs)) ds
scramble_append m role h [] ds = refl
scramble_append m role h (c ∷ cs) ds = ap (λ (l : List ℕ). mix m role h c ∷ l) (scramble_append m role (push m h (mix m role h c)) cs ds)

-- each was made from w bits
pub made_sized : (s : Sender) (ds : List DataPoint) → Made s ds → All (λ (g : List ℕ). length g ≡ width s.mode) (groups_of ds)
unfolding after_group
made_sized s [] k = tt
made_sized s (d ∷ ds) k = (k.1, made_sized (after_group s d.bits) ds k.4)

made_bits : (s : Sender) (ds : List DataPoint) → Made s ds → T (every is_bit (row (groups_of ds)))
made_bits s [] k = tt
made_bits s (d ∷ ds) k = every_append is_bit d.bits (row (groups_of ds)) k.2 (made_bits (after_group s d.bits) ds k.4)

pub line-sent : (s : Sender) (ds : List DataPoint) → Made s ds
    → row (lines s.mode s.reference (states_of s.mode ds)) ≡ scramble s.mode s.role s.line (row (groups_of ds))
unfolding after_group
line-sent s [] k = refl
line-sent s (d ∷ ds) k =
    let m : ℕ = s.mode in
    let role : ℕ = s.role in
    let g : List ℕ = d.bits in
    let t : Sender = after_group s g in
    ap (λ (y : ℕ). line_bits m s.reference y ++ row (lines m y (states_of m ds))) (ap state_in (decided_made s d ds k))
    ∙ ap₂ ◌++◌ (group_read s g k.0 k.1) (line-sent t ds k.4 ∙ ap (λ (h : Register). scramble m role h (row (groups_of ds))) (group-line s g k.0 k.1))
    ∙ sym (scramble_append m role s.line g (row (groups_of ds)))

-- a sender's register is full, so that its bits are read back
pub data_given : (s : Sender) (ds : List DataPoint) → Made s ds
    → descramble s.mode s.role s.line (row (lines s.mode s.reference (states_of s.mode ds))) ≡ map settled (row (groups_of ds))
data_given s [] k = refl
data_given s (d ∷ ds) k =
    ap (descramble s.mode s.role s.line) (line-sent s (d ∷ ds) k)
    ∙ unscramble s.mode s.role s.line (row (groups_of (d ∷ ds))) (le_of_eq (sym (can_send s k.0.fields).full)) (made_bits s (d ∷ ds) k)

-- it goes on being one that numbers 1, 2 and 4 let pass
pub made_on : (s : Sender) (d : DataPoint) (ds : List DataPoint) → Made s (d ∷ ds) → StateOk (after_group s d.bits)
made_on s d ds k = state_ok (after_group s d.bits) (state_after_lem s d.bits k.0 k.1)
