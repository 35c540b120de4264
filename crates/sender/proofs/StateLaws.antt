-- What opening and sending hand back passes numbers 1, 2 and 4. Assumes nothing.
use Prim.Native.Nat.{ℕ, zero, suc, ◌+◌, ◌*◌, ◌/◌, ◌%◌, ◌<◌, ◌≤◌}
use mathlib.Core.Path.{◌≡◌, refl, sym, ◌∙◌, ap, subst}
use mathlib.Core.Bool.{Bool, true, false, ◌&&◌, cond}
use mathlib.Core.List.{List, [], ◌∷◌}
use native.Mathlib.Nat.{div-add-mod', add-zero}
use native.Mathlib.Decide.{dec_le}
use native.Mathlib.Omega.{arith}
use borrow.Author.Tests.{eq-eqb, le-leb, lt-leb}
use lib.Dec.{T, eqb, leb, eqb→eq, leb→le, ltb→lt}
use lib.ListN.{length, drop, length-take, length-drop}
use Rattle.line.specs.Table.{every}
use Rattle.line.specs.Mode.{is_mode, is_role, is_state, width, guarded, capacity}
use Rattle.line.specs.Refusal.{answered}
use Rattle.line.proofs.TableLaws.{and_left, and_right, and_intro, every_take, every_drop}
use Rattle.scrambler.specs.Bits.{is_bit}
use Rattle.scrambler.specs.Group.{guard_mode}
use Rattle.scrambler.specs.Register.{register, counting, register_ok}
use Rattle.scrambler.proofs.RegisterLaws.{same-register, ok, passes}
use Rattle.training.specs.declared.Coder.{Coder}
use Rattle.training.proofs.CoderLaws.{Ready as CanSend, ready_coding}
use Rattle.training.proofs.TrainingLaws.{ready_trained}
use Rattle.sender.specs.declared.Sender.{Sender}
use Rattle.sender.specs.Sender.{coder_of, sender_of, fields_ok, state_refusal, groups, grouped, after_group, after_groups, send_refusal, send_answer}
use Rattle.sender.specs.Open.{open_refusal, opened, open_answer}
use Rattle.sender.specs.Calls.{Passes, OpenedPasses, SentPasses}
use Rattle.sender.proofs.RefusalLaws.{StateOk, state_ok, state_accepted, DataOk, send_ok}
use Rattle.sender.proofs.SendLaws.{group_mode}
use Rattle.sender.proofs.OpenLaws.{open_ok}

-- NUMBER 4 IS WHAT A CODER NEEDS

pub can_send : (s : Sender) → T (fields_ok s) → CanSend s.mode (coder_of s)
unfolding fields_ok
can_send s t =
    let full : Bool = eqb s.line.held.0 (capacity s.mode) in
    let u = and_right (is_state s.mode s.reference) (full && register_ok s.mode s.line) t in
    record {
      state = and_left (is_state s.mode s.reference) _ t;
      full = eqb→eq _ _ (and_left full (register_ok s.mode s.line) u);
      fit = ok s.mode s.line (and_right full (register_ok s.mode s.line) u);
    }

-- so that without the guard the register is full and nothing is counted
pub full_line : (s : Sender) → T (fields_ok s) → guarded s.mode ≡ false → s.line ≡ register s.line.bits (capacity s.mode) 0
unfolding counting
full_line s t g =
    let k = can_send s t in
    let z : s.line.count.0 ≤ 0 = subst (λ (b : Bool). s.line.count.0 ≤ cond (b && leb (capacity s.mode) s.line.held.0) 33 0) g k.fit.counts in
    same-register s.line _ refl k.full (omega arith)

-- and with it a mode is the one that it counts as
pub counted_mode : (m : ℕ) → T (is_mode m) → guarded m ≡ true → guard_mode m ≡ m
unfolding is_mode guarded
counted_mode m t g =
    let l : m ≤ 6 = leb→le m 6 (and_right (leb 1 m) (leb m 6) t) in
    let h : 4 < m = ltb→lt 4 m (subst T (sym g) tt) in
    go (dec_le m 5) l h
  where
    go : Dec (m ≤ 5) → m ≤ 6 → 4 < m → guard_mode m ≡ m
    go (yes k) l h = rw (le-leb m 5 k) (omega arith)
    go (no k) l h = rw (lt-leb m 5 (omega (arith, k))) (omega (arith, k))

fields_pass : (m role : ℕ) (c : Coder) → CanSend m c → T (fields_ok (sender_of m role c))
unfolding fields_ok
fields_pass m role c k =
    and_intro (is_state m c.reference) _ k.state
    (and_intro (eqb c.line.held.0 (capacity m)) _ (subst T (sym (eq-eqb c.line.held.0 (capacity m) k.full)) tt) (passes m c.line k.fit))

state_passes : (m role : ℕ) (c : Coder) → T (is_mode m) → T (is_role m role) → CanSend m c → state_refusal (sender_of m role c) ≡ 0
state_passes m role c hm hr k = state_accepted (sender_of m role c) (record { mode = hm; role = hr; fields = fields_pass m role c k })

-- WHOLE GROUPS

abbrev pub Whole : ℕ → List (List ℕ) → Type 0
Whole w [] = Unit {0}
Whole w (g ∷ gs) = (length g ≡ w) × T (every is_bit g) × Whole w gs

groups-whole : (w n : ℕ) (ds : List ℕ) → length ds ≡ n * w → T (every is_bit ds) → Whole w (groups w n ds)
groups-whole w zero ds l t = tt
groups-whole w (suc n) ds l t =
    (rw length-take (omega arith), every_take is_bit w ds t, groups-whole w n (drop w ds) (rw length-drop (omega arith)) (every_drop is_bit w ds t))

pub whole_length : (w : ℕ) (ds : List ℕ) → length ds % w ≡ 0 → length ds ≡ length ds / w * w
whole_length w ds e = sym (div-add-mod' (length ds) w) ∙ ap (λ (k : ℕ). length ds / w * w + k) e ∙ add-zero _

-- the groups of an accepted call
pub groups-accepted : (m : ℕ) (ds : List ℕ) (lent offset : ℕ) → DataOk m ds lent offset → Whole (width m) (grouped (width m) ds)
unfolding grouped
groups-accepted m ds lent offset k = groups-whole (width m) (length ds / width m) ds (whole_length (width m) ds k.whole) k.are_bits

-- A LIST OF GROUPS KEEPS A SENDER SO

pub state_after_lem : (s : Sender) (g : List ℕ) → StateOk s → length g ≡ width s.mode → state_refusal (after_group s g) ≡ 0
unfolding after_group
state_after_lem s g k l =
    state_passes s.mode s.role _ k.mode k.role (ready_coding s.mode s.role (coder_of s) g k.mode (can_send s k.fields) l)

groups_pass : (s : Sender) (gs : List (List ℕ)) → state_refusal s ≡ 0 → Whole (width s.mode) gs → state_refusal (after_groups s gs) ≡ 0
groups_pass s [] z w = z
groups_pass s (g ∷ gs) z w =
    groups_pass (after_group s g) gs (state_after_lem s g (state_ok s z) w.0)
    (subst (λ (m : ℕ). Whole (width m) gs) (sym (group_mode s g)) w.2)

-- THE LAWS

passes_if : (n : ℕ) (t : Sender) → (n ≡ 0 → state_refusal t ≡ 0) → Passes (answered n t)
passes_if zero t f = f refl
passes_if (suc n) t f = tt

pub opened_passes : OpenedPasses
unfolding open_answer opened
opened_passes m role n lent offset =
    passes_if (open_refusal m role n lent offset) _ (λ z. let k = open_ok m role n lent offset z in
    state_passes m role _ k.mode k.role_of (ready_trained m role n k.mode))

pub sent_passes : SentPasses
unfolding send_answer
sent_passes s ds lent offset =
    passes_if (send_refusal s ds lent offset) _ (λ z. let k = send_ok s ds lent offset z in
    groups_pass s (grouped (width s.mode) ds) (state_accepted s k.0) (groups-accepted s.mode ds lent offset k.1))
