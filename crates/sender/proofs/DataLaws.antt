-- Data points: what they stand as, that a list of calls makes them one after another, and that they are read back. Assumes nothing.
use Prim.Native.Nat.{ℕ, suc, ◌+◌, ◌*◌, ◌<◌, ◌≤◌}
use mathlib.Core.Path.{◌≡◌, refl, sym, ◌∙◌, ap, ap₂, subst}
use mathlib.Core.List.{List, [], ◌∷◌, ◌++◌}
use native.Mathlib.Numerals.{towards_suc}
use native.Mathlib.Omega.{arith}
use lib.Dec.{T}
use lib.IntN.{ℤ, pos}
use lib.ListN.{length, get_or, set, length-set}
use lib.Seq.{sets, get_or-set_same, get_or-set_other}
use Rattle.std.specs.Prelude.{Result, Ok, Err}
use Rattle.line.specs.declared.Point.{Point}
use Rattle.line.specs.declared.refusal.Refusal.{Refusal}
use Rattle.line.specs.Table.{every}
use Rattle.line.specs.Mode.{width}
use Rattle.line.specs.Point.{sent_point}
use Rattle.scrambler.specs.Bits.{is_bit}
use Rattle.training.specs.Coder.{numbers}
use Rattle.sender.specs.declared.Sender.{Sender}
use Rattle.sender.specs.Sender.{grouped, after_group, after_groups, sent_states}
use Rattle.sender.specs.Calls.{Send, DataPoint, answer, handed_on, standing, data_of, data_points}
use Rattle.sender.proofs.RefusalLaws.{StateOk, state_ok, send_ok}
use Rattle.sender.proofs.SendLaws.{group_mode, group_role}
use Rattle.sender.proofs.StateLaws.{state_after_lem, Whole, groups-accepted}
use Rattle.sender.proofs.JoinLaws.{length-grouped, accepted-call, numbers_met}

-- THE POINTS STAND AS THEY ARE SENT

before-sets : (l : List ℤ) (i j : ℕ) (vs : List ℤ) → j < i → get_or (sets l i vs) j (pos 0) ≡ get_or l j (pos 0)
before-sets l i j [] h = refl
before-sets l i j (v ∷ vs) h =
    before-sets (set l i v) (suc i) j vs (omega arith) ∙ get_or-set_other l i j v (pos 0) (λ e. omega arith)

-- the points of groups, and the bits they are made from
abbrev pub points_of : ℕ → Sender → List (List ℕ) → List DataPoint
points_of m s [] = []
points_of m s (g ∷ gs) = record { point = sent_point m (after_group s g).reference; bits = g } ∷ points_of m (after_group s g) gs

pub standing-sent : (m : ℕ) (s : Sender) (gs : List (List ℕ)) (out : List ℤ) (k : ℕ) → k + 2 * length gs ≤ length out
    → standing (sets out k (numbers m (sent_states s gs))) k gs ≡ points_of m s gs
standing-sent m s [] out k h = refl
standing-sent m s (g ∷ gs) out k h =
    let p : Point = sent_point m (after_group s g).reference in
    let first : List ℤ = set out k p.re in
    let out' : List ℤ = set first (suc k) p.im in
    let vs : List ℤ = numbers m (sent_states (after_group s g) gs) in
    let len : length out' ≡ length out = simp length-set in
    let len₁ : length first ≡ length out = simp length-set in
    let re : get_or (sets out' (suc (suc k)) vs) k (pos 0) ≡ p.re =
    before-sets out' (suc (suc k)) k vs (omega arith) ∙ get_or-set_other first (suc k) k p.im (pos 0) (λ e. omega arith)
    ∙ get_or-set_same out k p.re (pos 0) (omega arith) in
    let im : get_or (sets out' (suc (suc k)) vs) (suc k) (pos 0) ≡ p.im =
    before-sets out' (suc (suc k)) (suc k) vs (omega arith) ∙ get_or-set_same first (suc k) p.im (pos 0) (omega arith) in
    let rest : standing (sets out' (suc (suc k)) vs) (suc (suc k)) gs ≡ points_of m (after_group s g) gs =
    standing-sent m (after_group s g) gs out' (suc (suc k)) (omega arith) in
    simp towards_suc (ap₂ (λ (x : Point) (ds : List DataPoint). record { point = x; bits = g } ∷ ds) (λ i. record { re = re i; im = im i }) rest)

-- the data points of an accepted call are the points of the states that its groups are coded as
pub data_sent : (s t : Sender) (c : Send) → answer s c ≡ Ok t → data_of (answer s c) s c ≡ points_of s.mode s (grouped (width s.mode) c.bits)
data_sent s t c e =
    let w : ℕ = width s.mode in
    let a = accepted-call s c.bits (length c.lent) c.offset t e in
    let k = (send_ok s c.bits (length c.lent) c.offset a.none).1 in
    let r = k.room in
    ap (λ (x : Result Sender Refusal). data_of x s c) e
    ∙ ap (λ (ns : List ℤ). standing ns c.offset (grouped w c.bits)) (numbers_met s c.bits c.lent c.offset a.none)
    ∙ standing-sent s.mode s (grouped w c.bits) c.lent c.offset (omega (arith, length-grouped (width s.mode) c.bits))

-- A LIST OF CALLS MAKES ITS DATA POINTS ONE AFTER ANOTHER

-- data points made one after another from the sender s
abbrev pub Made : Sender → List DataPoint → Type 0
Made s [] = Unit {0}
Made s (d ∷ ds) =
    StateOk s × (length d.bits ≡ width s.mode) × T (every is_bit d.bits) × (d.point ≡ sent_point s.mode (after_group s d.bits).reference)
    × Made (after_group s d.bits) ds

made-groups : (m : ℕ) (s : Sender) (gs : List (List ℕ)) (rest : List DataPoint) → m ≡ s.mode → StateOk s → Whole (width m) gs → Made (after_groups s gs) rest
    → Made s (points_of m s gs ++ rest)
made-groups m s [] rest e k w r = r
made-groups m s (g ∷ gs) rest e k w r =
    let l : length g ≡ width s.mode = w.0 ∙ ap width e in (
      k,
      l,
      w.1,
      ap (λ (n : ℕ). sent_point n (after_group s g).reference) e,
      made-groups m (after_group s g) gs rest (e ∙ sym (group_mode s g)) (state_ok (after_group s g) (state_after_lem s g k l)) w.2 r,
    )

made-call : (s : Sender) (c : Send) (a : Result Sender Refusal) → answer s c ≡ a → (rest : List DataPoint) → Made (handed_on a s) rest → Made s (data_of a s c ++ rest)
made-call s c (Err n) e rest r = r
made-call s c (Ok t) e rest r =
    let a = accepted-call s c.bits (length c.lent) c.offset t e in
    let k = send_ok s c.bits (length c.lent) c.offset a.none in
    let gs : List (List ℕ) = grouped (width s.mode) c.bits in
    subst (λ (ds : List DataPoint). Made s (ds ++ rest)) (sym (data_sent s t c e) ∙ ap (λ (x : Result Sender Refusal). data_of x s c) e)
    (made-groups s.mode s gs rest refl k.0 (groups-accepted s.mode c.bits (length c.lent) c.offset k.1)
    (subst (λ (x : Sender). Made x rest) a.after r))

pub made : (s : Sender) (cs : List Send) → Made s (data_points s cs)
made s [] = tt
made s (c ∷ cs) = made-call s c (answer s c) refl (data_points (handed_on (answer s c) s) cs) (made (handed_on (answer s c) s) cs)

-- data points made one after another by a sender of this mode and role
pub record From (m role : ℕ) (ds : List DataPoint) : Type 0 where
  pub sender : Sender
  pub mode : sender.mode ≡ m
  pub role_is : sender.role ≡ role
  pub made_by : Made sender ds

made_later : (s : Sender) (xs ys : List DataPoint) → Made s (xs ++ ys) → From s.mode s.role ys
made_later s [] ys k = record { sender = s; mode = refl; role_is = refl; made_by = k }
made_later s (x ∷ xs) ys k =
    let f = made_later (after_group s x.bits) xs ys k.4 in
    record { sender = f.sender; mode = f.mode ∙ group_mode s x.bits; role_is = f.role_is ∙ group_role s x.bits; made_by = f.made_by }

made_front : (s : Sender) (xs ys : List DataPoint) → Made s (xs ++ ys) → Made s xs
made_front s [] ys k = tt
made_front s (x ∷ xs) ys k = (k.0, k.1, k.2, k.3, made_front (after_group s x.bits) xs ys k.4)

-- "Consecutive ones follow one another in one sender's list, across its calls"
pub consecutive : (s : Sender) (cs : List Send) (pre ds post : List DataPoint) → data_points s cs ≡ pre ++ (ds ++ post) → From s.mode s.role ds
consecutive s cs pre ds post e =
    let f = made_later s pre (ds ++ post) (subst (Made s) e (made s cs)) in
    record { sender = f.sender; mode = f.mode; role_is = f.role_is; made_by = made_front f.sender ds post f.made_by }
