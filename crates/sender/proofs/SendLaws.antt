-- Sending groups: one turn of the point writer's loop, and what a lent part becomes. Assumes nothing.
use Prim.Native.Nat.{ℕ, zero, suc, ◌+◌, ◌*◌, ◌-◌, ◌/◌, ◌%◌, ◌<◌, ◌≤◌, min}
use mathlib.Core.Path.{◌≡◌, refl, sym, ◌∙◌, ap, ap₂, subst}
use mathlib.Core.Bool.{false}
use mathlib.Core.List.{List, [], ◌∷◌, ◌++◌}
use native.Mathlib.Numerals.{add-one, towards_suc}
use native.Mathlib.Nat.{div-eq_of_lt, div-eq-sub-div}
use native.Mathlib.Omega.{arith}
use lib.Dec.{T, ltb, ltb→lt}
use lib.IntN.{ℤ, pos}
use lib.ListN.{length, get_or, take, drop, set, length-set, length-append}
use Rattle.std.proofs.lemmas.List.{take_at, drop_at}
use lib.Seq.{sets}
use Rattle.line.specs.Table.{every, Tabled}
use Rattle.line.specs.Mode.{column, width, face, guarded, capacity}
use Rattle.coding.specs.Code.{coded}
use Rattle.coding.proofs.CodeLaws.{coded-column}
use Rattle.line.specs.declared.Point.{Point}
use Rattle.line.specs.Point.{at, sent_point}
use Rattle.line.proofs.PointLaws.{sent_round}
use Rattle.line.proofs.TableLaws.{and_left, and_right, every_take, every_drop}
use Rattle.scrambler.specs.declared.Register.{Register}
use Rattle.scrambler.specs.declared.Scrambled.{Scrambled}
use Rattle.scrambler.specs.Bits.{is_bit, bits, value}
use Rattle.scrambler.specs.Register.{register, counting, count_after, push, pushes}
use Rattle.scrambler.specs.Scramble.{scramble}
use Rattle.scrambler.specs.Group.{scrambled, guard_mode}
use Rattle.scrambler.proofs.BitLaws.{bits-value}
use Rattle.scrambler.proofs.RegisterLaws.{same-register}
use Rattle.scrambler.proofs.GroupLaws.{plain_column}
use Rattle.training.specs.Coder.{numbers}
use Rattle.training.proofs.CoderLaws.{code_law}
use Rattle.sender.specs.declared.Sender.{Sender}
use Rattle.sender.specs.Sender.{coder_of, sender_of, groups, grouped, after_group, after_groups, sent_states}

-- BITS

-- past the end too, where 0 is read
pub bit_at : (xs : List ℕ) (i : ℕ) → T (every is_bit xs) → get_or xs i 0 < 2
unfolding is_bit
bit_at [] i t = omega arith
bit_at (x ∷ xs) zero t = ltb→lt x 2 (and_left (ltb x 2) (every is_bit xs) t)
bit_at (x ∷ xs) (suc i) t = bit_at xs i (and_right (ltb x 2) (every is_bit xs) t)

-- the number of a group of two, three or four bits
pub value_2 : (xs : List ℕ) → length xs ≡ 2 → 2 * get_or xs 0 0 + get_or xs 1 0 ≡ value xs
value_2 [] e = absurd (omega arith)
value_2 (a ∷ []) e = absurd (omega arith)
value_2 (a ∷ b ∷ []) e = omega arith
value_2 (a ∷ b ∷ c ∷ xs) e = absurd (omega arith)

pub value_3 : (xs : List ℕ) → length xs ≡ 3 → 2 * (2 * get_or xs 0 0 + get_or xs 1 0) + get_or xs 2 0 ≡ value xs
value_3 [] e = absurd (omega arith)
value_3 (a ∷ []) e = absurd (omega arith)
value_3 (a ∷ b ∷ []) e = absurd (omega arith)
value_3 (a ∷ b ∷ c ∷ []) e = omega arith
value_3 (a ∷ b ∷ c ∷ d ∷ xs) e = absurd (omega arith)

pub value_4 : (xs : List ℕ) → length xs ≡ 4 → 2 * (2 * (2 * get_or xs 0 0 + get_or xs 1 0) + get_or xs 2 0) + get_or xs 3 0 ≡ value xs
value_4 [] e = absurd (omega arith)
value_4 (a ∷ []) e = absurd (omega arith)
value_4 (a ∷ b ∷ []) e = absurd (omega arith)
value_4 (a ∷ b ∷ c ∷ []) e = absurd (omega arith)
value_4 (a ∷ b ∷ c ∷ d ∷ []) e = omega arith
value_4 (a ∷ b ∷ c ∷ d ∷ x ∷ xs) e = absurd (omega arith)

-- A GROUP

pub group_law : (s : Sender) (plain r : ℕ) (d : Scrambled) → d ≡ scrambled s.mode s.role s.line plain
    → r ≡ coded s.mode (face s.mode s.reference) d.line
    → ◌≡◌ {A = Sender} (record { mode = s.mode; role = s.role; reference = r; line = d.next }) (after_group s (bits (width s.mode) plain))
unfolding after_group
group_law s plain r d e f = ap (sender_of s.mode s.role) (code_law s.mode s.role plain r (coder_of s) d e f)

pub group_mode : (s : Sender) (g : List ℕ) → (after_group s g).mode ≡ s.mode
unfolding after_group
group_mode s g = refl

pub group_role : (s : Sender) (g : List ℕ) → (after_group s g).role ≡ s.role
unfolding after_group
group_role s g = refl

-- a full register stays full
stays_full : (m : ℕ) (h : Register) (bs : List ℕ) → h.held.0 ≡ capacity m → (pushes m h bs).held.0 ≡ capacity m
unfolding push
stays_full m h [] e = e
stays_full m h (b ∷ bs) e = stays_full m (push m h b) bs (omega arith)

-- WITH THE GUARD

pub counted-group : (s : Sender) (plain r : ℕ) (d : Scrambled) → guard_mode s.mode ≡ s.mode → s.line.held.0 ≡ capacity s.mode
    → d ≡ scrambled (guard_mode s.mode) s.role (register s.line.bits (capacity (guard_mode s.mode)) s.line.count.0) plain
    → r ≡ coded s.mode (face s.mode s.reference) d.line
    → ◌≡◌ {A = Sender} (record { mode = s.mode; role = s.role; reference = r; line = d.next }) (after_group s (bits (width s.mode) plain)) × (d.next.held.0 ≡ capacity s.mode)
unfolding scrambled
counted-group s plain r d em eh ed er =
    let h : register s.line.bits (capacity s.mode) s.line.count.0 ≡ s.line = same-register _ s.line refl (sym eh) refl in
    let e : d ≡ scrambled s.mode s.role s.line plain =
    ed ∙ ap (λ (k : ℕ). scrambled k s.role (register s.line.bits (capacity k) s.line.count.0) plain) em ∙ ap (λ (k : Register). scrambled s.mode s.role k plain) h in
    (group_law s plain r d e er, ap (λ (k : Scrambled). k.next.held.0) e ∙ stays_full s.mode s.line (scramble s.mode s.role s.line (bits (width s.mode) plain)) eh)

-- WITHOUT THE GUARD

-- nothing is counted
stays_zero : (m : ℕ) (h : Register) (bs : List ℕ) → guarded m ≡ false → h.count.0 ≡ 0 → (pushes m h bs).count.0 ≡ 0
unfolding push count_after counting
stays_zero m h [] g e = e
stays_zero m h (b ∷ bs) g e = stays_zero m (push m h b) bs g (rw g refl)

-- a sender with another reference and register; with the bits of a full register, which are all that goes round
abbrev pub with_line : Sender → ℕ → Register → Sender
with_line s x h = record { mode = s.mode; role = s.role; reference = x; line = h }

abbrev pub carrying : Sender → ℕ → ℕ → Sender
carrying s x n = with_line s x (register n s.line.held.0 0)

module _ (s : Sender) (f : s.line ≡ register s.line.bits (capacity s.mode) 0) where
  full : s.line.held.0 ≡ capacity s.mode
  full = ap (λ (h : Register). h.held.0) f

  pub carried : carrying s s.reference s.line.bits ≡ s
  carried = ap (with_line s s.reference) (same-register _ s.line refl refl (sym (ap (λ (h : Register). h.count.0) f)))

  pub plain_law : (x n plain r : ℕ) (h : Register) (d : Scrambled) → guarded s.mode ≡ false → h ≡ register n s.line.held.0 0
      → d ≡ scrambled (column s.mode) s.role h plain
      → r ≡ coded (min s.mode 4) (face (min s.mode 4) x) d.line
      → carrying s r d.next.bits ≡ after_group (carrying s x n) (bits (width s.mode) plain)
  unfolding scrambled
  plain_law x n plain r h d p eh ed er =
      let k : Register = register n s.line.held.0 0 in
      let c = plain_column s.mode p in
      let e : d ≡ scrambled s.mode s.role k plain =
      ed ∙ ap₂ (λ (i : ℕ) (j : Register). scrambled i s.role j plain) c eh in
      let l : List ℕ = scramble s.mode s.role k (bits (width s.mode) plain) in
      let next : register d.next.bits s.line.held.0 0 ≡ d.next =
      same-register _ d.next refl (full ∙ sym (stays_full s.mode k l full) ∙ ap (λ (i : Scrambled). i.next.held.0) (sym e)) (sym (stays_zero s.mode k l p refl) ∙ ap (λ (i : Scrambled). i.next.count.0) (sym e)) in
      ap (with_line s r) next ∙ group_law (carrying s x n) plain r d e (er ∙ coded-column s.mode s.mode x d.line (sym c))

-- A LIST OF GROUPS

-- the bits of the number of a group that is whole
whole-bits : (w n : ℕ) (g : List ℕ) → T (every is_bit g) → length g ≡ w → n ≡ value g → bits w n ≡ g
whole-bits w n g t l e = ap₂ bits (sym l) e ∙ bits-value g t

-- one group less to send
pub less : (w n : ℕ) → 0 < w → (w + n) / w ≡ suc (n / w)
less w n h = div-eq-sub-div h (let z : w ≤ w + n = omega arith in z) ∙ ap (λ (k : ℕ). k / w + 1) (let z : w + n - w ≡ n = omega arith in z) ∙ add-one (n / w)

groups-step : (w : ℕ) (rest g more : List ℕ) → 0 < w → rest ≡ g ++ more → length g ≡ w → grouped w rest ≡ g ∷ grouped w more
unfolding grouped
groups-step w rest g more h e l =
    ap (grouped w) e ∙ ap (λ (n : ℕ). groups w n (g ++ more)) (ap (λ (n : ℕ). n / w) (length-append g more ∙ ap (λ (n : ℕ). n + length more) l) ∙ less w (length more) h)
    ∙ ap₂ (λ (a b : List ℕ). a ∷ groups w (length more / w) b) (take_at g more w l) (drop_at g more w l)

-- the point that the writer looks up
pub looked_up : (m s : ℕ) (ps : List Point) → Tabled 16 (sent_point m) (at (pos 0) (pos 0)) ps → get_or ps (s % 16) (at (pos 0) (pos 0)) ≡ sent_point m s
looked_up m s ps t = t.at (s % 16) (omega arith) ∙ sent_round m s

-- the numbers of a point, and the rest
pub point_step : (m s : ℕ) (ss : List ℕ) (out : List ℤ) (k : ℕ) (re im : ℤ) → re ≡ (sent_point m s).re → im ≡ (sent_point m s).im
    → sets out k (numbers m (s ∷ ss)) ≡ sets (set (set out k re) (k + 1) im) (k + 2) (numbers m ss)
point_step m s ss out k re im e f = rw (e, f) (simp towards_suc)

-- what is left to send and to write, of data bits from t₀ on
pub record Left (m w : ℕ) (ds : List ℕ) (t₀ : Sender) (out₀ : List ℤ) (t : Sender) (out : List ℤ) (k : ℕ) (rest : List ℕ) : Type 0 where
  pub mode : t.mode ≡ m
  pub of_bits : T (every is_bit rest)
  pub room_left : 2 * k + 2 * (length rest / w) ≤ length out
  pub same_length : length out ≡ length out₀
  pub sender : after_groups t (grouped w rest) ≡ after_groups t₀ (grouped w ds)
  pub written : sets out (2 * k) (numbers m (sent_states t (grouped w rest))) ≡ sets out₀ 0 (numbers m (sent_states t₀ (grouped w ds)))

pub left_all : (m w : ℕ) (ds : List ℕ) (t₀ t : Sender) (out : List ℤ) → t ≡ t₀ → t.mode ≡ m → T (every is_bit ds) → 2 * (length ds / w) ≤ length out
    → Left m w ds t₀ out t out 0 ds
left_all m w ds t₀ t out q e b h =
    record {
      mode = e;
      of_bits = b;
      room_left = omega arith;
      same_length = refl;
      sender = ap (λ (x : Sender). after_groups x (grouped w ds)) q;
      written = ap (λ (x : Sender). sets out 0 (numbers m (sent_states x (grouped w ds)))) q;
    }

module _ (m w : ℕ) (ds : List ℕ) (t₀ : Sender) (out₀ : List ℤ) (t : Sender) (out : List ℤ) (k : ℕ) (rest : List ℕ) (i : Left m w ds t₀ out₀ t out k rest) where
  -- the next group and those behind it
  module _ (g more : List ℕ) (h : 0 < w) (e : rest ≡ g ++ more) (l : length g ≡ w) where
    -- its two numbers have room
    pub group_there : 2 * k + 2 + 2 * (length more / w) ≤ length out
    group_there =
        let n : length rest / w ≡ suc (length more / w) =
        ap (λ (n : ℕ). n / w) (ap length e ∙ length-append g more ∙ ap (λ (n : ℕ). n + length more) l) ∙ less w (length more) h in
        omega (arith, i.room_left)

    -- a group of a writer has two to four bytes, and they are bits
    pub group-bits : 2 ≤ w → w ≤ 4 → (2 ≤ length g) × (length g ≤ 4) × T (every is_bit g)
    group-bits a b = (omega arith, omega arith, subst (λ (s : List ℕ). T (every is_bit s)) (ap (take w) e ∙ take_at g more w l) (every_take is_bit w rest i.of_bits))

    pub left_less : (u : Sender) (v : ℕ) (re im : ℤ) → w ≡ width m → v ≡ value g
        → u ≡ after_group t (bits (width t.mode) v) → re ≡ (sent_point m u.reference).re → im ≡ (sent_point m u.reference).im
        → Left m w ds t₀ out₀ u (set (set out (2 * k) re) (2 * k + 1) im) (k + 1) more
    left_less u v re im ew ev eu er ei =
        let gb : T (every is_bit g) = subst (λ (s : List ℕ). T (every is_bit s)) (ap (take w) e ∙ take_at g more w l) (every_take is_bit w rest i.of_bits) in
        let z : bits (width t.mode) v ≡ g = ap (λ (x : ℕ). bits x v) (ap width i.mode ∙ sym ew) ∙ whole-bits w v g gb l ev in
        let y : u ≡ after_group t g = eu ∙ ap (after_group t) z in
        let after : List (List ℕ) = grouped w more in
        let s = groups-step w rest g more h e l in
        let there = group_there in
        let j : 2 * (k + 1) ≡ 2 * k + 2 = omega arith in
        record {
          mode = ap (λ (x : Sender). x.mode) y ∙ group_mode t g ∙ i.mode;
          of_bits = subst (λ (s : List ℕ). T (every is_bit s)) (ap (drop w) e ∙ drop_at g more w l) (every_drop is_bit w rest i.of_bits);
          room_left = simp length-set (omega arith);
          same_length = simp length-set i.same_length;
          sender = ap (λ (x : Sender). after_groups x after) y ∙ sym (ap (after_groups t) s) ∙ i.sender;
          written = ap (λ (n : ℕ). sets (set (set out (2 * k) re) (2 * k + 1) im) n (numbers m (sent_states u after))) j
              ∙ sym (point_step m u.reference (sent_states u after) out (2 * k) re im er ei)
              ∙ ap (λ (x : Sender). sets out (2 * k) (numbers m (x.reference ∷ sent_states x after))) y
              ∙ sym (ap (λ (gs : List (List ℕ)). sets out (2 * k) (numbers m (sent_states t gs))) s) ∙ i.written;
        }

    -- the same, where the numbers of the point are said otherwise
    pub left_next : (u : Sender) (v j n : ℕ) (re im : ℤ) → j ≡ k → n ≡ k + 1 → w ≡ width m → v ≡ value g
        → u ≡ after_group t (bits (width t.mode) v) → re ≡ (sent_point m u.reference).re → im ≡ (sent_point m u.reference).im
        → Left m w ds t₀ out₀ u (set (set out (2 * j) re) (2 * j + 1) im) n more
    left_next u v j n re im ej en ew ev eu er ei = rw (ej, en) (left_less u v re im ew ev eu er ei)

  none_left : (n : ℕ) → length rest < n → n ≡ w → grouped w rest ≡ []
  unfolding grouped
  none_left n h e = ap (λ (k : ℕ). groups w k rest) (div-eq_of_lt (let z : length rest < w = omega arith in z))

  pub sent_all : (n : ℕ) → length rest < n → n ≡ w → t ≡ after_groups t₀ (grouped w ds)
  sent_all n h e = sym (ap (after_groups t) (none_left n h e)) ∙ i.sender

  pub wrote_all : (n : ℕ) → length rest < n → n ≡ w → out ≡ sets out₀ 0 (numbers m (sent_states t₀ (grouped w ds)))
  wrote_all n h e = sym (ap (λ (gs : List (List ℕ)). sets out (2 * k) (numbers m (sent_states t gs))) (none_left n h e)) ∙ i.written
