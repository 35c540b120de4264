-- What two receivers read from lists of points, whatever they took before. Assumes nothing.
use Prim.Native.Nat.{ℕ, suc, ◌*◌, ◌-◌, ◌≤◌}
use mathlib.Core.Path.{◌≡◌, refl, sym, ◌∙◌, ap, ap₂, subst}
use mathlib.Core.Bool.{Bool, true, false, cond, false≢true}
use mathlib.Core.Logic.{◌↔◌}
use mathlib.Core.List.{List, [], ◌∷◌, map}
use native.Mathlib.Nat.{le_refl}
use native.Mathlib.Omega.{arith}
use lib.Dec.{T}
use lib.ListN.{length, drop, length-map}
use lib.Seq.{drop-nil}
use Rattle.line.specs.Table.{every}
use Rattle.line.specs.Mode.{is_mode, is_state, guarded, width, far_tap, capacity}
use Rattle.line.proofs.Tests.{by_test}
use Rattle.line.proofs.ByMode.{by_all}
use Rattle.line.proofs.StateLaws.{mode_cases}
use Rattle.line.proofs.TableLaws.{and_intro, map-drop}
use Rattle.scrambler.specs.declared.Register.{Register}
use Rattle.scrambler.specs.Register.{register, fresh}
use Rattle.scrambler.specs.Scramble.{Datum, descramble}
use Rattle.receiver.specs.Calls.{Heard, decided_as, data_of, decided_states, lines_from2, data_heard, row}
use Rattle.receiver.specs.Turn.{lines, Turned}
use Rattle.receiver.proofs.ShapeLaws.{Shape}
use Rattle.receiver.proofs.TurnLaws.{lines→turned, turned→lines}
use Rattle.resync.specs.Assured.{assured_point, until_reset, unassured, data_from, assured_data, AllSettled}
use Rattle.resync.proofs.RowLaws.{drop-row, forget, forget_reset, all_settled, all_drop}

-- ASSURED DATA BITS

-- the assured point is past the second, and R line bits come before it, where there is no guard
pub enough : (m : ℕ) → 2 ≤ assured_point m
unfolding assured_point
enough m = by_all (λ (p : ℕ). 2 ≤ p) 6 5 14 8 (omega arith) (omega arith) (omega arith) (omega arith) m

enough_bits : (m : ℕ) → T (is_mode m) → guarded m ≡ false → capacity m ≤ (assured_point m - 2) * width m
unfolding assured_point guarded capacity far_tap width
enough_bits = mode_cases (λ m. guarded m ≡ false → capacity m ≤ (assured_point m - 2) * width m) (λ e. omega arith) (λ e. omega arith) (λ e. omega arith) (λ e. omega arith) (λ e. absurd (false≢true (sym e))) (λ e. absurd (false≢true (sym e)))

-- which the two cases of `unassured` are
pub unassured_plain : (m : ℕ) (bs : List ℕ) → guarded m ≡ false → unassured m bs ≡ (assured_point m - 2) * width m
unfolding unassured
unassured_plain m bs e = ap (λ (t : Bool). cond t (until_reset m fresh bs) ((assured_point m - 2) * width m)) e

unassured-guarded : (m : ℕ) (bs : List ℕ) → guarded m ≡ true → unassured m bs ≡ until_reset m fresh bs
unfolding unassured
unassured-guarded m bs e = ap (λ (t : Bool). cond t (until_reset m fresh bs) ((assured_point m - 2) * width m)) e

-- past them any register gives the same
assured_any : (m role : ℕ) (h h' : Register) (bs : List ℕ) → T (is_mode m) → drop (unassured m bs) (descramble m role h bs) ≡ drop (unassured m bs) (descramble m role h' bs)
assured_any m role h h' bs hm =
    by_test (guarded m)
    (λ e. rw (unassured-guarded m bs e) (forget_reset m role e h h' bs))
    (λ e. rw (unassured_plain m bs e) (forget m role ((assured_point m - 2) * width m) h h' bs e (enough_bits m hm e)))

-- the line bits of a list after its first point
abbrev pub line_row : ℕ → Heard → List Heard → List ℕ
line_row m x xs = row (lines m (decided_as m x.event) (decided_states m xs))

pub heard-row : (m role : ℕ) (x : Heard) (xs : List Heard) → Shape m role (x ∷ xs) → row (lines_from2 (x ∷ xs)) ≡ line_row m x xs
heard-row m role x xs k = ap row k.2.2.lines_are

-- the assured data bits, as any register gives them
pub data_any : (m role : ℕ) (x : Heard) (xs : List Heard) → Shape m role (x ∷ xs) → (h : Register)
    → assured_data m (x ∷ xs) ≡ drop (unassured m (line_row m x xs)) (descramble m role h (line_row m x xs))
data_any m role x xs k h =
    ap₂ (λ (bs : List ℕ) (ds : List Datum). drop (unassured m bs) ds) (heard-row m role x xs k) k.2.2.data_are
    ∙ assured_any m role k.2.0 h (line_row m x xs) k.0

-- without the guard they are those from the assured point on
pub from_point : (m role : ℕ) (A : List Heard) → Shape m role A → guarded m ≡ false → assured_data m A ≡ data_from (assured_point m) A
from_point m role [] k g = drop-nil (unassured m []) ∙ sym (ap data_heard (drop-nil {A = Heard} (assured_point m - 1)))
from_point m role (x ∷ xs) k g =
    let p : ℕ = assured_point m in
    let q = enough m in
    ap (λ (n : ℕ). drop n (data_heard xs)) (unassured_plain m (row (lines_from2 (x ∷ xs))) g)
    ∙ drop-row (width m) (p - 2) (map (λ (y : Heard). data_of y.answered) xs) k.2.2.sized
    ∙ ap row (sym (map-drop (λ (y : Heard). data_of y.answered) (p - 2) xs))
    ∙ ap (λ (n : ℕ). data_heard (drop n (x ∷ xs))) (let e : suc (p - 2) ≡ p - 1 = omega arith in e)

all_states : (m role : ℕ) (x : Heard) (xs : List Heard) → Shape m role (x ∷ xs) → T (every (is_state m) (decided_states m (x ∷ xs)))
all_states m role x xs k = and_intro (is_state m (decided_as m x.event)) (every (is_state m) (decided_states m xs)) k.1 k.2.2.states

-- equal line bits exactly when the states are turned
pub lines_iff : (m role : ℕ) (A B : List Heard) → Shape m role A → Shape m role B → length A ≡ length B
    → (lines_from2 A ≡ lines_from2 B ↔ Turned m (decided_states m A) (decided_states m B))
lines_iff m role [] [] j k l = (λ e. (0, tt), λ t. refl)
lines_iff m role [] (y ∷ ys) j k l = absurd (omega arith)
lines_iff m role (x ∷ xs) [] j k l = absurd (omega arith)
lines_iff m role (x ∷ xs) (y ∷ ys) j k l =
    let n : length (decided_states m (x ∷ xs)) ≡ length (decided_states m (y ∷ ys)) =
    length-map (x ∷ xs) (λ (z : Heard). decided_as m z.event) ∙ l ∙ sym (length-map (y ∷ ys) (λ (z : Heard). decided_as m z.event)) in (
      λ e. lines→turned m j.0 (decided_states m (x ∷ xs)) (decided_states m (y ∷ ys)) (all_states m role x xs j) (all_states m role y ys k) n
          (sym j.2.2.lines_are ∙ e ∙ k.2.2.lines_are),
      λ t. j.2.2.lines_are ∙ turned→lines m j.0 (decided_states m (x ∷ xs)) (decided_states m (y ∷ ys)) (all_states m role x xs j) t ∙ sym k.2.2.lines_are,
    )

pub turned_data : (m role : ℕ) (A B : List Heard) → Shape m role A → Shape m role B → length A ≡ length B
    → Turned m (decided_states m A) (decided_states m B) → assured_data m A ≡ assured_data m B
turned_data m role [] [] j k l t = refl
turned_data m role [] (y ∷ ys) j k l t = absurd (omega arith)
turned_data m role (x ∷ xs) [] j k l t = absurd (omega arith)
turned_data m role (x ∷ xs) (y ∷ ys) j k l t =
    let e : lines m (decided_as m x.event) (decided_states m xs) ≡ lines m (decided_as m y.event) (decided_states m ys) =
    turned→lines m j.0 (decided_states m (x ∷ xs)) (decided_states m (y ∷ ys)) (all_states m role x xs j) t in
    data_any m role x xs j fresh ∙ ap (λ (g : List (List ℕ)). drop (unassured m (row g)) (descramble m role fresh (row g))) e
    ∙ sym (data_any m role y ys k fresh)

pub data_settled : (m role : ℕ) (A : List Heard) → Shape m role A → AllSettled (assured_data m A)
data_settled m role [] k = rw (drop-nil {A = Datum} (unassured m [])) tt
data_settled m role (x ∷ xs) k =
    let h : Register = register 0 (capacity m) 0 in
    subst AllSettled (sym (data_any m role x xs k h))
    (all_drop _ (unassured m (line_row m x xs)) (descramble m role h (line_row m x xs)) (all_settled m role h (line_row m x xs) (le_refl (capacity m))))
