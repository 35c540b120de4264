-- No event of an accepted store is refused: its points are in range, its lost counts at least 1, and their sum is the
-- total, which four bytes hold. Assumes nothing.
use mathlib.Core.Path.{◌≡◌, refl, sym, ap, ◌∙◌, subst}
use mathlib.Core.Bool.{true, ◌&&◌}
use mathlib.Core.List.{List, [], ◌∷◌, map}
use Prim.Native.Nat.{ℕ, ◌+◌, ◌≤◌}
use native.Mathlib.Omega.{arith}
use lib.Dec.{T, leb, le→leb}
use lib.ListN.{get_or, drop}
use Rattle.line.specs.Table.{All}
use Rattle.line.specs.Mode.{is_mode, is_role}
use Rattle.line.specs.Point.{in_range}
use Rattle.line.specs.Refusal.{or_next}
use Rattle.line.proofs.RefusalLaws.{need_intro}
use Rattle.octets.specs.Number.{zeros}
use Rattle.line.proofs.Tests.{and_split}
use Rattle.receiver.specs.declared.Receiver.{Receiver}
use Rattle.receiver.specs.Receiver.{fresh_receiver, is_fresh, fields_ok, has_room, intervals, next}
use Rattle.receiver.specs.Receiver.{refusal as eventRefused, event_refusal as eventNeeds}
use Rattle.receiver.specs.Calls.{EachAccepted}
use Rattle.receiver.proofs.OutcomeLaws.{accepted-placed}
use Rattle.receiver.proofs.CallLaws.{Valid, no_refusal, next_valid}
use Rattle.store.specs.Chain.{sum_over}
use Rattle.store.specs.Layout.{Event, point, lost, rec}
use Rattle.store.specs.Layout.{intervals as intervalsIn}
use Rattle.store.specs.Store.{events, total, has_mark, head_ok, refusal}
use Rattle.store.proofs.Records.{total-at}
use Rattle.store.proofs.Sounds.{accepted_sound}
use Rattle.store.proofs.Fines.{Fine, events_fine, events_span}
use Rattle.listing.specs.Text.{taken, mode_in, role_in}
use Rattle.listing.specs.Laws.{NoneRefused}

-- ---- what a receiver refuses
needs_met : (s : Receiver) (e : Event) → Fine e → s.place.0 + intervals (taken e) ≤ 4294967295 → eventNeeds s (taken e) ≡ 0
unfolding eventNeeds has_room
needs_met s (point p) f h =
    need_intro (in_range p) 8 _ f (need_intro (has_room s 1) 16 0 (le→leb _ _ h) refl)
needs_met s (lost n) f h = need_intro (leb 1 n) 9 _ (le→leb 1 n f) (need_intro (has_room s n) 16 0 (le→leb _ _ h) refl)

taken_span : (e : Event) → intervals (taken e) ≡ intervalsIn e
taken_span (point p) = refl
taken_span (lost n) = refl

all_accepted : (es : List Event) (s : Receiver) → Valid s → All Fine es → s.place.0 + sum_over intervalsIn es ≤ 4294967295 → EachAccepted s (map taken es)
unfolding eventRefused
all_accepted [] s v f h = tt
all_accepted (e ∷ es) s v f h =
    let n : eventNeeds s (taken e) ≡ 0 = needs_met s e f.0 (omega (arith, taken_span e)) in
    let a : eventRefused s (taken e) ≡ 0 = ap (λ (k : ℕ). or_next k (eventNeeds s (taken e))) (no_refusal s v) ∙ n in
    (a, all_accepted es (next s (taken e)) (next_valid s v (taken e)) f.1 (omega (arith, taken_span e, accepted-placed s (taken e) a)))

-- ---- an accepted store
pub head_parts : (r : List ℕ) → head_ok r ≡ true → (is_mode (get_or r 4 0) ≡ true) × (is_role (get_or r 4 0) (get_or r 5 0) ≡ true)
unfolding head_ok
head_parts r e =
    let a = and_split (has_mark r && is_mode (get_or r 4 0) && is_role (get_or r 4 0) (get_or r 5 0)) (zeros (drop 12 r)) e in
    let b = and_split (has_mark r && is_mode (get_or r 4 0)) (is_role (get_or r 4 0) (get_or r 5 0)) a.0 in
    ((and_split (has_mark r) (is_mode (get_or r 4 0)) b.0).1, b.1)

fresh_valid : (r : List ℕ) → head_ok r ≡ true → Valid (fresh_receiver (get_or r 4 0) (get_or r 5 0))
unfolding fresh_receiver fields_ok is_fresh
fresh_valid r e =
    let h = head_parts r e in
    record { mode = subst T (sym h.0) tt; role = subst T (sym h.1) tt; fields = tt }

-- a total that four bytes hold is all that the bytes are asked for
pub heard-whole : (s : List ℕ) → refusal s ≡ 0 → total s ≤ 4294967295 → EachAccepted (fresh_receiver (mode_in s) (role_in s)) (map taken (events s))
unfolding fresh_receiver
heard-whole s acc h =
    all_accepted (events s) (fresh_receiver (mode_in s) (role_in s)) (fresh_valid (rec s 0) (accepted_sound s acc).head) (events_fine s acc)
    (omega (arith, events_span s acc))

pub none_refused : NoneRefused
none_refused s b acc = heard-whole s acc (omega (arith, total-at s, b 8, b 9, b 10, b 11))
