-- What a call answers and leaves in the lent bytes. Assumes nothing.
use Prim.Native.Nat.{ℕ, zero, suc, ◌+◌, ◌*◌, ◌/◌, ◌%◌, ◌≤◌, ◌<◌}
use mathlib.Core.Path.{◌≡◌, refl, sym, ap, ap₂, ◌∙◌}
use mathlib.Core.Logic.{⊎_elim}
use mathlib.Core.Bool.{Bool, true, false, ◌&&◌, cond}
use mathlib.Core.List.{List}
use native.Mathlib.Nat.{zero-add, div-add-mod', mul-le-mul_left}
use native.Mathlib.Omega.{arith}
use borrow.Author.Tests.{leb-true, le-leb, lt-leb}
use lib.Dec.{leb, eqb}
use lib.IntN.{ℤ}
use lib.ListN.{length, take, drop}
use lib.Seq.{sets, sets-eq, take-append_seam}
use Rattle.line.specs.Mode.{column, is_mode, is_role, width}
use Rattle.line.specs.Refusal.{named, numbered, answered, need, or_next, accepted, mode_refusal}
use Rattle.line.specs.Table.{every}
use Rattle.line.proofs.ByMode.{mode_short, mode_long, width_range}
use Rattle.line.proofs.RefusalLaws.{Listed, listed_need, listed_next, numbered_answer}
use Rattle.line.proofs.Tests.{and_split, lt_or_ge}
use Rattle.scrambler.specs.Bits.{is_bit}
use Rattle.training.specs.Training.{reversals, changes, intervals}
use Rattle.sender.specs.declared.Sender.{Sender}
use Rattle.std.specs.Prelude.{Result, Ok, Err}
use Rattle.line.specs.declared.refusal.Refusal.{Refusal}
use Rattle.line.specs.declared.refusal.Refusal.TheVariants.{Lent}
use Rattle.sender.specs.Sender.{fields_ok, has_room, state_refusal, data_refusal, send_refusal, after_bits, bit_numbers, send_answer, send_numbers}
use Rattle.sender.proofs.OpenLaws.{open_ok}
use Rattle.sender.proofs.RefusalLaws.{send_ok}
use Rattle.sender.specs.Open.{length_ok, open_refusal, opened, training_numbers, open_answer, open_numbers}
use Rattle.playback.specs.declared.Played.{Played}
use Rattle.playback.specs.Playback.{played, played_bytes, room_refusal, open_fault, open_played, open_bytes, sent_bits, send_fault, send_played, send_bytes}
use Rattle.playback.proofs.BlockLaws.{length_training, length-bits, sent-groups}

-- the numbers that were written at the front of others
front : (vs l : List ℤ) (n : ℕ) → length vs ≡ n → n ≤ length l → take n (sets l 0 vs) ≡ vs
front vs l n e h =
    ap (λ (k : ℕ). take k (sets l 0 vs)) (sym e)
    ∙ ap (take (length vs)) (sets-eq vs l 0 (omega arith))
    ∙ take-append_seam vs (drop (0 + length vs) l)

-- what a call of the sender with the number k, which would hand on t, says by its answer
ready_by : (k : ℕ) (t u : Sender) → answered k t ≡ Ok u → (u ≡ t) × (k ≡ 0)
ready_by zero t u e = (cc, refl)
ready_by (suc k) t u e = absurd (let q : ◌≡◌ {A = ℕ} 0 1 = cc in omega arith)

-- a call in two steps: the sender's number k, then the number c
module _ (n k c : ℕ) (t : Sender) (vs : List ℤ) (out : List ℕ) (e : n ≡ or_next k c) where
  call_refused : (j : Refusal) → answered k t ≡ Err j → (Err j ≡ played n t vs) × (out ≡ played_bytes n vs out)
  call_refused j a = go k e a
    where
      go : (i : ℕ) → n ≡ or_next i c → answered i t ≡ Err j → (Err j ≡ played n t vs) × (out ≡ played_bytes n vs out)
      go zero p q = absurd (let z : ◌≡◌ {A = ℕ} 0 1 = cc in omega arith)
      go (suc i) p q = let is : named (suc i) ≡ j = cc in (rw p (ap Err (sym is)), rw p)

  call_goes_on : k ≡ 0 → n ≡ c
  call_goes_on z = e ∙ ap (λ (i : ℕ). or_next i c) z

-- THE NUMBERS ARE OF THE LIST

none_listed : Listed 0
none_listed h = absurd (h refl)

listed_mode : (m role : ℕ) → Listed (mode_refusal m role)
unfolding mode_refusal named
listed_mode m role = listed_need (is_mode m) 1 _ (λ h. refl) (listed_need (is_role m role) 2 0 (λ h. refl) none_listed)

pub open_numbered : (m role n lent : ℕ) (r : Result Played Refusal) → r ≡ open_played m role n lent → numbered r ≡ open_fault m role n lent
unfolding open_played open_fault open_refusal named
open_numbered m role n lent r e =
    ap numbered e ∙ numbered_answer (open_fault m role n lent) _
    (listed_next _ _ (listed_mode m role) (listed_need (length_ok m n) 3 _ (λ h. refl) (listed_need (has_room (intervals m n) (lent / 2) 0) 7 0 (λ h. refl) none_listed)))

pub send_numbered : (s : Sender) (ds : List ℕ) (lent : ℕ) (r : Result Played Refusal) → r ≡ send_played s ds lent → numbered r ≡ send_fault s ds lent
unfolding send_played send_fault send_refusal state_refusal data_refusal named
send_numbered s ds lent r e =
    ap numbered e ∙ numbered_answer (send_fault s ds lent) _
    (listed_next _ _ (listed_next _ _ (listed_next _ _ (listed_mode s.mode s.role) (listed_need (fields_ok s) 4 0 (λ h. refl) none_listed))
    (listed_need (every is_bit (sent_bits s ds)) 5 _ (λ h. refl) (listed_need _ 6 _ (λ h. refl) (listed_need _ 7 0 (λ h. refl) none_listed))))
    (listed_need (leb (length ds) 8192) 7 0 (λ h. refl) none_listed))

-- ROOM

room_small : (count lent : ℕ) → count ≤ lent / 2 → room_refusal count lent ≡ 0
unfolding room_refusal
room_small count lent h = rw (le-leb count (lent / 2) h)

pub handed : (t : Sender) (zs : List ℤ) (out next : List ℕ) → length zs ≤ length out / 2 → next ≡ played_bytes 0 zs out
    → (Ok (record { next = t; count = 2 * length zs }) ≡ played (room_refusal (length zs) (length out)) t zs) × (next ≡ played_bytes (room_refusal (length zs) (length out)) zs out)
handed t zs out next h e = let z = room_small (length zs) (length out) h in (rw z, e ∙ rw z)

pub not_handed : (t : Sender) (zs : List ℤ) (out : List ℕ) → length out / 2 < length zs
    → (Err Lent ≡ played (room_refusal (length zs) (length out)) t zs) × (out ≡ played_bytes (room_refusal (length zs) (length out)) zs out)
unfolding room_refusal named
not_handed t zs out h = let z = lt-leb (length zs) (length out / 2) h in (rw z, rw z)

-- OPENING

most-changes : (n : ℕ) → reversals n + changes n + 8 ≤ 8464
unfolding reversals changes
most-changes n = go (eqb n 0)
  where
    go : (b : Bool) → cond b 14 50 + cond b 58 1074 + 8 ≤ 8464
    go true = omega arith
    go false = omega arith

-- the longest training
longest : (m n : ℕ) → length_ok m n ≡ true → intervals m n ≤ 8464
unfolding length_ok intervals
longest m n e = ⊎_elim long short (lt_or_ge 2 (column m))
  where
    long : 2 < column m → intervals m n ≤ 8464
    long h =
        let l : (leb 1280 n && leb n 8192) ≡ true = mode_long (leb n 1) (leb 1280 n && leb n 8192) m (column m) refl h ∙ e in
        omega (arith, mode_long (reversals n + changes n + 8) (272 + n) m (column m) refl h, leb-true n 8192 (and_split (leb 1280 n) (leb n 8192) l).1)

    short : column m ≤ 2 → intervals m n ≤ 8464
    short h = omega (arith, mode_short (reversals n + changes n + 8) (272 + n) m (column m) refl h, most-changes n)

open_steps : (a : ℕ) (l b d : Bool) → (l ≡ true → b ≡ true) → or_next a (need l 3 (need d 7 0)) ≡ or_next (or_next a (need l 3 (need b 7 0))) (need d 7 0)
open_steps zero true b d h = rw (h refl)
open_steps zero false b d h = refl
open_steps (suc a) l b d h = refl

module _ (m role n : ℕ) where
  enough : length_ok m n ≡ true → has_room (intervals m n) 16928 0 ≡ true
  unfolding has_room
  enough e = le-leb (0 + 2 * intervals m n) 16928 (omega (arith, longest m n e))

  open_two : (lent : ℕ) → open_fault m role n lent ≡ or_next (open_refusal m role n 16928 0) (room_refusal (2 * intervals m n) lent)
  unfolding open_fault open_refusal room_refusal has_room
  open_two lent =
      open_steps (mode_refusal m role) (length_ok m n) (leb (0 + 2 * intervals m n) 16928) (leb (0 + 2 * intervals m n) (lent / 2)) enough
      ∙ ap (λ (c : ℕ). or_next (open_refusal m role n 16928 0) (need (leb c (lent / 2)) 7 0)) (zero-add (2 * intervals m n))

  -- the sender opened with the numbers l, as many as the longest training has; r is what it answered
  module _ (l : List ℤ) (r : Result Sender Refusal) (size : length l ≡ 16928) (a : r ≡ open_answer m role n (length l) 0) where
    open_said : (x : Result Sender Refusal) → r ≡ x → answered (open_refusal m role n 16928 0) (opened m role n) ≡ x
    unfolding open_answer
    open_said x e = ap (λ (k : ℕ). answered (open_refusal m role n k 0) (opened m role n)) (sym size) ∙ sym a ∙ e

    pub open_refused : (j : Refusal) (out : List ℕ) → r ≡ Err j → (Err j ≡ open_played m role n (length out)) × (out ≡ open_bytes m role n out)
    unfolding open_played open_bytes
    open_refused j out e =
        call_refused (open_fault m role n (length out)) (open_refusal m role n 16928 0) (room_refusal (2 * intervals m n) (length out)) (opened m role n) (training_numbers m role n) out
        (open_two (length out)) j (open_said (Err j) e)

    module _ (t : Sender) (e : r ≡ Ok t) where
      open_free : (t ≡ opened m role n) × (open_refusal m role n 16928 0 ≡ 0)
      open_free = ready_by (open_refusal m role n 16928 0) (opened m role n) t (open_said (Ok t) e)

      pub open_fits : (k : ℕ) → k ≡ intervals m n → 2 * k ≤ 16928
      open_fits k h = omega (arith, (open_ok m role n 16928 0 open_free.1).room)

      pub open_done : (k : ℕ) (zs : List ℤ) (out next : List ℕ) (p : Result Played Refusal) → k ≡ intervals m n → zs ≡ open_numbers m role n l 0
          → p ≡ played (room_refusal (length (take (2 * k) zs)) (length out)) t (take (2 * k) zs)
          → next ≡ played_bytes (room_refusal (length (take (2 * k) zs)) (length out)) (take (2 * k) zs) out
          → (p ≡ open_played m role n (length out)) × (next ≡ open_bytes m role n out)
      unfolding open_played open_bytes open_numbers
      open_done k zs out next p h w x y =
          let z : open_refusal m role n (length l) 0 ≡ 0 = ap (λ (i : ℕ). open_refusal m role n i 0) size ∙ open_free.1 in
          let c : length (training_numbers m role n) ≡ 2 * k = omega (arith, length_training m role n) in
          let v : take (2 * k) zs ≡ training_numbers m role n =
          ap (take (2 * k)) (w ∙ ap (λ (i : ℕ). accepted i (sets l 0 (training_numbers m role n)) l) z)
          ∙ front (training_numbers m role n) l (2 * k) c (omega (arith, open_fits k h)) in
          let f : room_refusal (length (take (2 * k) zs)) (length out) ≡ open_fault m role n (length out) =
          ap (λ (i : ℕ). room_refusal i (length out)) (ap length v ∙ length_training m role n)
          ∙ sym (call_goes_on (open_fault m role n (length out)) (open_refusal m role n 16928 0) (room_refusal (2 * intervals m n) (length out)) t (take (2 * k) zs) out (open_two (length out)) open_free.1) in (
            x ∙ ap₂ (λ (i : ℕ) (q : List ℤ). played i t q) f v ∙ ap (λ (u : Sender). played (open_fault m role n (length out)) u (training_numbers m role n)) open_free.0,
            y ∙ ap₂ (λ (i : ℕ) (q : List ℤ). played_bytes i q out) f v,
          )

-- SENDING

-- a group has two bits or more
half_at_most : (n w : ℕ) → 2 ≤ w → 2 * (n / w) ≤ n
half_at_most n w h = omega (arith, div-add-mod' n w, mul-le-mul_left (n / w) h)

send_steps : (a : ℕ) (bits whole b d z : Bool) → (z ≡ true → b ≡ true)
    → or_next (or_next a (need bits 5 (need whole 6 (need d 7 0)))) (need z 7 0) ≡ or_next (or_next a (need bits 5 (need whole 6 (need b 7 0)))) (need z 7 (need d 7 0))
send_steps zero true true true true true h = refl
send_steps zero true true true true false h = refl
send_steps zero true true true false true h = refl
send_steps zero true true true false false h = refl
send_steps zero true true false d true h = absurd (let q : ◌≡◌ {A = Bool} false true = h refl in let w : ◌≡◌ {A = ℕ} 0 1 = cc in omega arith)
send_steps zero true true false true false h = refl
send_steps zero true true false false false h = refl
send_steps zero true false b d z h = refl
send_steps zero false whole b d z h = refl
send_steps (suc a) bits whole b d z h = refl

-- what follows the sender's number
abbrev rest_fault : Sender → List ℕ → ℕ → ℕ
rest_fault s ds lent = need (leb (length ds) 8192) 7 (room_refusal (2 * (length ds / width s.mode)) lent)

module _ (s : Sender) (ds : List ℕ) where
  few : leb (length ds) 8192 ≡ true → leb (0 + 2 * (length (sent_bits s ds) / width s.mode)) 8192 ≡ true
  few e =
      le-leb (0 + 2 * (length (sent_bits s ds) / width s.mode)) 8192
      (omega (arith, leb-true (length ds) 8192 e, sent-groups s ds, half_at_most (length ds) (width s.mode) (width_range s.mode).0))

  send_two : (lent : ℕ) → send_fault s ds lent ≡ or_next (send_refusal s (sent_bits s ds) 8192 0) (rest_fault s ds lent)
  unfolding send_fault send_refusal data_refusal room_refusal has_room
  send_two lent =
      send_steps (state_refusal s) (every is_bit (sent_bits s ds)) (eqb (length (sent_bits s ds) % width s.mode) 0)
      (leb (0 + 2 * (length (sent_bits s ds) / width s.mode)) 8192) (leb (0 + 2 * (length (sent_bits s ds) / width s.mode)) (lent / 2)) (leb (length ds) 8192) few
      ∙ ap (λ (c : ℕ). or_next (send_refusal s (sent_bits s ds) 8192 0) (need (leb (length ds) 8192) 7 (need (leb c (lent / 2)) 7 0)))
      (zero-add (2 * (length (sent_bits s ds) / width s.mode)) ∙ ap (λ (k : ℕ). 2 * k) (sent-groups s ds))

  -- the sender given the numbers l; r is what it answered
  module _ (l : List ℤ) (r : Result Sender Refusal) (size : length l ≡ 8192) (a : r ≡ send_answer s (sent_bits s ds) (length l) 0) where
    send_said : (x : Result Sender Refusal) → r ≡ x → answered (send_refusal s (sent_bits s ds) 8192 0) (after_bits s (sent_bits s ds)) ≡ x
    unfolding send_answer
    send_said x e = ap (λ (k : ℕ). answered (send_refusal s (sent_bits s ds) k 0) (after_bits s (sent_bits s ds))) (sym size) ∙ sym a ∙ e

    pub send_refused : (j : Refusal) (out : List ℕ) → r ≡ Err j → (Err j ≡ send_played s ds (length out)) × (out ≡ send_bytes s ds out)
    unfolding send_played send_bytes
    send_refused j out e =
        call_refused (send_fault s ds (length out)) (send_refusal s (sent_bits s ds) 8192 0) (rest_fault s ds (length out)) (after_bits s (sent_bits s ds)) (bit_numbers s (sent_bits s ds)) out
        (send_two (length out)) j (send_said (Err j) e)

    module _ (t : Sender) (e : r ≡ Ok t) where
      send_free : (t ≡ after_bits s (sent_bits s ds)) × (send_refusal s (sent_bits s ds) 8192 0 ≡ 0)
      send_free = ready_by (send_refusal s (sent_bits s ds) 8192 0) (after_bits s (sent_bits s ds)) t (send_said (Ok t) e)

      send_goes_on : (lent : ℕ) → send_fault s ds lent ≡ rest_fault s ds lent
      send_goes_on lent = send_two lent ∙ ap (λ (i : ℕ). or_next i (rest_fault s ds lent)) send_free.1

      pub send_fits : (k : ℕ) → k ≡ length ds / width s.mode → 2 * k ≤ 8192
      send_fits k h = omega (arith, (send_ok s (sent_bits s ds) 8192 0 send_free.1).1.room, sent-groups s ds)

      -- more than 8192 bits
      pub send_long : (out : List ℕ) → 8192 < length ds → (Err Lent ≡ send_played s ds (length out)) × (out ≡ send_bytes s ds out)
      unfolding send_played send_bytes named
      send_long out h =
          let f : send_fault s ds (length out) ≡ 7 = send_goes_on (length out) ∙ rw (lt-leb (length ds) 8192 h) in
          (rw f, rw f)

      pub send_done : (k : ℕ) (zs : List ℤ) (out next : List ℕ) (p : Result Played Refusal) → k ≡ length ds / width s.mode → length ds ≤ 8192 → zs ≡ send_numbers s (sent_bits s ds) l 0
          → p ≡ played (room_refusal (length (take (2 * k) zs)) (length out)) t (take (2 * k) zs)
          → next ≡ played_bytes (room_refusal (length (take (2 * k) zs)) (length out)) (take (2 * k) zs) out
          → (p ≡ send_played s ds (length out)) × (next ≡ send_bytes s ds out)
      unfolding send_played send_bytes send_numbers
      send_done k zs out next p h b w x y =
          let vs : List ℤ = bit_numbers s (sent_bits s ds) in
          let z : send_refusal s (sent_bits s ds) (length l) 0 ≡ 0 = ap (λ (i : ℕ). send_refusal s (sent_bits s ds) i 0) size ∙ send_free.1 in
          let c : length vs ≡ 2 * k = omega (arith, length-bits s (sent_bits s ds), sent-groups s ds) in
          let v : take (2 * k) zs ≡ vs =
          ap (take (2 * k)) (w ∙ ap (λ (i : ℕ). accepted i (sets l 0 vs) l) z) ∙ front vs l (2 * k) c (omega (arith, send_fits k h)) in
          let f : room_refusal (length (take (2 * k) zs)) (length out) ≡ send_fault s ds (length out) =
          ap (λ (i : ℕ). room_refusal i (length out)) (ap length v ∙ c ∙ ap (λ (i : ℕ). 2 * i) h)
          ∙ sym (send_goes_on (length out) ∙ ap (λ (i : Bool). need i 7 (room_refusal (2 * (length ds / width s.mode)) (length out))) (le-leb (length ds) 8192 b)) in (
            x ∙ ap₂ (λ (i : ℕ) (q : List ℤ). played i t q) f v ∙ ap (λ (u : Sender). played (send_fault s ds (length out)) u vs) send_free.0,
            y ∙ ap₂ (λ (i : ℕ) (q : List ℤ). played_bytes i q out) f v,
          )
