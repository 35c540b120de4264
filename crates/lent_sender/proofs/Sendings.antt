-- The sender's calls over lent bytes and numbers: what an answer leaves is what the definitions say. Assumes nothing.
use Prim.Native.Nat.{ℕ, zero, suc, ◌≤◌, ◌<◌}
use mathlib.Core.Path.{◌≡◌, refl, ◌∙◌, ap}
use mathlib.Core.Bool.{Bool, true, false, ◌&&◌}
use mathlib.Core.List.{List}
use borrow.Author.Tests.{le-leb, lt-leb}
use lib.Dec.{eqb}
use lib.IntN.{ℤ}
use lib.ListN.{length, get_or}
use lib.Seq.{sets}
use Rattle.line.specs.Table.{every}
use Rattle.std.specs.Prelude.{Result}
use Rattle.line.specs.declared.refusal.Refusal.{Refusal}
use Rattle.line.specs.Refusal.{numbered, answered, need, or_next, accepted}
use Rattle.octets.specs.Number.{u32}
use Rattle.scrambler.specs.Bits.{is_bit}
use Rattle.sender.specs.declared.Sender.{Sender}
use Rattle.sender.specs.Sender.{send_refusal, after_bits, Told, send_answer, send_numbers}
use Rattle.sender.specs.Open.{open_refusal, opened, open_answer, open_numbers}
use Rattle.lent.proofs.StateLaws.{making_short, making_done}
use Rattle.lent_sender.specs.Sending.{sent_reference, sender_in, sender_out, open_number, open_state, open_out, send_number, send_state, send_out}
use Rattle.lent_sender.specs.Putting.{sent_state}

-- THE BYTES OF A REFERENCE

module _ (s : List ℕ) (x a b f : ℕ) (q : x ≡ get_or s 3 0) (u : a ≡ get_or s 10 0) (v : b ≡ get_or s 11 0) (o : f ≡ u32 s 12) where
  pub read_sent : (k : ℕ) → (eqb x 0 && ((eqb a 0 && eqb b 0) && eqb f 0)) ≡ true → k ≡ get_or s 2 0 → k ≡ sent_reference s
  unfolding sent_reference
  read_sent k t p = rw (← q, ← u, ← v, ← o, t) p

  pub read_unsent : (eqb x 0 && ((eqb a 0 && eqb b 0) && eqb f 0)) ≡ false → 255 ≡ sent_reference s
  unfolding sent_reference
  read_unsent t = rw (← q, ← u, ← v, ← o, t)

-- WHAT AN ANSWER LEAVES

leaves : (n : ℕ) (t : Sender) (b : List ℕ) → sent_state (answered n t) b ≡ accepted n (sets b 0 (sender_out t)) b
leaves zero t b = refl
leaves (suc n) t b = refl

-- OPENING

module _ (state : List ℕ) (m role n : ℕ) (out : List ℤ) (offset : ℕ) where
  abbrev Opens : ℕ → List ℕ → List ℤ → Type 0
  Opens k st ox = (k ≡ open_number state m role n out offset) × (st ≡ open_state state m role n out offset) × (ox ≡ open_out state m role n out offset)

  pub open_short : (k r : ℕ) → length state < 16 → r ≡ open_refusal m role n (length out) offset → k ≡ or_next r 7 → Opens k state out
  unfolding open_number open_state open_out
  open_short k r h e p =
      let g = making_short state (open_refusal m role n (length out) offset) k _ h (p ∙ ap (λ (x : ℕ). or_next x 7) e) in
      (g.0, g.1, rw (lt-leb 16 (length state) h))

  pub open_done : (r : Result Sender Refusal) (k : ℕ) (st : List ℕ) (ox : List ℤ) → 16 ≤ length state → r ≡ open_answer m role n (length out) offset
      → ox ≡ open_numbers m role n out offset → Told (open_refusal m role n (length out) offset) (opened m role n) r
      → (k ≡ numbered r) × (st ≡ sent_state r state) → Opens k st ox
  unfolding open_answer open_number open_state open_out
  open_done r k st ox h e o t g =
      let f : ℕ = open_refusal m role n (length out) offset in
      let y = making_done state f k _ st h (g.0 ∙ t.number_is, g.1 ∙ ap (λ (x : Result Sender Refusal). sent_state x state) e ∙ leaves f (opened m role n) state) in
      (y.0, y.1, rw (le-leb 16 (length state) h) o)

-- SENDING

bits_or_7 : (b : Bool) → or_next (need b 5 0) 7 ≡ need b 5 7
bits_or_7 true = refl
bits_or_7 false = refl

seven : (b : Bool) (x s : List ℕ) → s ≡ accepted (need b 5 7) x s
seven true x s = refl
seven false x s = refl

module _ (state ds : List ℕ) (out : List ℤ) (offset : ℕ) where
  abbrev Sends : ℕ → List ℕ → List ℤ → Type 0
  Sends k st ox = (k ≡ send_number state ds out offset) × (st ≡ send_state state ds out offset) × (ox ≡ send_out state ds out offset)

  pub send_short : (k : ℕ) (b : Bool) → length state < 16 → b ≡ every is_bit ds → k ≡ or_next (need b 5 0) 7 → Sends k state out
  unfolding send_number send_state send_out
  send_short k b h e p =
      rw (lt-leb 16 (length state) h) (p ∙ bits_or_7 b ∙ ap (λ (x : Bool). need x 5 7) e, seven (every is_bit ds) _ state, refl)

  pub send_done : (s : Sender) (r : Result Sender Refusal) (k : ℕ) (st : List ℕ) (ox : List ℤ) → 16 ≤ length state → s ≡ sender_in state
      → r ≡ send_answer s ds (length out) offset → ox ≡ send_numbers s ds out offset
      → Told (send_refusal s ds (length out) offset) (after_bits s ds) r → (k ≡ numbered r) × (st ≡ sent_state r state) → Sends k st ox
  unfolding send_answer send_number send_state send_out
  send_done s r k st ox h p e o t g =
      rw (le-leb 16 (length state) h, ← p)
      (g.0 ∙ t.number_is, g.1 ∙ ap (λ (x : Result Sender Refusal). sent_state x state) e ∙ leaves (send_refusal s ds (length out) offset) (after_bits s ds) state, o)
