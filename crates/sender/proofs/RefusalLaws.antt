-- What the functions that refuse compute, and what no refusal says and needs. Assumes nothing.
use Prim.Native.Nat.{ℕ, ◌+◌, ◌*◌, ◌-◌, ◌/◌, ◌%◌, ◌<◌, ◌≤◌}
use mathlib.Core.Path.{◌≡◌, sym, ◌∙◌}
use mathlib.Core.Bool.{false}
use mathlib.Core.List.{List}
use native.Mathlib.Omega.{arith}
use native.Mathlib.Decide.{dec_le}
use borrow.Author.Tests.{le-leb, lt-leb}
use lib.Dec.{T, leb, eqb, leb→le, eqb→eq}
use lib.ListN.{length}
use Rattle.line.specs.Table.{every}
use Rattle.line.specs.Mode.{is_mode, is_role, width}
use Rattle.line.proofs.RefusalLaws.{need_met, need_rest, next-first, next_rest, state_met, state_free}
use Rattle.scrambler.specs.Bits.{is_bit}
use Rattle.sender.specs.declared.Sender.{Sender}
use Rattle.sender.specs.Sender.{fields_ok, state_refusal, has_room, data_refusal, send_refusal}

-- THE NEEDS

pub past_end : (n len off : ℕ) → len < off → false ≡ has_room n len off
unfolding has_room
past_end n len off h = sym (lt-leb (off + 2 * n) len (omega arith))

pub room_left : (n len off : ℕ) → off ≤ len → leb n ((len - off) / 2) ≡ has_room n len off
unfolding has_room
room_left n len off h = go (dec_le n ((len - off) / 2))
  where
    go : Dec (n ≤ (len - off) / 2) → leb n ((len - off) / 2) ≡ leb (off + 2 * n) len
    go (yes k) = le-leb n ((len - off) / 2) k ∙ sym (le-leb (off + 2 * n) len (omega arith))
    go (no k) = lt-leb n ((len - off) / 2) (omega (arith, k)) ∙ sym (lt-leb (off + 2 * n) len (omega (arith, k)))

-- WHAT NO REFUSAL SAYS

pub record StateOk (s : Sender) : Type 0 where
  pub mode : T (is_mode s.mode)
  pub role : T (is_role s.mode s.role)
  pub fields : T (fields_ok s)

pub state_ok : (s : Sender) → state_refusal s ≡ 0 → StateOk s
unfolding state_refusal
state_ok s z = let k = state_met s.mode s.role (fields_ok s) z in record { mode = k.0; role = k.1; fields = k.2 }

pub state_accepted : (s : Sender) → StateOk s → state_refusal s ≡ 0
unfolding state_refusal
state_accepted s k = state_free s.mode s.role (fields_ok s) k.mode k.role k.fields

pub record DataOk (m : ℕ) (ds : List ℕ) (lent offset : ℕ) : Type 0 where
  pub are_bits : T (every is_bit ds)
  pub whole : length ds % width m ≡ 0
  pub room : offset + 2 * (length ds / width m) ≤ lent

pub data_ok : (m : ℕ) (ds : List ℕ) (lent offset : ℕ) → data_refusal m ds lent offset ≡ 0 → DataOk m ds lent offset
unfolding data_refusal has_room
data_ok m ds lent offset z =
    let z₅ = need_rest (every is_bit ds) 4 _ z in
    let z₆ = need_rest (eqb (length ds % width m) 0) 5 _ z₅ in
    record {
      are_bits = need_met (every is_bit ds) 4 _ z;
      whole = eqb→eq _ _ (need_met (eqb (length ds % width m) 0) 5 _ z₅);
      room = leb→le _ _ (need_met (has_room (length ds / width m) lent offset) 6 0 z₆);
    }

pub send_ok : (s : Sender) (ds : List ℕ) (lent offset : ℕ) → send_refusal s ds lent offset ≡ 0 → StateOk s × DataOk s.mode ds lent offset
unfolding send_refusal
send_ok s ds lent offset z =
    (state_ok s (next-first (state_refusal s) _ z), data_ok s.mode ds lent offset (next_rest (state_refusal s) _ z))
