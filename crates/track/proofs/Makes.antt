-- A store just made is accepted and holds no event. Assumes nothing.
use mathlib.Core.Path.{◌≡◌, sym, ap, ◌∙◌, subst}
use mathlib.Core.List.{List, [], ◌∷◌, ◌++◌}
use Prim.Native.Nat.{ℕ, ◌+◌, ◌-◌, ◌/◌, ◌≤◌}
use native.Mathlib.Omega.{arith}
use lib.ListN.{length, take, replicate, length-replicate, replicate-append-replicate}
use lib.Seq.{sets, length-sets, take-append_seam}
use Rattle.line.specs.Mode.{is_mode, is_role}
use Rattle.octets.specs.Number.{u16, u32}
use Rattle.line.proofs.Sets.{take_sets_in}
use Rattle.store.specs.Chain.{gather}
use Rattle.store.specs.Layout.{count, rec, total_at, first_at, next, events_of}
use Rattle.line.specs.Refusal.{need, mode_refusal}
use Rattle.store.specs.Store.{events, total, mark, size_ok, has_mark, head_ok, refusal}
use Rattle.track.specs.Append.{made, make_number, make_result}
use Rattle.line.proofs.RefusalLaws.{need-zero, or_zero}
use Rattle.store.proofs.Sounds.{Sound, sound_accepted, sound_chain, size_sized}
use Rattle.track.proofs.Answers.{make_done}

abbrev opening : ℕ → ℕ → List ℕ
opening mode role = mark ++ (mode ∷ role ∷ [])

first_record : (n mode role : ℕ) → 32 ≤ n → rec (made n mode role) 0 ≡ sets (replicate 32 0) 0 (opening mode role)
unfolding made
first_record n mode role h =
    take_sets_in (opening mode role) (replicate n 0) 32 0 (omega arith)
    ∙ ap (λ (l : List ℕ). sets l 0 (opening mode role))
    (ap (λ (k : ℕ). take 32 (replicate k 0)) (let e : n ≡ 32 + (n - 32) = omega arith in e)
    ∙ ap (take 32) (sym (replicate-append-replicate 32 (n - 32) 0)) ∙ take-append_seam (replicate 32 0) (replicate (n - 32) 0))

made_long : (n mode role : ℕ) → length (made n mode role) ≡ n
unfolding made
made_long n mode role = length-sets (replicate n 0) 0 (opening mode role) ∙ length-replicate n 0

made_sound : (s : List ℕ) (mode role : ℕ) → make_number s mode role ≡ 0 → Sound (made (length s) mode role) []
unfolding make_number mode_refusal next total head_ok has_mark
made_sound s mode role e =
    let n = or_zero (mode_refusal mode role) (need (size_ok s) 11 0) e in
    let m = need-zero (is_mode mode) 1 (need (is_role mode role) 2 0) (omega arith) n.0 in
    let r = need-zero (is_role mode role) 2 0 (omega arith) m.1 in
    let z = size_sized s (need-zero (size_ok s) 11 0 (omega arith) n.1).0 in
    let t : List ℕ = made (length s) mode role in
    let l : length t ≡ length s = made_long (length s) mode role in
    let c : count t ≡ count s = ap (λ (k : ℕ). k / 32) l in
    let f : rec t 0 ≡ sets (replicate 32 0) 0 (opening mode role) = first_record (length s) mode role (omega (arith, z.whole, z.least)) in
    record {
      whole = omega (arith, l, c, z.whole);
      least = omega (arith, c, z.least);
      most = omega (arith, c, z.most);
      head = ap head_ok f ∙ rw (m.0, r.0);
      run = ap (λ (x : List ℕ). u16 x first_at) f;
      within = tt;
      records = tt;
      sum = ap (λ (x : List ℕ). u32 x total_at) f;
    }

-- an accepted call of `make`: the store is accepted, keeps its size, and has no events
pub record Fresh (s s' : List ℕ) : Type 0 where
  pub accepted : refusal s' ≡ 0
  pub no_events : events s' ≡ []
  pub long : length s' ≡ length s

pub make_law : (s : List ℕ) (mode role : ℕ) → make_number s mode role ≡ 0 → Fresh s (make_result s mode role)
unfolding events
make_law s mode role e =
    let t : List ℕ = made (length s) mode role in
    let o = made_sound s mode role e in
    subst (Fresh s) (make_done s mode role e)
    (record { accepted = sound_accepted t [] o; no_events = ap (gather (λ i. events_of (rec t i))) (sound_chain t [] o); long = made_long (length s) mode role })
