-- Needs, and what a call answers from what it looked at. Assumes nothing.
use mathlib.Core.Path.{◌≡◌, sym, ap, ◌∙◌}
use mathlib.Core.Bool.{Bool, true, false, not, ◌&&◌, ◌||◌}
use Prim.Native.Nat.{ℕ, zero, suc, ◌+◌, ◌*◌, ◌-◌, ◌≤◌, ◌<◌}
use native.Mathlib.Omega.{arith}
use borrow.Author.Tests.{eqb-true, eqb-false, leb-true, le-leb, lt-leb, ltb-true, not-true}
use mathlib.Core.List.{List}
use lib.Dec.{eqb, leb, ltb}
use lib.ListN.{length}
use lib.Seq.{sets}
use Rattle.line.specs.declared.refusal.Refusal.{Refusal}
use Rattle.line.specs.Refusal.{number, need, mode_refusal}
use Rattle.store.specs.Store.{chain, total, size_ok, refusal}
use Rattle.line.specs.declared.Point.{Point}
use Rattle.line.specs.Point.{in_range}
use Rattle.store.specs.declared.View.{View}
use Rattle.store.specs.Chain.{greatest}
use Rattle.octets.specs.Number.{le16, le32}
use Rattle.store.specs.Layout.{count, rec, write, link_in, held, is_points, lost_record}
use Rattle.track.specs.Append.{most_intervals, new_index, is_full, made, make_number, make_result, lost_appended, lost_number, lost_result, has_room, point_appended, point_number, point_result}
use Rattle.line.specs.Refusal.{or_next}
use Rattle.store.specs.Store.{last_in}
use Rattle.store.specs.Walk.{Viewed}
use Rattle.track.specs.Points.{spaces}
use Rattle.line.proofs.Tests.{by_test, and_split}
use Rattle.line.proofs.RefusalLaws.{some_number, left_done, left_kept, need-zero, or_some, or_zero}
use Rattle.store.proofs.Sounds.{accepted_sound, sound_last, sound_greatest}

-- ---- needs, one after the other: the first that is not met refuses
pub need_first : (b : Bool) (n k : ℕ) (e : Refusal) → number e ≡ need b n 0 → number e ≡ need b n k
need_first true n k e h = absurd (some_number e h)
need_first false n k e h = h

pub need_then : (b : Bool) (n k x : ℕ) → 0 < n → 0 ≡ need b n 0 → x ≡ k → x ≡ need b n k
need_then true n k x p z h = h
need_then false n k x p z h = absurd (omega arith)

pub next_first : (a b : ℕ) (e : Refusal) → number e ≡ a → number e ≡ or_next a b
next_first a b e h = h ∙ or_some a b (λ z. some_number e (h ∙ z))

pub next_then : (a b x : ℕ) → 0 ≡ a → x ≡ b → x ≡ or_next a b
next_then zero b x z h = h
next_then (suc a) b x z h = absurd (omega arith)

-- ---- making
pub make_done : (s : List ℕ) (mode role : ℕ) → make_number s mode role ≡ 0 → made (length s) mode role ≡ make_result s mode role
unfolding make_result
make_done s mode role e = left_done (make_number s mode role) (made (length s) mode role) s e

pub make_kept : (s : List ℕ) (mode role : ℕ) → (make_number s mode role ≡ 0 → ⊥) → s ≡ make_result s mode role
unfolding make_result
make_kept s mode role h = left_kept (make_number s mode role) (made (length s) mode role) s h

pub make_refused : (s : List ℕ) (mode role : ℕ) (e : Refusal) → number e ≡ make_number s mode role
    → (number e ≡ make_number s mode role) × (s ≡ make_result s mode role)
make_refused s mode role e h = (h, make_kept s mode role (λ z. some_number e (h ∙ z)))

module _ (s : List ℕ) (mode role : ℕ) where
  pub make_mode : (e : Refusal) → number e ≡ mode_refusal mode role → (number e ≡ make_number s mode role) × (s ≡ make_result s mode role)
  unfolding make_number
  make_mode e h = make_refused s mode role e (next_first (mode_refusal mode role) _ e h)

  module _ (m : 0 ≡ mode_refusal mode role) where
    pub make_size : (e : Refusal) → number e ≡ need (size_ok s) 11 0 → (number e ≡ make_number s mode role) × (s ≡ make_result s mode role)
    unfolding make_number
    make_size e h = make_refused s mode role e (next_then (mode_refusal mode role) _ _ m h)

    pub make_taken : (t : List ℕ) → 0 ≡ need (size_ok s) 11 0 → t ≡ made (length s) mode role → (0 ≡ make_number s mode role) × (t ≡ make_result s mode role)
    unfolding make_number
    make_taken t z e = let n : 0 ≡ make_number s mode role = next_then (mode_refusal mode role) _ _ m z in (n, e ∙ make_done s mode role (sym n))

-- ---- a lost count
pub lost_kept : (s : List ℕ) (n : ℕ) → (lost_number s n ≡ 0 → ⊥) → s ≡ lost_result s n
unfolding lost_result
lost_kept s n h = left_kept (lost_number s n) (lost_appended s n) s h

pub lost_refused : (s : List ℕ) (n : ℕ) (e : Refusal) → number e ≡ lost_number s n → (number e ≡ lost_number s n) × (s ≡ lost_result s n)
lost_refused s n e h = (h, lost_kept s n (λ z. some_number e (h ∙ z)))

pub lost_none : (s : List ℕ) (n : ℕ) (e : Refusal) → number e ≡ need (leb 1 n) 9 0 → (number e ≡ lost_number s n) × (s ≡ lost_result s n)
unfolding lost_number
lost_none s n e h = lost_refused s n e (need_first (leb 1 n) 9 _ e h)

pub lost_unread : (s : List ℕ) (n : ℕ) (e : Refusal) → 0 ≡ need (leb 1 n) 9 0 → number e ≡ refusal s → (number e ≡ lost_number s n) × (s ≡ lost_result s n)
unfolding lost_number
lost_unread s n e z h = lost_refused s n e (need_then (leb 1 n) 9 _ _ (omega arith) z (next_first (refusal s) _ e h))

pub lost_seen : (s : List ℕ) (v : View) (n x : ℕ) → Viewed s v → 1 ≤ n
    → x ≡ need (leb (v.total + n) most_intervals) 16 (need (not (eqb (v.greatest + 1) (count s))) 17 0) → x ≡ lost_number s n
unfolding lost_number
lost_seen s v n x w h e = rw (le-leb 1 n h, w.accepted, ← w.total_is, ← w.most) e

-- what holds of a store that a new record is not refused for
not_full : (s : List ℕ) → refusal s ≡ 0 → not (is_full s) ≡ true → new_index (chain s) < count s
not_full s acc e =
    let g : greatest (chain s) < count s = sound_greatest s (accepted_sound s acc) in
    let ne = eqb-false (new_index (chain s)) (count s) (not-true (is_full s) e) in
    omega (arith, ne)

pub record LostFree (s : List ℕ) (n : ℕ) : Type 0 where
  pub accepted : refusal s ≡ 0
  pub some : 1 ≤ n
  pub fits : total s + n ≤ 4294967295
  pub room : new_index (chain s) < count s

pub lost_free : (s : List ℕ) (n : ℕ) → lost_number s n ≡ 0 → LostFree s n
unfolding lost_number
lost_free s n e =
    let last : ℕ = need (not (is_full s)) 17 0 in
    let rest : ℕ = need (leb (total s + n) most_intervals) 16 last in
    let a = need-zero (leb 1 n) 9 (or_next (refusal s) rest) (omega arith) e in
    let b = or_zero (refusal s) rest a.1 in
    let c = need-zero (leb (total s + n) most_intervals) 16 last (omega arith) b.1 in
    let d = need-zero (not (is_full s)) 17 0 (omega arith) c.1 in
    record { accepted = b.0; some = leb-true 1 n a.0; fits = leb-true (total s + n) 4294967295 c.0; room = not_full s b.0 d.0 }

pub lost_reach : (s : List ℕ) (v : View) (n : ℕ) → Viewed s v → lost_number s n ≡ 0 → (32 * v.last + 32 ≤ length s) × (32 * (v.greatest + 1) + 32 ≤ length s)
lost_reach s v n w e =
    let f = lost_free s n e in
    let o = accepted_sound s f.accepted in
    (omega (arith, o.whole, sound_last s o, w.last), omega (arith, o.whole, f.room, w.most))

pub lost_done : (s : List ℕ) (n : ℕ) → lost_number s n ≡ 0 → lost_appended s n ≡ lost_result s n
unfolding lost_result
lost_done s n e = left_done (lost_number s n) (lost_appended s n) s e

-- the writes of an append, from what it looked at
pub lost_linked : (s s₁ s₂ : List ℕ) (v : View) (r : List ℕ) (n : ℕ) → Viewed s v → lost_number s n ≡ 0 → r ≡ lost_record n
    → s₁ ≡ write (write s (v.greatest + 1) 0 r) v.last (link_in v.last) (le16 (v.greatest + 1)) → s₂ ≡ sets s₁ 8 (le32 (v.total + n)) → s₂ ≡ lost_result s n
unfolding lost_appended
lost_linked s s₁ s₂ v r n w e h p q =
    q ∙ ap (λ (x : List ℕ). sets x 8 (le32 (v.total + n))) p ∙ rw (w.last, w.most, w.total_is, h) (lost_done s n e)

-- ---- a point
pub room_less : (s : List ℕ) (i : ℕ) → has_room s i ≡ true → held (rec s i) < 7
unfolding has_room
room_less s i e = ltb-true (held (rec s i)) 7 (and_split (not (eqb i 0) && is_points (rec s i)) (ltb (held (rec s i)) 7) e).1

-- the spaces of an accepted store, from what is known of it
pub room_below : (s : List ℕ) (v : View) → Viewed s v → v.greatest + 1 ≤ count s
room_below s v w = omega (arith, w.most, sound_greatest s (accepted_sound s w.accepted))

pub room_in_last : (s : List ℕ) (v : View) (k : ℕ) → Viewed s v → has_room s v.last ≡ true → k ≡ held (rec s v.last)
    → 7 - k + 7 * (count s - (v.greatest + 1)) ≡ spaces s
unfolding spaces
room_in_last s v k w r e = rw (← w.last, ← w.most, r, e)

pub room_in_new : (s : List ℕ) (v : View) → Viewed s v → has_room s v.last ≡ false
    → 7 * (count s - (v.greatest + 1)) ≡ spaces s
unfolding spaces
room_in_new s v w r = rw (← w.last, ← w.most, r) (omega arith)

-- there is a space for a point exactly where number 17 does not apply
pub spaces_some : (s : List ℕ) → refusal s ≡ 0 → leb 1 (spaces s) ≡ (has_room s (last_in s) || not (is_full s))
unfolding spaces
spaces_some s acc =
    let g : greatest (chain s) < count s = sound_greatest s (accepted_sound s acc) in
    by_test (has_room s (last_in s))
    (λ e. let h : held (rec s (last_in s)) < 7 = room_less s (last_in s) e in
    rw e (le-leb 1 (7 - held (rec s (last_in s)) + 7 * (count s - new_index (chain s))) (omega arith)))
    (λ e. rw e (by_test (is_full s)
    (λ f. let q : new_index (chain s) ≡ count s = eqb-true (new_index (chain s)) (count s) f in
    rw f (lt-leb 1 (0 + 7 * (count s - new_index (chain s))) (omega arith)))
    (λ f. let q = eqb-false (new_index (chain s)) (count s) f in
    rw f (le-leb 1 (0 + 7 * (count s - new_index (chain s))) (omega (arith, q))))))

pub record PointFree (s : List ℕ) (p : Point) : Type 0 where
  pub accepted : refusal s ≡ 0
  pub range : in_range p ≡ true
  pub fits : total s + 1 ≤ 4294967295
  pub room : has_room s (last_in s) ≡ false → new_index (chain s) < count s

pub point_free : (s : List ℕ) (p : Point) → point_number s p ≡ 0 → PointFree s p
unfolding point_number
point_free s p e =
    let last : ℕ = need (has_room s (last_in s) || not (is_full s)) 17 0 in
    let rest : ℕ = need (leb (total s + 1) most_intervals) 16 last in
    let a = need-zero (in_range p) 8 (or_next (refusal s) rest) (omega arith) e in
    let b = or_zero (refusal s) rest a.1 in
    let c = need-zero (leb (total s + 1) most_intervals) 16 last (omega arith) b.1 in
    let d = need-zero (has_room s (last_in s) || not (is_full s)) 17 0 (omega arith) c.1 in
    record { accepted = b.0; range = a.0; fits = leb-true (total s + 1) 4294967295 c.0; room = λ r. not_full s b.0 (rw r at d.0) }

-- a point that nothing refuses
pub free_point : (s : List ℕ) (p : Point) → refusal s ≡ 0 → in_range p ≡ true → total s + 1 ≤ 4294967295 → 1 ≤ spaces s → point_number s p ≡ 0
unfolding point_number
free_point s p acc r f h = rw (r, acc, le-leb (total s + 1) 4294967295 f, sym (spaces_some s acc) ∙ le-leb 1 (spaces s) h)

pub point_done : (s : List ℕ) (p : Point) → point_number s p ≡ 0 → point_appended s p ≡ point_result s p
unfolding point_result
point_done s p e = left_done (point_number s p) (point_appended s p) s e

pub point_kept : (s : List ℕ) (p : Point) → (point_number s p ≡ 0 → ⊥) → s ≡ point_result s p
unfolding point_result
point_kept s p h = left_kept (point_number s p) (point_appended s p) s h
