-- A point placed in an accepted store: what an append has to know of the store after it. Assumes nothing.
use mathlib.Core.Path.{◌≡◌, refl, sym, ap, ◌∙◌}
use mathlib.Core.Bool.{true, false}
use mathlib.Core.List.{List, [], ◌∷◌, ◌++◌}
use mathlib.Core.Logic.{◌⊎◌, inl, inr}
use native.Mathlib.Numerals.{add-one}
use Prim.Native.Nat.{ℕ, zero, suc, ◌+◌, ◌*◌, ◌/◌, ◌≤◌, ◌<◌}
use native.Mathlib.Omega.{arith}
use borrow.Author.Tests.{ne_eqb, lt-ltb, le-ltb, ltb-true, ltb-false}
use lib.Dec.{ltb}
use lib.ListN.{length}
use lib.Seq.{sets}
use Rattle.line.specs.declared.Point.{Point}
use Rattle.octets.specs.Number.{le16, le32}
use Rattle.line.proofs.Sets.{sets_swap, sets_over}
use Rattle.line.proofs.Tests.{by_test}
use Rattle.store.specs.declared.View.{View}
use Rattle.store.specs.Walk.{Viewed}
use Rattle.track.specs.declared.End.{End}
use Rattle.store.specs.Chain.{greatest, last_of}
use Rattle.store.specs.Layout.{point, count, rec, write, link_in, total_at, held, point_bytes, point_record}
use Rattle.store.specs.Store.{chain}
use Rattle.track.specs.Append.{new_index, has_room, point_appended, point_number}
use Rattle.store.specs.Store.{last_in}
use Rattle.track.specs.Points.{spaces}
use Rattle.track.specs.Placing.{Ends, placed, next_end}
use Rattle.store.proofs.Chains.{greatest_new, last_snoc}
use Rattle.track.proofs.Appends.{Appended, GrownLast, point_law, point_linked, point_grown}
use Rattle.track.proofs.Answers.{PointFree, point_free, room_less}

pub point_appended_lem : (s : List ℕ) (p : Point) → point_number s p ≡ 0 → Appended s (point_appended s p) (point p) 1
point_appended_lem s p e = let f = point_free s p e in point_law s p f.accepted f.range (omega (arith, f.fits)) f.room

module _ (s : List ℕ) (p : Point) (e : point_number s p ≡ 0) where
  abbrev s' : List ℕ
  s' = point_appended s p

  free : PointFree s p
  free = point_free s p e

  done : Appended s s' (point p) 1
  done = point_appended_lem s p e

  same_count : count s' ≡ count s
  same_count = ap (λ (n : ℕ). n / 32) done.long

  in_last : has_room s (last_in s) ≡ true → GrownLast s s' (chain s)
  in_last r = point_grown s p free.accepted free.range (omega (arith, free.fits)) r

  in_new : has_room s (last_in s) ≡ false → (chain s' ≡ chain s ++ (new_index (chain s) ∷ [])) × (rec s' (new_index (chain s)) ≡ point_record p)
  in_new r = point_linked s p free.accepted free.range (omega (arith, free.fits)) r (free.room r)

  -- the last and the greatest index after it
  new_last : has_room s (last_in s) ≡ false → last_in s' ≡ new_index (chain s)
  new_last r = ap (last_of 0) (in_new r).0 ∙ last_snoc 0 (chain s) (new_index (chain s))

  new_greatest : has_room s (last_in s) ≡ false → greatest (chain s') ≡ new_index (chain s)
  new_greatest r = ap greatest (in_new r).0 ∙ greatest_new (chain s)

  -- a point takes one space
  room_grown : has_room s (last_in s) ≡ true → has_room s' (last_in s) ≡ ltb (suc (held (rec s (last_in s)))) 7
  unfolding has_room
  room_grown r =
      let g = in_last r in
      let q : last_in s ≡ 0 → ⊥ = λ z. omega (arith, g.positive, z) in
      rw (ne_eqb (last_in s) 0 q, g.of_points, g.held_more)

  room_linked : has_room s (last_in s) ≡ false → has_room s' (new_index (chain s)) ≡ true
  unfolding has_room
  room_linked r = rw (ne_eqb (new_index (chain s)) 0 (λ z. omega arith), (in_new r).1)

  spaces-grown : has_room s (last_in s) ≡ true → spaces s' + 1 ≡ spaces s
  unfolding spaces
  spaces-grown r =
      let g = in_last r in
      let less : held (rec s (last_in s)) < 7 = room_less s (last_in s) r in
      rw (g.chained, same_count, r, room_grown r) (by_test (ltb (suc (held (rec s (last_in s)))) 7)
      (λ t. let q : suc (held (rec s (last_in s))) < 7 = ltb-true (suc (held (rec s (last_in s)))) 7 t in rw (t, g.held_more) (omega arith))
      (λ t. let q : 7 ≤ suc (held (rec s (last_in s))) = ltb-false (suc (held (rec s (last_in s)))) 7 t in rw t (omega arith)))

  spaces-linked : has_room s (last_in s) ≡ false → spaces s' + 1 ≡ spaces s
  unfolding spaces
  spaces-linked r =
      let h : new_index (chain s) < count s = free.room r in
      let k : held (rec s' (new_index (chain s))) ≡ 1 = ap held (in_new r).1 in
      rw (new_last r, new_greatest r, same_count, r, room_linked r, k) (omega arith)

  pub spaces_less : spaces s' + 1 ≡ spaces s
  spaces_less = by_test (has_room s (last_in s)) spaces-grown spaces-linked

  -- the end after it
  ends_grown : (t : ℕ) (d : End) → Ends s t d → d.held < 7 → Ends s' (t + 1) (record { last = d.last; greatest = d.greatest; held = d.held + 1 })
  ends_grown t d w h =
      let r : has_room s (last_in s) ≡ true = ap (has_room s) (sym w.last) ∙ w.room ∙ lt-ltb d.held 7 h in
      let g = in_last r in
      let k : suc (held (rec s (last_in s))) ≡ d.held + 1 = ap (λ (i : ℕ). suc (held (rec s i))) (sym w.last) ∙ ap suc (sym (w.holds h)) ∙ sym (add-one d.held) in
      record {
        accepted = done.accepted;
        last = w.last ∙ sym (ap (last_of 0) g.chained);
        most = w.most ∙ sym (ap greatest g.chained);
        total_is = omega (arith, done.total_is, w.total_is);
        small = omega arith;
        room = ap (has_room s') w.last ∙ room_grown r ∙ ap (λ (n : ℕ). ltb n 7) k;
        holds = λ q. sym (ap (λ (i : ℕ). held (rec s' i)) w.last ∙ g.held_more ∙ k);
      }

  ends_linked : (t : ℕ) (d : End) → Ends s t d → 7 ≤ d.held → Ends s' (t + 1) (record { last = d.greatest + 1; greatest = d.greatest + 1; held = 1 })
  ends_linked t d w h =
      let r : has_room s (last_in s) ≡ false = ap (has_room s) (sym w.last) ∙ w.room ∙ le-ltb d.held 7 h in
      let m : d.greatest + 1 ≡ new_index (chain s) = ap (λ (k : ℕ). k + 1) w.most in
      record {
        accepted = done.accepted;
        last = m ∙ sym (new_last r);
        most = m ∙ sym (new_greatest r);
        total_is = omega (arith, done.total_is, w.total_is);
        small = omega arith;
        room = ap (has_room s') m ∙ room_linked r;
        holds = λ q. sym (ap (λ (i : ℕ). held (rec s' i)) m ∙ ap held (in_new r).1);
      }

  pub ends_next : (t : ℕ) (d : End) → Ends s t d → Ends s' (t + 1) (next_end d)
  unfolding next_end
  ends_next t d w =
      by_test (ltb d.held 7)
      (λ b. rw b (ends_grown t d w (ltb-true d.held 7 b)))
      (λ b. rw b (ends_linked t d w (ltb-false d.held 7 b)))

  -- the writes, from what is known of the store
  pub placed_total : (t : ℕ) (d : End) → Ends s t d → write (placed s d p) 0 total_at (le32 (t + 1)) ≡ point_appended s p
  unfolding placed point_appended
  placed_total t d w =
      by_test (ltb d.held 7)
      (λ b. let r : has_room s d.last ≡ true = w.room ∙ b in rw (b, ← w.last, ← w.total_is, r, w.holds (ltb-true d.held 7 b)))
      (λ b. let r : has_room s d.last ≡ false = w.room ∙ b in rw (b, ← w.last, ← w.most, ← w.total_is, r))

  pub last_positive : (t : ℕ) (d : End) → Ends s t d → d.held < 7 → 0 < d.last
  last_positive t d w h =
      let g = in_last (ap (has_room s) (sym w.last) ∙ w.room ∙ lt-ltb d.held 7 h) in
      omega (arith, g.positive, w.last)

  pub new_room : (t : ℕ) (d : End) → Ends s t d → 7 ≤ d.held → d.greatest + 1 < count s
  new_room t d w h = omega (arith, free.room (ap (has_room s) (sym w.last) ∙ w.room ∙ le-ltb d.held 7 h), w.most)

-- ---- two stores that are alike but for the total
abbrev pub Apart : List ℕ → List ℕ → Type 0
Apart s u = (z : List ℕ) → length z ≡ 4 → sets s 8 z ≡ sets u 8 z

apart-write : (s u vs : List ℕ) (a : ℕ) → (a + length vs ≤ 8) ⊎ (12 ≤ a) → Apart s u → Apart (sets s a vs) (sets u a vs)
apart-write s u vs a (inl h) l z e =
    sets_swap z vs s a 8 (inl h) ∙ ap (λ (x : List ℕ). sets x a vs) (l z e) ∙ sym (sets_swap z vs u a 8 (inl h))
apart-write s u vs a (inr h) l z e =
    let q : 8 + length z ≤ a = omega arith in
    sets_swap z vs s a 8 (inr q) ∙ ap (λ (x : List ℕ). sets x a vs) (l z e) ∙ sym (sets_swap z vs u a 8 (inr q))

apart_link : (s u vs : List ℕ) (i : ℕ) → length vs ≡ 2 → Apart s u → Apart (write s i (link_in i) vs) (write u i (link_in i) vs)
apart_link s u vs zero e l = apart-write s u vs 6 (inl (omega arith)) l
apart_link s u vs (suc i) e l = apart-write s u vs (32 * suc i + 0) (inr (omega arith)) l

pub apart-placed : (s u : List ℕ) (d : End) (p : Point) → (d.held < 7 → 0 < d.last) → Apart s u → Apart (placed s d p) (placed u d p)
unfolding placed
apart-placed s u d p h l =
    by_test (ltb d.held 7)
    (λ b. let q : 0 < d.last = h (ltb-true d.held 7 b) in
    rw b (apart-write (write s d.last 3 ((d.held + 1) ∷ [])) (write u d.last 3 ((d.held + 1) ∷ [])) (point_bytes p) (32 * d.last + (4 + 4 * d.held)) (inr (omega arith))
    (apart-write s u ((d.held + 1) ∷ []) (32 * d.last + 3) (inr (omega arith)) l)))
    (λ b. rw b (apart_link (write s (d.greatest + 1) 0 (point_record p)) (write u (d.greatest + 1) 0 (point_record p)) (le16 (d.greatest + 1)) d.last refl
    (apart-write s u (point_record p) (32 * (d.greatest + 1) + 0) (inr (omega arith)) l)))

-- the total is written over the one before it
pub total_over : (s u : List ℕ) (t : ℕ) → write s 0 total_at (le32 t) ≡ u → Apart s u × (sets u 8 (le32 t) ≡ u)
total_over s u t e = (
  (λ z l. sym (sets_over (le32 t) z s 8 (sym l)) ∙ ap (λ (x : List ℕ). sets x 8 z) e),
  ap (λ (x : List ℕ). sets x 8 (le32 t)) (sym e) ∙ sets_over (le32 t) (le32 t) s 8 refl ∙ e,
)

-- ---- the end of a chain
pub ends_room : (s : List ℕ) (v : View) (k : ℕ) → Viewed s v → has_room s v.last ≡ true → k ≡ held (rec s v.last)
    → Ends s v.total (record { last = v.last; greatest = v.greatest; held = k })
ends_room s v k w r h =
    let less : k < 7 = omega (arith, h, room_less s v.last r) in
    record {
      accepted = w.accepted;
      last = w.last;
      most = w.most;
      total_is = w.total_is;
      small = omega arith;
      room = r ∙ sym (lt-ltb k 7 less);
      holds = λ q. h;
    }

pub ends_full : (s : List ℕ) (v : View) → Viewed s v → has_room s v.last ≡ false
    → Ends s v.total (record { last = v.last; greatest = v.greatest; held = 7 })
ends_full s v w r =
    record {
      accepted = w.accepted;
      last = w.last;
      most = w.most;
      total_is = w.total_is;
      small = omega arith;
      room = r;
      holds = λ q. absurd (omega arith);
    }

-- what is written at it
pub placed-grown : (s s' : List ℕ) (d : End) (p : Point) → d.held < 7
    → s' ≡ write (write s d.last 3 ((d.held + 1) ∷ [])) d.last (4 + 4 * d.held) (point_bytes p)
    → (s' ≡ placed s d p) × (◌≡◌ {A = End} (record { last = d.last; greatest = d.greatest; held = d.held + 1 }) (next_end d))
unfolding placed next_end
placed-grown s s' d p h e = (rw (lt-ltb d.held 7 h) e, rw (lt-ltb d.held 7 h))

pub placed-linked : (s s' r : List ℕ) (d : End) (p : Point) → 7 ≤ d.held → r ≡ point_record p
    → s' ≡ write (write s (d.greatest + 1) 0 r) d.last (link_in d.last) (le16 (d.greatest + 1))
    → (s' ≡ placed s d p) × (◌≡◌ {A = End} (record { last = d.greatest + 1; greatest = d.greatest + 1; held = 1 }) (next_end d))
unfolding placed next_end
placed-linked s s' r d p h q e =
    let l : ltb d.held 7 ≡ false = le-ltb d.held 7 h in
    (rw l (e ∙ ap (λ (x : List ℕ). write (write s (d.greatest + 1) 0 x) d.last (link_in d.last) (le16 (d.greatest + 1))) q), rw l)
