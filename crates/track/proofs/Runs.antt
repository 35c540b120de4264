-- Many points appended by one call: when none is refused, and the loop that writes them. Assumes nothing.
use mathlib.Core.Path.{◌≡◌, refl, sym, ap, ◌∙◌, subst}
use mathlib.Core.Bool.{Bool, true, not, ◌&&◌, ◌||◌, and_assoc, and-true}
use mathlib.Core.List.{List, [], ◌∷◌, ◌++◌, map}
use Prim.Native.Nat.{ℕ, zero, suc, ◌+◌, ◌/◌, ◌%◌, ◌≤◌, ◌<◌}
use native.Mathlib.Omega.{arith}
use borrow.Author.Tests.{eq-eqb, eqb-true, leb-true, le-leb}
use lib.Dec.{eqb, leb}
use lib.IntN.{ℤ, pos}
use lib.ListN.{length, get_or}
use lib.Seq.{sets, length-sets}
use Rattle.line.specs.declared.Point.{Point}
use Rattle.line.specs.Point.{at, pairs, coordinate_in, in_range, coordinates_in}
use Rattle.line.specs.Refusal.{number, need, or_next, accepted}
use Rattle.line.specs.Table.{every}
use Rattle.line.proofs.PointLaws.{pairs_end, pairs-length}
use Rattle.line.proofs.RefusalLaws.{some_number, need-zero, or_zero, or_same, left_done, left_kept}
use Rattle.line.proofs.Tests.{and_split, and_join}
use Rattle.octets.specs.Number.{le32}
use Rattle.store.specs.declared.View.{View}
use Rattle.line.specs.declared.refusal.Refusal.{Refusal}
use Rattle.store.specs.Layout.{Event, point}
use Rattle.store.specs.Store.{last_in, total, refusal}
use Rattle.store.specs.Walk.{Viewed}
use Rattle.store.proofs.Sounds.{accepted_sound, sound_last}
use Rattle.track.specs.declared.End.{End}
use Rattle.track.specs.Append.{most_intervals, is_full, has_room, point_appended, point_number, point_result}
use Rattle.track.specs.Calls.{call_result, after, taken, EachAccepted}
use Rattle.track.specs.Points.{point_events, spaces, points_number, points_result, JustWhen, AllTaken}
use Rattle.track.specs.Placing.{Ends, Reach, placed, next_end}
use Rattle.track.proofs.Answers.{need_first, next_first, point_free, free_point, spaces_some, point_done}
use Rattle.track.proofs.Places.{point_appended_lem, spaces_less, Apart, apart-placed, total_over, placed_total, ends_next, last_positive, new_room}

-- ---- when none is refused
-- the points are in range when each of their coordinates is
pub all_in : (zs : List ℤ) → length zs % 2 ≡ 0 → coordinates_in zs ≡ every in_range (pairs zs)
unfolding in_range
all_in [] h = refl
all_in (x ∷ []) h = absurd (omega arith)
all_in (x ∷ y ∷ zs) h =
    sym (and_assoc (coordinate_in x) (coordinate_in y) (coordinates_in zs)) ∙ ap (λ (b : Bool). (coordinate_in x && coordinate_in y) && b) (all_in zs (omega arith))

-- what the whole call asks of points and store
pub record Fits (s : List ℕ) (ps : List Point) : Type 0 where
  pub range : every in_range ps ≡ true
  pub fits : total s + length ps ≤ 4294967295
  pub room : length ps ≤ spaces s

pub none_refused : (s : List ℕ) (ps : List Point) → refusal s ≡ 0 → Fits s ps → EachAccepted s (map point ps)
none_refused s [] acc f = tt
none_refused s (p ∷ ps) acc f =
    let r = and_split (in_range p) (every in_range ps) f.range in
    let z : point_number s p ≡ 0 = free_point s p acc r.0 (omega (arith, f.fits)) (omega (arith, f.room)) in
    let a = point_appended_lem s p z in (
      z,
      subst (λ (u : List ℕ). EachAccepted u (map point ps)) (point_done s p z)
          (none_refused (point_appended s p) ps a.accepted
          (record { range = r.1; fits = omega (arith, a.total_is, f.fits); room = omega (arith, spaces_less s p z, f.room) })),
    )

fits_none : (s : List ℕ) (ps : List Point) → total s ≤ 4294967295 → EachAccepted s (map point ps) → Fits s ps
fits_none s [] h n = record { range = refl; fits = omega arith; room = omega arith }
fits_none s (p ∷ ps) h n =
    let z : point_number s p ≡ 0 = n.0 in
    let a = point_appended_lem s p z in
    let q = point_free s p z in
    let t : total (point_appended s p) ≤ 4294967295 = omega (arith, a.total_is, q.fits) in
    let f : Fits (point_appended s p) ps = fits_none (point_appended s p) ps t (subst (λ (u : List ℕ). EachAccepted u (map point ps)) (sym (point_done s p z)) n.1) in
    record {
      range = and_join (in_range p) (every in_range ps) q.range f.range;
      fits = omega (arith, a.total_is, f.fits);
      room = omega (arith, spaces_less s p z, f.room);
    }

-- the number by the needs, and the needs by the number
number_fits : (s : List ℕ) (zs : List ℤ) → points_number s zs ≡ 0 → (length zs % 2 ≡ 0) × (refusal s ≡ 0) × Fits s (pairs zs)
unfolding points_number
number_fits s zs e =
    let last : ℕ = need (leb (length (pairs zs)) (spaces s)) 17 0 in
    let rest : ℕ = need (leb (total s + length (pairs zs)) most_intervals) 16 last in
    let a = need-zero (eqb (length zs % 2) 0) 7 (need (every in_range (pairs zs)) 8 (or_next (refusal s) rest)) (omega arith) e in
    let b = need-zero (every in_range (pairs zs)) 8 (or_next (refusal s) rest) (omega arith) a.1 in
    let c = or_zero (refusal s) rest b.1 in
    let d = need-zero (leb (total s + length (pairs zs)) most_intervals) 16 last (omega arith) c.1 in
    let f = need-zero (leb (length (pairs zs)) (spaces s)) 17 0 (omega arith) d.1 in
    (eqb-true (length zs % 2) 0 a.0, c.0, record { range = b.0; fits = leb-true (total s + length (pairs zs)) 4294967295 d.0; room = leb-true (length (pairs zs)) (spaces s) f.0 })

fits-number : (s : List ℕ) (zs : List ℤ) → length zs % 2 ≡ 0 → refusal s ≡ 0 → Fits s (pairs zs) → points_number s zs ≡ 0
unfolding points_number
fits-number s zs h acc f =
    rw (eq-eqb (length zs % 2) 0 h, f.range, acc, le-leb (total s + length (pairs zs)) 4294967295 f.fits, le-leb (length (pairs zs)) (spaces s) f.room)

pub just_when : JustWhen
just_when s zs h = (
  (λ e. let f = number_fits s zs e in (f.0, f.1, none_refused s (pairs zs) f.1 f.2)),
  (λ w. fits-number s zs w.0 w.1 (fits_none s (pairs zs) h w.2)),
)

taken_all : (s : List ℕ) (es : List Event) → EachAccepted s es → taken s es ≡ es
taken_all s [] n = refl
taken_all s (e ∷ es) n = sym (left_done _ _ _ n.0) ∙ ap (λ (l : List Event). e ∷ l) (taken_all (call_result s e) es n.1)

pub all_taken : AllTaken
all_taken s zs e = let f = number_fits s zs e in taken_all s (point_events zs) (none_refused s (pairs zs) f.1 f.2)

-- ---- writing
-- the points of `rest` are left to append: before them the bytes are s, and with the total they are `full`; what is left to
-- append to it is all that is left to do
pub record Placing (s₀ s : List ℕ) (d : End) (t : ℕ) (zs rest : List ℤ) : Type 0 where
  pub full : List ℕ
  pub long : length s ≡ length s₀
  pub like : Apart s full
  pub kept : length rest < length zs → sets full 8 (le32 t) ≡ full
  pub ends : Ends full t d
  pub fits : t < 4294967296
  pub free : EachAccepted full (point_events rest)
  pub left : after full (point_events rest) ≡ after s₀ (point_events zs)

-- a point that stands in front of others
pairs_front : (rest block more : List ℤ) → rest ≡ block ++ more → length block ≡ 2
    → pairs rest ≡ at (get_or block 0 (pos 0)) (get_or block 1 (pos 0)) ∷ pairs more
pairs_front rest [] more e n = absurd (omega arith)
pairs_front rest (x ∷ []) more e n = absurd (omega arith)
pairs_front rest (x ∷ y ∷ []) more e n = ap pairs e
pairs_front rest (x ∷ y ∷ z ∷ zs) more e n = absurd (omega arith)

pub placing_start : (s : List ℕ) (v : View) (d : End) (zs : List ℤ) → Viewed s v → EachAccepted s (point_events zs) → Ends s v.total d
    → Placing s s d v.total zs zs
placing_start s v d zs w e g =
    record {
      full = s;
      long = refl;
      like = λ z l. refl;
      kept = λ p. absurd (omega arith);
      ends = g;
      fits = w.small.2;
      free = e;
      left = refl;
    }

module _ (s₀ s : List ℕ) (d : End) (t : ℕ) (zs rest : List ℤ) (g : Placing s₀ s d t zs rest) (block more : List ℤ) (cut : rest ≡ block ++ more) (two : length block ≡ 2) where
  abbrev here : Point
  here = at (get_or block 0 (pos 0)) (get_or block 1 (pos 0))

  front : pairs rest ≡ here ∷ pairs more
  front = pairs_front rest block more cut two

  first_free : (point_number g.full here ≡ 0) × EachAccepted (point_result g.full here) (point_events more)
  first_free = subst (λ (ps : List Point). EachAccepted g.full (map point ps)) front g.free

  here_free : point_number g.full here ≡ 0
  here_free = first_free.0

  same_long : length s ≡ length g.full
  same_long = sym (length-sets s 8 (le32 0)) ∙ ap length (g.like (le32 0) refl) ∙ length-sets g.full 8 (le32 0)

  pub placing_reach : Reach (length s) d
  placing_reach =
      let o = accepted_sound g.full g.ends.accepted in
      record {
        last_in_lem = omega (arith, same_long, o.whole, sound_last g.full o, g.ends.last);
        new_in = λ n. omega (arith, same_long, o.whole, new_room g.full here here_free t d g.ends n);
      }

  pub placing_step : (s' : List ℕ) (d' : End) → s' ≡ placed s d here → d' ≡ next_end d → length s' ≡ length s → Placing s₀ s' d' (t + 1) zs more
  placing_step s' d' e q l =
      let u : List ℕ = point_appended g.full here in
      let r : u ≡ point_result g.full here = point_done g.full here here_free in
      let o = total_over (placed g.full d here) u (t + 1) (placed_total g.full here here_free t d g.ends) in
      record {
        full = u;
        long = l ∙ g.long;
        like = λ z n. ap (λ (x : List ℕ). sets x 8 z) e
            ∙ apart-placed s g.full d here (last_positive g.full here here_free t d g.ends) g.like z n ∙ o.0 z n;
        kept = λ p. o.1;
        ends = subst (Ends u (t + 1)) (sym q) (ends_next g.full here here_free t d g.ends);
        fits = omega (arith, (point_free g.full here here_free).fits, g.ends.total_is);
        free = subst (λ (x : List ℕ). EachAccepted x (point_events more)) (sym r) first_free.1;
        left = ap (λ (x : List ℕ). after x (point_events more)) r ∙ sym (ap (λ (ps : List Point). after g.full (map point ps)) front) ∙ g.left;
      }

pub placing_end : (s₀ s s' : List ℕ) (d : End) (t : ℕ) (zs rest : List ℤ) → Placing s₀ s d t zs rest → 2 ≤ length zs → length rest < 2
    → s' ≡ sets s 8 (le32 t) → s' ≡ after s₀ (point_events zs)
placing_end s₀ s s' d t zs rest g two h e =
    e ∙ g.like (le32 t) refl ∙ g.kept (omega arith) ∙ sym (ap (λ (ps : List Point). after g.full (map point ps)) (pairs_end rest 0 (omega arith))) ∙ g.left

pub placing_none : (s : List ℕ) (zs : List ℤ) → length zs < 2 → s ≡ after s (point_events zs)
placing_none s zs h = sym (ap (λ (ps : List Point). after s (map point ps)) (pairs_end zs 0 (omega arith)))

-- ---- the call
pub points_refused : (s : List ℕ) (zs : List ℤ) (e : Refusal) → number e ≡ points_number s zs → (number e ≡ points_number s zs) × (s ≡ points_result s zs)
unfolding points_result
points_refused s zs e h = (h, left_kept (points_number s zs) (after s (point_events zs)) s (λ z. some_number e (h ∙ z)))

pub points-odd : (s : List ℕ) (zs : List ℤ) (e : Refusal) → number e ≡ need (eqb (length zs % 2) 0) 7 0 → (number e ≡ points_number s zs) × (s ≡ points_result s zs)
unfolding points_number
points-odd s zs e h = points_refused s zs e (need_first (eqb (length zs % 2) 0) 7 _ e h)

pub even_of : (n : ℕ) → 0 ≡ need (eqb (n % 2) 0) 7 0 → n % 2 ≡ 0
even_of n h = eqb-true (n % 2) 0 (need-zero (eqb (n % 2) 0) 7 0 (omega arith) (sym h)).0

module _ (s : List ℕ) (zs : List ℤ) (even : length zs % 2 ≡ 0) where
  pub points_out : (e : Refusal) → number e ≡ need (coordinates_in zs) 8 0 → (number e ≡ points_number s zs) × (s ≡ points_result s zs)
  unfolding points_number
  points_out e h = points_refused s zs e (rw (eq-eqb (length zs % 2) 0 even, ← all_in zs even) (need_first (coordinates_in zs) 8 _ e h))

  pub points_unread : (e : Refusal) → coordinates_in zs ≡ true → number e ≡ refusal s → (number e ≡ points_number s zs) × (s ≡ points_result s zs)
  unfolding points_number
  points_unread e r h = points_refused s zs e (rw (eq-eqb (length zs % 2) 0 even, sym (all_in zs even) ∙ r) (next_first (refusal s) _ e h))

  -- of an accepted store
  pub points_seen : (v : View) (room n : ℕ) → Viewed s v → coordinates_in zs ≡ true → room ≡ spaces s
      → n ≡ need (leb (v.total + length zs / 2) most_intervals) 16 (need (leb (length zs / 2) room) 17 0) → n ≡ points_number s zs
  unfolding points_number
  points_seen v room n w r m e =
      let l : length (pairs zs) ≡ length zs / 2 = omega (arith, pairs-length zs, even) in
      rw (eq-eqb (length zs % 2) 0 even, sym (all_in zs even) ∙ r, w.accepted, ← w.total_is, ← m, l) e

  pub points_over : (v : View) (e : Refusal) → Viewed s v → coordinates_in zs ≡ true → number e ≡ need (leb (v.total + length zs / 2) most_intervals) 16 0
      → (number e ≡ points_number s zs) × (s ≡ points_result s zs)
  points_over v e w r h = points_refused s zs e (points_seen v (spaces s) (number e) w r refl (need_first (leb (v.total + length zs / 2) most_intervals) 16 _ e h))

pub points_free : (s : List ℕ) (zs : List ℤ) → points_number s zs ≡ 0 → EachAccepted s (point_events zs)
points_free s zs e = let f = number_fits s zs e in none_refused s (pairs zs) f.1 f.2

pub points_done : (s s' : List ℕ) (zs : List ℤ) → points_number s zs ≡ 0 → s' ≡ after s (point_events zs) → s' ≡ points_result s zs
unfolding points_result
points_done s s' zs e q = q ∙ left_done (points_number s zs) (after s (point_events zs)) s e

-- ---- one point
pub one_number : (s : List ℕ) (x y : ℤ) → points_number s (x ∷ y ∷ []) ≡ point_number s (at x y)
unfolding points_number point_number
one_number s x y =
    let many : ℕ = need (leb (total s + 1) most_intervals) 16 (need (leb 1 (spaces s)) 17 0) in
    let one : ℕ = need (leb (total s + 1) most_intervals) 16 (need (has_room s (last_in s) || not (is_full s)) 17 0) in
    ap (λ (b : Bool). need b 8 (or_next (refusal s) many)) (and-true (in_range (at x y)))
    ∙ ap (need (in_range (at x y)) 8) (or_same (refusal s) many one (λ z. ap (λ (b : Bool). need (leb (total s + 1) most_intervals) 16 (need b 17 0)) (spaces_some s z)))

pub one_result : (s : List ℕ) (x y : ℤ) → points_result s (x ∷ y ∷ []) ≡ point_result s (at x y)
unfolding points_result point_result
one_result s x y = rw (one_number s x y) (twice (point_number s (at x y)) (point_appended s (at x y)))
  where
    twice : (n : ℕ) (a : List ℕ) → accepted n (accepted n a s) s ≡ accepted n a s
    twice zero a = refl
    twice (suc n) a = refl
