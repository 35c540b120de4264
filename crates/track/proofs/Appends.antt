-- An append to an accepted store: the result is accepted, and its events are the old ones and the new. Assumes nothing.
use mathlib.Core.Path.{◌≡◌, refl, sym, ap, ap₂, ◌∙◌, subst}
use mathlib.Core.Logic.{◌≢◌, inl}
use mathlib.Core.Bool.{true, false, not, ◌&&◌, false≢true}
use mathlib.Core.List.{List, [], ◌∷◌, ◌++◌}
use Prim.Native.Nat.{ℕ, zero, suc, ◌+◌, ◌*◌, ◌/◌, ◌%◌, ◌≤◌, ◌<◌}
use native.Mathlib.Omega.{arith}
use native.Mathlib.Numerals.{add-one}
use borrow.Author.Tests.{ltb-true, eqb-true, eqb-false, leb-true, le-leb}
use lib.Dec.{eqb, ltb, leb}
use lib.IntN.{ℤ, pos, negsuc, nat_abs}
use lib.ListN.{length, get_or, drop, length-drop}
use lib.Seq.{sets, length-sets}
use mir.Syntax.{w16}
use mir.Val.{SFits}
use Rattle.line.specs.Table.{All}
use Rattle.line.specs.declared.Point.{Point}
use Rattle.line.specs.Point.{at, in_range}
use Rattle.octets.specs.Number.{u16, u32, le16, le32, pattern, signed, zeros}
use Rattle.line.proofs.Tests.{by_test, and_split, and_join}
use Rattle.line.proofs.Sets.{drop-sets-le, get_d_sets_in, get_d_sets_out, drop_sets_in, sets-whole}
use Rattle.octets.proofs.Numbers.{halves, quarters, u16_out, u16-at, pattern_small, signed-pattern}
use Rattle.octets.proofs.Loops.{zeros-drop}
use Rattle.store.specs.Chain.{last_of, greatest, gather}
use Rattle.store.specs.Layout.{Event, point, lost, count, rec, write, link_in, next, held, is_points, point_at, points, points_ok, record_ok, span_of, events_of, lost_record, point_bytes, point_record}
use Rattle.store.specs.Store.{chain, events, total, refusal}
use Rattle.track.specs.Append.{new_index, linked, lost_appended, has_room, grown, point_appended}
use Rattle.store.specs.Store.{last_in}
use Rattle.store.proofs.Chains.{NoDup, Run, all_map, all_zip, run_positive, run_no_dup, last_all, all_snoc, run_extend, gather-same, gather_snoc, gather_last, sum_same, sum_snoc, sum_last, below-greatest, run_same}
use Rattle.store.proofs.Records.{rec-write-same, rec_write_other, rec-length, length-write, link_small, link_later, next_other, next_link, next-total, head_in, head_out, head_link, total-write}
use Rattle.store.proofs.Sounds.{Sound, sound_chain, sound_accepted, accepted_sound}

-- ---- a store with a record more
-- what a record holds does not depend on its first two bytes
record_rest : (r : List ℕ) → record_ok r ≡ record_ok (0 ∷ 0 ∷ drop 2 r)
unfolding record_ok
record_rest [] = refl
record_rest (a ∷ []) = refl
record_rest (a ∷ b ∷ r) = refl

span_rest : (r : List ℕ) → span_of r ≡ span_of (0 ∷ 0 ∷ drop 2 r)
unfolding span_of
span_rest [] = refl
span_rest (a ∷ []) = refl
span_rest (a ∷ b ∷ r) = refl

events_rest : (r : List ℕ) → events_of r ≡ events_of (0 ∷ 0 ∷ drop 2 r)
unfolding events_of
events_rest [] = refl
events_rest (a ∷ []) = refl
events_rest (a ∷ b ∷ r) = refl

-- two records that agree from byte 2 on
record Same (r' r : List ℕ) : Type 0 where
  ok : record_ok r' ≡ record_ok r
  span : span_of r' ≡ span_of r
  held : events_of r' ≡ events_of r

same_rest : (r' r : List ℕ) → drop 2 r' ≡ drop 2 r → Same r' r
same_rest r' r e =
    record {
      ok = record_rest r' ∙ ap (λ (x : List ℕ). record_ok (0 ∷ 0 ∷ x)) e ∙ sym (record_rest r);
      span = span_rest r' ∙ ap (λ (x : List ℕ). span_of (0 ∷ 0 ∷ x)) e ∙ sym (span_rest r);
      held = events_rest r' ∙ ap (λ (x : List ℕ). events_of (0 ∷ 0 ∷ x)) e ∙ sym (events_rest r);
    }

module _ (s c r : List ℕ) (n : ℕ) (o : Sound s c) (room : greatest c + 1 < count s) (fits : total s + n < 4294967296)
    (long : length r ≡ 32) (closed : u16 r 0 ≡ 0) (ok : record_ok r ≡ true) (span : span_of r ≡ n) where
  abbrev j : ℕ
  j = greatest c + 1

  abbrev l : ℕ
  l = last_of 0 c

  abbrev s₁ : List ℕ
  s₁ = write s j 0 r

  abbrev s₂ : List ℕ
  s₂ = write s₁ l (link_in l) (le16 j)

  abbrev s₃ : List ℕ
  s₃ = write s₂ 0 8 (le32 (total s + n))

  size : length s ≡ 32 * count s
  size = o.whole

  small : count s ≤ 2048
  small = o.most

  long₁ : length s₁ ≡ length s
  long₁ = length-write s j 0 r

  long₂ : length s₂ ≡ length s
  long₂ = length-write s₁ l (link_in l) (le16 j) ∙ long₁

  long₃ : length s₃ ≡ length s
  long₃ = length-write s₂ 0 8 (le32 (total s + n)) ∙ long₂

  fresh : All (λ x. x ≢ j) (0 ∷ c)
  fresh = (omega arith, all_map c (λ x h. omega arith) (below-greatest c))

  dup : NoDup (0 ∷ c)
  dup = (all_map c (λ x h. omega arith) (run_positive (next s) (next s 0) c o.run), run_no_dup (next s) (next s 0) c o.run)

  last_in_lem : l < count s
  last_in_lem = last_all (λ x. x < count s) 0 c (omega arith) o.within

  last_old : l ≢ j
  last_old = last_all (λ x. x ≢ j) 0 c fresh.0 fresh.1

  link_fits : link_in l + 2 ≤ 32
  link_fits = omega (arith, link_small l)

  next_old : (x : ℕ) → x ≢ l → x ≢ j → next s₃ x ≡ next s x
  next_old x p q = next-total s₂ (total s + n) x ∙ next_other s₁ l x (link_in l) (le16 j) link_fits p ∙ next_other s j x 0 r (omega arith) q

  next_last : next s₃ l ≡ j
  next_last = next-total s₂ (total s + n) l ∙ next_link s₁ l j (omega (arith, small)) (omega (arith, size, long₁, last_in_lem))

  rec_new₁ : rec s₁ j ≡ r
  rec_new₁ = rec-write-same s j 0 r (omega arith) ∙ sets-whole r (rec s j) (long ∙ sym (rec-length s j (omega (arith, size))))

  rec_new : rec s₃ j ≡ r
  rec_new =
      rec_write_other s₂ 0 j 8 (le32 (total s + n)) (omega arith) (omega arith)
      ∙ rec_write_other s₁ l j (link_in l) (le16 j) link_fits (λ e. last_old (sym e)) ∙ rec_new₁

  next_new : next s₃ j ≡ 0
  unfolding next
  next_new = ap (λ (k : List ℕ). u16 k (link_in j)) rec_new ∙ ap (u16 r) (link_later j (omega arith)) ∙ closed

  run₃ : Run (next s₃) (next s₃ 0) (c ++ (j ∷ []))
  run₃ = run_extend (next s) (next s₃) 0 j c dup o.run next_old fresh next_last (omega arith) next_new

  rest₂ : (x : ℕ) → 0 < x → drop 2 (rec s₂ x) ≡ drop 2 (rec s₁ x)
  rest₂ x p =
      by_test (eqb x l)
      (λ e. let q : x ≡ l = eqb-true x l e in
      subst (λ (k : ℕ). drop 2 (rec s₂ k) ≡ drop 2 (rec s₁ k)) (sym q)
      (ap (drop 2) (rec-write-same s₁ l (link_in l) (le16 j) link_fits)
      ∙ drop-sets-le (le16 j) (rec s₁ l) 2 (link_in l) (omega (arith, link_later l (omega arith)))))
      (λ e. ap (drop 2) (rec_write_other s₁ l x (link_in l) (le16 j) link_fits (eqb-false x l e)))

  old : (x : ℕ) → 0 < x → x ≢ j → Same (rec s₃ x) (rec s x)
  old x p q =
      same_rest (rec s₃ x) (rec s x)
      (ap (drop 2) (rec_write_other s₂ 0 x 8 (le32 (total s + n)) (omega arith) (omega arith))
      ∙ rest₂ x p ∙ ap (drop 2) (rec_write_other s j x 0 r (omega arith) q))

  olds : All (λ x. Same (rec s₃ x) (rec s x)) c
  olds = all_zip c old (run_positive (next s) (next s 0) c o.run) fresh.1

  pub linked_sound : Sound (linked s c r n) (c ++ ((greatest c + 1) ∷ []))
  linked_sound =
      let m : count s₃ ≡ count s = ap (λ (k : ℕ). k / 32) long₃ in
      record {
        whole = omega (arith, long₃, size, m);
        least = omega (arith, m, o.least);
        most = omega (arith, m, o.most);
        head = head_in s₂ 8 (le32 (total s + n)) (omega arith) (omega arith) ∙ head_link s₁ l j ∙ head_out s j 0 r (omega arith) (omega arith) ∙ o.head;
        run = run₃;
        within = rw m (all_snoc (λ x. x < count s) c j o.within room);
        records = all_snoc (λ x. record_ok (rec s₃ x) ≡ true) c j (all_zip c (λ x h k. h.ok ∙ k) olds o.records) (ap record_ok rec_new ∙ ok);
        sum = total-write s₂ (total s + n) fits (omega (arith, long₂, size, o.least))
            ∙ omega (arith, sum_snoc (λ i. span_of (rec s₃ i)) c j, sum_same (λ i. span_of (rec s i)) (λ i. span_of (rec s₃ i)) c (all_map c (λ x h. h.span) olds), o.sum, ap span_of rec_new, span);
      }

  pub linked-events : events (linked s c r n) ≡ gather (λ i. events_of (rec s i)) c ++ events_of r
  unfolding events
  linked-events =
      ap (gather (λ i. events_of (rec s₃ i))) (sound_chain s₃ (c ++ (j ∷ [])) linked_sound)
      ∙ gather_snoc (λ i. events_of (rec s₃ i)) c j
      ∙ ap (λ (x : List Event). x ++ events_of (rec s₃ j)) (gather-same (λ i. events_of (rec s i)) (λ i. events_of (rec s₃ i)) c (all_map c (λ x h. h.held) olds))
      ∙ ap (λ (x : List ℕ). gather (λ i. events_of (rec s i)) c ++ events_of x) rec_new

-- ---- a point more in a record
range_fits : (x : ℤ) → leb (nat_abs x) 16384 ≡ true → SFits w16 x
range_fits (pos n) e = let h : n ≤ 16384 = leb-true n 16384 e in record { sfits = omega arith }
range_fits (negsuc n) e = let h : suc n ≤ 16384 = leb-true (suc n) 16384 e in record { sfits = omega arith }

point_fits : (p : Point) → in_range p ≡ true → SFits w16 p.re × SFits w16 p.im
unfolding in_range
point_fits p e =
    let s = and_split (leb (nat_abs p.re) 16384) (leb (nat_abs p.im) 16384) e in
    (range_fits p.re s.0, range_fits p.im s.1)

module _ (p : Point) (ok : in_range p ≡ true) where
  abbrev pair : List ℕ
  pair = point_bytes p

  -- the point's own bytes
  read_re : signed (pattern p.re % 256 + 256 * (pattern p.re / 256 % 256)) ≡ p.re
  read_re = let f = (point_fits p ok).0 in ap signed (halves (pattern p.re) (pattern_small p.re f)) ∙ signed-pattern p.re f

  read_im : signed (pattern p.im % 256 + 256 * (pattern p.im / 256 % 256)) ≡ p.im
  read_im = let f = (point_fits p ok).1 in ap signed (halves (pattern p.im) (pattern_small p.im f)) ∙ signed-pattern p.im f

  read_pair : (bs : List ℕ) → 4 ≤ length bs → point_at (sets bs 0 pair) ≡ p
  read_pair bs h =
      ap₂ at (ap signed (u16-at pair bs 0 0 (omega arith) (omega arith)) ∙ read_re) (ap signed (u16-at pair bs 0 2 (omega arith) (omega arith)) ∙ read_im)

  grow : (bs : List ℕ) (k : ℕ) → points_ok bs k ≡ true → 4 * k + 4 ≤ length bs
      → (points (sets bs (4 * k) pair) (suc k) ≡ points bs k ++ (point p ∷ [])) × (points_ok (sets bs (4 * k) pair) (suc k) ≡ true)
  grow bs zero e h =
      let q : point_at (sets bs 0 pair) ≡ p = read_pair bs (omega arith) in (
        ap (λ (x : Point). point x ∷ []) q,
        and_join (in_range (point_at (sets bs 0 pair))) (zeros (drop 4 (sets bs 0 pair))) (ap in_range q ∙ ok)
            (ap zeros (drop-sets-le pair bs 4 0 (omega arith)) ∙ zeros-drop 4 bs e),
      )
  grow bs (suc k) e h =
      let s = and_split (in_range (point_at bs)) (points_ok (drop 4 bs) k) e in
      let q : point_at (sets bs (4 * suc k) pair) ≡ point_at bs =
      ap₂ at (ap signed (u16_out pair bs (4 * suc k) 0 (inl (omega arith)))) (ap signed (u16_out pair bs (4 * suc k) 2 (inl (omega arith)))) in
      let d : drop 4 (sets bs (4 * suc k) pair) ≡ sets (drop 4 bs) (4 * k) pair =
      ap (λ (m : ℕ). drop 4 (sets bs m pair)) (let e : 4 * suc k ≡ 4 + 4 * k = omega arith in e) ∙ drop_sets_in pair bs 4 (4 * k) in
      let g = grow (drop 4 bs) k s.1 (simp length-drop (omega arith)) in (
        ap₂ (λ (x : Point) (y : List Event). point x ∷ y) q (ap (λ (x : List ℕ). points x (suc k)) d ∙ g.0),
        and_join (in_range (point_at (sets bs (4 * suc k) pair))) (points_ok (drop 4 (sets bs (4 * suc k) pair)) (suc k))
            (ap in_range q ∙ s.0) (ap (λ (x : List ℕ). points_ok x (suc k)) d ∙ g.1),
      )

  -- the record with one point more
  record Grown (r' r : List ℕ) : Type 0 where
    fine : record_ok r' ≡ true
    span : span_of r' ≡ span_of r + 1
    held-events : events_of r' ≡ events_of r ++ (point p ∷ [])
    of_points : is_points r' ≡ true
    held_more : held r' ≡ suc (held r)

  grown_record : (r : List ℕ) → length r ≡ 32 → record_ok r ≡ true → is_points r ≡ true → get_or r 3 0 < 7
      → Grown (sets (sets r 3 ((get_or r 3 0 + 1) ∷ [])) (4 + 4 * get_or r 3 0) pair) r
  unfolding record_ok span_of events_of
  grown_record r long okr is room =
      let k = get_or r 3 0 in
      let t : List ℕ = sets r 3 ((k + 1) ∷ []) in
      let r' : List ℕ = sets t (4 + 4 * k) pair in
      let lt : length t ≡ 32 = length-sets r 3 ((k + 1) ∷ []) ∙ long in
      let s = and_split (leb k 7 && leb 1 k) (points_ok (drop 4 r) k) (rw is at okr) in
      let g = grow (drop 4 r) k s.1 (simp length-drop (omega arith)) in
      let b2 : get_or r' 2 0 ≡ get_or r 2 0 = get_d_sets_out pair t (4 + 4 * k) 2 0 (inl (omega arith)) ∙ get_d_sets_out ((k + 1) ∷ []) r 3 2 0 (inl (omega arith)) in
      let b3 : get_or r' 3 0 ≡ suc k = get_d_sets_out pair t (4 + 4 * k) 3 0 (inl (omega arith)) ∙ get_d_sets_in ((k + 1) ∷ []) r 3 0 0 (omega arith) (omega arith) ∙ add-one k in
      let d : drop 4 r' ≡ sets (drop 4 r) (4 * k) pair =
      drop_sets_in pair t 4 (4 * k) ∙ ap (λ (x : List ℕ). sets x (4 * k) pair) (drop-sets-le ((k + 1) ∷ []) r 4 3 (omega arith)) in
      let kp : is_points r' ≡ true = ap (λ (x : ℕ). eqb x 1) b2 ∙ is in
      record {
        fine = rw (kp, b3, d) (and_join (leb (suc k) 7 && leb 1 (suc k)) (points_ok (sets (drop 4 r) (4 * k) pair) (suc k))
            (and_join (leb (suc k) 7) (leb 1 (suc k)) (le-leb (suc k) 7 (omega arith)) (le-leb 1 (suc k) (omega arith))) g.1);
        span = rw (kp, b3, is) (omega arith);
        held-events = rw (kp, b3, d, is) g.0;
        of_points = kp;
        held_more = b3;
      }

  module _ (s : List ℕ) (h : ℕ) (c : List ℕ) (o : Sound s (h ∷ c)) (is : is_points (rec s (last_of h c)) ≡ true)
      (less : get_or (rec s (last_of h c)) 3 0 < 7) (fits : total s + 1 < 4294967296) where
    abbrev i : ℕ
    i = last_of h c

    abbrev k : ℕ
    k = get_or (rec s i) 3 0

    abbrev g₁ : List ℕ
    g₁ = write s i 3 ((k + 1) ∷ [])

    abbrev g₂ : List ℕ
    g₂ = write g₁ i (4 + 4 * k) pair

    abbrev g₃ : List ℕ
    g₃ = write g₂ 0 8 (le32 (total s + 1))

    gsize : length s ≡ 32 * count s
    gsize = o.whole

    glong₂ : length g₂ ≡ length s
    glong₂ = length-write g₁ i (4 + 4 * k) pair ∙ length-write s i 3 ((k + 1) ∷ [])

    glong₃ : length g₃ ≡ length s
    glong₃ = length-write g₂ 0 8 (le32 (total s + 1)) ∙ glong₂

    in_chain : (i < count s) × (0 < i)
    in_chain = (
      last_all (λ x. x < count s) h c o.within.0 o.within.1,
      let p = run_positive (next s) (next s 0) (h ∷ c) o.run in last_all (λ x. 0 < x) h c p.0 p.1,
    )

    pair_fits : 4 + 4 * k + 4 ≤ 32
    pair_fits = omega (arith, less)

    -- the next fields are as they were
    next_kept : (x o' : ℕ) (u vs : List ℕ) → 2 ≤ o' → o' + length vs ≤ 32 → next (write u i o' vs) x ≡ next u x
    unfolding next
    next_kept x o' u vs p q =
        by_test (eqb x i)
        (λ e. let w : x ≡ i = eqb-true x i e in
        subst (λ (m : ℕ). u16 (rec (write u i o' vs) m) (link_in m) ≡ u16 (rec u m) (link_in m)) (sym w)
        (ap (λ (r : List ℕ). u16 r (link_in i)) (rec-write-same u i o' vs q)
        ∙ u16_out vs (rec u i) o' (link_in i) (inl (omega (arith, link_later i (omega (arith, in_chain.1)))))))
        (λ e. ap (λ (r : List ℕ). u16 r (link_in x)) (rec_write_other u i x o' vs q (eqb-false x i e)))

    next-grown : (x : ℕ) → next g₃ x ≡ next s x
    next-grown x =
        next-total g₂ (total s + 1) x ∙ next_kept x (4 + 4 * k) g₁ pair (omega arith) pair_fits ∙ next_kept x 3 s ((k + 1) ∷ []) (omega arith) (omega arith)

    other : (x : ℕ) → 0 < x → x ≢ i → rec g₃ x ≡ rec s x
    other x p q =
        rec_write_other g₂ 0 x 8 (le32 (total s + 1)) (omega arith) (omega arith)
        ∙ rec_write_other g₁ i x (4 + 4 * k) pair pair_fits q ∙ rec_write_other s i x 3 ((k + 1) ∷ []) (omega arith) q

    grown_last : Grown (rec g₃ i) (rec s i)
    grown_last =
        subst (λ (r : List ℕ). Grown r (rec s i))
        (sym (rec_write_other g₂ 0 i 8 (le32 (total s + 1)) (omega arith) (omega (arith, in_chain.1))
        ∙ rec-write-same g₁ i (4 + 4 * k) pair pair_fits ∙ ap (λ (r : List ℕ). sets r (4 + 4 * k) pair) (rec-write-same s i 3 ((k + 1) ∷ []) (omega arith))))
        (grown_record (rec s i) (rec-length s i (omega (arith, gsize, in_chain.0)))
        (last_all (λ x. record_ok (rec s x) ≡ true) h c o.records.0 o.records.1) is less)

    dup' : NoDup (h ∷ c)
    dup' = run_no_dup (next s) (next s 0) (h ∷ c) o.run

    pub grown_sound : Sound (grown s i k p) (h ∷ c)
    grown_sound =
        let m : count g₃ ≡ count s = ap (λ (n : ℕ). n / 32) glong₃ in
        record {
          whole = omega (arith, glong₃, gsize, m);
          least = omega (arith, m, o.least);
          most = omega (arith, m, o.most);
          head = head_in g₂ 8 (le32 (total s + 1)) (omega arith) (omega arith)
              ∙ head_out g₁ i (4 + 4 * k) pair pair_fits (omega (arith, in_chain.1)) ∙ head_out s i 3 ((k + 1) ∷ []) (omega arith) (omega (arith, in_chain.1)) ∙ o.head;
          run = rw (next-grown 0) (run_same (next s) (next g₃) (next s 0) (h ∷ c) next-grown o.run);
          within = subst (λ (n : ℕ). All (λ i. i < n) (h ∷ c)) (sym m) o.within;
          records = all_zip (h ∷ c) (λ x p q. by_test (eqb x i)
              (λ e. subst (λ (y : ℕ). record_ok (rec g₃ y) ≡ true) (sym (eqb-true x i e)) grown_last.fine)
              (λ e. ap record_ok (other x p (eqb-false x i e)) ∙ q)) (run_positive (next s) (next s 0) (h ∷ c) o.run) o.records;
          sum = total-write g₂ (total s + 1) fits (omega (arith, glong₂, gsize, o.least)) ∙ ap (λ (n : ℕ). n + 1) o.sum
              ∙ sym (sum_last (λ x. span_of (rec s x)) (λ x. span_of (rec g₃ x)) 1 h c dup'
              (all_map (h ∷ c) (λ x p q. ap span_of (other x p q)) (run_positive (next s) (next s 0) (h ∷ c) o.run)) grown_last.span);
        }

    pub grown-events : events (grown s i k p) ≡ gather (λ x. events_of (rec s x)) (h ∷ c) ++ (point p ∷ [])
    unfolding events
    grown-events =
        ap (gather (λ x. events_of (rec g₃ x))) (sound_chain g₃ (h ∷ c) grown_sound)
        ∙ gather_last (λ x. events_of (rec s x)) (λ x. events_of (rec g₃ x)) (point p ∷ []) h c dup'
        (all_map (h ∷ c) (λ x p q. ap events_of (other x p q)) (run_positive (next s) (next s 0) (h ∷ c) o.run)) grown_last.held-events

-- ---- the two appends
-- s' is the accepted store s with the event e, of n intervals, at its end
pub record Appended (s s' : List ℕ) (e : Event) (n : ℕ) : Type 0 where
  pub accepted : refusal s' ≡ 0
  pub events_are : events s' ≡ events s ++ (e ∷ [])
  pub total_is : total s' ≡ total s + n
  pub long : length s' ≡ length s

linked-appended : (s : List ℕ) (e : Event) (r : List ℕ) (n : ℕ) → refusal s ≡ 0 → greatest (chain s) + 1 < count s → total s + n < 4294967296
    → length r ≡ 32 → u16 r 0 ≡ 0 → record_ok r ≡ true → span_of r ≡ n → events_of r ≡ e ∷ [] → Appended s (linked s (chain s) r n) e n
unfolding events
linked-appended s e r n acc room fits long closed ok span held =
    let o = accepted_sound s acc in
    let w = o.whole in
    let t = o.least in
    record {
      accepted = sound_accepted (linked s (chain s) r n) (chain s ++ ((greatest (chain s) + 1) ∷ [])) (linked_sound s (chain s) r n o room fits long closed ok span);
      events_are = linked-events s (chain s) r n o room fits long closed ok span ∙ ap (λ (x : List Event). gather (λ i. events_of (rec s i)) (chain s) ++ x) held;
      total_is = total-write (s₂ s (chain s) r n o room fits long closed ok span) (total s + n) fits (omega (arith, long₂ s (chain s) r n o room fits long closed ok span));
      long = long₃ s (chain s) r n o room fits long closed ok span;
    }

-- a count from 1 to 4294967295 that is lost
pub lost_law : (s : List ℕ) (n : ℕ) → refusal s ≡ 0 → 1 ≤ n → total s + n < 4294967296 → greatest (chain s) + 1 < count s
    → Appended s (lost_appended s n) (lost n) n
unfolding lost_appended record_ok span_of events_of
lost_law s n acc p fits room =
    let v : u32 (lost_record n) 4 ≡ n = quarters n (omega arith) in
    linked-appended s (lost n) (lost_record n) n acc room fits refl refl
    (rw (v, le-leb 1 n p)) v (rw v)

-- a point within range; where the last record has no room, there is one for a new record
pub point_law : (s : List ℕ) (p : Point) → refusal s ≡ 0 → in_range p ≡ true
    → total s + 1 < 4294967296 → (has_room s (last_in s) ≡ false → greatest (chain s) + 1 < count s)
    → Appended s (point_appended s p) (point p) 1
unfolding point_appended events has_room record_ok span_of events_of
point_law s p acc ok fits room =
    by_test (has_room s (last_in s))
    (λ e. rw e (in_last (chain s) (accepted_sound s acc) refl e))
    (λ e. rw e (linked-appended s (point p) (point_record p) 1 acc (room e) fits refl refl
    (rw (read_re p ok, read_im p ok, ok)) refl (rw (read_re p ok, read_im p ok))))
  where
    in_last : (c : List ℕ) → Sound s c → events s ≡ gather (λ x. events_of (rec s x)) c → has_room s (last_of 0 c) ≡ true
        → Appended s (grown s (last_of 0 c) (held (rec s (last_of 0 c))) p) (point p) 1
    in_last [] o q e = absurd (false≢true e)
    in_last (h ∷ c) o q e =
        let i = last_of h c in
        let z = and_split (not (eqb i 0) && is_points (rec s i)) (ltb (held (rec s i)) 7) e in
        let y = and_split (not (eqb i 0)) (is_points (rec s i)) z.0 in
        let less : held (rec s i) < 7 = ltb-true (held (rec s i)) 7 z.1 in
        record {
          accepted = sound_accepted (grown s i (held (rec s i)) p) (h ∷ c) (grown_sound p ok s h c o y.1 less fits);
          events_are = grown-events p ok s h c o y.1 less fits ∙ ap (λ (x : List Event). x ++ (point p ∷ [])) (sym q);
          total_is = total-write (g₂ p ok s h c o y.1 less fits) (total s + 1) fits (omega (arith, o.whole, o.least, glong₂ p ok s h c o y.1 less fits));
          long = glong₃ p ok s h c o y.1 less fits;
        }

-- the chain after a point went into a new record
pub point_linked : (s : List ℕ) (p : Point) → refusal s ≡ 0 → in_range p ≡ true → total s + 1 < 4294967296
    → has_room s (last_in s) ≡ false → new_index (chain s) < count s
    → (chain (point_appended s p) ≡ chain s ++ (new_index (chain s) ∷ [])) × (rec (point_appended s p) (new_index (chain s)) ≡ point_record p)
unfolding point_appended record_ok span_of
point_linked s p acc ok fits e room =
    let o = accepted_sound s acc in
    let fine : record_ok (point_record p) ≡ true = rw (read_re p ok, read_im p ok, ok) in
    rw e (
      sound_chain (linked s (chain s) (point_record p) 1) (chain s ++ (new_index (chain s) ∷ [])) (linked_sound s (chain s) (point_record p) 1 o room fits refl refl fine refl),
      rec_new s (chain s) (point_record p) 1 o room fits refl refl fine refl,
    )

-- and after it went into the last one
pub record GrownLast (s s' c : List ℕ) : Type 0 where
  pub chained : chain s' ≡ c
  pub of_points : is_points (rec s' (last_of 0 c)) ≡ true
  pub held_more : held (rec s' (last_of 0 c)) ≡ suc (held (rec s (last_of 0 c)))
  pub positive : 0 < last_of 0 c

pub point_grown : (s : List ℕ) (p : Point) → refusal s ≡ 0 → in_range p ≡ true → total s + 1 < 4294967296
    → has_room s (last_in s) ≡ true → GrownLast s (point_appended s p) (chain s)
unfolding point_appended has_room
point_grown s p acc ok fits e = rw e (in_last (chain s) (accepted_sound s acc) e)
  where
    in_last : (c : List ℕ) → Sound s c → has_room s (last_of 0 c) ≡ true → GrownLast s (grown s (last_of 0 c) (held (rec s (last_of 0 c))) p) c
    in_last [] o e = absurd (false≢true e)
    in_last (h ∷ c) o e =
        let i = last_of h c in
        let z = and_split (not (eqb i 0) && is_points (rec s i)) (ltb (held (rec s i)) 7) e in
        let y = and_split (not (eqb i 0)) (is_points (rec s i)) z.0 in
        let less : held (rec s i) < 7 = ltb-true (held (rec s i)) 7 z.1 in
        let g = grown_last p ok s h c o y.1 less fits in
        record {
          chained = sound_chain (grown s i (held (rec s i)) p) (h ∷ c) (grown_sound p ok s h c o y.1 less fits);
          of_points = g.of_points;
          held_more = g.held_more;
          positive = (in_chain p ok s h c o y.1 less fits).1;
        }
