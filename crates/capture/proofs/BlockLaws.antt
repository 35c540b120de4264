-- A capture read event by event, and in blocks. Assumes nothing.
use mathlib.Core.Path.{◌≡◌, refl, sym, ap, ap₂, ◌∙◌}
use mathlib.Core.Logic.{⊎_elim}
use mathlib.Core.List.{List, [], ◌∷◌, ◌++◌, append_assoc}
use Prim.Native.Nat.{ℕ, zero, suc, ◌+◌, ◌≤◌, ◌<◌}
use native.Mathlib.Omega.{arith}
use borrow.Author.Tests.{eqb-true, eqb-false}
use lib.Dec.{eqb}
use lib.ListN.{length, drop, length-append, length-drop, get_or-append}
use lib.Seq.{drop-append-le, drop-drop}
use Rattle.line.specs.Point.{at}
use Rattle.line.proofs.Tests.{by_test, lt_or_ge}
use Rattle.octets.specs.Number.{u16, u32, signed}
use Rattle.store.specs.Chain.{sum_over}
use Rattle.store.specs.Layout.{Event, point, lost, point_at}
use Rattle.capture.specs.Capture.{mark_number, first, size, events_from, events_in, rest_in}
use Rattle.capture.specs.Laws.{Joined, InBlocks, RestShort}
use Rattle.capture.proofs.FirstLaws.{first_past, first_point, first-cut, first_lost}

-- WITH BYTES BEHIND

u16_append : (a b : List ℕ) (i : ℕ) → i + 2 ≤ length a → u16 (a ++ b) i ≡ u16 a i
u16_append a b i h = omega (arith, get_or-append a b 0 i (omega arith), get_or-append a b 0 (i + 1) (omega arith))

u32_append : (a b : List ℕ) (i : ℕ) → i + 4 ≤ length a → u32 (a ++ b) i ≡ u32 a i
u32_append a b i h = omega (arith, u16_append a b i (omega arith), u16_append a b (i + 2) (omega arith))

-- THE FIRST EVENT

-- bytes start with an event: all of it is there, and whatever stands behind the bytes, they do
pub record Starts (bs : List ℕ) (e : Event) : Type 0 where
  pub is : first bs ≡ e ∷ []
  pub least : 4 ≤ size e
  pub whole : size e ≤ length bs
  pub behind : (b : List ℕ) → first (bs ++ b) ≡ e ∷ []

-- they start with none, and are fewer than 8; or with one
pub data Begin (bs : List ℕ) : Type 0 where
  none : first bs ≡ [] → length bs < 8 → Begin bs
  one : (e : Event) → Starts bs e → Begin bs

pub starts_point : (bs : List ℕ) → 4 ≤ length bs → (u32 bs 0 ≡ mark_number → ⊥) → Starts bs (point (point_at bs))
starts_point bs h n =
    record {
      is = first_point bs 0 h n;
      least = omega arith;
      whole = h;
      behind = λ b.
          first_point (bs ++ b) 0 (omega (arith, length-append bs b)) (λ e. n (sym (u32_append bs b 0 h) ∙ e))
          ∙ ap₂ (λ (x y : ℕ). point (at (signed x) (signed y)) ∷ []) (u16_append bs b 0 (omega arith)) (u16_append bs b 2 h);
    }

pub starts_lost : (bs : List ℕ) → 8 ≤ length bs → u32 bs 0 ≡ mark_number → Starts bs (lost (u32 bs 4))
starts_lost bs h m =
    record {
      is = first_lost bs 0 m h;
      least = omega arith;
      whole = h;
      behind = λ b.
          first_lost (bs ++ b) 0 (u32_append bs b 0 (omega arith) ∙ m) (omega (arith, length-append bs b))
          ∙ ap (λ (n : ℕ). lost n ∷ []) (u32_append bs b 4 h);
    }

pub begin : (bs : List ℕ) → Begin bs
begin bs = ⊎_elim (λ l. none (first_past bs 0 l) (omega arith)) long (lt_or_ge (length bs) 4)
  where
    marked : 4 ≤ length bs → u32 bs 0 ≡ mark_number → Begin bs
    marked h m = ⊎_elim (λ l. none (first-cut bs 0 h m l) l) (λ l. one _ (starts_lost bs l m)) (lt_or_ge (length bs) 8)

    long : 4 ≤ length bs → Begin bs
    long h =
        by_test (eqb (u32 bs 0) mark_number)
        (λ e. marked h (eqb-true (u32 bs 0) mark_number e))
        (λ e. one _ (starts_point bs h (eqb-false (u32 bs 0) mark_number e)))

-- EVENT BY EVENT

-- what holds of bytes that start with no event, and of others where it holds behind the first event, holds of all
module _ (P : List ℕ → Type 0) (at_end : (bs : List ℕ) → first bs ≡ [] → length bs < 8 → P bs)
    (before : (bs : List ℕ) (e : Event) → Starts bs e → P (drop (size e) bs) → P bs) where
  by_begin : (bs : List ℕ) → Begin bs → ((e : Event) → Starts bs e → P (drop (size e) bs)) → P bs
  by_begin bs (none f l) r = at_end bs f l
  by_begin bs (one e s) r = before bs e s (r e s)

  within : (k : ℕ) (bs : List ℕ) → length bs ≤ k → P bs
  within zero bs h = by_begin bs (begin bs) (λ e s. absurd (omega arith))
  within (suc k) bs h = by_begin bs (begin bs) (λ e s. within k (drop (size e) bs) (omega (arith, length-drop (size e) bs)))

  pub by_events : (bs : List ℕ) → P bs
  by_events bs = within (length bs) bs (omega arith)

none_from : (k : ℕ) (bs : List ℕ) → first bs ≡ [] → events_from k bs ≡ []
none_from zero bs f = refl
none_from (suc k) bs f = rw f

-- as many turns as bytes are enough
enough : (bs : List ℕ) (k j : ℕ) → length bs ≤ k → length bs ≤ j → events_from k bs ≡ events_from j bs
enough =
    by_events (λ (bs : List ℕ). (k j : ℕ) → length bs ≤ k → length bs ≤ j → events_from k bs ≡ events_from j bs)
    (λ bs f l k j p q. none_from k bs f ∙ sym (none_from j bs f))
    turn
  where
    turn : (bs : List ℕ) (e : Event) → Starts bs e
        → ((k j : ℕ) → length (drop (size e) bs) ≤ k → length (drop (size e) bs) ≤ j → events_from k (drop (size e) bs) ≡ events_from j (drop (size e) bs))
        → (k j : ℕ) → length bs ≤ k → length bs ≤ j → events_from k bs ≡ events_from j bs
    turn bs e s r zero j p q = absurd (omega arith)
    turn bs e s r (suc k) zero p q = absurd (omega arith)
    turn bs e s r (suc k) (suc j) p q =
        rw s.is (ap (λ (es : List Event). e ∷ es) (r k j (omega (arith, length-drop (size e) bs)) (omega (arith, length-drop (size e) bs))))

pub events_none : (bs : List ℕ) → first bs ≡ [] → events_in bs ≡ []
unfolding events_in
events_none bs f = none_from (length bs) bs f

pub rest_none : (bs : List ℕ) → first bs ≡ [] → rest_in bs ≡ bs
unfolding rest_in
rest_none bs f = rw (events_none bs f)

module _ (bs : List ℕ) (e : Event) (s : Starts bs e) where
  pub events_one : events_in bs ≡ e ∷ events_in (drop (size e) bs)
  unfolding events_in
  events_one = go (length bs) refl
    where
      go : (k : ℕ) → length bs ≡ k → events_from k bs ≡ e ∷ events_from (length (drop (size e) bs)) (drop (size e) bs)
      go zero h = absurd (omega arith)
      go (suc k) h =
          rw s.is (ap (λ (es : List Event). e ∷ es) (enough (drop (size e) bs) k (length (drop (size e) bs)) (omega (arith, length-drop (size e) bs)) (omega arith)))

  pub rest_one : rest_in bs ≡ rest_in (drop (size e) bs)
  unfolding rest_in
  rest_one = rw events_one (sym (drop-drop (sum_over size (events_in (drop (size e) bs))) (size e) bs))

  -- and with bytes behind
  with_more : (b : List ℕ) → Starts (bs ++ b) e
  with_more b =
      record {
        is = s.behind b;
        least = s.least;
        whole = omega (arith, length-append bs b);
        behind = λ d. ap first (append_assoc bs b d) ∙ s.behind (b ++ d);
      }

-- IN BLOCKS

pub rest_short : RestShort
rest_short =
    by_events (λ (bs : List ℕ). length (rest_in bs) < 8)
    (λ bs f l. rw (rest_none bs f) l)
    (λ bs e s r. rw (rest_one bs e s) r)

pub in_blocks : InBlocks
in_blocks a b =
    by_events (λ (x : List ℕ). Joined x b)
    (λ x f l. record { events = rw (events_none x f, rest_none x f); rest = rw (rest_none x f) })
    (λ x e s r.
    let t = with_more x e s b in
    let d : drop (size e) (x ++ b) ≡ drop (size e) x ++ b = drop-append-le (size e) x b s.whole in
    record {
      events = events_one (x ++ b) e t ∙ ap (λ (y : List ℕ). e ∷ events_in y) d ∙ ap (λ (es : List Event). e ∷ es) r.events
          ∙ sym (rw (events_one x e s, rest_one x e s));
      rest = rest_one (x ++ b) e t ∙ ap rest_in d ∙ r.rest ∙ sym (ap (λ (y : List ℕ). rest_in (y ++ b)) (rest_one x e s));
    })
    a
