-- The lines of a listing agree with its sums. Assumes nothing.
use mathlib.Core.Path.{◌≡◌, refl, sym, ap, ◌∙◌, subst⁻¹}
use mathlib.Core.Bool.{true, false, cond}
use mathlib.Core.List.{List, [], ◌∷◌, ◌++◌, map, append_assoc, append-nil}
use Prim.Native.Nat.{ℕ, zero, suc, ◌+◌, ◌≤◌}
use native.Mathlib.Omega.{arith}
use borrow.Author.Tests.{eq-eqb, ne_eqb}
use lib.Dec.{T, eqb, leb, ltb, leb→le, ltb→lt}
use lib.ListN.{length, get_or, length-append}
use Rattle.line.specs.declared.Point.{Point}
use Rattle.line.specs.Point.{is_origin}
use Rattle.line.proofs.RefusalLaws.{need_met, need_rest, next_rest, left_kept}
use Rattle.line.proofs.TableLaws.{and_left, and_right, and_intro, every_append}
use Rattle.line.proofs.Tests.{by_test}
use Rattle.deciding.specs.Decide.{Region, State, Origin, decide}
use Rattle.deciding.proofs.DecideLaws.{Off, at_origin}
use Rattle.scrambler.specs.Scramble.{Datum, unsettled, settled}
use Rattle.receiver.specs.Reference.{Reference}
use Rattle.std.specs.Prelude.{None as none, Some as some}
use Rattle.receiver.specs.declared.Receiver.{Receiver}
use Rattle.receiver.specs.Receiver.{fresh_receiver, Answer, refused, reference, decoded, state_answer, point_answer, event_answer, answer, state_refusal, has_room, next}
use Rattle.receiver.specs.Receiver.{Event as Call, gap, lost as lostAnswer, refusal as eventRefused, event_refusal as eventNeeds}
use Rattle.receiver.specs.Calls.{EachAccepted}
use Rattle.receiver.proofs.CallLaws.{accepted-off}
use Rattle.store.specs.Chain.{sum_over}
use Rattle.store.specs.Layout.{Event, point, lost}
use Rattle.store.specs.Store.{events, total, refusal}
use Rattle.store.proofs.Chains.{sum_append}
use Rattle.summing.specs.declared.EventSums.{EventSums}
use Rattle.summing.specs.Sums.{decided_in, lost_in, gaps_in, sums_of}
use Rattle.listing.specs.Text.{decimal, glyphs, line_glyphs, track_mode, its_role, its_total, lost_are, sum_points, its_gaps, refused_by, blank, line_end, kind_text, line_text, taken, lines, numbers_line, sum_line, chain_text, refused_line, mode_in, role_in, text}
use Rattle.listing.specs.Agreement.{cut, same, value, ref_kind, bits_kind, lost_kind, is_kind, lost_count, Agrees, LinesAgree, OneLine}
use Rattle.listing.proofs.Digits.{above, byte_above, decimal_above, decimal_some, decimal-value}
use Rattle.listing.proofs.Heards.{none_refused}

-- ---- parts
not_ending : (c x : ℕ) → T (ltb c x) → eqb x c ≡ false
not_ending c x a = ne_eqb x c (λ e. omega (arith, ltb→lt c x a))

cut-first : (c : ℕ) (u v : List ℕ) → T (above c u) → cut c (u ++ (c ∷ v)) ≡ u ∷ cut c v
cut-first c [] v a = rw (eq-eqb c c refl)
cut-first c (x ∷ u) v a = rw (not_ending c x (and_left (ltb c x) (above c u) a), cut-first c u v (and_right (ltb c x) (above c u) a))

cut_last : (c : ℕ) (u : List ℕ) → T (above c u) → 1 ≤ length u → cut c u ≡ u ∷ []
cut_last c [] a h = absurd (omega arith)
cut_last c (x ∷ []) a h = rw (not_ending c x (and_left (ltb c x) true a))
cut_last c (x ∷ y ∷ u) a h =
    rw (not_ending c x (and_left (ltb c x) (above c (y ∷ u)) a), cut_last c (y ∷ u) (and_right (ltb c x) (above c (y ∷ u)) a) (omega arith))

-- ---- the line of an answer
settled_above : (bs : List ℕ) → T (above 10 (line_glyphs bs))
settled_above [] = tt
settled_above (b ∷ bs) = and_intro (ltb 10 (48 + b)) (above 10 (line_glyphs bs)) (byte_above 10 b (omega arith)) (settled_above bs)

data_above : (ds : List Datum) → T (above 10 (glyphs ds))
data_above [] = tt
data_above (unsettled ∷ ds) = data_above ds
data_above (settled b ∷ ds) = and_intro (ltb 10 (48 + b)) (above 10 (glyphs ds)) (byte_above 10 b (omega arith)) (data_above ds)

kind_above : (a : Answer) → T (above 10 (kind_text a))
unfolding kind_text
kind_above (refused n) = tt
kind_above (reference d) = tt
kind_above (decoded ls ds d) = every_append (ltb 10) (line_glyphs ls) (blank ++ glyphs ds) (settled_above ls) (data_above ds)
kind_above (lostAnswer n) = decimal_above n 10 (omega arith)

-- without its line end
abbrev row : ℕ → Answer → List ℕ
row place a = decimal place ++ kind_text a

row_cut : (place : ℕ) (a : Answer) (rest : List ℕ) → cut 10 (line_text place a ++ rest) ≡ row place a ∷ cut 10 rest
unfolding line_text
row_cut place a rest =
    ap (cut 10) (append_assoc (decimal place) (kind_text a ++ line_end) rest ∙ ap (λ (l : List ℕ). decimal place ++ l) (append_assoc (kind_text a) line_end rest) ∙ sym (append_assoc (decimal place) (kind_text a) (10 ∷ rest)))
    ∙ cut-first 10 (row place a) rest (every_append (ltb 10) (decimal place) (kind_text a) (decimal_above place 10 (omega arith)) (kind_above a))

-- what the words of an event's line say: p decided, g gaps, n lost
record Says (ws : List (List ℕ)) (p g n : ℕ) : Type 0 where
  decided : cond (same (get_or ws 1 []) ref_kind) 1 0 + cond (same (get_or ws 1 []) bits_kind) 1 0 ≡ p
  gap_is : cond (same (get_or ws 1 []) lost_kind) 1 0 ≡ g
  count_is : cond (same (get_or ws 1 []) lost_kind) (value 0 (get_or ws 2 [])) 0 ≡ n

-- the place, then other words
words_say : (place : ℕ) (w : List ℕ) (p g n : ℕ) → Says (decimal place ∷ cut 32 w) p g n → Says (cut 32 (decimal place ++ (32 ∷ w))) p g n
words_say place w p g n h = subst⁻¹ (λ ws. Says ws p g n) (cut-first 32 (decimal place) w (decimal_above place 32 (omega arith))) h

says_reference : (place d : ℕ) → Says (cut 32 (row place (reference d))) 1 0 0
unfolding kind_text
says_reference place d = words_say place ref_kind 1 0 0 (record { decided = refl; gap_is = refl; count_is = refl })

says_bits : (place : ℕ) (ls : List ℕ) (ds : List Datum) (d : ℕ) → Says (cut 32 (row place (decoded ls ds d))) 1 0 0
unfolding kind_text
says_bits place ls ds d =
    words_say place (bits_kind ++ (32 ∷ (line_glyphs ls ++ (blank ++ glyphs ds)))) 1 0 0 (record { decided = refl; gap_is = refl; count_is = refl })

says_lost : (place n : ℕ) → n ≤ 4294967295 → Says (cut 32 (row place (lostAnswer n))) 0 1 n
unfolding kind_text
says_lost place n h =
    words_say place (lost_kind ++ (32 ∷ decimal n)) 0 1 n
    (record {
      decided = refl;
      gap_is = refl;
      count_is = ap (λ (ws : List (List ℕ)). value 0 (get_or ws 0 [])) (cut_last 32 (decimal n) (decimal_above n 32 (omega arith)) (decimal_some n)) ∙ decimal-value n h;
    })

-- what some lines say in all
record Totals (ls : List (List ℕ)) (n : ℕ) (v : EventSums) : Type 0 where
  decided : sum_over (is_kind ref_kind) ls + sum_over (is_kind bits_kind) ls ≡ v.points
  gap_are : sum_over (is_kind lost_kind) ls ≡ v.gaps
  counts_are : sum_over lost_count ls ≡ v.lost
  long : length ls ≡ n

-- ---- an accepted event
state_says : (s : Receiver) (r : Reference) (y d : ℕ) → Says (cut 32 (row s.place.0 (state_answer s r y d))) 1 0 0
unfolding state_answer
state_says s none y d = says_reference s.place.0 d
state_says s (some x) y d = says_bits s.place.0 _ _ d

point_says : (s : Receiver) (p : Point) (d : Region) → Off s.mode d → Says (cut 32 (row s.place.0 (point_answer s p d))) 1 0 0
unfolding point_answer
point_says s p (State y) h = state_says s s.reference y _
point_says s p Origin h = absurd h

gap_room : (s : Receiver) (n : ℕ) → eventRefused s (gap n) ≡ 0 → n ≤ 4294967295
unfolding eventRefused eventNeeds has_room
gap_room s n a =
    let z = need_met (leb (s.place.0 + n) 4294967295) 15 0 (need_rest (leb 1 n) 8 _ (next_rest (state_refusal s) _ a)) in
    omega (arith, leb→le (s.place.0 + n) 4294967295 z)

event_says : (s : Receiver) (e : Event) → eventRefused s (taken e) ≡ 0
    → Says (cut 32 (row s.place.0 (event_answer s (taken e)))) (decided_in e) (gaps_in e) (lost_in e)
unfolding event_answer point_answer
event_says s (point p) a =
    by_test (is_origin p)
    (λ e. rw (e, at_origin s.mode p e) (says_lost s.place.0 1 (omega arith)))
    (λ e. rw e (point_says s p (decide s.mode p) (accepted-off s p a e)))
event_says s (lost n) a = says_lost s.place.0 n (gap_room s n a)

-- ---- the lines of events
abbrev rows : Receiver → List Call → List (List ℕ)
rows s [] = []
rows s (e ∷ es) = row s.place.0 (answer s e) ∷ rows (next s e) es

rows_cut : (s : Receiver) (es : List Call) (rest : List ℕ) → cut 10 (lines s es ++ rest) ≡ rows s es ++ cut 10 rest
rows_cut s [] rest = refl
rows_cut s (e ∷ es) rest =
    ap (cut 10) (append_assoc (line_text s.place.0 (answer s e)) (lines (next s e) es) rest)
    ∙ row_cut s.place.0 (answer s e) (lines (next s e) es ++ rest)
    ∙ ap (λ l. row s.place.0 (answer s e) ∷ l) (rows_cut (next s e) es rest)

rows_say : (es : List Event) (s : Receiver) → EachAccepted s (map taken es) → Totals (rows s (map taken es)) (length es) (sums_of es)
unfolding answer
rows_say [] s a = record { decided = refl; gap_are = refl; counts_are = refl; long = refl }
rows_say (e ∷ es) s a =
    let h = rows_say es (next s (taken e)) a.1 in
    let f = event_says s e a.0 in
    rw a.0 (record {
      decided = omega (arith, h.decided, f.decided);
      gap_are = omega (arith, h.gap_are, f.gap_is);
      counts_are = omega (arith, h.counts_are, f.count_is);
      long = ap suc h.long;
    })

-- ---- the whole text
abbrev numbers_row : List ℕ → ℕ → List ℕ → ℕ → List ℕ → ℕ → List ℕ
numbers_row a x b y c z = a ++ (decimal x ++ (b ++ (decimal y ++ (c ++ decimal z))))

numbers-row : (a : List ℕ) (x : ℕ) (b : List ℕ) (y : ℕ) (c : List ℕ) (z : ℕ) → numbers_line a x b y c z ≡ numbers_row a x b y c z ++ line_end
unfolding numbers_line
numbers-row a x b y c z = simp append_assoc

numbers_above : (a : List ℕ) (x : ℕ) (b : List ℕ) (y : ℕ) (c : List ℕ) (z : ℕ) → T (above 10 a) → T (above 10 b) → T (above 10 c) → T (above 10 (numbers_row a x b y c z))
numbers_above a x b y c z ha hb hc =
    let digits : (n : ℕ) → T (above 10 (decimal n)) = λ n. decimal_above n 10 (omega arith) in
    every_append (ltb 10) a _ ha
    (every_append (ltb 10) (decimal x) _ (digits x)
    (every_append (ltb 10) b _ hb (every_append (ltb 10) (decimal y) _ (digits y) (every_append (ltb 10) c (decimal z) hc (digits z)))))

numbers-cut : (a : List ℕ) (x : ℕ) (b : List ℕ) (y : ℕ) (c : List ℕ) (z : ℕ) (rest : List ℕ) → T (above 10 a) → T (above 10 b) → T (above 10 c)
    → cut 10 (numbers_line a x b y c z ++ rest) ≡ numbers_row a x b y c z ∷ cut 10 rest
numbers-cut a x b y c z rest ha hb hc =
    ap (λ (l : List ℕ). cut 10 (l ++ rest)) (numbers-row a x b y c z)
    ∙ ap (cut 10) (append_assoc (numbers_row a x b y c z) line_end rest)
    ∙ cut-first 10 (numbers_row a x b y c z) rest (numbers_above a x b y c z ha hb hc)

abbrev sum_row : EventSums → List ℕ
sum_row v = numbers_row sum_points v.points lost_are v.lost its_gaps v.gaps

-- the lines of a chain's listing
chain-lines : (m role t : ℕ) (es : List Event)
    → cut 10 (chain_text m role t es) ≡ numbers_row track_mode m its_role role its_total t ∷ (rows (fresh_receiver m role) (map taken es) ++ (sum_row (sums_of es) ∷ []))
unfolding chain_text
chain-lines m role t es =
    let v : EventSums = sums_of es in
    numbers-cut track_mode m its_role role its_total t (lines (fresh_receiver m role) (map taken es) ++ sum_line v) tt tt tt
    ∙ ap (λ ls. numbers_row track_mode m its_role role its_total t ∷ ls)
    (rows_cut (fresh_receiver m role) (map taken es) (sum_line v)
    ∙ ap (λ ls. rows (fresh_receiver m role) (map taken es) ++ ls)
    (ap (cut 10) (sym (append-nil (sum_line v))) ∙ numbers-cut sum_points v.points lost_are v.lost its_gaps v.gaps [] tt tt tt))

at_end : (ls : List (List ℕ)) (l : List ℕ) (n : ℕ) → length ls ≡ n → get_or (ls ++ (l ∷ [])) n [] ≡ l
at_end [] l zero e = refl
at_end [] l (suc n) e = absurd (omega arith)
at_end (x ∷ ls) l zero e = absurd (omega arith)
at_end (x ∷ ls) l (suc n) e = at_end ls l n (omega arith)

-- a first line and a last one around lines that say v, neither of which is of a kind
around : (first last : List ℕ) (ls : List (List ℕ)) (n : ℕ) (v : EventSums) → Says (cut 32 first) 0 0 0 → Says (cut 32 last) 0 0 0 → last ++ line_end ≡ sum_line v → Totals ls n v
    → Agrees (first ∷ (ls ++ (last ∷ []))) n v
around first last ls n v f g e h =
    record {
      decided_lines = omega (arith, h.decided, f.decided, g.decided, sum_append (is_kind ref_kind) ls (last ∷ []), sum_append (is_kind bits_kind) ls (last ∷ []));
      lost_lines = omega (arith, h.gap_are, f.gap_is, g.gap_is, sum_append (is_kind lost_kind) ls (last ∷ []));
      lost_counts = omega (arith, h.counts_are, f.count_is, g.count_is, sum_append lost_count ls (last ∷ []));
      each_a_line = omega (arith, h.long, length-append ls (last ∷ []));
      sums_last = ap (λ (l : List ℕ). l ++ line_end) (at_end (first ∷ ls) last (1 + n) (omega (arith, h.long))) ∙ e;
    }

pub lines_agree : LinesAgree
unfolding text
lines_agree s b acc =
    let es : List Event = events s in
    let v : EventSums = sums_of es in
    let f : Receiver = fresh_receiver (mode_in s) (role_in s) in
    rw (acc, chain-lines (mode_in s) (role_in s) (total s) es)
    (around (numbers_row track_mode (mode_in s) its_role (role_in s) its_total (total s)) (sum_row v) (rows f (map taken es)) (length es) v
    (record { decided = refl; gap_is = refl; count_is = refl }) (record { decided = refl; gap_is = refl; count_is = refl })
    (sym (numbers-row sum_points v.points lost_are v.lost its_gaps v.gaps)) (rows_say es f (none_refused s b acc)))

-- ---- a refused store
pub refused_cut : (n : ℕ) → cut 10 (refused_line n) ≡ (refused_by ++ decimal n) ∷ []
unfolding refused_line
refused_cut n = cut-first 10 (refused_by ++ decimal n) [] (decimal_above n 10 (omega arith))

pub one_line : OneLine
unfolding text
one_line s h = ap (λ (t : List ℕ). length (cut 10 t)) (sym (left_kept (refusal s) _ _ h)) ∙ ap length (refused_cut (refusal s))
