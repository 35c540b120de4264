-- Document 01, "Listing program", and document 02, R-2: the bytes of a store's listing, in ASCII.
use Rattle.std.specs.Prelude.{cond, Result, Ok, Err, List, [], ◌∷◌, ◌++◌, map, ℕ, zero, suc, ◌+◌, ◌/◌, ◌%◌, ltb, leb, length, get_or}
use Rattle.std.proofs.lemmas.List.Edits.{sets}
use Rattle.line.specs.declared.refusal.Refusal.{Refusal}
use Rattle.line.specs.Refusal.{need, accepted}
use Rattle.scrambler.specs.Scramble.{Datum, unsettled, settled}
use Rattle.receiver.specs.declared.Receiver.{Receiver}
use Rattle.receiver.specs.Receiver.{fresh_receiver, Answer, refused, reference, decoded, lost, answer, next}
use Rattle.receiver.specs.Receiver.{Event as Call, gap}
use Rattle.receiver.specs.Receiver.{point as pointCall}
use Rattle.store.specs.Layout.{Event, point, rec}
use Rattle.store.specs.Layout.{lost as lostFor}
use Rattle.store.specs.Store.{events, total, refusal}
use Rattle.summing.specs.declared.EventSums.{EventSums}
use Rattle.summing.specs.Sums.{sums_of}

-- NUMBERS AND WORDS

-- the decimal digits of n with no zero in front, at most k of them
abbrev pub digits : ℕ → ℕ → List ℕ
digits zero n = []
digits (suc k) n = cond (ltb n 10) ((48 + n) ∷ []) (digits k (n / 10) ++ ((48 + n % 10) ∷ []))

-- ten hold every number that is listed, since none is above 4294967295
unfoldable pub decimal : ℕ → List ℕ
decimal n = digits 10 n

-- "track mode ", " role ", " total ", " ref", " bits ", " lost ", "sum points ", " gaps ", "refused "
abbrev pub track_mode : List ℕ
track_mode = 116 ∷ 114 ∷ 97 ∷ 99 ∷ 107 ∷ 32 ∷ 109 ∷ 111 ∷ 100 ∷ 101 ∷ 32 ∷ []

abbrev pub its_role : List ℕ
its_role = 32 ∷ 114 ∷ 111 ∷ 108 ∷ 101 ∷ 32 ∷ []

abbrev pub its_total : List ℕ
its_total = 32 ∷ 116 ∷ 111 ∷ 116 ∷ 97 ∷ 108 ∷ 32 ∷ []

abbrev pub ref : List ℕ
ref = 32 ∷ 114 ∷ 101 ∷ 102 ∷ []

abbrev pub bits_are : List ℕ
bits_are = 32 ∷ 98 ∷ 105 ∷ 116 ∷ 115 ∷ 32 ∷ []

abbrev pub lost_are : List ℕ
lost_are = 32 ∷ 108 ∷ 111 ∷ 115 ∷ 116 ∷ 32 ∷ []

abbrev pub sum_points : List ℕ
sum_points = 115 ∷ 117 ∷ 109 ∷ 32 ∷ 112 ∷ 111 ∷ 105 ∷ 110 ∷ 116 ∷ 115 ∷ 32 ∷ []

abbrev pub its_gaps : List ℕ
its_gaps = 32 ∷ 103 ∷ 97 ∷ 112 ∷ 115 ∷ 32 ∷ []

abbrev pub refused_by : List ℕ
refused_by = 114 ∷ 101 ∷ 102 ∷ 117 ∷ 115 ∷ 101 ∷ 100 ∷ 32 ∷ []

abbrev pub blank : List ℕ
blank = 32 ∷ []

abbrev pub line_end : List ℕ
line_end = 10 ∷ []

-- THE LINE OF AN EVENT

-- a data bit: `0`, `1`, or `-` unsettled; a line bit reads as a settled one
abbrev pub glyph : Datum → ℕ
glyph unsettled = 45
glyph (settled b) = 48 + b

abbrev pub glyphs : List Datum → List ℕ
glyphs ds = map glyph ds

abbrev pub line_glyphs : List ℕ → List ℕ
line_glyphs bs = map (λ (b : ℕ). glyph (settled b)) bs

-- kind, and bits (line, then data) or count; nothing for a refused event, which an accepted store does not hold (`NoneRefused` of
-- specs/Laws). The squared distance of an answer is not printed: R-1, "The listing keeps its form."
unfoldable pub kind_text : Answer → List ℕ
kind_text (refused n) = []
kind_text (reference d) = ref
kind_text (decoded ls ds d) = bits_are ++ (line_glyphs ls ++ (blank ++ glyphs ds))
kind_text (lost n) = lost_are ++ decimal n

-- the place before the event, then its kind
unfoldable pub line_text : ℕ → Answer → List ℕ
line_text place a = decimal place ++ (kind_text a ++ line_end)

-- a store's event as the call that a receiver takes
abbrev pub taken : Event → Call
taken (point p) = pointCall p
taken (lostFor n) = gap n

-- a line for each call, in the state that the ones before it left
abbrev pub lines : Receiver → List Call → List ℕ
lines s [] = []
lines s (e ∷ es) = line_text s.place.0 (answer s e) ++ lines (next s e) es

-- THE LISTING

-- a line of three numbers, each after its words
unfoldable pub numbers_line : List ℕ → ℕ → List ℕ → ℕ → List ℕ → ℕ → List ℕ
numbers_line a x b y c z = a ++ (decimal x ++ (b ++ (decimal y ++ (c ++ (decimal z ++ line_end)))))

-- mode, role, total
abbrev pub first_line : ℕ → ℕ → ℕ → List ℕ
first_line m role t = numbers_line track_mode m its_role role its_total t

-- R-2: `sum points P lost L gaps G`
abbrev pub sum_line : EventSums → List ℕ
sum_line v = numbers_line sum_points v.points lost_are v.lost its_gaps v.gaps

-- a chain's listing: its first line, the events as a fresh receiver hears them, and their sums
unfoldable pub chain_text : ℕ → ℕ → ℕ → List Event → List ℕ
chain_text m role t es = first_line m role t ++ (lines (fresh_receiver m role) (map taken es) ++ sum_line (sums_of es))

unfoldable pub refused_line : ℕ → List ℕ
refused_line n = refused_by ++ (decimal n ++ line_end)

abbrev pub mode_in : List ℕ → ℕ
mode_in s = get_or (rec s 0) 4 0

abbrev pub role_in : List ℕ → ℕ
role_in s = get_or (rec s 0) 5 0

-- "A refused store prints one line and nothing else": no sum either
unfoldable pub text : List ℕ → List ℕ
text s = accepted (refusal s) (chain_text (mode_in s) (role_in s) (total s) (events s)) (refused_line (refusal s))

-- a buffer that holds any listing: 37 bytes for the first line, 26 for each of seven lines of 2,047 records and 54 for the sums
-- (`NoneLonger` of specs/Laws). The lent bytes are judged by it and not by the text's own length, which is known only when the
-- receiver has taken every event, and it would have to take them again to write; and so a caller knows before the call what to
-- lend.
abbrev pub longest : ℕ
longest = 372645

-- 7: too few lent bytes
unfoldable pub list_number : ℕ → ℕ
list_number room = need (leb longest room) 7 0

-- how many bytes were written: one number, none where the call is refused
abbrev pub list_counts : List ℕ → ℕ → List ℕ
list_counts s room = accepted (list_number room) (length (text s) ∷ []) []

-- the lent bytes after the call: the text at their start, the others as they were
unfoldable pub list_result : List ℕ → List ℕ → List ℕ
list_result s out = accepted (list_number (length out)) (sets out 0 (text s)) out

-- how many bytes were written, where the call is not refused
abbrev pub counts_of : Result ℕ Refusal → List ℕ
counts_of (Err e) = []
counts_of (Ok n) = n ∷ []
