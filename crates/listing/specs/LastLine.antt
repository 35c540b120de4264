-- Lines that stand alone, as the commands `sums` and `receive` print them: the last line of a listing, of some sums, of a refusal.
use Rattle.std.specs.Prelude.{◌≡◌, Bool, ◌&&◌, Result, List, [], ◌∷◌, ◌++◌, ℕ, ◌-◌, ◌≤◌, leb, length, get_or}
use Rattle.std.proofs.lemmas.List.Edits.{sets}
use Rattle.line.specs.declared.refusal.Refusal.{Refusal}
use Rattle.line.specs.Refusal.{numbered, need, accepted}
use Rattle.store.specs.Store.{events, refusal}
use Rattle.summing.specs.declared.EventSums.{EventSums}
use Rattle.summing.specs.Sums.{sums_of}
use Rattle.listing.specs.Text.{line_end, sum_line, refused_line, text, counts_of}
use Rattle.listing.specs.Laws.{AreBytes}
use Rattle.listing.specs.Agreement.{lines_in}

-- "sum ..", or "refused N"
unfoldable pub last_line : List ℕ → List ℕ
last_line s = accepted (refusal s) (sum_line (sums_of (events s))) (refused_line (refusal s))

-- a buffer that holds any of the lines: the longest, of sums, has 54 bytes
abbrev pub longest_line : ℕ
longest_line = 64

-- 7: too few lent bytes
unfoldable pub line_number : ℕ → ℕ
line_number room = need (leb longest_line room) 7 0

-- sums that a line can hold: numbers of 32 bits, as a listing's are
unfoldable pub small_sums : EventSums → Bool
small_sums v = (leb v.points 4294967295 && leb v.lost 4294967295) && leb v.gaps 4294967295

-- 4: other sums
unfoldable pub sum_number : EventSums → ℕ → ℕ
sum_number v room = need (small_sums v) 4 (line_number room)

-- a call that n refuses, or that else writes t at the start of the lent bytes and gives its length
pub record Writes (n : ℕ) (t out out' : List ℕ) (r : Result ℕ Refusal) : Type 0 where
  pub number : numbered r ≡ n
  pub counts : counts_of r ≡ accepted n (length t ∷ []) []
  pub bytes : out' ≡ accepted n (sets out 0 t) out

-- What is proved of them, in proofs/LastLines

-- each fits into such a buffer
pub record EachFits : Type 0 where
  pub last_fits : (s : List ℕ) → length (last_line s) ≤ longest_line
  pub sums_fit : (v : EventSums) → length (sum_line v) ≤ longest_line
  pub refused_fits : (n : ℕ) → length (refused_line n) ≤ longest_line

-- the last line is that of the listing's text
abbrev pub LastInText : Type 0
LastInText = (s : List ℕ) → AreBytes s → get_or (lines_in (text s)) (length (lines_in (text s)) - 1) [] ++ line_end ≡ last_line s
