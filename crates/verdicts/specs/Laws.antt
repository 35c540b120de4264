-- What is shown of the text. The proofs are `in_calls` and `fits` of proofs/TextLaws and `worked` of proofs/Example.
use Rattle.std.specs.Prelude.{ℕ, ◌+◌, ◌*◌, ◌≤◌, ◌<◌, ◌≡◌, List, [], ◌∷◌, ◌++◌, length, replicate}
use Rattle.verdicts.specs.Verdicts.{line, text, lines_refusal}

-- the lines of the blocks of two calls are those of one, where the first has whole blocks only and the second goes on at the place behind them
abbrev pub InCalls : Type 0
InCalls =
    (size place k : ℕ) (a b : List ℕ) → 0 < size → length a ≡ k * size
    → text size place (a ++ b) ≡ text size place a ++ text size (place + length a) b

-- the lent bytes of an accepted call hold the whole text
abbrev pub Fits : Type 0
Fits = (size place : ℕ) (bits : List ℕ) (lent : ℕ) → lines_refusal size place bits lent ≡ 0 → length (text size place bits) ≤ lent

-- worked lines of blocks of 260 bits: `520 whole` of zeros, and `0 broken` of a one and zeros
pub record Worked : Type 0 where
  pub whole : line 520 (replicate 260 0) ≡ 53 ∷ 50 ∷ 48 ∷ 32 ∷ 119 ∷ 104 ∷ 111 ∷ 108 ∷ 101 ∷ 10 ∷ []
  pub broken : line 0 (1 ∷ replicate 259 0) ≡ 48 ∷ 32 ∷ 98 ∷ 114 ∷ 111 ∷ 107 ∷ 101 ∷ 110 ∷ 10 ∷ []
