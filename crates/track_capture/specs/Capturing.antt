-- The command `points`: the capture of a store's events, at the start of lent bytes.
use Rattle.std.specs.Prelude.{◌≡◌, Result, Ok, Err, List, [], ◌∷◌, ℕ, ◌+◌, leb, length}
use Rattle.std.proofs.lemmas.List.Edits.{sets}
use Rattle.line.specs.declared.refusal.Refusal.{Refusal}
use Rattle.line.specs.Refusal.{numbered, need, accepted}
use Rattle.store.specs.Store.{events, refusal}
use Rattle.capture.specs.Capture.{captured}

-- bytes that hold the capture of any store: 28 for each of 2,047 records (`NoneLonger` of specs/Laws). The lent bytes are judged by it, so
-- that a caller knows before the call what to lend.
abbrev pub longest : ℕ
longest = 57316

-- 7: too few lent bytes; 11 to 15: of the store
unfoldable pub capture_number : List ℕ → ℕ → ℕ
capture_number s room = need (leb longest room) 7 (refusal s)

-- how many bytes were written: one number, none where the call is refused
abbrev pub capture_counts : List ℕ → ℕ → List ℕ
capture_counts s room = accepted (capture_number s room) (length (captured (events s)) ∷ []) []

-- the lent bytes after the call: the capture at their start, the others as they were
unfoldable pub capture_result : List ℕ → List ℕ → List ℕ
capture_result s out = accepted (capture_number s (length out)) (sets out 0 (captured (events s))) out

-- how many bytes were written, where the call is not refused
abbrev pub counts_in : Result ℕ Refusal → List ℕ
counts_in (Err e) = []
counts_in (Ok n) = n ∷ []

pub record Gives (s out out' : List ℕ) (r : Result ℕ Refusal) : Type 0 where
  pub number : numbered r ≡ capture_number s (length out)
  pub counts : counts_in r ≡ capture_counts s (length out)
  pub bytes : out' ≡ capture_result s out

-- the bytes vs stand in the lent bytes from `at` on, and `after` is the place behind them: the contracts of private functions
pub record Wrote (out : List ℕ) (at : ℕ) (vs out' : List ℕ) (after : ℕ) : Type 0 where
  pub written : out' ≡ sets out at vs
  pub behind : after ≡ at + length vs
