-- How much of a store the command `store` writes: the records up to the greatest index of the chain, and at least two.
use Rattle.std.specs.Prelude.{◌≡◌, Result, List, [], ◌∷◌, ℕ, ◌+◌, ◌*◌, max}
use Rattle.line.specs.declared.refusal.Refusal.{Refusal}
use Rattle.line.specs.Refusal.{numbered, accepted}
use Rattle.store.specs.Chain.{greatest}
use Rattle.store.specs.Store.{chain, refusal}
use Rattle.track_capture.specs.Capturing.{counts_in}

-- no store has fewer than 64 bytes
unfoldable pub kept_bytes : List ℕ → ℕ
kept_bytes s = max 64 (32 * (greatest (chain s) + 1))

-- 11 to 15: of the store
pub record Keeps (s : List ℕ) (r : Result ℕ Refusal) : Type 0 where
  pub number : numbered r ≡ refusal s
  pub counts : counts_in r ≡ accepted (refusal s) (kept_bytes s ∷ []) []
