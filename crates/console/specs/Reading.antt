-- What is said of bytes read from standard input. No contract can say which bytes come; these say where they stand, that those before them
-- stay, and that what was not used yet is carried to the front.
use Rattle.std.specs.Prelude.{ℕ, ◌-◌, ◌≤◌, ◌≡◌, List, length, take, drop}
use Rattle.std.specs.Counts.{IsPrefixLen}
use Rattle.console.specs.declared.Came.{Came}

-- after a read behind the first `have` bytes: those are as they were, and so many are at the front as are told, no fewer than before
pub record Behind (have : ℕ) (buf buf' : List ℕ) (r : Came) : Type 0 where
  pub kept : take have buf' ≡ take have buf
  pub counts : IsPrefixLen r.count buf'
  pub no_fewer : have ≤ length buf → have ≤ r.count

-- the bytes from `from` to `to`, carried to the front
pub record Carried (buf : List ℕ) (from to : ℕ) (buf' : List ℕ) (r : ℕ) : Type 0 where
  pub count : r ≡ length (take (to - from) (drop from buf))
  pub front : take r buf' ≡ take (to - from) (drop from buf)
