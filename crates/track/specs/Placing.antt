-- The end of a chain, where points are placed: the contracts of the private functions.
use Rattle.std.specs.Prelude.{◌≡◌, cond, List, [], ◌∷◌, ℕ, ◌+◌, ◌*◌, ◌≤◌, ◌<◌, ltb}
use Rattle.line.specs.declared.Point.{Point}
use Rattle.octets.specs.Number.{le16}
use Rattle.store.specs.Chain.{greatest}
use Rattle.store.specs.Layout.{rec, write, link_in, held, point_bytes, point_record}
use Rattle.store.specs.Store.{chain, last_in, total, refusal}
use Rattle.track.specs.declared.End.{End}
use Rattle.track.specs.Append.{has_room}

-- the end of an accepted store's chain, and the store's total t; 7 held: the last record has no room for a point
pub record Ends (s : List ℕ) (t : ℕ) (e : End) : Type 0 where
  pub accepted : refusal s ≡ 0
  pub last : e.last ≡ last_in s
  pub most : e.greatest ≡ greatest (chain s)
  pub total_is : t ≡ total s
  pub small : e.held ≤ 7
  pub room : has_room s e.last ≡ ltb e.held 7
  pub holds : e.held < 7 → e.held ≡ held (rec s e.last)

-- in n bytes there are the last record and, where it has no room, a new one
pub record Reach (n : ℕ) (e : End) : Type 0 where
  pub last_in_lem : 32 * e.last + 32 ≤ n
  pub new_in : 7 ≤ e.held → 32 * (e.greatest + 1) + 32 ≤ n

-- a point at the end of a chain, without the total, and the end after it
unfoldable pub placed : List ℕ → End → Point → List ℕ
placed s e p =
    cond (ltb e.held 7)
    (write (write s e.last 3 ((e.held + 1) ∷ [])) e.last (4 + 4 * e.held) (point_bytes p))
    (write (write s (e.greatest + 1) 0 (point_record p)) e.last (link_in e.last) (le16 (e.greatest + 1)))

unfoldable pub next_end : End → End
next_end e =
    cond (ltb e.held 7)
    (record { last = e.last; greatest = e.greatest; held = e.held + 1 })
    (record { last = e.greatest + 1; greatest = e.greatest + 1; held = 1 })
