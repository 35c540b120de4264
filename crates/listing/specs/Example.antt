-- Document 01, "Listing program", and R-2: its example, from the store's bytes to the six lines; the empty track; a store whose sum
-- would wrap to its total.
use Rattle.std.specs.Prelude.{◌≡◌, List, [], ◌∷◌, ◌++◌, ℕ, replicate}
use Rattle.store.specs.Store.{events, refusal}
use Rattle.listing.specs.Text.{first_line, mode_in, role_in, text}

-- a mode 1 store of (4096, 0), (0, 4096), lost 3, (−4096, 0)
abbrev pub store : List ℕ
store =
    (86 ∷ 83 ∷ 89 ∷ 77 ∷ 1 ∷ 0 ∷ 1 ∷ 0 ∷ 6 ∷ replicate 23 0)
    ++ (2 ∷ 0 ∷ 1 ∷ 2 ∷ 0 ∷ 16 ∷ 0 ∷ 0 ∷ 0 ∷ 0 ∷ 0 ∷ 16 ∷ replicate 20 0)
    ++ (3 ∷ 0 ∷ 2 ∷ 0 ∷ 3 ∷ replicate 27 0)
    ++ (0 ∷ 0 ∷ 1 ∷ 1 ∷ 0 ∷ 240 ∷ replicate 26 0)

-- "track mode 1 role 0 total 6", "0 ref", "1 bits 01 --", "2 lost 3", "5 ref", "sum points 3 lost 3 gaps 1"
abbrev pub listed : List ℕ
listed =
    (116 ∷ 114 ∷ 97 ∷ 99 ∷ 107 ∷ 32 ∷ 109 ∷ 111 ∷ 100 ∷ 101 ∷ 32 ∷ 49 ∷ 32 ∷ 114 ∷ 111 ∷ 108 ∷ 101 ∷ 32 ∷ 48 ∷ 32 ∷ 116 ∷ 111 ∷ 116 ∷ 97 ∷ 108 ∷ 32 ∷ 54 ∷ 10 ∷ [])
    ++ (48 ∷ 32 ∷ 114 ∷ 101 ∷ 102 ∷ 10 ∷ [])
    ++ (49 ∷ 32 ∷ 98 ∷ 105 ∷ 116 ∷ 115 ∷ 32 ∷ 48 ∷ 49 ∷ 32 ∷ 45 ∷ 45 ∷ 10 ∷ [])
    ++ (50 ∷ 32 ∷ 108 ∷ 111 ∷ 115 ∷ 116 ∷ 32 ∷ 51 ∷ 10 ∷ [])
    ++ (53 ∷ 32 ∷ 114 ∷ 101 ∷ 102 ∷ 10 ∷ [])
    ++ (115 ∷ 117 ∷ 109 ∷ 32 ∷ 112 ∷ 111 ∷ 105 ∷ 110 ∷ 116 ∷ 115 ∷ 32 ∷ 51 ∷ 32 ∷ 108 ∷ 111 ∷ 115 ∷ 116 ∷ 32 ∷ 51 ∷ 32 ∷ 103 ∷ 97 ∷ 112 ∷ 115 ∷ 32 ∷ 49 ∷ 10 ∷ [])

abbrev pub SixLines : Type 0
SixLines = text store ≡ listed

-- an empty track: its first line, and "sum points 0 lost 0 gaps 0"
abbrev pub EmptyTrack : Type 0
EmptyTrack = (s : List ℕ) → refusal s ≡ 0 → events s ≡ []
    → text s ≡ first_line (mode_in s) (role_in s) 0
    ++ (115 ∷ 117 ∷ 109 ∷ 32 ∷ 112 ∷ 111 ∷ 105 ∷ 110 ∷ 116 ∷ 115 ∷ 32 ∷ 48 ∷ 32 ∷ 108 ∷ 111 ∷ 115 ∷ 116 ∷ 32 ∷ 48 ∷ 32 ∷ 103 ∷ 97 ∷ 112 ∷ 115 ∷ 32 ∷ 48 ∷ 10 ∷ [])

-- sums do not wrap: lost 4294967295 and lost 2 with a total of 1 are "refused 15"
abbrev pub wrapping : List ℕ
wrapping =
    (86 ∷ 83 ∷ 89 ∷ 77 ∷ 1 ∷ 0 ∷ 1 ∷ 0 ∷ 1 ∷ replicate 23 0)
    ++ (2 ∷ 0 ∷ 2 ∷ 0 ∷ 255 ∷ 255 ∷ 255 ∷ 255 ∷ replicate 24 0)
    ++ (0 ∷ 0 ∷ 2 ∷ 0 ∷ 2 ∷ replicate 27 0)

abbrev pub NoneWraps : Type 0
NoneWraps = text wrapping ≡ (114 ∷ 101 ∷ 102 ∷ 117 ∷ 115 ∷ 101 ∷ 100 ∷ 32 ∷ 49 ∷ 53 ∷ 10 ∷ [])
