-- What is proved of every listing. The proofs are in proofs/Heards, proofs/Lengths and proofs/Texts.
use Rattle.std.specs.Prelude.{◌≡◌, List, map, ℕ, ◌≤◌, ◌<◌, length, get_or, take}
use Rattle.receiver.specs.Receiver.{fresh_receiver}
use Rattle.receiver.specs.Calls.{EachAccepted}
use Rattle.store.specs.Store.{events, refusal}
use Rattle.listing.specs.Text.{taken, refused_line, mode_in, role_in, text, longest}

-- a list of bytes, as every store is
abbrev pub AreBytes : List ℕ → Type 0
AreBytes s = (k : ℕ) → get_or s k 0 < 256

-- an accepted store holds no event that a receiver refuses: every line of a listing has its kind
abbrev pub NoneRefused : Type 0
NoneRefused = (s : List ℕ) → AreBytes s → refusal s ≡ 0 → EachAccepted (fresh_receiver (mode_in s) (role_in s)) (map taken (events s))

abbrev pub NoneLonger : Type 0
NoneLonger = (s : List ℕ) → length (text s) ≤ longest

-- a store of more than 65,536 bytes is refused for its size, and its first 65,537 are: a program need keep no more of its input
abbrev pub TooLong : Type 0
TooLong = (s : List ℕ) → 65536 < length s → (text s ≡ refused_line 11) × (text (take 65537 s) ≡ refused_line 11)
