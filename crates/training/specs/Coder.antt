-- Document 01, "Sender": "Data bits are scrambled and taken w at a time; each group, coded against the reference, is one point and the
-- new reference"; "a point is re, then im".
use Rattle.std.specs.Prelude.{ℕ, List, [], ◌∷◌, ℤ}
use Rattle.line.specs.Mode.{face}
use Rattle.coding.specs.Code.{coded}
use Rattle.line.specs.Point.{sent_point}
use Rattle.scrambler.specs.declared.Register.{Register}
use Rattle.scrambler.specs.Bits.{value}
use Rattle.scrambler.specs.Register.{pushes}
use Rattle.scrambler.specs.Scramble.{scramble}
use Rattle.training.specs.declared.Coder.{Coder}

-- what sending changes: the reference and the register of line bits
abbrev pub coder : ℕ → Register → Coder
coder r h = record { reference = r; line = h }

-- after the data bits of one point; the new reference is the state that is sent
unfoldable pub coding : ℕ → ℕ → Coder → List ℕ → Coder
coding m role c d =
    let l : List ℕ = scramble m role c.line d in
    coder (coded m (face m c.reference) (value l)) (pushes m c.line l)

-- the numbers of the points that are sent for states
abbrev pub numbers : ℕ → List ℕ → List ℤ
numbers m [] = []
numbers m (s ∷ ss) = (sent_point m s).re ∷ (sent_point m s).im ∷ numbers m ss
