-- What holds of sending in blocks: the statement, whose proof is `sent_in_blocks` of proofs/BlockLaws.
use Rattle.std.specs.Prelude.{◌≡◌, List, ◌++◌, ℕ, ◌<◌, length}
use Rattle.line.specs.Mode.{width}
use Rattle.sender.specs.declared.Sender.{Sender}
use Rattle.sender.specs.Sender.{after_bits, bit_numbers}
use Rattle.playback.specs.Playback.{sent_bits, left_bits}

-- data bits in two blocks, what is left of the first put in front of the second, are sent as the two together
pub record SentOn (s : Sender) (a b : List ℕ) : Type 0 where
  pub numbers : bit_numbers s (a ++ b) ≡ bit_numbers s (sent_bits s a) ++ bit_numbers (after_bits s (sent_bits s a)) (left_bits s a ++ b)
  pub state : after_bits s (a ++ b) ≡ after_bits (after_bits s (sent_bits s a)) (left_bits s a ++ b)
  pub left : length (left_bits s a) < width s.mode

abbrev pub SentInBlocks : Type 0
SentInBlocks = (s : Sender) (a b : List ℕ) → SentOn s a b
