-- Bits read from standard input as characters. No contract can say which characters come; this one says what is made of those that stand in
-- the text buffer after the read.
use Rattle.std.specs.Prelude.{ℕ, ◌+◌, ◌-◌, ◌≤◌, min, ◌≡◌, not, List, Result, length, take, drop}
use Rattle.line.specs.declared.refusal.Refusal.{Refusal}
use Rattle.bit_text.specs.declared.TextBits.{TextBits}
use Rattle.bit_text.specs.BitText.{text_answer, text_bytes, bit_count, took_all}
use Rattle.bit_input.specs.declared.BitsCame.{BitsCame}

-- where the new bits begin: behind the first `have`
abbrev pub behind : ℕ → List ℕ → ℕ
behind have bits = min have (length bits)

-- what the characters that came say, in the bytes behind those bits
abbrev pub told : ℕ → List ℕ → List ℕ → Result TextBits Refusal
told have text bits = text_answer text (length bits - behind have bits)

-- of the characters that stand at the front of the text buffer after the read: their bits stand behind the first `have`, which stay, and
-- so many are at the front in all; whether a character that is none ended them
pub record BitsBehind (have : ℕ) (text bits bits' : List ℕ) (r : BitsCame) : Type 0 where
  pub characters : r.characters ≤ length text
  pub count : r.count ≡ behind have bits + bit_count (told have (take r.characters text) bits)
  pub other : r.other ≡ not (took_all (told have (take r.characters text) bits))
  pub kept : take (behind have bits) bits' ≡ take (behind have bits) bits
  pub written : drop (behind have bits) bits' ≡ text_bytes (take r.characters text) (drop (behind have bits) bits)
  pub within : r.count ≤ length bits
