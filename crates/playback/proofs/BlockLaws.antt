-- Sending in blocks, and how many numbers are sent. Assumes nothing.
use Prim.Native.Nat.{ℕ, zero, suc, ◌+◌, ◌*◌, ◌/◌, ◌%◌, ◌≤◌, ◌<◌}
use mathlib.Core.Path.{◌≡◌, refl, sym, ap, ◌∙◌}
use mathlib.Core.List.{List, [], ◌∷◌, ◌++◌, append_assoc}
use native.Mathlib.Nat.{div-add-mod', mod-lt, mul-mod_left, mul-div_left}
use native.Mathlib.Omega.{arith}
use lib.IntN.{ℤ}
use lib.ListN.{length, take, length-drop, take-append-drop}
use lib.Seq.{length-take-le}
use Rattle.line.specs.Mode.{width}
use Rattle.line.specs.Point.{sent_point}
use Rattle.line.proofs.ByMode.{width_range}
use Rattle.training.specs.declared.Coder.{Coder}
use Rattle.training.specs.Coder.{numbers}
use Rattle.training.specs.Training.{train, start, intervals, trained_states}
use Rattle.sender.specs.declared.Sender.{Sender}
use Rattle.sender.specs.Sender.{grouped, after_group, after_groups, sent_states, after_bits, bit_numbers}
use Rattle.sender.specs.Open.{training_numbers}
use Rattle.sender.proofs.SendLaws.{group_mode}
use Rattle.sender.proofs.JoinLaws.{grouped_append, after_append, length-grouped}
use Rattle.playback.specs.Playback.{whole_bits, sent_bits, left_bits}
use Rattle.playback.specs.Laws.{SentInBlocks}

-- HOW MANY NUMBERS

length-numbers : (m : ℕ) (ss : List ℕ) → length (numbers m ss) ≡ 2 * length ss
length-numbers m [] = refl
length-numbers m (s ∷ ss) = omega (arith, length-numbers m ss)

length-trained : (f : ℕ → Coder → Coder) (i n : ℕ) (c : Coder) → length (trained_states f i n c) ≡ n
length-trained f i zero c = refl
length-trained f i (suc n) c = ap suc (length-trained f (suc i) n (f i c))

length-states : (s : Sender) (gs : List (List ℕ)) → length (sent_states s gs) ≡ length gs
length-states s [] = refl
length-states s (g ∷ gs) = ap suc (length-states (after_group s g) gs)

pub length_training : (m role n : ℕ) → length (training_numbers m role n) ≡ 2 * intervals m n
unfolding training_numbers
length_training m role n =
    length-numbers m (trained_states (train m role n) 0 (intervals m n) (start m))
    ∙ ap (λ (k : ℕ). 2 * k) (length-trained (train m role n) 0 (intervals m n) (start m))

pub length-bits : (s : Sender) (ds : List ℕ) → length (bit_numbers s ds) ≡ 2 * (length ds / width s.mode)
length-bits s ds =
    length-numbers s.mode (sent_states s (grouped (width s.mode) ds))
    ∙ ap (λ (k : ℕ). 2 * k) (length-states s (grouped (width s.mode) ds) ∙ length-grouped (width s.mode) ds)

-- WHOLE GROUPS

pub groups_in : (n w : ℕ) → n / w * w ≤ n
groups_in n w = omega (arith, div-add-mod' n w)

module _ (s : Sender) (ds : List ℕ) where
  parts_whole : length ds / width s.mode * width s.mode + length ds % width s.mode ≡ length ds
  parts_whole = div-add-mod' (length ds) (width s.mode)

  pub length-sent : length (sent_bits s ds) ≡ whole_bits (width s.mode) ds
  unfolding sent_bits
  length-sent = length-take-le (whole_bits (width s.mode) ds) ds (groups_in (length ds) (width s.mode))

  -- as the code takes them
  pub sent_is : (w : ℕ) → w ≡ width s.mode → take (length ds / w * w) ds ≡ sent_bits s ds
  unfolding sent_bits
  sent_is w e = ap (λ (v : ℕ). take (length ds / v * v) ds) e

  pub sent-whole : length (sent_bits s ds) % width s.mode ≡ 0
  sent-whole = ap (λ (n : ℕ). n % width s.mode) length-sent ∙ mul-mod_left (length ds / width s.mode) (width s.mode)

  pub sent-groups : length (sent_bits s ds) / width s.mode ≡ length ds / width s.mode
  sent-groups = ap (λ (n : ℕ). n / width s.mode) length-sent ∙ mul-div_left (length ds / width s.mode) (let h : 0 < width s.mode = omega (arith, width_range s.mode) in h)

  left_fewer : length (left_bits s ds) < width s.mode
  unfolding left_bits
  left_fewer =
      let h : length ds % width s.mode < width s.mode = mod-lt (length ds) (omega (arith, width_range s.mode)) in
      omega (arith, parts_whole, length-drop (whole_bits (width s.mode) ds) ds)

  both : sent_bits s ds ++ left_bits s ds ≡ ds
  unfolding sent_bits left_bits
  both = take-append-drop (whole_bits (width s.mode) ds) ds

-- IN BLOCKS

states_append : (s : Sender) (gs hs : List (List ℕ)) → sent_states s (gs ++ hs) ≡ sent_states s gs ++ sent_states (after_groups s gs) hs
states_append s [] hs = refl
states_append s (g ∷ gs) hs = ap (λ (l : List ℕ). (after_group s g).reference ∷ l) (states_append (after_group s g) gs hs)

numbers_append : (m : ℕ) (ss us : List ℕ) → numbers m (ss ++ us) ≡ numbers m ss ++ numbers m us
numbers_append m [] us = refl
numbers_append m (s ∷ ss) us = ap (λ (l : List ℤ). (sent_point m s).re ∷ (sent_point m s).im ∷ l) (numbers_append m ss us)

after_mode : (s : Sender) (gs : List (List ℕ)) → (after_groups s gs).mode ≡ s.mode
after_mode s [] = refl
after_mode s (g ∷ gs) = after_mode (after_group s g) gs ∙ group_mode s g

-- a second block after a first one of whole groups
module _ (s : Sender) (ds es : List ℕ) (h : length ds % width s.mode ≡ 0) where
  groups_on : grouped (width s.mode) (ds ++ es) ≡ grouped (width s.mode) ds ++ grouped (width s.mode) es
  groups_on = grouped_append (width s.mode) ds es (omega (arith, width_range s.mode)) h

  same_mode : (after_bits s ds).mode ≡ s.mode
  same_mode = after_mode s (grouped (width s.mode) ds)

  state_on : after_bits s (ds ++ es) ≡ after_bits (after_bits s ds) es
  state_on =
      ap (after_groups s) groups_on ∙ after_append s (grouped (width s.mode) ds) (grouped (width s.mode) es)
      ∙ ap (λ (m : ℕ). after_groups (after_bits s ds) (grouped (width m) es)) (sym same_mode)

  numbers_on : bit_numbers s (ds ++ es) ≡ bit_numbers s ds ++ bit_numbers (after_bits s ds) es
  numbers_on =
      ap (λ (gs : List (List ℕ)). numbers s.mode (sent_states s gs)) groups_on
      ∙ ap (numbers s.mode) (states_append s (grouped (width s.mode) ds) (grouped (width s.mode) es))
      ∙ numbers_append s.mode (sent_states s (grouped (width s.mode) ds)) (sent_states (after_bits s ds) (grouped (width s.mode) es))
      ∙ ap (λ (m : ℕ). bit_numbers s ds ++ numbers m (sent_states (after_bits s ds) (grouped (width m) es))) (sym same_mode)

pub sent_in_blocks : SentInBlocks
sent_in_blocks s a b =
    let e : a ++ b ≡ sent_bits s a ++ (left_bits s a ++ b) = ap (λ (l : List ℕ). l ++ b) (sym (both s a)) ∙ append_assoc (sent_bits s a) (left_bits s a) b in
    record {
      numbers = ap (bit_numbers s) e ∙ numbers_on s (sent_bits s a) (left_bits s a ++ b) (sent-whole s a);
      state = ap (after_bits s) e ∙ state_on s (sent_bits s a) (left_bits s a ++ b) (sent-whole s a);
      left = left_fewer s a;
    }
