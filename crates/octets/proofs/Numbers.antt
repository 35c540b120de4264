-- Numbers in bytes: what was written is read back, and a write elsewhere changes nothing. Assumes nothing.
use mathlib.Core.Path.{◌≡◌, ap, ap₂, ◌∙◌}
use mathlib.Core.Logic.{◌⊎◌, inl, inr}
use mathlib.Core.List.{List}
use Prim.Native.Nat.{ℕ, ◌+◌, ◌*◌, ◌-◌, ◌/◌, ◌%◌, ◌≤◌, ◌<◌}
use native.Mathlib.Omega.{arith}
use borrow.Author.Tests.{lt-ltb, le-ltb}
use lib.IntN.{ℤ, pos, negsuc}
use lib.ListN.{length, get_or, drop, get_or-eq_default}
use lib.Seq.{sets, get_or-drop}
use mir.Syntax.{w16}
use mir.Val.{SFits}
use Rattle.octets.specs.Number.{u16, u32, le16, le32, pattern, signed, i16, le_i16}
use Rattle.line.proofs.Sets.{get_d_sets_in, get_d_sets_out}

pub halves : (v : ℕ) → v < 65536 → v % 256 + 256 * (v / 256 % 256) ≡ v
halves v h = omega arith

pub quarters : (v : ℕ) → v < 4294967296
    → v % 65536 % 256 + 256 * (v % 65536 / 256 % 256) + 65536 * (v / 65536 % 256 + 256 * (v / 65536 / 256 % 256)) ≡ v
quarters v h = omega (arith, halves (v % 65536) (omega arith), halves (v / 65536) (omega arith))

-- ---- reading past the end
byte_past : (s : List ℕ) (at : ℕ) → length s ≤ at → get_or s at 0 ≡ 0
byte_past s at h = get_or-eq_default s 0 {n = at} h

pub u16_past : (s : List ℕ) (at : ℕ) → length s ≤ at → u16 s at ≡ 0
u16_past s at h = omega (arith, byte_past s at h, byte_past s (at + 1) (omega arith))

pub u32_past : (s : List ℕ) (at : ℕ) → length s ≤ at → u32 s at ≡ 0
u32_past s at h = omega (arith, u16_past s at h, u16_past s (at + 2) (omega arith))

pub u16-drop : (l : List ℕ) (a b : ℕ) → u16 (drop a l) b ≡ u16 l (a + b)
u16-drop l a b =
    omega (arith, get_or-drop a l b 0, get_or-drop a l (b + 1) 0, ap (λ (m : ℕ). get_or l m 0) (let e : a + (b + 1) ≡ a + b + 1 = omega arith in e))

-- ---- after a write
pub u16_out : (vs l : List ℕ) (i at : ℕ) → (at + 1 < i) ⊎ (i + length vs ≤ at) → u16 (sets l i vs) at ≡ u16 l at
u16_out vs l i at (inl h) =
    omega (arith, get_d_sets_out vs l i at 0 (inl (omega arith)), get_d_sets_out vs l i (at + 1) 0 (inl (omega arith)))
u16_out vs l i at (inr h) =
    omega (arith, get_d_sets_out vs l i at 0 (inr (omega arith)), get_d_sets_out vs l i (at + 1) 0 (inr (omega arith)))

pub u16-at : (vs l : List ℕ) (i k : ℕ) → k + 1 < length vs → i + length vs ≤ length l → u16 (sets l i vs) (i + k) ≡ u16 vs k
u16-at vs l i k h b =
    omega (
      arith,
      get_d_sets_in vs l i k 0 (omega arith) (omega arith),
      get_d_sets_in vs l i (k + 1) 0 h (omega arith),
      ap (λ (m : ℕ). get_or (sets l i vs) m 0) (let e : i + k + 1 ≡ i + (k + 1) = omega arith in e),
    )

at-start : (vs l : List ℕ) (i : ℕ) → 1 < length vs → i + length vs ≤ length l → u16 (sets l i vs) i ≡ u16 vs 0
at-start vs l i h b = ap (u16 (sets l i vs)) (let e : i ≡ i + 0 = omega arith in e) ∙ u16-at vs l i 0 h b

pub u16_in : (l : List ℕ) (i v : ℕ) → v < 65536 → i + 2 ≤ length l → u16 (sets l i (le16 v)) i ≡ v
u16_in l i v b h = at-start (le16 v) l i (omega arith) h ∙ halves v b

pub u32_in : (l : List ℕ) (i v : ℕ) → v < 4294967296 → i + 4 ≤ length l → u32 (sets l i (le32 v)) i ≡ v
u32_in l i v b h =
    ap₂ (λ (x y : ℕ). x + 65536 * y) (at-start (le32 v) l i (omega arith) h) (u16-at (le32 v) l i 2 (omega arith) h) ∙ quarters v b

-- ---- signed numbers
pub pattern_small : (x : ℤ) → SFits w16 x → pattern x < 65536
unfolding pattern
pattern_small (pos n) f = let h : n < 32768 = f.sfits in omega arith
pattern_small (negsuc n) f = let h : n < 32768 = f.sfits in omega arith

-- a coordinate is read back from its pattern
pub signed-pattern : (x : ℤ) → SFits w16 x → signed (pattern x) ≡ x
unfolding pattern signed
signed-pattern (pos n) f = let h : n < 32768 = f.sfits in rw (lt-ltb n 32768 h)
signed-pattern (negsuc n) f =
    let h : n < 32768 = f.sfits in
    rw (le-ltb (65535 - n) 32768 (omega arith)) (ap negsuc (let e : 65535 - (65535 - n) ≡ n = omega arith in e))

-- reading what was written gives the coordinate back
pub i16-back : (l : List ℕ) (i : ℕ) (x : ℤ) → SFits w16 x → i + 2 ≤ length l → i16 (sets l i (le_i16 x)) i ≡ x
i16-back l i x f h = ap signed (u16_in l i (pattern x) (pattern_small x f) h) ∙ signed-pattern x f
