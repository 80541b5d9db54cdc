-- Laws of the words: what is put is read back, and nothing else changes.
use Rattle.std.specs.Prelude.{ℕ, zero, suc, ◌+◌, ◌*◌, ◌/◌, ◌%◌, ◌^◌, ◌≤◌, ◌<◌, List, [], ◌∷◌, ◌⊎◌, ◌≢◌, ◌≡◌, get_or}
use Rattle.std.proofs.Common.{inl, inr, get_or-set_same}
use native.Mathlib.Omega.{arith}
use Rattle.std.proofs.Math.ListN.{length, set, length-set}
use Rattle.std.proofs.Math.Seq.{get_or-set_other}
use Rattle.num.specs.Word.{word4, word_at, put_word, Bytes}

-- A number below 2 ^ 32 is the word of its four bytes.
bytes_word : (x : ℕ) → x < 2 ^ 32 →
    word4 (x % 256) (x / 256 % 256) (x / 256 / 256 % 256) (x / 256 / 256 / 256 % 256) ≡ x
bytes_word x h = omega arith

-- The lowest byte of a number, and the rest above it.
low : (a y : ℕ) → a < 256 → (a + y * 256) % 256 ≡ a
low a y h = omega arith

high : (a y : ℕ) → a < 256 → (a + y * 256) / 256 ≡ y
high a y h = omega arith

-- Lists that agree in the four bytes have the same word there.
pub word_same : (s t : List ℕ) (at : ℕ) →
    ((k : ℕ) → at ≤ k → k < at + 4 → get_or s k 0 ≡ get_or t k 0) → word_at s at ≡ word_at t at
unfolding word_at
word_same s t at h =
    rw (
      h at (omega arith) (omega arith),
      h (at + 1) (omega arith) (omega arith),
      h (at + 2) (omega arith) (omega arith),
      h (at + 3) (omega arith) (omega arith),
    )

module _ (s : List ℕ) (at x : ℕ) where
  -- A byte at none of the four indices is as it was.
  other : (k : ℕ) → k ≢ at → k ≢ at + 1 → k ≢ at + 2 → k ≢ at + 3 → get_or (put_word s at x) k 0 ≡ get_or s k 0
  unfolding put_word
  other k p q r t = rw (get_or-set_other, get_or-set_other, get_or-set_other, get_or-set_other)

  -- A byte outside the four is as it was.
  pub byte_put_apart : (k : ℕ) → (k < at) ⊎ (at + 4 ≤ k) → get_or (put_word s at x) k 0 ≡ get_or s k 0
  byte_put_apart k (inl h) = other k (λ e. omega arith) (λ e. omega arith) (λ e. omega arith) (λ e. omega arith)
  byte_put_apart k (inr h) = other k (λ e. omega arith) (λ e. omega arith) (λ e. omega arith) (λ e. omega arith)

  -- A word apart from the four bytes is as it was.
  pub word_put_apart : (k : ℕ) → (k + 4 ≤ at) ⊎ (at + 4 ≤ k) → word_at (put_word s at x) k ≡ word_at s k
  word_put_apart k (inl h) = word_same (put_word s at x) s k (λ j l u. byte_put_apart j (inl (omega arith)))
  word_put_apart k (inr h) = word_same (put_word s at x) s k (λ j l u. byte_put_apart j (inr (omega arith)))

  -- The word that was put is read back.
  pub word_put_same : at + 4 ≤ length s → x < 2 ^ 32 → word_at (put_word s at x) at ≡ x
  unfolding word_at put_word
  word_put_same h fits =
      let s1 = set s at (x % 256) in
      let s2 = set s1 (at + 1) (x / 256 % 256) in
      let s3 = set s2 (at + 2) (x / 256 / 256 % 256) in
      let i0 : at < length s = omega arith in
      let i1 : at + 1 < length s1 = simp length-set (omega arith) in
      let i2 : at + 2 < length s2 = simp length-set (omega arith) in
      let i3 : at + 3 < length s3 = simp length-set (omega arith) in
      let n01 : at ≢ at + 1 = λ e. omega arith in
      let n02 : at ≢ at + 2 = λ e. omega arith in
      let n03 : at ≢ at + 3 = λ e. omega arith in
      let n12 : at + 1 ≢ at + 2 = λ e. omega arith in
      let n13 : at + 1 ≢ at + 3 = λ e. omega arith in
      let n23 : at + 2 ≢ at + 3 = λ e. omega arith in
      simp (get_or-set_other, get_or-set_same) (bytes_word x fits)

-- A word is below 2 ^ 32.
pub word_at_fits : (s : List ℕ) (at : ℕ) → Bytes s → word_at s at < 2 ^ 32
unfolding word_at
word_at_fits s at b = omega (arith, b at, b (at + 1), b (at + 2), b (at + 3))

-- Storing a byte in a list of bytes leaves a list of bytes.
pub set_bytes : (s : List ℕ) (i v : ℕ) → Bytes s → v < 256 → Bytes (set s i v)
set_bytes [] i v b h k = b k
set_bytes (a ∷ s) zero v b h zero = h
set_bytes (a ∷ s) zero v b h (suc k) = b (suc k)
set_bytes (a ∷ s) (suc i) v b h zero = b zero
set_bytes (a ∷ s) (suc i) v b h (suc k) = set_bytes s i v (λ j. b (suc j)) h k

byte : (x : ℕ) → x % 256 < 256
byte x = omega arith
