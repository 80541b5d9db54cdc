-- Laws of the open word: what opening a disk changes, and the count of open disks.
use Prim.Native.Nat.{ℕ, zero, suc, ◌+◌, ◌*◌, ◌/◌, ◌%◌, ◌^◌, ◌≤◌, ◌<◌}
use Rattle.std.specs.Prelude.{true, false, List, ◌≢◌, ◌≡◌, length, get_or}
use Rattle.std.proofs.Math.Path.{refl}
use Rattle.std.proofs.Common.{sym, ◌∙◌, add_comm, get_or-set_same}
use Rattle.std.proofs.Math.Decide.{ℕ_discrete}
use native.Mathlib.Omega.{arith}
use Rattle.std.proofs.lemmas.Nat.{or_lt, ones_cat}
use Rattle.std.specs.Int.Count.{ones}
use Rattle.std.proofs.Math.ListN.{length-set}
use Rattle.std.proofs.Math.Pow.{pow-lt}
use Rattle.std.proofs.Math.Seq.{get_or-set_other}
use Rattle.num.specs.Bits.{has_bit, bit_zero, bit_set, bit_set_other, ones_count}
use Rattle.num.specs.Count.{count_to, count_same, count_add, count_most, count_none, count_one_more}
use Rattle.num.specs.Opened.{open_at, set_open, open_count, open_word}
use Rattle.num.specs.Word.{word_at, Bytes}
use Rattle.num.specs.WordLaws.{set_bytes, word_at_fits, word_same}

module _ (s : List ℕ) (d : ℕ) where
  pub length_set_open : length (set_open s d) ≡ length s
  unfolding set_open
  length_set_open = length-set s _ _

  -- A byte other than the disk's is as it was.
  pub byte_set_open : (k : ℕ) → k ≢ d / 8 → get_or (set_open s d) k 0 ≡ get_or s k 0
  unfolding set_open
  byte_set_open k n = rw get_or-set_other

  pub bytes_set_open : Bytes s → Bytes (set_open s d)
  unfolding set_open
  bytes_set_open b =
      let power = pow-lt {i = d % 8} {j = 8} (omega arith) in
      set_bytes s (d / 8) _ b (or_lt 8 (get_or s (d / 8) 0) (2 ^ (d % 8)) (b (d / 8)) power)

  -- A word after the eight bytes is as it was.
  pub word_set_open : (at : ℕ) → d < 64 → 8 ≤ at → word_at (set_open s d) at ≡ word_at s at
  word_set_open at h k = word_same (set_open s d) s at (λ j l u. byte_set_open j (λ e. omega arith))

module _ (s : List ℕ) (d : ℕ) (disk : d < 64) (eight : 8 ≤ length s) where
  within : d / 8 < length s
  within = omega arith

  -- The disk is open.
  pub open_set_same : open_at (set_open s d) d ≡ true
  unfolding open_at set_open
  open_set_same = let h = within in rw (get_or-set_same, bit_set)

  same_byte : (e : ℕ) → e ≢ d → Dec (e / 8 ≡ d / 8) → open_at (set_open s d) e ≡ open_at s e
  unfolding open_at set_open
  same_byte e n (yes p) =
      let h = within in
      rw (p, get_or-set_same) (bit_set_other (get_or s (d / 8) 0) (d % 8) (e % 8) (λ q. n (omega arith)))
  same_byte e n (no p) = rw get_or-set_other

  -- Any other disk is as it was.
  pub open_set_other : (e : ℕ) → e ≢ d → open_at (set_open s d) e ≡ open_at s e
  open_set_other e n = same_byte e n (ℕ_discrete (e / 8) (d / 8))

  -- One more disk is open, if this one was shut.
  pub count_set_shut : open_at s d ≡ false → open_count (set_open s d) ≡ open_count s + 1
  unfolding open_count
  count_set_shut shut =
      count_one_more (open_at s) (open_at (set_open s d)) 64 d disk shut open_set_same (λ i k n. open_set_other i n)

  same_disk : open_at s d ≡ true → (e : ℕ) → Dec (e ≡ d) → open_at (set_open s d) e ≡ open_at s e
  same_disk was e (yes p) = rw p (open_set_same ∙ sym was)
  same_disk was e (no n) = open_set_other e n

  -- The count stays, if it was open already.
  pub count_set_open : open_at s d ≡ true → open_count (set_open s d) ≡ open_count s
  unfolding open_count
  count_set_open was = count_same (open_at (set_open s d)) (open_at s) 64 (λ e k. same_disk was e (ℕ_discrete e d))

pub open_count_most : (s : List ℕ) → open_count s ≤ 64
unfolding open_count
open_count_most s = count_most (open_at s) 64

-- The eight bytes alone decide which disks are open.
module _ (s t : List ℕ) (same : (k : ℕ) → k < 8 → get_or s k 0 ≡ get_or t k 0) where
  pub open_same : (d : ℕ) → d < 64 → open_at s d ≡ open_at t d
  unfolding open_at
  open_same d h = rw (same (d / 8) (omega arith))

  pub open_count_same : open_count s ≡ open_count t
  unfolding open_count
  open_count_same = count_same (open_at s) (open_at t) 64 open_same

-- If they are zero, all disks are shut.
module _ (s : List ℕ) (zeros : (k : ℕ) → k < 8 → get_or s k 0 ≡ 0) where
  pub open_none : (d : ℕ) → d < 64 → open_at s d ≡ false
  unfolding open_at
  open_none d h = rw (zeros (d / 8) (omega arith)) (bit_zero (d % 8))

  pub open_count_none : open_count s ≡ 0
  unfolding open_count
  open_count_none = count_none (open_at s) 64 open_none

-- The number of set bits in the first k bytes.
ones_to : List ℕ → ℕ → ℕ
ones_to s zero = 0
ones_to s (suc k) = ones_to s k + ones (get_or s k 0)

-- The set bits of a number are those of its low k bits and those above.
ones_low : (k a y : ℕ) → a < 2 ^ k → ones (a + y * 2 ^ k) ≡ ones a + ones y
ones_low k a y h = rw (add_comm a (y * 2 ^ k), ones_cat k y a h) (omega arith)

module _ (s : List ℕ) (bytes : Bytes s) where
  ones_word : (at : ℕ) → ones (word_at s at) ≡
      ones (get_or s at 0) + (ones (get_or s (at + 1) 0) + (ones (get_or s (at + 2) 0) + ones (get_or s (at + 3) 0)))
  unfolding word_at
  ones_word at = rw (ones_low 8 _ _ (bytes at), ones_low 8 _ _ (bytes (at + 1)), ones_low 8 _ _ (bytes (at + 2)))

  bit_at : (k i : ℕ) → i < 8 → open_at s (k * 8 + i) ≡ has_bit (get_or s k 0) i
  unfolding open_at
  bit_at k i h =
      let quotient : (k * 8 + i) / 8 ≡ k = omega arith in
      let rest : (k * 8 + i) % 8 ≡ i = omega arith in
      rw (quotient, rest)

  count_bytes : (k : ℕ) → count_to (open_at s) (k * 8) ≡ ones_to s k
  unfolding ones_to count_to
  count_bytes zero = refl
  count_bytes (suc k) =
      let next : suc k * 8 ≡ k * 8 + 8 = omega arith in
      rw next (omega (
        arith,
        count_add (open_at s) (k * 8) 8,
        count_same (λ i. open_at s (k * 8 + i)) (has_bit (get_or s k 0)) 8 (bit_at k),
        ones_count 8 (get_or s k 0) (bytes k),
        count_bytes k,
      ))

  -- The number of set bits of the open word is the number of open disks.
  pub ones_open : ones (open_word s) ≡ open_count s
  unfolding open_word open_count ones_to
  ones_open = omega (
    arith,
    ones_low 32 (word_at s 0) (word_at s 4) (word_at_fits s 0 bytes),
    ones_word 0,
    ones_word 4,
    count_bytes 8,
  )
