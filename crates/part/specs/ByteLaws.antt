-- Laws of bytes: a word is its four bytes, words one behind the other are a run of bytes, and the test that a run is zero.
use Rattle.std.specs.Prelude.{ℕ, zero, suc, ◌+◌, ◌*◌, ◌-◌, ◌/◌, ◌%◌, ◌^◌, ◌≤◌, ◌<◌, Bool, true, ◌&&◌, List, [], ◌∷◌, ◌++◌, ◌≡◌, refl, eqb, length, take, drop, get_or}
use Rattle.std.proofs.Math.Bool.{and-true, and_assoc}
use Rattle.std.proofs.Common.{append_assoc, sym, ap, ◌∙◌, mod-eq_of_lt, add-one, arith, drop-cons, drop-drop, take-add, get_or-take, get_or-drop, get_or-append-add, ext_get_or, eqb-true, ne_eqb}
use Rattle.std.specs.Int.Bits.{bit_or, or_zero_l, or_add_and}
use Rattle.std.proofs.lemmas.Nat.{and_le_r}
use Rattle.std.proofs.Math.Dec.{eqb-suc-zero}
use Rattle.num.specs.Word.{word4, word_at, Bytes}
use Rattle.num.specs.Runs.{le4, flat, all_zero}
use Rattle.num.specs.RunLaws.{length_le4, word_le4}
use Rattle.law.specs.Lists.{and_left, and_right}
use Rattle.part.specs.Layout.{zero_at}

-- ---- zero numbers

-- Two numbers joined bit by bit are zero if both are.
pub or_none : (a b : ℕ) → eqb (bit_or a b) 0 ≡ (eqb a 0 && eqb b 0)
or_none zero b = ap (λ (x : ℕ). eqb x 0) (or_zero_l b)
or_none (suc a) b =
    rw (eqb-suc-zero a) (ne_eqb (bit_or (suc a) b) 0 (λ e. omega (arith, or_add_and (suc a) b, and_le_r (suc a) b)))

-- ---- the four bytes of a word

pub four : (s : List ℕ) (at : ℕ) → at + 4 ≤ length s →
    take 4 (drop at s) ≡ get_or s at 0 ∷ get_or s (at + 1) 0 ∷ get_or s (at + 2) 0 ∷ get_or s (at + 3) 0 ∷ []
four s at h =
    let h2 : at + 2 ≡ suc (suc at) = omega arith in
    let h3 : at + 3 ≡ suc (suc (suc at)) = omega arith in
    rw (
      add-one at,
      h2,
      h3,
      drop-cons s at 0 (omega arith),
      drop-cons s (suc at) 0 (omega arith),
      drop-cons s (suc (suc at)) 0 (omega arith),
      drop-cons s (suc (suc (suc at))) 0 (omega arith),
    )

-- The lowest byte of a number, and what stands above it.
low : (a y : ℕ) → a < 256 → (a + y * 256) % 256 ≡ a
low a y h = omega arith

high : (a y : ℕ) → a < 256 → (a + y * 256) / 256 ≡ y
high a y h = omega arith

-- The bytes of a word are those that stand there.
pub le4_word : (s : List ℕ) (at : ℕ) → Bytes s → at + 4 ≤ length s → le4 (word_at s at) ≡ take 4 (drop at s)
unfolding le4 word_at
le4_word s at b h =
    let h0 = b at in
    let h1 = b (at + 1) in
    let h2 = b (at + 2) in
    let h3 = b (at + 3) in
    simp (low, high, mod-eq_of_lt) (sym (four s at h))

-- ---- words one behind the other

-- So many words from an index on.
abbrev pub words_from : ℕ → ℕ → List ℕ → List ℕ
words_from zero at s = []
words_from (suc n) at s = word_at s at ∷ words_from n (at + 4) s

-- Their bytes are those that stand there.
pub flat_words : (n at : ℕ) (s : List ℕ) → Bytes s → at + 4 * n ≤ length s → flat (words_from n at s) ≡ take (4 * n) (drop at s)
unfolding flat
flat_words zero at s b h = refl
flat_words (suc n) at s b h =
    let size : 4 + 4 * n ≡ 4 * suc n = omega arith in
    ap (λ (r : List ℕ). r ++ flat (words_from n (at + 4) s)) (le4_word s at b (omega arith))
    ∙ ap (λ (r : List ℕ). take 4 (drop at s) ++ r)
    (flat_words n (at + 4) s b (omega arith) ∙ ap (take (4 * n)) (sym (drop-drop 4 at s)))
    ∙ sym (take-add 4 (4 * n) (drop at s))
    ∙ ap (λ (k : ℕ). take k (drop at s)) size

-- A word behind a run.
pub word_skip : (p q : List ℕ) (k : ℕ) → word_at (p ++ q) (length p + k) ≡ word_at q k
unfolding word_at
word_skip p q k =
    let h1 : length p + k + 1 ≡ length p + (k + 1) = omega arith in
    let h2 : length p + k + 2 ≡ length p + (k + 2) = omega arith in
    let h3 : length p + k + 3 ≡ length p + (k + 3) = omega arith in
    rw (
      h1,
      h2,
      h3,
      get_or-append-add p q k 0,
      get_or-append-add p q (k + 1) 0,
      get_or-append-add p q (k + 2) 0,
      get_or-append-add p q (k + 3) 0,
    )

-- Each word of a run of words is read back.
pub word_flat : (xs rest : List ℕ) (k : ℕ) → k < length xs → get_or xs k 0 < 2 ^ 32 → word_at (flat xs ++ rest) (4 * k) ≡ get_or xs k 0
unfolding flat
word_flat [] rest k h fits = absurd (omega arith)
word_flat (x ∷ xs) rest zero h fits =
    ap (λ (r : List ℕ). word_at r 0) (append_assoc (le4 x) (flat xs) rest) ∙ word_le4 x (flat xs ++ rest) fits
word_flat (x ∷ xs) rest (suc k) h fits =
    let place : 4 * suc k ≡ length (le4 x) + 4 * k = omega (arith, length_le4 x) in
    rw (place, append_assoc (le4 x) (flat xs) rest)
    (word_skip (le4 x) (flat xs ++ rest) (4 * k) ∙ word_flat xs rest k (omega arith) fits)

-- ---- lists of bytes

pub bytes_append : (xs ys : List ℕ) → Bytes xs → Bytes ys → Bytes (xs ++ ys)
bytes_append [] ys b e k = e k
bytes_append (x ∷ xs) ys b e zero = b zero
bytes_append (x ∷ xs) ys b e (suc k) = bytes_append xs ys (λ j. b (suc j)) e k

pub bytes_take : (n : ℕ) (s : List ℕ) → Bytes s → Bytes (take n s)
bytes_take zero s b k = omega arith
bytes_take (suc n) [] b k = b k
bytes_take (suc n) (x ∷ s) b zero = b zero
bytes_take (suc n) (x ∷ s) b (suc k) = bytes_take n s (λ j. b (suc j)) k

pub bytes_drop : (n : ℕ) (s : List ℕ) → Bytes s → Bytes (drop n s)
bytes_drop n s b k = rw (get_or-drop n s k 0) (b (n + k))

bytes_le4 : (x : ℕ) → Bytes (le4 x)
unfolding le4
bytes_le4 x zero = omega arith
bytes_le4 x (suc zero) = omega arith
bytes_le4 x (suc (suc zero)) = omega arith
bytes_le4 x (suc (suc (suc zero))) = omega arith
bytes_le4 x (suc (suc (suc (suc k)))) = omega arith

pub bytes_flat : (xs : List ℕ) → Bytes (flat xs)
unfolding flat
bytes_flat [] k = omega arith
bytes_flat (x ∷ xs) k = bytes_append (le4 x) (flat xs) (bytes_le4 x) (bytes_flat xs) k

-- ---- zero bytes

pub zero_in : (l : List ℕ) → all_zero l ≡ true → (k : ℕ) → get_or l k 0 ≡ 0
unfolding all_zero
zero_in [] z k = refl
zero_in (x ∷ l) z zero = eqb-true x 0 (and_left (eqb x 0) (all_zero l) z)
zero_in (x ∷ l) z (suc k) = zero_in l (and_right (eqb x 0) (all_zero l) z) k

-- Each byte of a run that is zero.
pub zero_byte : (s : List ℕ) (at n : ℕ) → zero_at s at n ≡ true → (k : ℕ) → at ≤ k → k < at + n → get_or s k 0 ≡ 0
zero_byte s at n z k l u =
    let place : k ≡ at + (k - at) = omega arith in
    ap (λ (i : ℕ). get_or s i 0) place
    ∙ sym (get_or-drop at s (k - at) 0)
    ∙ sym (get_or-take n (drop at s) (k - at) 0 (omega arith))
    ∙ zero_in (take n (drop at s)) z (k - at)

-- Zero bytes are one list only, by their number.
pub zero_same : (xs ys : List ℕ) → length xs ≡ length ys → all_zero xs ≡ true → all_zero ys ≡ true → xs ≡ ys
zero_same xs ys e z w = ext_get_or 0 xs ys e (λ i h. zero_in xs z i ∙ sym (zero_in ys w i))

-- Where all bytes are zero, so is each word.
pub word_none : (s : List ℕ) (at : ℕ) → ((k : ℕ) → at ≤ k → k < at + 4 → get_or s k 0 ≡ 0) → word_at s at ≡ 0
unfolding word_at
word_none s at h =
    rw (
      h at (omega arith) (omega arith),
      h (at + 1) (omega arith) (omega arith),
      h (at + 2) (omega arith) (omega arith),
      h (at + 3) (omega arith) (omega arith),
    )

pub zero_append : (xs ys : List ℕ) → all_zero (xs ++ ys) ≡ (all_zero xs && all_zero ys)
unfolding all_zero
zero_append [] ys = refl
zero_append (x ∷ xs) ys =
    ap (λ (b : Bool). eqb x 0 && b) (zero_append xs ys) ∙ sym (and_assoc (eqb x 0) (all_zero xs) (all_zero ys))

-- A range is zero if its two pieces are.
pub zero_split : (s : List ℕ) (at m n : ℕ) → zero_at s at (m + n) ≡ (zero_at s at m && zero_at s (at + m) n)
zero_split s at m n =
    ap all_zero (take-add m n (drop at s))
    ∙ zero_append (take m (drop at s)) (take n (drop m (drop at s)))
    ∙ ap (λ (r : List ℕ). zero_at s at m && all_zero (take n r)) (drop-drop m at s)

zero_four : (a b c d : ℕ) → eqb (word4 a b c d) 0 ≡ all_zero (a ∷ b ∷ c ∷ d ∷ [])
unfolding all_zero
zero_four zero zero zero zero = refl
zero_four zero zero zero (suc d) = rw (eqb-suc-zero d) (ne_eqb (word4 0 0 0 (suc d)) 0 (λ e. omega arith))
zero_four zero zero (suc c) d = rw (eqb-suc-zero c) (ne_eqb (word4 0 0 (suc c) d) 0 (λ e. omega arith))
zero_four zero (suc b) c d = rw (eqb-suc-zero b) (ne_eqb (word4 0 (suc b) c d) 0 (λ e. omega arith))
zero_four (suc a) b c d = rw (eqb-suc-zero a) (ne_eqb (word4 (suc a) b c d) 0 (λ e. omega arith))

-- A word is zero if its bytes are.
pub zero_word : (s : List ℕ) (at : ℕ) → at + 4 ≤ length s → eqb (word_at s at) 0 ≡ zero_at s at 4
unfolding word_at
zero_word s at h =
    zero_four (get_or s at 0) (get_or s (at + 1) 0) (get_or s (at + 2) 0) (get_or s (at + 3) 0) ∙ sym (ap all_zero (four s at h))

-- So are two words.
pub zero_two : (s : List ℕ) (at : ℕ) → at + 8 ≤ length s →
    eqb (bit_or (word_at s at) (word_at s (at + 4))) 0 ≡ zero_at s at 8
zero_two s at h =
    rw (or_none (word_at s at) (word_at s (at + 4)), zero_word s at (omega arith), zero_word s (at + 4) (omega arith))
    (sym (zero_split s at 4 4))

-- ---- a walk over bytes that are to be zero

-- One more byte joined.
pub zero_more : (s : List ℕ) (a i to : ℕ) → i < to → to ≤ length s →
    (eqb (bit_or a (get_or s i 0)) 0 && zero_at s (i + 1) (to - (i + 1))) ≡ (eqb a 0 && zero_at s i (to - i))
unfolding all_zero
zero_more s a i to h g =
    let left : to - i ≡ suc (to - (i + 1)) = omega arith in
    rw (or_none a (get_or s i 0), left, drop-cons s i 0 (omega arith), ← add-one i)
    (and_assoc (eqb a 0) (eqb (get_or s i 0) 0) (zero_at s (i + 1) (to - (i + 1))))

pub zero_end : (s : List ℕ) (a i to : ℕ) → to ≤ i → eqb a 0 ≡ (eqb a 0 && zero_at s i (to - i))
unfolding all_zero
zero_end s a i to h =
    let none : to - i ≡ 0 = omega arith in
    rw none (sym (and-true (eqb a 0)))
