-- The bits of a number, with their laws.
use Rattle.std.specs.Prelude.{ℕ, zero, suc, ◌+◌, ◌-◌, ◌/◌, ◌%◌, ◌^◌, ◌<◌, Bool, true, false, cond, not, ◌&&◌, ◌||◌, ◌≢◌, ◌≡◌, refl, eqb}
use Rattle.std.proofs.Common.{⊎_elim, sym, ap, ◌∙◌, div-one, eq-zero-or-pos, pow-suc, add-one, arith, eqb-true, eq-eqb, ne_eqb, pow_pos, pow-add, shr-shr, shr_lt}
use Rattle.std.proofs.Math.Nat.{div_self, div-eq_of_lt, mul-mod_left, zero-div}
use Rattle.std.proofs.lemmas.Bool.{eqb-false}
use Rattle.std.proofs.Math.Arith.{lt-one, bin_ind}
use Rattle.std.specs.Int.Bits.{bit_and, bit_or, or_add_and, or_zero_r}
use Rattle.std.proofs.lemmas.Nat.{and_shr, and_mod, and_le_l, and_le_r, or_comm, or_shr, or_mod, shl-shr}
use Rattle.std.specs.Int.Count.{ones, ones_step}
use Rattle.std.proofs.Math.Pow.{pow-lt}
use Rattle.num.specs.Count.{count_to, count_same, count_add}

-- Whether bit a of a mask is set.
unfoldable pub has_bit : ℕ → ℕ → Bool
has_bit mask a = eqb (mask / 2 ^ a % 2) 1

pub bit_zero : (a : ℕ) → has_bit 0 a ≡ false
unfolding has_bit
bit_zero a = rw zero-div

-- Two cases: a bit is 0 or 1.
by_bit : (P : ℕ → Type 0) → P 0 → P 1 → (r : ℕ) → r < 2 → P r
by_bit P none one zero h = none
by_bit P none one (suc zero) h = one
by_bit P none one (suc (suc r)) h = absurd (omega arith)

-- A bit joined with 1 (bit_or) is 1.
or_one : (r : ℕ) → r < 2 → bit_or r 1 ≡ 1
or_one = by_bit (λ r. bit_or r 1 ≡ 1) refl refl

-- Bit a is set after it was joined.
pub bit_set : (m a : ℕ) → has_bit (bit_or m (2 ^ a)) a ≡ true
unfolding has_bit
bit_set m a = rw (or_shr m (2 ^ a) a, div_self (pow_pos a), or_mod (m / 2 ^ a) 1 1, or_one (m / 2 ^ a % 2) (omega arith))

high_bit : (a b : ℕ) → b < a → 2 ^ a / 2 ^ b % 2 ≡ 0
high_bit a b h =
    let k = a - b - 1 in
    let e : a ≡ suc k + b = omega arith in
    rw (e, pow-add 2 (suc k) b, shl-shr, pow-suc, mul-mod_left)

-- 2 ^ a has no bit but a.
power_bit : (a b : ℕ) → a ≢ b → 2 ^ a / 2 ^ b % 2 ≡ 0
power_bit a b n =
    ⊎_elim
    (λ (e : a - b ≡ 0). rw (div-eq_of_lt (pow-lt {i = a} {j = b} (omega arith))))
    (λ (l : 0 < a - b). high_bit a b (omega arith))
    (eq-zero-or-pos (a - b))

-- Joining bit a leaves every other bit as it was.
pub bit_set_other : (m a b : ℕ) → a ≢ b → has_bit (bit_or m (2 ^ a)) b ≡ has_bit m b
unfolding has_bit
bit_set_other m a b n = rw (or_shr m (2 ^ a) b, or_mod (m / 2 ^ b) (2 ^ a / 2 ^ b) 1, power_bit a b n, or_zero_r)

-- bit_or is 0 only if both numbers are 0.
pub or_none : (a b : ℕ) → bit_or a b ≡ 0 → (a ≡ 0) × (b ≡ 0)
or_none a b e =
    (omega (arith, e, or_add_and a b, and_le_r a b), omega (arith, e, or_add_and a b, and_le_l a b))

-- bit_and of two bits is 1 exactly if both are.
and_one : (r s : ℕ) → r < 2 → s < 2 → eqb (bit_and r s) 1 ≡ (eqb r 1 && eqb s 1)
and_one r s h k =
    by_bit (λ r. eqb (bit_and r s) 1 ≡ (eqb r 1 && eqb s 1)) refl (by_bit (λ s. eqb (bit_and 1 s) 1 ≡ eqb s 1) refl refl s k) r h

-- bit_or of two bits is 1 exactly if one of them is.
or_two : (r s : ℕ) → r < 2 → s < 2 → eqb (bit_or r s) 1 ≡ (eqb r 1 || eqb s 1)
or_two r s h k =
    by_bit (λ r. eqb (bit_or r s) 1 ≡ (eqb r 1 || eqb s 1)) (by_bit (λ s. eqb (bit_or 0 s) 1 ≡ eqb s 1) refl refl s k)
    (by_bit (λ s. eqb (bit_or 1 s) 1 ≡ true) refl refl s k) r h

pub bit_either : (m n a : ℕ) → has_bit (bit_or m n) a ≡ (has_bit m a || has_bit n a)
unfolding has_bit
bit_either m n a =
    rw (or_shr m n a, or_mod (m / 2 ^ a) (n / 2 ^ a) 1) (or_two (m / 2 ^ a % 2) (n / 2 ^ a % 2) (omega arith) (omega arith))

pub bit_both : (m n a : ℕ) → has_bit (bit_and m n) a ≡ (has_bit m a && has_bit n a)
unfolding has_bit
bit_both m n a =
    rw (and_shr m n a, and_mod (m / 2 ^ a) (n / 2 ^ a) 1) (and_one (m / 2 ^ a % 2) (n / 2 ^ a % 2) (omega arith) (omega arith))

-- If two masks share no bit, a bit of one is not set in the other.
pub apart_bits : (m n a : ℕ) → bit_and m n ≡ 0 → has_bit m a ≡ true → has_bit n a ≡ false
apart_bits m n a e h =
    let none : (has_bit m a && has_bit n a) ≡ false = sym (bit_both m n a) ∙ ap (λ (x : ℕ). has_bit x a) e ∙ bit_zero a in
    rw h at none

-- Bit a + 1 of a number is bit a of its half.
bit_half : (m a : ℕ) → has_bit m (1 + a) ≡ has_bit (m / 2) a
unfolding has_bit
bit_half m a = rw (← shr-shr m 1 a)

-- A number with no bit set is 0.
pub bits_none : (n : ℕ) → ((a : ℕ) → has_bit n a ≡ false) → n ≡ 0
unfolding has_bit
bits_none =
    bin_ind (λ (n : ℕ). ((a : ℕ) → has_bit n a ≡ false) → n ≡ 0) (λ h. refl)
    (λ n ih h.
    let half = ih (λ a. sym (bit_half n a) ∙ h (1 + a)) in
    let odd : n / 1 % 2 ≡ 1 → ⊥ = eqb-false (n / 1 % 2) 1 (h 0) in
    let even : n % 2 ≡ 1 → ⊥ = λ e. odd (ap (λ (x : ℕ). x % 2) (div-one n) ∙ e) in
    ⊎_elim (λ (e : n % 2 ≡ 0). omega (arith, half, e)) (λ (l : 0 < n % 2). absurd (even (omega arith))) (eq-zero-or-pos (n % 2)))

-- If neither m nor n shares a bit with k, their join does not.
pub or_apart : (m n k : ℕ) → bit_and m k ≡ 0 → bit_and n k ≡ 0 → bit_and (bit_or m n) k ≡ 0
or_apart m n k e f = bits_none (bit_and (bit_or m n) k) (λ a. bit_both (bit_or m n) k a ∙ ap (λ (b : Bool). b && has_bit k a) (bit_either m n a) ∙ neither (has_bit m a) (has_bit n a) (has_bit k a) (gone m e a) (gone n f a))
  where
    gone : (x : ℕ) → bit_and x k ≡ 0 → (a : ℕ) → (has_bit x a && has_bit k a) ≡ false
    gone x e a = sym (bit_both x k a) ∙ ap (λ (y : ℕ). has_bit y a) e ∙ bit_zero a

    neither : (b c d : Bool) → (b && d) ≡ false → (c && d) ≡ false → ((b || c) && d) ≡ false
    neither true c d h k = h
    neither false c d h k = k

-- And where it shares none, neither does.
or_left_apart : (m n k : ℕ) → bit_and (bit_or m n) k ≡ 0 → bit_and m k ≡ 0
or_left_apart m n k e = bits_none (bit_and m k) (λ a. bit_both m k a ∙ first (has_bit m a) (has_bit n a) (has_bit k a) (gone a))
  where
    gone : (a : ℕ) → ((has_bit m a || has_bit n a) && has_bit k a) ≡ false
    gone a =
        ap (λ (b : Bool). b && has_bit k a) (sym (bit_either m n a)) ∙ sym (bit_both (bit_or m n) k a) ∙ ap (λ (y : ℕ). has_bit y a) e ∙ bit_zero a

    first : (b c d : Bool) → ((b || c) && d) ≡ false → (b && d) ≡ false
    first true c d h = h
    first false c d h = refl

-- Two masks share a bit.
abbrev pub shares : ℕ → ℕ → Bool
shares a b = not (eqb (bit_and a b) 0)

-- A mask joined with another shares a bit with a third exactly where one of the two does.
pub shares_either : (m n k : ℕ) → shares (bit_or m n) k ≡ (shares m k || shares n k)
shares_either m n k = go (eqb (bit_and m k) 0) (eqb (bit_and n k) 0) refl refl
  where
    both : bit_and (bit_or m n) k ≡ 0 → (bit_and m k ≡ 0) × (bit_and n k ≡ 0)
    both e = (or_left_apart m n k e, or_left_apart n m k (ap (λ (x : ℕ). bit_and x k) (or_comm n m) ∙ e))

    go : (b c : Bool) → eqb (bit_and m k) 0 ≡ b → eqb (bit_and n k) 0 ≡ c → shares (bit_or m n) k ≡ (not b || not c)
    go true true h g = ap not (eq-eqb (bit_and (bit_or m n) k) 0 (or_apart m n k (eqb-true (bit_and m k) 0 h) (eqb-true (bit_and n k) 0 g)))
    go false c h g = ap not (ne_eqb (bit_and (bit_or m n) k) 0 (λ e. eqb-false (bit_and m k) 0 h (both e).0))
    go true false h g = ap not (ne_eqb (bit_and (bit_or m n) k) 0 (λ e. eqb-false (bit_and n k) 0 g (both e).1))

-- The lowest bit, as a count.
lowest : (r : ℕ) → r < 2 → cond (eqb r 1) 1 0 ≡ r
lowest = by_bit (λ r. cond (eqb r 1) 1 0 ≡ r) refl refl

first_bit : (m : ℕ) → count_to (has_bit m) 1 ≡ m % 2
unfolding has_bit count_to
first_bit m = rw (div-one m) (omega (arith, lowest (m % 2) (omega arith)))

-- The machine's count `ones` of an n-bit number is the number of its set bits.
pub ones_count : (n m : ℕ) → m < 2 ^ n → ones m ≡ count_to (has_bit m) n
unfolding count_to ones
ones_count zero m h = rw (lt-one h)
ones_count (suc n) m h =
    let half : m / 2 < 2 ^ n = shr_lt n 1 (rw add-one h) in
    let rest = count_same (λ i. has_bit m (1 + i)) (has_bit (m / 2)) n (λ i k. bit_half m i) in
    let front : suc n ≡ 1 + n = omega arith in
    omega (
      arith,
      ones_step m,
      ones_count n (m / 2) half,
      ap (count_to (has_bit m)) front,
      count_add (has_bit m) 1 n,
      first_bit m,
      rest,
    )
