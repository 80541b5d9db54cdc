-- How many numbers below a bound pass a test, with its laws.
use Rattle.std.specs.Prelude.{ℕ, zero, suc, ◌+◌, ◌≤◌, ◌<◌, Bool, true, false, cond, ◌≢◌, ◌≡◌, refl}
use Rattle.std.proofs.Common.{⊎_elim, add-zero, add-suc, eq-or-lt_of_le, arith}

-- How many numbers below n pass a test.
unfoldable pub count_to : (ℕ → Bool) → ℕ → ℕ
count_to p zero = 0
count_to p (suc n) = count_to p n + cond (p n) 1 0

-- Tests that agree below n count the same.
pub count_same : (p q : ℕ → Bool) (n : ℕ) → ((i : ℕ) → i < n → p i ≡ q i) → count_to p n ≡ count_to q n
unfolding count_to
count_same p q zero h = refl
count_same p q (suc n) h = rw (count_same p q n (λ i k. h i (omega arith)), h n (omega arith))

-- The count up to m + n: the count up to m, plus the count of the n numbers from m on.
pub count_add : (p : ℕ → Bool) (m n : ℕ) → count_to p (m + n) ≡ count_to p m + count_to (λ i. p (m + i)) n
unfolding count_to
count_add p m zero = rw (add-zero m) (omega arith)
count_add p m (suc n) = rw (add-suc, count_add p m n) (omega arith)

at_most_one : (b : Bool) → cond b 1 0 ≤ 1
at_most_one true = omega arith
at_most_one false = omega arith

pub count_most : (p : ℕ → Bool) (n : ℕ) → count_to p n ≤ n
unfolding count_to
count_most p zero = omega arith
count_most p (suc n) = omega (arith, count_most p n, at_most_one (p n))

pub count_none : (p : ℕ → Bool) (n : ℕ) → ((i : ℕ) → i < n → p i ≡ false) → count_to p n ≡ 0
unfolding count_to
count_none p zero h = refl
count_none p (suc n) h = rw (count_none p n (λ i k. h i (omega arith)), h n (omega arith))

-- A test that passes one number more counts one more.
pub count_one_more : (p q : ℕ → Bool) (n d : ℕ) → d < n → p d ≡ false → q d ≡ true →
    ((i : ℕ) → i < n → i ≢ d → q i ≡ p i) → count_to q n ≡ count_to p n + 1
unfolding count_to
count_one_more p q zero d k f t h = absurd (omega arith)
count_one_more p q (suc n) d k f t h =
    let below : d ≤ n = omega arith in
    ⊎_elim
    (λ (e : d ≡ n). rw (count_same q p n (λ i l. h i (omega arith) (λ j. omega arith)), rw e at f, rw e at t) (omega arith))
    (λ (l : d < n). rw (count_one_more p q n d l f t (λ i b. h i (omega arith)), h n (omega arith) (λ e. omega arith)) (omega arith))
    (eq-or-lt_of_le below)
