-- Laws of numbers as text: how many digits there are, and the digits from the highest down.
use Rattle.std.specs.Prelude.{ℕ, zero, suc, ◌+◌, ◌-◌, ◌*◌, ◌/◌, ◌%◌, ◌^◌, ◌≤◌, ◌<◌, true, false, List, [], ◌∷◌, ◌++◌, ◌≡◌, refl, ℤ, pos, negsuc, length, set}
use Rattle.std.proofs.Common.{⊎_elim, sym, ap, ◌∙◌, eq-zero-or-pos, pow-suc, div-one, arith, ltb-true, ne_eqb, length-append}
use Rattle.std.proofs.Math.Nat.{pow-zero, pow-succ', div-div-eq-div-mul}
use Rattle.std.proofs.lemmas.List.Edits.{sets}
use Rattle.std.proofs.lemmas.List.{set_comm}
use Rattle.std.specs.Int.Signed.{lt_z}
use Rattle.num.specs.Metric.{size}
use Rattle.num.specs.Runs.{splice}
use Rattle.law.specs.Lists.{never_true}
use Rattle.stopblocker.specs.Text.{digits, tenths, places, decimal, signed_text}

-- ---- how many digits

pub length_digits : (k n : ℕ) → length (digits k n) ≡ k
unfolding digits
length_digits zero n = refl
length_digits (suc k) n = omega (arith, length-append (digits k (n / 10)) ((48 + n % 10) ∷ []), length_digits k (n / 10))

pub length_decimal : (n : ℕ) → length (decimal n) ≡ places n
unfolding decimal
length_decimal n = length_digits (places n) n

pub tenths_none : (most : ℕ) → tenths most 0 ≡ 0
unfolding tenths
tenths_none zero = refl
tenths_none (suc most) = refl

pub tenths_more : (most n : ℕ) → 0 < n → tenths (suc most) n ≡ suc (tenths most (n / 10))
unfolding tenths
tenths_more most n h = rw (ne_eqb n 0 (omega arith))

-- A number below 10 ^ k has at most k digits, or one if k is 0.
tenths_most : (k most n : ℕ) → n < 10 ^ k → tenths most n ≤ k
unfolding tenths
tenths_most k zero n h = omega arith
tenths_most zero (suc most) n h =
    let e : n ≡ 0 = omega (arith, pow-zero 10) in
    rw e (omega arith)
tenths_most (suc k) (suc most) n h =
    ⊎_elim (λ (e : n ≡ 0). rw e (omega arith))
    (λ (l : 0 < n).
    rw (ne_eqb n 0 (omega arith)) (omega (arith, tenths_most k most (n / 10) (omega (arith, pow-suc 10 k)))))
    (eq-zero-or-pos n)

pub places_most : (k n : ℕ) → n < 10 ^ suc k → places n ≤ suc k
places_most k n h = omega (arith, tenths_most k 19 (n / 10) (omega (arith, pow-suc 10 k)))

-- `places` is at most 20.
tenths_bound : (most n : ℕ) → tenths most n ≤ most
unfolding tenths
tenths_bound zero n = omega arith
tenths_bound (suc most) n =
    ⊎_elim (λ (e : n ≡ 0). rw e (omega arith))
    (λ (l : 0 < n). rw (ne_eqb n 0 (omega arith)) (omega (arith, tenths_bound most (n / 10))))
    (eq-zero-or-pos n)

pub places_bound : (n : ℕ) → places n ≤ 20
places_bound n = omega (arith, tenths_bound 19 (n / 10))

-- ---- the digits from the highest down

pub digits-front : (k n : ℕ) → digits (suc k) n ≡ (48 + n / 10 ^ k % 10) ∷ digits k n
unfolding digits
digits-front zero n = rw (pow-zero 10, div-one n)
digits-front (suc k) n =
    let e : n / 10 / 10 ^ k ≡ n / 10 ^ suc k = div-div-eq-div-mul n 10 (10 ^ k) ∙ ap (λ m. n / m) (sym (pow-succ' 10 k)) in
    ap (λ l. l ++ ((48 + n % 10) ∷ [])) (digits-front k (n / 10)) ∙ rw e

-- A byte stored right in front of a run makes the run one longer.
set_sets : (vs l : List ℕ) (i j v : ℕ) → j < i → set (sets l i vs) j v ≡ sets (set l j v) i vs
set_sets [] l i j v h = refl
set_sets (x ∷ vs) l i j v h =
    set_sets vs (set l i x) (suc i) j v (omega arith)
    ∙ ap (λ m. sets m (suc i) vs) (set_comm l i j x v (λ (e : i ≡ j). omega arith))

pub splice_front : (l : List ℕ) (i v : ℕ) (vs : List ℕ) → set (splice l (suc i) vs) i v ≡ splice l i (v ∷ vs)
unfolding splice
splice_front l i v vs = set_sets vs l (suc i) i v (omega arith)

-- ---- what is printed is the number

-- The number whose digits are those of n followed by these.
unfoldable pub read_on : ℕ → List ℕ → ℕ
read_on n [] = n
read_on n (c ∷ cs) = read_on (n * 10 + (c - 48)) cs

read_last : (cs : List ℕ) (n c : ℕ) → read_on n (cs ++ (c ∷ [])) ≡ read_on n cs * 10 + (c - 48)
unfolding read_on
read_last [] n c = refl
read_last (x ∷ cs) n c = read_last cs (n * 10 + (x - 48)) c

read_digits : (k n : ℕ) → n < 10 ^ k → read_on 0 (digits k n) ≡ n
unfolding digits read_on
read_digits zero n h = omega (arith, pow-zero 10)
read_digits (suc k) n h =
    read_last (digits k (n / 10)) 0 (48 + n % 10)
    ∙ omega (arith, read_digits k (n / 10) (omega (arith, pow-suc 10 k)))

tenths_hold : (most n : ℕ) → n < 10 ^ most → n < 10 ^ tenths most n
unfolding tenths
tenths_hold zero n h = h
tenths_hold (suc most) n h =
    ⊎_elim (λ (e : n ≡ 0). rw e (omega (arith, pow-zero 10)))
    (λ (l : 0 < n).
    rw (ne_eqb n 0 (omega arith))
    (omega (arith, pow-suc 10 (tenths most (n / 10)), tenths_hold most (n / 10) (omega (arith, pow-suc 10 most)))))
    (eq-zero-or-pos n)

-- The text of a number reads back as the number.
pub decimal_back : (n : ℕ) → n < 10 ^ 20 → read_on 0 (decimal n) ≡ n
unfolding decimal
decimal_back n h =
    read_digits (places n) n
    (omega (arith, pow-suc 10 (tenths 19 (n / 10)), tenths_hold 19 (n / 10) (omega (arith, pow-suc 10 19))))

-- ---- signed figures

pub signed_below : (z : ℤ) → lt_z z (pos 0) ≡ true → signed_text z ≡ 45 ∷ decimal (size z)
unfolding signed_text
signed_below (pos n) e = absurd (omega (arith, ltb-true n 0 e))
signed_below (negsuc n) e = refl

pub signed_above : (z : ℤ) → lt_z z (pos 0) ≡ false → signed_text z ≡ decimal (size z)
unfolding signed_text
signed_above (pos n) e = refl
signed_above (negsuc n) e = never_true (45 ∷ decimal (suc n) ≡ decimal (suc n)) (sym e)
