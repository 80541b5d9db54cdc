-- What std prints of a number is its decimal text.
use Rattle.std.proofs.Common.{ℕ, zero, suc, ◌+◌, ◌/◌, ◌%◌, ◌^◌, ◌≤◌, ◌<◌, List, [], ◌∷◌, ◌++◌, ◌≡◌, refl, ℤ, pos, negsuc, ap, arith}
use Rattle.std.specs.Fmt as std
use Rattle.std.proofs.lemmas.Fmt.{decimal_from_appends, length-decimal-le}
use lib.Signed.{mag}
use Rattle.stopblocker.specs.Text.{digits, tenths, decimal, signed_text}
use Rattle.stopblocker.specs.TextLaws.{tenths_none, tenths_more}

-- The digits of a number that has at most k.
unfoldable digits_by : ℕ → ℕ → List ℕ
digits_by zero n = []
digits_by (suc k) n = digits (suc (tenths k (n / 10))) n

one_digit : (k n : ℕ) → n < 10 → digits_by (suc k) n ≡ (48 + n) ∷ []
unfolding digits_by digits
one_digit k n h =
    let none : n / 10 ≡ 0 = omega arith in
    let last : n % 10 ≡ n = omega arith in
    rw (none, tenths_none k, last)

more_digits : (k n : ℕ) → 10 ≤ n → digits_by (suc k) n ≡ digits_by k (n / 10) ++ ((48 + n % 10) ∷ [])
unfolding digits_by digits tenths
more_digits zero n h = refl
more_digits (suc k) n h = rw (tenths_more k (n / 10) (omega arith))

pub decimal_same : (n : ℕ) → n < 2 ^ 64 → decimal n ≡ std.decimal n
unfolding digits_by decimal
decimal_same n h =
    decimal_from_appends digits_by (record { one = one_digit; more = more_digits }) 20 n h
    (length-decimal-le 20 n (omega arith) (omega arith) h)

pub signed_same : (z : ℤ) → mag z < 2 ^ 63 → signed_text z ≡ std.signed_decimal z
unfolding signed_text
signed_same (pos n) h = decimal_same n (omega arith)
signed_same (negsuc n) h = ap (λ l. 45 ∷ l) (decimal_same (suc n) (omega arith))
