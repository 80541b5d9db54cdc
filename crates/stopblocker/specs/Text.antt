-- Numbers as text: decimal digits, with a minus before a negative figure.
use Rattle.std.specs.Prelude.{ℕ, zero, suc, ◌+◌, ◌/◌, ◌%◌, cond, List, [], ◌∷◌, ◌++◌, eqb, ℤ, pos, negsuc}

-- The last k digits of a number, the highest first.
unfoldable pub digits : ℕ → ℕ → List ℕ
digits zero n = []
digits (suc k) n = digits k (n / 10) ++ ((48 + n % 10) ∷ [])

-- How often n can be divided by 10 before it is 0, but at most `most` times.
unfoldable pub tenths : ℕ → ℕ → ℕ
tenths zero n = 0
tenths (suc most) n = cond (eqb n 0) 0 (suc (tenths most (n / 10)))

-- How many digits a number below 10 ^ 20 has: at least one.
abbrev pub places : ℕ → ℕ
places n = suc (tenths 19 (n / 10))

unfoldable pub decimal : ℕ → List ℕ
decimal n = digits (places n) n

-- 45 is a minus.
unfoldable pub signed_text : ℤ → List ℕ
signed_text (pos n) = decimal n
signed_text (negsuc n) = 45 ∷ decimal (suc n)
