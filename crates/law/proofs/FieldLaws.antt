-- Laws of refusals 17 and 18: each test of a claim's fields decides its proposition in Fields.
use Rattle.std.specs.Prelude.{ℕ, not, ◌≡◌, leb, eqb, ℤ, pos, negsuc}
use Rattle.std.proofs.Common.{ap, arith, eqb-true, eq-eqb}
use Rattle.num.specs.Metric.{size}
use Rattle.law.specs.declared.Claim.{Claim}
use Rattle.law.specs.Base.{all_true}
use Rattle.law.specs.Types.{most_value, most_error, most_state, Attribute, a0, a1, a2, Kind, sets, adds, reads, Figures, attr}
use Rattle.law.specs.Calls.{value_fits, field_tests, own_fits}
use Rattle.law.specs.Fields.{ValueFits, FieldsFit, OwnFits, OwnExceeds}
use Rattle.law.specs.Says.{Says, says_true, says_false, says_le, says_eq, says_over, says_three, says_four}

zero_size : (z : ℤ) → size z ≡ 0 → z ≡ pos 0
zero_size (pos n) e = ap pos e
zero_size (negsuc n) e = absurd (omega arith)

pub says_zero : (z : ℤ) → Says (eqb (size z) 0) (z ≡ pos 0)
says_zero z = (λ e. zero_size z (eqb-true (size z) 0 e), λ e. eq-eqb (size z) 0 (ap size e))

pub says_value : (a : Attribute) (z : ℤ) → Says (value_fits a z) (ValueFits a z)
says_value a0 z = says_le (size z) most_value
says_value a1 z = says_le (size z) most_value
says_value a2 (pos n) = says_le n most_state
says_value a2 (negsuc n) = says_false

-- 17.
pub says_fields : (now : ℕ) (k : Kind) (c : Claim) → Says (all_true (field_tests now k c)) (FieldsFit now k c)
says_fields now (sets a) c =
    says_four (value_fits a c.value) (eqb c.flag 0) (leb c.measured now) (leb c.error most_error)
    (says_value a c.value) (says_eq c.flag 0) (says_le c.measured now) (says_le c.error most_error)
says_fields now (adds a) c =
    says_four (leb (size c.value) most_value) (eqb c.flag 0) (leb c.measured now) (leb c.error most_error)
    (says_le (size c.value) most_value) (says_eq c.flag 0) (says_le c.measured now) (says_le c.error most_error)
says_fields now (reads m) c =
    says_three (eqb (size c.value) 0) (eqb c.measured 0) (leb c.error most_error)
    (says_zero c.value) (says_eq c.measured 0) (says_le c.error most_error)

-- 18.
pub says_own : (f : Figures) (k : Kind) (own : ℕ) → Says (own_fits f k own) (OwnFits f k own)
says_own f (sets a) own = says_le own (attr f a).limit
says_own f (adds a) own = says_le own (attr f a).limit
says_own f (reads m) stated = says_true

pub says_exceeds : (f : Figures) (k : Kind) (own : ℕ) → Says (not (own_fits f k own)) (OwnExceeds f k own)
says_exceeds f (sets a) own = says_over own (attr f a).limit
says_exceeds f (adds a) own = says_over own (attr f a).limit
says_exceeds f (reads m) stated = says_false
