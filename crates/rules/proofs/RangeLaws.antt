-- Laws of ranges: limits, errors and told sums of a sound disk.
use Prim.Native.Nat.{ℕ, ◌≤◌}
use mathlib.Core.Bool.{true}
use mathlib.Core.Path.{◌≡◌, ap}
use native.Mathlib.Omega.{arith}
use lib.IntN.{ℤ, pos, negsuc}
use Rattle.num.specs.Metric.{size}
use Rattle.law.specs.declared.Claim.{Claim}
use Rattle.law.specs.Types.{most_value, most_error, Attribute, a0, a1, a2, Kind, sets, adds, reads, proper_kind, Figures, attr}
use Rattle.law.specs.Fields.{ValueFits, FieldsFit}
use Rattle.law.specs.Granting.{limit_by, told_by}
use Rattle.law.specs.Sound.{LimitFits}
use Rattle.law.proofs.AttributeLaws.{told_range}

pub limit_most : (a : Attribute) (n : ℕ) → LimitFits a n → n ≤ most_error
limit_most a0 n h = h
limit_most a1 n h = h
limit_most a2 n h = omega arith

pub error_most : (now : ℕ) (k : Kind) (c : Claim) → FieldsFit now k c → c.error ≤ most_error
error_most now (sets a) c h = h.3
error_most now (adds a) c h = h.3
error_most now (reads m) c h = h.2

-- The limit of a total is within n where all limits are.
pub limit_range : (f : Figures) (k : Kind) (own n : ℕ) → ((a : Attribute) → (attr f a).limit ≤ n) → own ≤ n → limit_by f k own ≤ n
limit_range f (sets a) own n h o = h a
limit_range f (adds a) own n h o = h a
limit_range f (reads m) own n h o = o

-- What a granted claim is told is in range.
pub told_most : (f : Figures) (k : Kind) → proper_kind k ≡ true → ((a : Attribute) → ValueFits a (attr f a).value) →
    size (told_by f k) ≤ most_error
told_most f (sets a) p h = omega arith
told_most f (adds a) p h = omega arith
told_most f (reads m) p h = told_range f m p h

-- A value in its range, and that of a claim whose fields are.
pub value_size : (a : Attribute) (z : ℤ) → ValueFits a z → size z ≤ most_value
value_size a0 z h = h
value_size a1 z h = h
value_size a2 (pos n) h = omega arith
value_size a2 (negsuc n) h = absurd h

pub fields_size : (now : ℕ) (k : Kind) (c : Claim) → FieldsFit now k c → size c.value ≤ most_value
fields_size now (sets a) c h = value_size a c.value h.0
fields_size now (adds a) c h = h.0
fields_size now (reads m) c h = omega (arith, ap size h.0)
