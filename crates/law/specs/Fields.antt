-- What refusals 17 and 18 ask of a claim's fields, as propositions in 01's numbers.
use Rattle.std.specs.Prelude.{ℕ, ◌≤◌, ◌<◌, ◌≡◌, ℤ, pos, negsuc}
use Rattle.num.specs.Metric.{size}
use Rattle.law.specs.declared.Claim.{Claim}
use Rattle.law.specs.Types.{Attribute, a0, a1, a2, Kind, sets, adds, reads, Figures, attr}

-- A state is a code from 0 to 255.
abbrev pub IsCode : ℤ → Type 0
IsCode (pos n) = n ≤ 255
IsCode (negsuc n) = ⊥

-- A value of the attribute is in its range.
abbrev pub ValueFits : Attribute → ℤ → Type 0
ValueFits a0 z = size z ≤ 1_000_000_000
ValueFits a1 z = size z ≤ 1_000_000_000
ValueFits a2 z = IsCode z

-- 17: all fields in range at second now. A write has no fresh flag and isn't measured after
-- now; a reading has value and second of measuring 0.
abbrev pub FieldsFit : ℕ → Kind → Claim → Type 0
FieldsFit now (sets a) c = ValueFits a c.value × (c.flag ≡ 0) × (c.measured ≤ now) × (c.error ≤ 2_000_000_000)
FieldsFit now (adds a) c = (size c.value ≤ 1_000_000_000) × (c.flag ≡ 0) × (c.measured ≤ now) × (c.error ≤ 2_000_000_000)
FieldsFit now (reads m) c = (c.value ≡ pos 0) × (c.measured ≡ 0) × (c.error ≤ 2_000_000_000)

-- 18: a write's own error is within its attribute's limit; below, that it exceeds it.
abbrev pub OwnFits : Figures → Kind → ℕ → Type 0
OwnFits f (sets a) own = own ≤ (attr f a).limit
OwnFits f (adds a) own = own ≤ (attr f a).limit
OwnFits f (reads m) stated = Unit {0}

abbrev pub OwnExceeds : Figures → Kind → ℕ → Type 0
OwnExceeds f (sets a) own = (attr f a).limit < own
OwnExceeds f (adds a) own = (attr f a).limit < own
OwnExceeds f (reads m) stated = ⊥
