-- What a reading gets: sums over a mask, the told sum, and the error that the figures carry.
use Rattle.std.specs.Prelude.{ℕ, ◌+◌, Bool, true, cond, [], ◌∷◌, ℤ, pos, ◌+ℤ◌}
use Rattle.law.specs.Base.{all_true}
use Rattle.law.specs.Types.{Attribute, a0, a1, a2, within, Figures, attr}

-- The sum of f over the attributes in the mask.
abbrev pub sum_read : ℕ → (Attribute → ℕ) → ℕ
sum_read m f = cond (within m a0) (f a0) 0 + cond (within m a1) (f a1) 0 + cond (within m a2) (f a2) 0

-- The same for signed numbers.
abbrev pub told_read : ℕ → (Attribute → ℤ) → ℤ
told_read m f = cond (within m a0) (f a0) (pos 0) +ℤ cond (within m a1) (f a1) (pos 0) +ℤ cond (within m a2) (f a2) (pos 0)

-- The test p passes for every attribute in the mask.
abbrev pub every_read : ℕ → (Attribute → Bool) → Bool
every_read m p = all_true (cond (within m a0) (p a0) true ∷ cond (within m a1) (p a1) true ∷ cond (within m a2) (p a2) true ∷ [])

-- A reading is told the sum of the values that it reads.
abbrev pub present : Figures → ℕ → ℤ
present f m = told_read m (λ a. (attr f a).value)

-- The sum of the amounts read: the error that the figures already carry.
abbrev pub carried : Figures → ℕ → ℕ
carried f m = sum_read m (λ a. (attr f a).amount)
