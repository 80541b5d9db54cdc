-- Laws of the ranges: which figures a signed number of 32 or 64 bits holds, and what follows from a test of the sign.
use Rattle.std.specs.Prelude.{◌^◌, ◌≤◌, ◌<◌, true, false, ◌≡◌, T, ℤ, pos, negsuc, ◌-ℤ◌}
use Rattle.std.proofs.Common.{subst, ◌∙◌, arith, ltb-true, to_z-of_z}
use Rattle.std.specs.Int.Signed.{lt_z, non_neg, nat_abs-le}
use Rattle.std.specs.Int.{Width, w32, w64}
use mir.Val.{SFits, hbits, to_z, of_z}
use Rattle.std.proofs.Math.Facts.{sfits_widen}
use Rattle.num.specs.Bridge.{abs_is, sub_is, up_pos, down_pos, up_mag, down_mag}
use Rattle.num.specs.Metric.{size, dist, dist_is}

-- A figure fits if its size is below 2 ^ hbits.
pub size_fits : (w : Width) (z : ℤ) → size z < 2 ^ hbits w → SFits w z
size_fits w (pos n) h = record { sfits = h }
size_fits w (negsuc n) h = record { sfits = omega arith }

-- A 32-bit figure fits 64 bits, and is still the same figure there.
pub wide_fits : {z : ℤ} → SFits w32 z → SFits w64 (to_z w32 (of_z w32 z))
wide_fits f = rw (to_z-of_z f) (sfits_widen tt f)

pub wide_read : {z : ℤ} → SFits w32 z → to_z w64 (of_z w64 (to_z w32 (of_z w32 z))) ≡ z
wide_read f = to_z-of_z (wide_fits f) ∙ to_z-of_z f

-- The size of a 32-bit figure is at most 2147483648.
pub size_most : (z : ℤ) → SFits w32 z → size z ≤ 2147483648
size_most z f = nat_abs-le z f.sfits

-- The distance of two 32-bit figures is at most 4294967295.
pub dist_most : (a b : ℤ) → SFits w32 a → SFits w32 b → dist a b ≤ 4294967295
dist_most a b f g =
    omega (arith, dist_is a b, up_mag a, down_mag a, up_mag b, down_mag b, f.sfits, g.sfits)

pub size_negated : (z : ℤ) → size (pos 0 -ℤ z) ≡ size z
size_negated z = omega (arith, abs_is (pos 0 -ℤ z), sub_is (pos 0) z, up_pos 0, down_pos 0, abs_is z)

-- If the test z < 0 fails, z is not negative; if it passes, −z is not negative.
pub not_below_zero : (z : ℤ) → lt_z z (pos 0) ≡ false → T (non_neg z)
not_below_zero (pos n) e = tt
not_below_zero (negsuc n) e = subst T e tt

pub below_zero : (z : ℤ) → lt_z z (pos 0) ≡ true → T (non_neg (pos 0 -ℤ z))
below_zero (pos n) e = absurd (omega (arith, ltb-true n 0 e))
below_zero (negsuc n) e = tt
