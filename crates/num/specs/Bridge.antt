-- Laws of the integers, for `omega`, which reads naturals only. An integer z is `up z` − `down z`, and one of the two is 0.
-- Each operation has one equation over these two; a proof hands `omega` the equations of its terms.
use Rattle.std.specs.Prelude.{ℕ, zero, suc, ◌+◌, ◌-◌, ◌≤◌, Bool, true, false, cond, ◌≡◌, refl, ltb, ℤ, pos, negsuc, neg_ℤ, nat_abs, ◌+ℤ◌, ◌-ℤ◌}
use Rattle.std.proofs.Common.{ap, arith, ltb-true, ltb-false}
use Rattle.std.specs.Int.Signed.{mag}

-- How far an integer is above 0.
unfoldable pub up : ℤ → ℕ
up (pos n) = n
up (negsuc n) = 0

-- How far an integer is below 0.
unfoldable pub down : ℤ → ℕ
down (pos n) = 0
down (negsuc n) = suc n

pub up_pos : (n : ℕ) → up (pos n) ≡ n
unfolding up
up_pos n = refl

pub down_pos : (n : ℕ) → down (pos n) ≡ 0
unfolding down
down_pos n = refl

pub abs_is : (z : ℤ) → nat_abs z ≡ (up z - down z) + (down z - up z)
unfolding up down
abs_is (pos n) = omega arith
abs_is (negsuc n) = omega arith

pub up_mag : (z : ℤ) → up z ≤ mag z
unfolding up
up_mag (pos n) = omega arith
up_mag (negsuc n) = omega arith

pub down_mag : (z : ℤ) → down z ≤ suc (mag z)
unfolding down
down_mag (pos n) = omega arith
down_mag (negsuc n) = omega arith

-- Two integers with equal `up` − `down` are equal.
pub same : (a b : ℤ) → up a + down b ≡ up b + down a → a ≡ b
unfolding up down
same (pos m) (pos n) e = ap pos (omega arith)
same (pos m) (negsuc n) e = absurd (omega arith)
same (negsuc m) (pos n) e = absurd (omega arith)
same (negsuc m) (negsuc n) e = ap negsuc (omega arith)

-- The difference a − b of two naturals, by the test a < b.
less_is : (t : Bool) (a b : ℕ) → ltb a b ≡ t →
    up (cond t (negsuc (b - suc a)) (pos (a - b))) + b ≡ down (cond t (negsuc (b - suc a)) (pos (a - b))) + a
unfolding up down
less_is true a b e = omega (arith, ltb-true a b e)
less_is false a b e = omega (arith, ltb-false a b e)

pub add_is : (a b : ℤ) → up (a +ℤ b) + (down a + down b) ≡ down (a +ℤ b) + (up a + up b)
unfolding up down
add_is (pos m) (pos n) = omega arith
add_is (pos m) (negsuc n) = omega (arith, less_is (ltb m (suc n)) m (suc n) refl)
add_is (negsuc m) (pos n) = omega (arith, less_is (ltb n (suc m)) n (suc m) refl)
add_is (negsuc m) (negsuc n) = omega arith

up_neg : (z : ℤ) → up (neg_ℤ z) ≡ down z
unfolding up down
up_neg (pos zero) = refl
up_neg (pos (suc n)) = refl
up_neg (negsuc n) = refl

down_neg : (z : ℤ) → down (neg_ℤ z) ≡ up z
unfolding up down
down_neg (pos zero) = refl
down_neg (pos (suc n)) = refl
down_neg (negsuc n) = refl

pub sub_is : (a b : ℤ) → up (a -ℤ b) + (down a + up b) ≡ down (a -ℤ b) + (up a + down b)
sub_is a b = omega (arith, add_is a (neg_ℤ b), up_neg b, down_neg b)
