-- Laws of sums over a mask: each attribute in the mask counts with its own term.
use Rattle.std.specs.Prelude.{ℕ, ◌+◌, ◌≤◌, Bool, true, false, cond, ◌≡◌, refl, ℤ, pos, ◌+ℤ◌}
use Rattle.std.proofs.Common.{arith}
use Rattle.num.specs.Metric.{dist, dist_self, dist_sums}
use Rattle.law.specs.Types.{Attribute, a0, a1, a2, same, within}
use Rattle.law.specs.Readings.{sum_read, told_read}

pub cond_add : (b : Bool) (x y : ℕ) → cond b (x + y) 0 ≡ cond b x 0 + cond b y 0
cond_add true x y = refl
cond_add false x y = refl

cond_zero : (b : Bool) → cond {A = ℕ} b 0 0 ≡ 0
cond_zero true = refl
cond_zero false = refl

pub sum_two : (m : ℕ) (f g : Attribute → ℕ) → sum_read m (λ a. f a + g a) ≡ sum_read m f + sum_read m g
sum_two m f g =
    omega (
      arith,
      cond_add (within m a0) (f a0) (g a0),
      cond_add (within m a1) (f a1) (g a1),
      cond_add (within m a2) (f a2) (g a2),
    )

-- A term of one attribute counts exactly if the attribute is in the mask.
pub sum_one : (m : ℕ) (b : Attribute) (x : ℕ) → sum_read m (λ a. cond (same a b) x 0) ≡ cond (within m b) x 0
sum_one m a0 x = omega (arith, cond_zero (within m a1), cond_zero (within m a2))
sum_one m a1 x = omega (arith, cond_zero (within m a0), cond_zero (within m a2))
sum_one m a2 x = omega (arith, cond_zero (within m a0), cond_zero (within m a1))

pub sum_none : (m : ℕ) → sum_read m (λ a. 0) ≡ 0
sum_none m = omega (arith, cond_zero (within m a0), cond_zero (within m a1), cond_zero (within m a2))

-- If the values of each attribute read differ by at most its share, the told sums differ by at most the sum of the shares.
dist_part : (b : Bool) (y z : ℤ) (n : ℕ) → (b ≡ true → dist y z ≤ n) → dist (cond b y (pos 0)) (cond b z (pos 0)) ≤ cond b n 0
dist_part true y z n h = h refl
dist_part false y z n h = omega (arith, dist_self (pos 0))

pub dist_read : (m : ℕ) (y z : Attribute → ℤ) (share : Attribute → ℕ) →
    ((a : Attribute) → within m a ≡ true → dist (y a) (z a) ≤ share a) → dist (told_read m y) (told_read m z) ≤ sum_read m share
dist_read m y z share h =
    omega (
      arith,
      dist_part (within m a0) (y a0) (z a0) (share a0) (h a0),
      dist_part (within m a1) (y a1) (z a1) (share a1) (h a1),
      dist_part (within m a2) (y a2) (z a2) (share a2) (h a2),
      dist_sums (part a0 y) (part a0 z) (part a1 y) (part a1 z),
      dist_sums (part a0 y +ℤ part a1 y) (part a0 z +ℤ part a1 z) (part a2 y) (part a2 z),
    )
  where
    part : Attribute → (Attribute → ℤ) → ℤ
    part a u = cond (within m a) (u a) (pos 0)
