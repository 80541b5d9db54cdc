-- The metric: the size of a figure and the distance of two figures, with its laws.
use Rattle.std.specs.Prelude.{ℕ, ◌+◌, ◌-◌, ◌≤◌, ◌≡◌, refl, ℤ, pos, nat_abs, ◌+ℤ◌, ◌-ℤ◌}
use Rattle.std.proofs.Common.{arith}
use Rattle.num.specs.Bridge.{abs_is, add_is, sub_is, same, up, down}

-- The size of a figure: its absolute value.
abbrev pub size : ℤ → ℕ
size z = nat_abs z

-- The distance of two figures.
unfoldable pub dist : ℤ → ℤ → ℕ
dist a b = nat_abs (a -ℤ b)

-- The distance in terms of `up` and `down` (Bridge), for `omega`.
pub dist_is : (a b : ℤ) → dist a b ≡ ((up a + down b) - (up b + down a)) + ((up b + down a) - (up a + down b))
unfolding dist
dist_is a b = omega (arith, abs_is (a -ℤ b), sub_is a b)

pub dist_sym : (a b : ℤ) → dist a b ≡ dist b a
dist_sym a b = omega (arith, dist_is a b, dist_is b a)

pub dist_self : (a : ℤ) → dist a a ≡ 0
dist_self a = omega (arith, dist_is a a)

pub dist_zero : (a b : ℤ) → dist a b ≡ 0 → a ≡ b
dist_zero a b e = same a b (omega (arith, dist_is a b))

pub dist_triangle : (a b c : ℤ) → dist a c ≤ dist a b + dist b c
dist_triangle a b c = omega (arith, dist_is a b, dist_is b c, dist_is a c)

-- Adding d moves a figure by the size of d.
pub dist_add : (v d : ℤ) → dist v (v +ℤ d) ≡ size d
dist_add v d = omega (arith, dist_is v (v +ℤ d), add_is v d, abs_is d)

-- The distance of two sums is at most the sum of the distances of their summands.
pub dist_sums : (a b c d : ℤ) → dist (a +ℤ c) (b +ℤ d) ≤ dist a b + dist c d
dist_sums a b c d = omega (arith, dist_is (a +ℤ c) (b +ℤ d), add_is a c, add_is b d, dist_is a b, dist_is c d)

pub dist_bound : (a b : ℤ) → dist a b ≤ size a + size b
dist_bound a b = omega (arith, dist_is a b, abs_is a, abs_is b)

pub size_add : (a b : ℤ) → size (a +ℤ b) ≤ size a + size b
size_add a b = omega (arith, abs_is (a +ℤ b), add_is a b, abs_is a, abs_is b)

pub size_zero : size (pos 0) ≡ 0
size_zero = refl

-- The size of b is at most the size of a plus their distance.
pub size_far : (a b : ℤ) → size b ≤ size a + dist a b
size_far a b = omega (arith, dist_is a b, abs_is a, abs_is b)
