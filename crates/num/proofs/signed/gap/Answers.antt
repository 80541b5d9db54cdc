-- Two 32-bit figures differ by less than 2 ^ 32, and the size of their difference is their distance.
use Rattle.std.proofs.Common.{arith, ◌≤◌, ◌-ℤ◌}
use mir.Facts.{to_z-of_z}
use mir.Syntax.{w64}
use mir.Val.{SFits}
use Rattle.num.specs.Fits.{wide_read, size_fits, dist_most}
use Rattle.num.specs.Metric.{size, dist}
use Rattle.num.proofs.signed.gap.Goals as goal

pub returns-clause-value : goal.returns-clause-value
unfolding dist
returns-clause-value c =
    let small : size (c.args.a -ℤ c.args.b) ≤ 4294967295 = dist_most c.args.a c.args.b c.ranges.a c.ranges.b in
    let fits : SFits w64 (c.args.a -ℤ c.args.b) = size_fits w64 _ (omega (arith, small)) in
    rw (wide_read c.ranges.a, wide_read c.ranges.b, to_z-of_z fits) at c.wide_size.ensures
