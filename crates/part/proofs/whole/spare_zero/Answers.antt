-- The spare words of the slots looked at so far, joined, are zero if `spare_zero` says so.
use Rattle.std.proofs.Common.{refl, arith, add-one}
use Rattle.part.specs.ByteLaws.{or_none, zero_two}
use Rattle.part.specs.Layout.{spare_zero}
use Rattle.part.proofs.whole.spare_zero.Goals as goal

pub loop-i-init : goal.loop-i-init
unfolding spare_zero
loop-i-init c = refl

pub loop-i-preserved : goal.loop-i-preserved
unfolding spare_zero
loop-i-preserved c = rw (add-one c.loop-i.i) (grind (arith, or_none, zero_two))
