use Rattle.std.proofs.Common.{◌≡◌, nat_eq}
use Rattle.part.specs.Layout.{spare_zero}
use Rattle.part.proofs.whole.spare_zero.Given as goal

abbrev pub invariant-loop-i : goal.invariant-loop-i
invariant-loop-i l = nat_eq l.all 0 ≡ spare_zero l.s l.at l.i
