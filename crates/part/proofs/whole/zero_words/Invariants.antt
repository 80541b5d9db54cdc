use Rattle.std.proofs.Common.{◌≡◌, ◌*◌, nat_eq}
use Rattle.part.specs.Layout.{zero_at}
use Rattle.part.proofs.whole.zero_words.Given as goal

abbrev pub invariant-loop-i : goal.invariant-loop-i
invariant-loop-i l = nat_eq l.all 0 ≡ zero_at l.s l.at (4 * l.i)
