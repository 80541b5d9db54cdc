use Rattle.std.proofs.Common.{◌≡◌, take}
use Rattle.num.specs.Runs.{splice}
use Rattle.part.specs.Layout.{in_slots}
use Rattle.part.proofs.write.put_claims.Given as goal

abbrev pub invariant-loop-i : goal.invariant-loop-i
invariant-loop-i l = l.s ≡ splice l.initial.s l.at (in_slots (take l.i l.cs))
