use Rattle.std.proofs.Common.{◌≡◌, take}
use Rattle.num.specs.Runs.{flat, splice}
use Rattle.part.proofs.write.put_words.Given as goal

abbrev pub invariant-loop-j : goal.invariant-loop-j
invariant-loop-j l = l.s ≡ splice l.initial.s l.at (flat (take l.j l.words))
