-- What is left, behind the text so far, is all of it.
use Rattle.stopblocker.proofs.ItemLaws.{Going}
use Rattle.stopblocker.proofs.lines.put_lines.Given as goal

abbrev pub invariant-loop-k : goal.invariant-loop-k
invariant-loop-k l = Going l.fn.to.bytes l.number l.disk l.answer l.to.bytes l.k
