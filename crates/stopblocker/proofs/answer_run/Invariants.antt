-- What is left, answered from where the loop stands, is all of it answered from the start.
use Rattle.std.proofs.Common.{◌-◌, length}
use Rattle.stopblocker.proofs.GoingLaws.{Going}
use Rattle.stopblocker.proofs.answer_run.Given as goal

abbrev pub invariant-loop-to : goal.invariant-loop-to
invariant-loop-to l = Going l.fn.board l.run l.from l.last l.board l.lines.bytes l.number l.at

abbrev pub decreases-loop-to : goal.decreases-loop-to
decreases-loop-to l = length l.run - l.at
