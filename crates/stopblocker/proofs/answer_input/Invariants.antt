-- Every turn but the last reads bytes, of which only so many are counted; a record has at least one, so the number fits.
use Rattle.std.proofs.Common.{◌+◌, ◌-◌, ◌≤◌}
use Rattle.stopblocker.proofs.answer_input.Given as goal

abbrev pub invariant-loop-taken : goal.invariant-loop-taken
invariant-loop-taken g l = l.number + l.run.have ≤ l.taken

abbrev pub decreases-loop-taken : goal.decreases-loop-taken
decreases-loop-taken g l = 18_446_744_073_709_545_471 - l.taken
