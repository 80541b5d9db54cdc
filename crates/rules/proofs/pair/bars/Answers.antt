-- The three tests in turn.
use Rattle.std.proofs.Common.{arith}
use Rattle.std.proofs.lemmas.Grind.{common_steps}
use borrow.Author.Tests.{le-leb}
use Rattle.rules.specs.Pairs.{bars_by}
use Rattle.rules.proofs.pair.bars.Goals as goal
use Rattle.rules.proofs.pair.bars.Goals.{then-priority-w, else-priority-w}

pub returns-then-ne : goal.returns-then-ne
unfolding bars_by
returns-then-ne c =
    elim c.if-priority-w.branch [
      | then-priority-w w ↦ grind (arith, common_steps)
      | else-priority-w w ↦ grind (arith, common_steps)
    ]

pub returns-else-ne : goal.returns-else-ne
unfolding bars_by
returns-else-ne c =
    elim c.if-priority-w.branch [
      | then-priority-w w ↦ grind (arith, common_steps, le-leb)
      | else-priority-w w ↦ grind (arith, common_steps)
    ]
