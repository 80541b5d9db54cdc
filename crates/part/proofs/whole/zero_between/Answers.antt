-- What is joined so far and what is left are zero if the whole range is.
use Rattle.std.proofs.Common.{arith}
use Rattle.part.specs.ByteLaws.{zero_more, zero_end}
use Rattle.part.proofs.whole.zero_between.Goals as goal

pub loop-i-preserved : goal.loop-i-preserved
loop-i-preserved c = grind (arith, zero_more)

pub returns : goal.returns
returns c = grind (arith, zero_end)
