-- Any number other than 0 to 8 is above 8.
use Rattle.std.proofs.Common.{arith}
use Rattle.part.proofs.WholeLaws.{too_many}
use Rattle.part.proofs.whole.slots_whole.Goals as goal

pub returns-in_default : goal.returns-in_default
returns-in_default c = grind (arith, too_many)
