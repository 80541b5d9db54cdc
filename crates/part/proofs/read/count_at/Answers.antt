-- The word that `decode` has there.
use Rattle.std.proofs.Common.{arith}
use Rattle.part.specs.Layout.{decode}
use Rattle.part.proofs.read.count_at.Goals as goal

pub returns : goal.returns
unfolding decode
returns c = grind arith
