-- The figures at their places in the head.
use Rattle.std.proofs.Common.{rules}
use Rattle.part.specs.Layout.{decode}
use Rattle.part.proofs.read.figures_at.Goals as goal

pub returns : goal.returns
unfolding decode
returns c = search rules
