-- Each figure read is that of `attr_at`.
use Rattle.std.proofs.Common.{rules}
use Rattle.part.specs.Layout.{attr_at}
use Rattle.part.proofs.read.attr_at.Goals as goal

pub returns : goal.returns
unfolding attr_at
returns c = search rules
