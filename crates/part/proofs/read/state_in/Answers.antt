-- Each figure read is that of `state_in`.
use Rattle.std.proofs.Common.{rules}
use Rattle.part.specs.Layout.{state_in}
use Rattle.part.proofs.read.state_in.Goals as goal

pub returns : goal.returns
unfolding state_in
returns c = search rules
