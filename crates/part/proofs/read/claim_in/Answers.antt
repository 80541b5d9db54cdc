-- Each figure read is that of `claim_in`.
use Rattle.std.proofs.Common.{rules}
use Rattle.part.specs.Layout.{claim_in}
use Rattle.part.proofs.read.claim_in.Goals as goal

pub returns : goal.returns
unfolding claim_in
returns c = search rules
