-- One word of the method's masks, held against those of the claims.
use Rattle.rules.specs.Totals.{keep_out}
use Rattle.rules.proofs.totals.Totals.keep_out.Goals as goal

pub returns : goal.returns
unfolding keep_out
returns c = rw c.masks_of.ensures
