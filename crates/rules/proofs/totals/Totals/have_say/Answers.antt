-- One word of the method's masks, held against those of the claims.
use Rattle.rules.specs.Totals.{have_say}
use Rattle.rules.proofs.totals.Totals.have_say.Goals as goal

pub returns : goal.returns
unfolding have_say
returns c = rw c.masks_of.ensures
