-- Each figure is joined with that of the claim.
use Rattle.rules.specs.Totals.{with_claim}
use Rattle.rules.proofs.totals.Totals.with_claim.Goals as goal

pub returns : goal.returns
unfolding with_claim
returns c = rw (c.masks_of.ensures, c.add_part.ensures.value)
