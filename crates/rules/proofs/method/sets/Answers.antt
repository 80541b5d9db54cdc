-- One of the masks.
use Rattle.std.proofs.Common.{ap}
use Rattle.rules.specs.declared.method.Masks.{Masks}
use Rattle.rules.specs.Masks.{masks_by, masks_of}
use Rattle.rules.proofs.method.sets.Goals as goal

pub returns : goal.returns
unfolding masks_by masks_of
returns c = ap (λ (k : Masks). k.sets) c.masks_of.ensures
