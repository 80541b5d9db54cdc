-- What it sets and what it adds to.
use Rattle.std.proofs.Common.{◌∙◌, bit_or}
use Rattle.rules.proofs.MethodLaws.{write_is}
use Rattle.rules.proofs.method.writes.Goals as goal

pub returns : goal.returns
returns c = (λ i. bit_or (c.sets.ensures i) (c.adds.ensures i)) ∙ write_is _
