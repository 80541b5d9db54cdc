-- The range behind n claims, up to the end of the slots.
use Rattle.std.proofs.Common.{arith}
use Rattle.part.proofs.WholeLaws.{n_claims}
use Rattle.part.proofs.whole.claims_then_zero.Goals as goal

pub returns : goal.returns
returns c = grind (arith, n_claims)
