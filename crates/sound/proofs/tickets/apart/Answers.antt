-- Two claims with the same ticket: the inner walk fails, and so does the outer one.
use Rattle.std.proofs.Common.{arith}
use Rattle.std.proofs.lemmas.Grind.{common_steps}
use Rattle.sound.proofs.DiskLaws.{some_claims}
use Rattle.sound.proofs.tickets.apart.Goals as goal

pub returns-then-x-claim_on : goal.returns-then-x-claim_on
returns-then-x-claim_on c = grind (arith, common_steps, some_claims c.requires)
