-- The three tests are those of `decodes`; where a count is 0, the range of its slots is tested, and where both are, one range.
use Rattle.std.proofs.Common.{arith}
use Rattle.std.proofs.Math.Bool.{and-true, and_assoc}
use Rattle.part.specs.Layout.{decodes}
use Rattle.part.proofs.WholeLaws.{no_claim_lem, no_claims}
use Rattle.part.proofs.whole.decodes.Goals as goal

pub returns-then-actives-eq0 : goal.returns-then-actives-eq0
unfolding decodes
returns-then-actives-eq0 c = grind (arith, no_claims c.args.s.now, and-true)

pub returns-then-waitings-eq0 : goal.returns-then-waitings-eq0
unfolding decodes
returns-then-waitings-eq0 c = grind (arith, no_claim_lem c.args.s.now 416 768, and-true, and_assoc)

pub returns : goal.returns
unfolding decodes
returns c = grind (arith, and-true, and_assoc)
