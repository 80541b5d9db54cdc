-- The numbers below 7 are those of a method.
use Rattle.std.proofs.Common.{arith}
use Rattle.std.proofs.lemmas.Grind.{common_steps}
use Rattle.rules.specs.Methods.{method_of}
use Rattle.rules.proofs.method.is_known.Goals as goal

pub returns : goal.returns
unfolding method_of
returns c = rw (c.is_ok.ensures.value, c.try_from.ensures) (grind (arith, common_steps))
