-- Each amount counts where its bit is in the mask of what the method reads.
use Rattle.rules.specs.Methods.{in_law}
use Rattle.rules.proofs.MethodLaws.{carried_of}
use Rattle.rules.proofs.figures.Figures.carried.Goals as goal

pub returns-clause-value : goal.returns-clause-value
returns-clause-value c = cc (carried_of (in_law c.args.self.now) c.args.m)
