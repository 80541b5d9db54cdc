-- The release is answered, and the grants of the pass stand behind it.
use Rattle.std.proofs.Common.{arith}
use Rattle.std.proofs.lemmas.Grind.{common_steps}
use Rattle.rules.specs.Answers.{answer_of}
use Rattle.pass.specs.Turns.{passed_of}
use Rattle.desk.specs.Step.{released}
use Rattle.desk.proofs.ServeLaws.{pass_answers}
use Rattle.desk.proofs.serve.settle.Goals as goal

pub returns : goal.returns
unfolding released passed_of answer_of
returns c = grind (arith, common_steps, pass_answers)
