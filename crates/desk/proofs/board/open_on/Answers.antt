-- Limits out of range are refused 17; else the opened disk's part stands in its place, with the bit set.
use Rattle.std.proofs.Common.{arith}
use Rattle.std.proofs.lemmas.Grind.{common_steps}
use Rattle.law.specs.Calls.{open_disk}
use Rattle.answer.specs.Answers.{refusal_of}
use Rattle.rules.specs.Answers.{answer_of}
use Rattle.part.specs.Held.{part_for}
use Rattle.desk.proofs.board.open_on.Goals as goal

pub returns-then-not-limits_fit : goal.returns-then-not-limits_fit
unfolding open_disk refusal_of
returns-then-not-limits_fit c = grind (arith, common_steps)

pub returns : goal.returns
unfolding open_disk part_for answer_of
returns c = grind (arith, common_steps)
