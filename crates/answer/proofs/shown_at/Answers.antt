use Rattle.std.proofs.Common.{rules}
use Rattle.answer.specs.Answers.{shown_at}
use Rattle.answer.proofs.shown_at.Goals as goal

pub returns-then-answer-ne-ANSWER_BYTES : goal.returns-then-answer-ne-ANSWER_BYTES
unfolding shown_at
returns-then-answer-ne-ANSWER_BYTES c = search rules

pub returns : goal.returns
unfolding shown_at
returns c = search rules
