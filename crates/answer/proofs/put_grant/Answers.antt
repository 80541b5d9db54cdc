use Rattle.std.proofs.Common.{rules}
use Rattle.answer.specs.Answers.{item_bytes}
use Rattle.answer.proofs.put_grant.Goals as goal

pub returns : goal.returns
unfolding item_bytes
returns c = search rules
