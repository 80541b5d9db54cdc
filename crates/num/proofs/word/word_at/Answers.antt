use Rattle.std.proofs.Common.{rules}
use Rattle.num.specs.Word.{word_at}
use Rattle.num.proofs.word.word_at.Goals as goal

pub returns : goal.returns
unfolding word_at
returns c = search rules
