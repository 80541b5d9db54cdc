use Rattle.std.proofs.Common.{rules}
use Rattle.num.specs.Signed.{word_of}
use Rattle.num.proofs.signed.to_word.Goals as goal

pub returns : goal.returns
unfolding word_of
returns c = search rules
