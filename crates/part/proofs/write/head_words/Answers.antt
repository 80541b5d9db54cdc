-- Each word is that of `head_words`.
use Rattle.std.proofs.Common.{rules}
use Rattle.part.specs.Layout.{head_words}
use Rattle.part.proofs.write.head_words.Goals as goal

pub returns : goal.returns
unfolding head_words
returns c = search rules
