use Rattle.std.proofs.Common.{rules}
use Rattle.num.specs.Opened.{open_word}
use Rattle.num.specs.Word.{word_at}
use Rattle.num.proofs.opened.open_word.Goals as goal

pub returns : goal.returns
unfolding open_word word_at
returns c = search rules
