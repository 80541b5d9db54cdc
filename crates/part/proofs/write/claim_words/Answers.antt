-- Each word is that of `claim_words`.
use Rattle.std.proofs.Common.{rules}
use Rattle.part.specs.Layout.{claim_words}
use Rattle.part.proofs.write.claim_words.Goals as goal

pub returns : goal.returns
unfolding claim_words
returns c = search rules
