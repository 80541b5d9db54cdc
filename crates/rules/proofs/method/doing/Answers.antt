-- Each word is that of its three masks.
use Rattle.rules.specs.Masks.{masks_by}
use Rattle.rules.proofs.method.doing.Goals as goal

pub returns : goal.returns
unfolding masks_by
returns c = rw (c.word-3.ensures, c.word-2.ensures, c.word.ensures)
