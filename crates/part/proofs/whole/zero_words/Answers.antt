-- The words looked at so far, joined, are zero if their bytes are.
use Rattle.std.proofs.Common.{◌*◌, refl, arith}
use Rattle.num.specs.Runs.{all_zero}
use Rattle.part.specs.ByteLaws.{or_none, zero_word, zero_split}
use Rattle.part.proofs.whole.zero_words.Goals as goal

pub loop-i-init : goal.loop-i-init
unfolding all_zero
loop-i-init c = refl

pub loop-i-preserved : goal.loop-i-preserved
loop-i-preserved c = grind (arith, or_none, zero_word, zero_split c.args.s.now c.args.at (4 * c.loop-i.i) 4)
