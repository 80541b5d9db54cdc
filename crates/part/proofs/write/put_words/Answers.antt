-- What stands behind the loop is the run of the words put so far.
use Rattle.std.proofs.Common.{sym, arith}
use Rattle.num.specs.RunLaws.{splice_none, put_splice}
use Rattle.num.specs.Runs.{flat}
use Rattle.part.specs.SlotLaws.{put_more}
use Rattle.part.proofs.write.put_words.Goals as goal

pub loop-j-init : goal.loop-j-init
unfolding flat
loop-j-init c = sym (splice_none _ _)

pub loop-j-preserved : goal.loop-j-preserved
loop-j-preserved c = grind (arith, put_splice, put_more)
