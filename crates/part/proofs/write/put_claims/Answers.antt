-- What stands behind the loop is the run of the claims put so far.
use Rattle.std.proofs.Common.{sym, arith}
use Rattle.num.specs.RunLaws.{splice_none}
use Rattle.part.specs.Layout.{in_slots}
use Rattle.part.specs.SlotLaws.{put_slot}
use Rattle.part.proofs.write.put_claims.Goals as goal

pub loop-i-init : goal.loop-i-init
unfolding in_slots
loop-i-init c = sym (splice_none _ _)

pub loop-i-preserved : goal.loop-i-preserved
loop-i-preserved c = grind (arith, put_slot)
