-- The head, the active claims and the waiting ones are put one behind the other, over the whole part.
use Rattle.std.proofs.Common.{arith}
use Rattle.part.specs.LayoutLaws.{put_all}
use Rattle.part.proofs.write.put_disk.Goals as goal

pub returns : goal.returns
returns c = grind (arith, put_all)
