-- The literal is the law's opened disk by value.
use Rattle.law.specs.Calls.{opened}
use Rattle.rules.specs.Disks.{by_value}
use Rattle.rules.proofs.disk.opened.Goals as goal

pub returns : goal.returns
unfolding by_value opened
returns c = rw (c.blank-3.ensures, c.blank-2.ensures, c.blank.ensures, c.no_claim-none.ensures)
