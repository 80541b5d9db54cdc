use Rattle.std.proofs.Common.{rules}
use Rattle.num.specs.Opened.{open_at}
use Rattle.num.proofs.opened.is_open.Goals as goal

pub returns : goal.returns
unfolding open_at
returns c = search rules
