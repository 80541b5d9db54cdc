-- Of the seven kinds one sets the state, that of method 3.
use Rattle.std.proofs.Common.{rules}
use Rattle.rules.proofs.MethodLaws.{kind_by}
use Rattle.rules.proofs.method.sets_state.Goals as goal

pub returns : goal.returns
returns c = rw (kind_by c.args.m c.try_from.ensures, c.eq.ensures) (search rules)
