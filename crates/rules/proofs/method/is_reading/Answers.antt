-- Three of the kinds are readings, and so is that of no method.
use Rattle.std.proofs.Common.{rules}
use Rattle.rules.proofs.MethodLaws.{kind_by}
use Rattle.rules.proofs.method.is_reading.Goals as goal

pub returns-in-ReportUsed : goal.returns-in-ReportUsed
returns-in-ReportUsed c = rw (kind_by c.args.m c.in-Ok.ensures) (search rules)

pub returns-in-ReadUsed : goal.returns-in-ReadUsed
returns-in-ReadUsed c = rw (kind_by c.args.m c.in-Ok.ensures) (search rules)

pub returns-in-Err : goal.returns-in-Err
returns-in-Err c = rw (kind_by c.args.m c.in-Err.ensures)
