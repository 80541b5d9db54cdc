-- The rows of any disk are bounds.
use Rattle.sound.proofs.AloneLaws.{rows_bound}
use Rattle.sound.proofs.alone.Most.on.Goals as goal

pub invariant_of-result : goal.invariant_of-result
invariant_of-result c = record { fits = rw c.bounds.ensures (rows_bound _ _ _) }
