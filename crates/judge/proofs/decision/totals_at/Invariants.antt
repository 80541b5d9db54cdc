use Rattle.std.proofs.Common.{◌≡◌, drop}
use Rattle.rules.specs.Totals.{totals_from, totals_of}
use Rattle.part.specs.Layout.{decode}
use Rattle.judge.specs.Decisions.{actives_in}
use Rattle.judge.proofs.decision.totals_at.Given as goal

abbrev pub invariant-loop-i : goal.invariant-loop-i
invariant-loop-i l = totals_from l.t (drop l.i (actives_in (decode l.s))) ≡ totals_of (actives_in (decode l.s))
