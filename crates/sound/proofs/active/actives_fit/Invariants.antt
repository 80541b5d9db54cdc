-- What the walk comes to from i on, with what it has seen so far, is what it comes to from the first claim on.
use Rattle.std.proofs.Common.{◌≡◌, ◌*◌, ◌≤◌, drop}
use Rattle.num.specs.Metric.{size}
use Rattle.law.specs.Types.{most_value}
use Rattle.part.specs.Layout.{decode}
use Rattle.part.specs.Held.{held}
use Rattle.sound.specs.Seen.{walked_of}
use Rattle.sound.proofs.MeetLaws.{walked}
use Rattle.sound.proofs.DiskLaws.{actives, active_fit}
use Rattle.sound.proofs.active.actives_fit.Given as goal

abbrev pub invariant-loop-i : goal.invariant-loop-i
invariant-loop-i l = record {
  small : l.walked.totals.sum ≤ l.i * most_value;
  same : walked (active_fit l.s) (size (decode l.s).promised.value) l.walked (drop l.i (actives l.s)) ≡ walked_of (held l.s);
}
