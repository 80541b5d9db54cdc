use Rattle.std.proofs.Common.{◌*◌, ◌≡◌, ◌≤◌, drop}
use Rattle.rules.specs.Disks.{figures_in}
use Rattle.part.specs.Layout.{decode}
use Rattle.judge.specs.Decisions.{locked, actives_in}
use Rattle.judge.proofs.WalkLaws.{locked_from}
use Rattle.judge.proofs.decision.lock_step.Given as goal

abbrev pub invariant-loop-i : goal.invariant-loop-i
invariant-loop-i l = record {
  small : l.sum ≤ l.i * 4294967295;
  so_far : locked_from (figures_in (decode l.s)) l.c l.sum (drop l.i (actives_in (decode l.s)))
      ≡ locked (figures_in (decode l.s)) l.c (actives_in (decode l.s));
}
