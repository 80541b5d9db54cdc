use Rattle.std.proofs.Common.{◌≡◌, take, drop}
use Rattle.law.specs.Base.{any_of}
use Rattle.rules.specs.Disks.{figures_in}
use Rattle.part.specs.Layout.{decode}
use Rattle.judge.specs.Decisions.{bars_of}
use Rattle.judge.proofs.decision.barred.Given as goal

abbrev pub invariant-loop-j : goal.invariant-loop-j
invariant-loop-j l =
    any_of (bars_of (figures_in (decode l.s)) l.second l.adds l.c) (drop l.j (take l.ahead (decode l.s).waiting))
    ≡ any_of (bars_of (figures_in (decode l.s)) l.second l.adds l.c) (take l.ahead (decode l.s).waiting)
