use Rattle.std.proofs.Common.{◌≡◌}
use Rattle.rules.specs.Totals.{totals_of}
use Rattle.part.specs.Layout.{decode}
use Rattle.part.specs.Held.{HoldsDisk}
use Rattle.judge.specs.Decisions.{actives_in}
use Rattle.pass.proofs.PassLaws.{Run}
use Rattle.pass.proofs.pass.Given as goal

abbrev pub invariant-loop-i : goal.invariant-loop-i
invariant-loop-i l = record {
  holds : HoldsDisk l.s;
  run : Run (decode l.fn.s) (decode l.s) l.fn.answer l.answer l.i l.k;
  totals : l.t ≡ totals_of (actives_in (decode l.s));
}
