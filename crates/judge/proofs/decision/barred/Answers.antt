-- The tests so far have failed, so that what is left has the answer. What is read is what the part's disk has.
use Rattle.std.proofs.Common.{◌≤◌, length, sym, ap, ◌∙◌, arith}
use Rattle.rules.specs.Methods.{in_law}
use Rattle.rules.specs.Disks.{figures_in}
use Rattle.part.specs.Layout.{decode}
use Rattle.part.specs.PartLaws.{disk_good}
use Rattle.judge.specs.Decisions.{bars_of}
use Rattle.judge.proofs.WalkLaws.{bars_read, first_any_on, first_any_here}
use Rattle.judge.proofs.decision.barred.Goals as goal

pub returns-then-bars : goal.returns-then-bars
returns-then-bars c =
    let d = decode c.args.s.now in
    let room : c.args.ahead ≤ length d.waiting = omega (arith, (disk_good c.requires.holds_disk).waiting.room) in
    let same = ap in_law c.requires.figures in
    let bars = bars_read same c.args.c c.slot_at-w.ensures c.entry.ensures c.args.second c.args.adds c.bars.ensures in
    first_any_here d.waiting c.args.ahead room (bars_of (figures_in d) c.args.second c.args.adds c.args.c) c.loop-j.j c.loop-j-test.true
    (sym bars ∙ c.if-bars.true)
    ∙ c.loop-j.invariant

pub loop-j-preserved : goal.loop-j-preserved
loop-j-preserved c =
    let d = decode c.args.s.now in
    let room : c.args.ahead ≤ length d.waiting = omega (arith, (disk_good c.requires.holds_disk).waiting.room) in
    let same = ap in_law c.requires.figures in
    let bars = bars_read same c.args.c c.slot_at-w.ensures c.entry.ensures c.args.second c.args.adds c.bars.ensures in
    first_any_on d.waiting c.args.ahead room (bars_of (figures_in d) c.args.second c.args.adds c.args.c) c.loop-j.j c.loop-j-test.true
    (sym bars ∙ c.if-bars.false)
    ∙ c.loop-j.invariant
