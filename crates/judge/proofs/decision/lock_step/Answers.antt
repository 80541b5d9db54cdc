-- Where the masks say that every entry is A, nothing is walked. Else the sum so far and what the claims that are left say come to
-- what all say. What is read is what the part's disk has.
use Rattle.std.proofs.Common.{sym, ap, ◌∙◌, arith}
use Rattle.rules.specs.RowLaws.{left_on}
use Rattle.rules.specs.Methods.{in_law}
use Rattle.rules.specs.Disks.{figures_in}
use Rattle.part.specs.Layout.{decode}
use Rattle.part.specs.PartLaws.{disk_good}
use Rattle.judge.specs.Decisions.{actives_in}
use Rattle.judge.proofs.WalkLaws.{none_say, locked_first, locked_on, locked_not, lets_read, cost_read}
use Rattle.judge.proofs.decision.lock_step.Goals as goal

-- No active claim has a say.
pub returns-then-not-have_say-clause-value : goal.returns-then-not-have_say-clause-value
returns-then-not-have_say-clause-value c =
    let d = decode c.args.s.now in
    let says = rw c.requires.t_value at c.have_say.ensures in
    none_say (figures_in d) c.args.c (actives_in d) (sym says ∙ c.if-not-have_say.true)

pub loop-i-init : goal.loop-i-init
loop-i-init c =
    let d = decode c.args.s.now in
    record { small = omega arith; so_far = locked_first (figures_in d) c.args.c (actives_in d) }

pub slot_at-x-requires : goal.slot_at-x-requires
slot_at-x-requires c = let good = disk_good c.requires.holds_disk in omega (arith, good.active.few)

pub loop-i-preserved : goal.loop-i-preserved
loop-i-preserved c =
    let d = decode c.args.s.now in
    let left = left_on (disk_good c.requires.holds_disk).active c.loop-i.i (omega arith) in
    let same = ap in_law c.requires.figures in
    let x = c.slot_at-x.ensures in
    let e = c.entry-e.ensures in
    let reading = c.is_reading-reading.ensures in
    let lets = lets_read same c.args.c x e reading c.raise_of-raise.ensures.value c.lets.ensures in
    let cost = cost_read same c.args.c x e reading c.cost-sum.ensures.value in
    record {
      small = omega arith;
      so_far = locked_on (figures_in d) c.args.c c.loop-i.sum left (sym lets ∙ c.if-not-lets.false) cost ∙ c.loop-i.invariant.so_far;
    }

pub returns-then-not-lets-clause-value : goal.returns-then-not-lets-clause-value
returns-then-not-lets-clause-value c =
    let d = decode c.args.s.now in
    let left = left_on (disk_good c.requires.holds_disk).active c.loop-i.i (omega arith) in
    let same = ap in_law c.requires.figures in
    let x = c.slot_at-x.ensures in
    let e = c.entry-e.ensures in
    let lets = lets_read same c.args.c x e c.is_reading-reading.ensures c.raise_of-raise.ensures.value c.lets.ensures in
    locked_not (figures_in d) c.args.c c.loop-i.sum left (sym lets ∙ c.if-not-lets.true) ∙ c.loop-i.invariant.so_far

pub returns-clause-sum_bound : goal.returns-clause-sum_bound
returns-clause-sum_bound c = let good = disk_good c.requires.holds_disk in omega (arith, good.active.few)
