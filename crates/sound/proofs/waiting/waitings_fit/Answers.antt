-- The turns of the walk, and its end: the test of a claim with the bounds read is that with the disk's figures.
use Rattle.std.proofs.Common.{arith, ◌∙◌, refl}
use Rattle.rules.specs.RowLaws.{left_on, left_end}
use Rattle.part.specs.declared.status.Status.TheVariants.{Waiting}
use Rattle.sound.specs.Seen.{waited_of}
use Rattle.sound.proofs.MarkLaws.{marked, marked_on, marked_not, marked_end}
use Rattle.sound.proofs.DiskLaws.{waiting_fit, row_in, few_waiting, waiting_by_lem}
use Rattle.sound.proofs.waiting.waitings_fit.Goals as goal

pub loop-i-init : goal.loop-i-init
unfolding marked waited_of
loop-i-init c = refl

pub slot_at-x-requires : goal.slot_at-x-requires
slot_at-x-requires c = omega (arith, few_waiting c.requires.disk)

pub returns-then-not-waiting_fits : goal.returns-then-not-waiting_fits
returns-then-not-waiting_fits c =
    let here = left_on (row_in c.requires.disk Waiting) c.loop-i.i (omega arith) in
    let test = waiting_by_lem c.requires c.slot_at-x.result in
    let not = marked_not (waiting_fit c.args.s.now) c.loop-i.all here in
    grind arith

pub loop-i-preserved : goal.loop-i-preserved
loop-i-preserved c =
    let here = left_on (row_in c.requires.disk Waiting) c.loop-i.i (omega arith) in
    let test = waiting_by_lem c.requires c.slot_at-x.result in
    let on = marked_on (waiting_fit c.args.s.now) c.loop-i.all here in
    grind arith

pub returns : goal.returns
returns c =
    let none = left_end (row_in c.requires.disk Waiting) c.loop-i.i (omega arith) in
    marked_end (waiting_fit c.args.s.now) c.loop-i.all none ∙ c.loop-i.invariant
