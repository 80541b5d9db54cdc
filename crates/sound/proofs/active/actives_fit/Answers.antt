-- The turns of the walk, and its end: the test of a claim with the bounds read is that with the disk's figures.
use Rattle.std.proofs.Common.{arith, ◌≡◌, ◌∙◌, sym, true}
use Rattle.std.proofs.lemmas.Bool.Decides.{nat_tests}
use Rattle.num.specs.Metric.{size}
use Rattle.rules.specs.RowLaws.{left_on, left_end}
use Rattle.part.specs.declared.status.Status.TheVariants.{Active}
use Rattle.part.specs.Layout.{decode}
use Rattle.sound.proofs.AloneLaws.{add_most}
use Rattle.sound.proofs.MeetLaws.{sum_more, walked_on, unfit, kept_out, walked_end}
use Rattle.sound.proofs.DiskLaws.{active_fit, walked_all, row_in, few_active, active_by_lem}
use Rattle.sound.proofs.active.actives_fit.Goals as goal

pub loop-i-init : goal.loop-i-init
loop-i-init c = record { small = omega arith; same = walked_all c.args.s.now _ c.default-walked.ensures }

pub slot_at-x-requires : goal.slot_at-x-requires
slot_at-x-requires c = omega (arith, few_active c.requires.disk)

pub returns-then-not-active_fits : goal.returns-then-not-active_fits
returns-then-not-active_fits c =
    let s = c.args.s.now in
    let here = left_on (row_in c.requires.disk Active) c.loop-i.i (omega arith) in
    let test = active_by_lem c.requires c.slot_at-x.result in
    let not = unfit (active_fit s) (size (decode s).promised.value) c.loop-i.walked here in
    let out = kept_out (active_fit s) (size (decode s).promised.value) c.loop-i.walked here in
    grind arith

pub with_claim-walked-requires : goal.with_claim-walked-requires
with_claim-walked-requires c = omega (arith, few_active c.requires.disk)

pub loop-i-preserved : goal.loop-i-preserved
loop-i-preserved c =
    let s = c.args.s.now in
    let here = left_on (row_in c.requires.disk Active) c.loop-i.i (omega arith) in
    let test = active_by_lem c.requires c.slot_at-x.result in
    let fits : active_fit s c.slot_at-x.result ≡ true = sym test ∙ sym c.active_fits.ensures ∙ c.if-not-active_fits.false in
    let on = walked_on (active_fit s) (size (decode s).promised.value) c.loop-i.walked here in
    let added = add_most _ _ _ _ fits in
    record { small = grind (arith, sum_more); same = grind arith }

pub returns-then-from-walked : goal.returns-then-from-walked
returns-then-from-walked c =
    let s = c.args.s.now in
    let none = left_end (row_in c.requires.disk Active) c.loop-i.i (omega arith) in
    let all = walked_end (active_fit s) (size (decode s).promised.value) c.loop-i.walked none in
    grind (arith, nat_tests)

pub returns-else-from-walked : goal.returns-else-from-walked
returns-else-from-walked c =
    let s = c.args.s.now in
    let none = left_end (row_in c.requires.disk Active) c.loop-i.i (omega arith) in
    let all = walked_end (active_fit s) (size (decode s).promised.value) c.loop-i.walked none in
    grind (arith, nat_tests)
