-- The active slots come back raised.
use Rattle.std.proofs.Common.{subst, arith}
use Rattle.part.specs.Layout.{decode}
use Rattle.part.specs.PartLaws.{disk_good}
use Rattle.change.specs.Holding.{Holds}
use Rattle.change.specs.HoldingLaws.{disk_holds, active_lent, active_slots, active_back}
use Rattle.change.proofs.ChangeLaws.{raisable, raises}
use Rattle.change.proofs.grant.raise_on.Goals as goal

pub raise_all-requires-clause-slots : goal.raise_all-requires-clause-slots
raise_all-requires-clause-slots c = active_lent (disk_holds c.requires.holds_disk c.fits-s)

pub raise_all-requires-clause-n_bound : goal.raise_all-requires-clause-n_bound
raise_all-requires-clause-n_bound c =
    omega (arith, c.count_at-n.ensures, (disk_good c.requires.holds_disk).active.few)

pub raise_all-requires-clause-raisable : goal.raise_all-requires-clause-raisable
raise_all-requires-clause-raisable c =
    let z = c.requires in
    raisable (decode c.args.s.now) c.args.c (disk_good z.holds_disk) z.may_grant z.method_value c.figures_at.ensures c.count_at-n.ensures
    c.raise_of-raise.ensures.value (active_slots (disk_holds z.holds_disk c.fits-s))

pub returns : goal.returns
returns c =
    let z = c.requires in
    let whole = disk_holds z.holds_disk c.fits-s in
    subst (Holds _)
    (raises (decode c.args.s.now) c.args.c z.method_value c.figures_at.ensures c.count_at-n.ensures c.raise_of-raise.ensures.value
    (active_slots whole) c.raise_all.ensures.row_after)
    (active_back whole c.raise_all.ensures.slots_2)
