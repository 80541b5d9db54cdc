-- The claim lands, the others move up and the head says so: this is the part of the disk that the law leaves.
use Rattle.std.proofs.Common.{arith, ◌∙◌}
use Rattle.part.specs.Layout.{decode}
use Rattle.part.specs.PartLaws.{disk_good, active_row_lem}
use Rattle.change.specs.Holding.{land_of}
use Rattle.change.specs.HoldingLaws.{active_lent, active_slots}
use Rattle.change.proofs.ChangeLaws.{land_fits}
use Rattle.change.proofs.MoveLaws.{end_part}
use Rattle.change.proofs.moves.end.Goals as goal

pub slot_at-requires : goal.slot_at-requires
slot_at-requires c = omega (arith, c.requires.at_bound, (disk_good c.requires.holds_sound.disk).active.few)

pub land-requires-clause-land_fits : goal.land-requires-clause-land_fits
land-requires-clause-land_fits c =
    let z = c.requires in
    rw c.slot_at.ensures (land_fits (decode c.args.s.now) c.args.at (disk_good z.holds_sound.disk) z.holds_sound.sound z.at_bound)

pub take_out-requires-clause-slots : goal.take_out-requires-clause-slots
take_out-requires-clause-slots c = active_lent c.land.ensures

pub take_out-requires-clause-row : goal.take_out-requires-clause-row
unfolding land_of
take_out-requires-clause-row c = rw (active_slots c.land.ensures) (active_row_lem c.requires.holds_sound.disk c.count_at-n.ensures)

pub returns : goal.returns
returns c =
    let z = c.requires in
    c.put_numbers.ensures
    ∙ end_part (disk_good z.holds_sound.disk) c.ranges.second.fits c.take_out.ensures.slots_2 c.count_at-n.ensures c.args.at
    z.at_bound c.slot_at.ensures c.land.ensures c.take_out.ensures.row_is
