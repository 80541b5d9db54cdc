-- The others move up and the head says so: this is the part of the disk that the law leaves.
use Rattle.std.proofs.Common.{◌∙◌}
use Rattle.part.specs.PartLaws.{disk_good, waiting_row_lem}
use Rattle.change.specs.HoldingLaws.{disk_holds, waiting_lent, waiting_slots}
use Rattle.change.proofs.MoveLaws.{left_part}
use Rattle.change.proofs.moves.leave.Goals as goal

pub take_out-requires-clause-slots : goal.take_out-requires-clause-slots
take_out-requires-clause-slots c = waiting_lent (disk_holds c.requires.holds_disk c.fits-s)

pub take_out-requires-clause-row : goal.take_out-requires-clause-row
take_out-requires-clause-row c =
    rw (waiting_slots (disk_holds c.requires.holds_disk c.fits-s)) (waiting_row_lem c.requires.holds_disk c.count_at-n.ensures)

pub returns : goal.returns
returns c =
    let z = c.requires in
    c.put_numbers.ensures
    ∙ left_part (disk_good z.holds_disk) c.ranges.second.fits c.take_out.ensures.slots_2 c.count_at-n.ensures c.args.at
    (disk_holds z.holds_disk c.fits-s) c.take_out.ensures.row_is
