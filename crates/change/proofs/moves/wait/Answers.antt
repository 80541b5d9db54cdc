-- It stands among those that wait, and the head says so: this is the part of the disk that the law leaves.
use Rattle.std.proofs.Common.{ℕ, ◌+◌, List, ap, ◌∙◌}
use Rattle.num.specs.Word.{put_word}
use Rattle.part.specs.PartLaws.{disk_good, waiting_row_lem}
use Rattle.change.specs.HoldingLaws.{disk_holds, waiting_lent, waiting_slots}
use Rattle.change.proofs.MoveLaws.{wait_part}
use Rattle.change.proofs.moves.wait.Goals as goal

pub queue_in-requires-clause-slots : goal.queue_in-requires-clause-slots
queue_in-requires-clause-slots c = waiting_lent (disk_holds c.requires.holds_disk c.fits-s)

pub queue_in-requires-clause-row : goal.queue_in-requires-clause-row
queue_in-requires-clause-row c =
    rw (waiting_slots (disk_holds c.requires.holds_disk c.fits-s)) (waiting_row_lem c.requires.holds_disk c.count_at-n.ensures)

pub returns : goal.returns
returns c =
    let z = c.requires in
    c.put_word.ensures
    ∙ ap (λ (r : List ℕ). put_word r 4 (c.args.c.ticket + 1)) c.put_numbers.ensures
    ∙ wait_part (disk_good z.holds_disk) c.ranges.second.fits c.queue_in.ensures.slots_2 c.count_at-n.ensures z.s_bound
    c.args.c z.ticket_bound (disk_holds z.holds_disk c.fits-s) c.queue_in.ensures.row_is
