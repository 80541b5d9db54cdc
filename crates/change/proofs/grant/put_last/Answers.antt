-- The claim's slot comes back with the others, and the head counts one more.
use Rattle.std.proofs.Common.{FitsSigned, w32, to_z-of_z, rules}
use Rattle.change.specs.HoldingLaws.{disk_holds, active_lent}
use Rattle.change.proofs.GrantLaws.{last_holds}
use Rattle.change.proofs.grant.put_last.Goals as goal

pub put_slot-requires-clause-slots : goal.put_slot-requires-clause-slots
put_slot-requires-clause-slots c = active_lent (disk_holds c.requires.holds_disk c.fits-s)

pub returns : goal.returns
returns c =
    let value : FitsSigned w32 c.args.c.value = search rules in
    rw (c.put_word.ensures, c.count_at-n.ensures)
    (last_holds (disk_holds c.requires.holds_disk c.fits-s) _ c.requires.actives_bound c.put_slot.ensures.slots_2
    (rw (c.count_at-n.ensures, to_z-of_z value, to_z-of_z c.ranges.told) at c.put_slot.ensures.row_after))
