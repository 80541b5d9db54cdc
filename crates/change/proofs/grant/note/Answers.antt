-- Each write to the head is one of its amounts; a set of the state and a reading leave all.
use Rattle.change.specs.HoldingLaws.{disk_holds}
use Rattle.change.proofs.GrantLaws.{note_used, note_promised, note_none}
use Rattle.change.proofs.grant.note.Goals as goal

pub returns-then-share : goal.returns-then-share
returns-then-share c =
    rw c.put_word.ensures (note_used (disk_holds c.requires.holds_disk c.fits-s) c.args.m c.args.total c.ranges.total.fits cc)

pub returns-then-share-2 : goal.returns-then-share-2
returns-then-share-2 c =
    rw c.put_word-then-share-2.ensures
    (note_promised (disk_holds c.requires.holds_disk c.fits-s) c.args.m c.args.total c.ranges.total.fits cc)

pub returns-else-share-2 : goal.returns-else-share-2
returns-else-share-2 c =
    note_none (disk_holds c.requires.holds_disk c.fits-s) c.args.m c.args.total c.ranges.total.fits c.requires.note_fits (cc) (cc)
