-- A reading is put behind the active claims; a write first raises them and notes its total.
use Rattle.std.proofs.Common.{to_z-of_z}
use Rattle.part.specs.Layout.{decode}
use Rattle.part.specs.PartLaws.{disk_good}
use Rattle.change.specs.HoldingLaws.{disk_holds, holds_disk, holds_read}
use Rattle.change.proofs.ChangeLaws.{grant_place, raised_good}
use Rattle.change.proofs.GrantLaws.{note_fits, noted_disk, noted_place, read_grants, write_grants}
use Rattle.change.proofs.grant.grant.Goals as goal

-- There is a place.
pub put_last-requires-clause-actives_bound : goal.put_last-requires-clause-actives_bound
put_last-requires-clause-actives_bound c =
    let z = c.requires in
    grant_place (decode c.args.s.now) c.args.c (disk_good z.holds_disk) z.may_grant

pub returns-then-is_reading : goal.returns-then-is_reading
returns-then-is_reading c =
    let z = c.requires in
    let g =
    read_grants (decode c.args.s.now) c.args.c (disk_good z.holds_disk) z.may_grant (cc)
    z.told_value z.total_value (rw (to_z-of_z c.ranges.told) at c.put_last.ensures) in
    record { holds_disk_2 = g.0; holds = holds_read c.put_last.ensures; disk_is = g.1 }

-- With the active claims raised, and with the total noted, the part holds a disk again.
pub note-requires : goal.note-requires
note-requires c =
    let z = c.requires in
    let d = decode c.args.s.now in
    let good = disk_good z.holds_disk in
    record {
      holds_disk = holds_disk c.raise_on.ensures (raised_good d c.args.c good);
      note_fits = note_fits d c.args.c good z.may_grant (disk_holds z.holds_disk c.fits-s) z.total_value;
    }

pub put_last-requires-2 : goal.put_last-requires-2
put_last-requires-2 c =
    let z = c.requires in
    let d = decode c.args.s.now in
    let good = disk_good z.holds_disk in
    record {
      holds_disk = noted_disk d c.args.c good z.may_grant c.args.total c.raise_on.ensures c.note.ensures;
      actives_bound = noted_place d c.args.c good z.may_grant c.args.total c.raise_on.ensures c.note.ensures;
    }

pub returns : goal.returns
returns c =
    let z = c.requires in
    let g =
    write_grants (decode c.args.s.now) c.args.c (disk_good z.holds_disk) z.may_grant c.args.total c.raise_on.ensures c.note.ensures (cc)
    z.total_value c.put_last-2.ensures in
    record { holds_disk_2 = g.0; holds = holds_read c.put_last-2.ensures; disk_is = g.1 }
