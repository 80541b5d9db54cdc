-- The clock and the next ticket, then the grant: this is the part of the disk that the law leaves.
use Rattle.std.proofs.Common.{arith, to_z-of_z, ◌∙◌}
use Rattle.rules.specs.Answers.{granted_of}
use Rattle.change.specs.HoldingLaws.{holds_decode, holds_disk, holds_part, disk_holds}
use Rattle.change.proofs.GrantLaws.{clocked_holds}
use Rattle.change.proofs.grant.grant_new.Goals as goal

pub grant-requires : goal.grant-requires
grant-requires c =
    let t = c.requires.takes_grant in
    let put =
    clocked_holds (disk_holds c.requires.holds_disk c.fits-s) c.put_numbers.ensures c.ranges.second.fits (omega (arith, t.ticket)) in
    record {
      holds_disk = holds_disk put (record { active = t.good.active; waiting = t.good.waiting });
      may_grant = rw (holds_decode put) t.may;
      told_value = rw (holds_decode put) (to_z-of_z c.ranges.told ∙ c.requires.told_value);
      total_value = rw (holds_decode put) t.counts;
    }

pub returns : goal.returns
unfolding granted_of
returns c =
    let put =
    clocked_holds (disk_holds c.requires.holds_disk c.fits-s) c.put_numbers.ensures c.ranges.second.fits
    (omega (arith, c.requires.takes_grant.ticket)) in
    holds_part c.grant.ensures.holds (rw (holds_decode put) at c.grant.ensures.disk_is)
