-- What the end of a claim leaves is a sound part.
use Rattle.std.proofs.Common.{arith}
use Rattle.part.specs.Held.{held}
use Rattle.desk.proofs.ReleaseLaws.{leaves_active, leaves_waiting}
use Rattle.desk.proofs.ServeLaws.{left_sound}
use Rattle.desk.proofs.serve.serve_release.Goals as goal

pub settle-requires : goal.settle-requires
settle-requires c =
    let d = held c.args.part.now in
    let left = leaves_active d c.args.second c.args.ticket (omega arith) c.requires.sound c.in-Some.ensures in
    rw c.end.ensures (left_sound left c.ranges.second.fits)

pub settle-requires-in-Some-find : goal.settle-requires-in-Some-find
settle-requires-in-Some-find c =
    let d = held c.args.part.now in
    let left =
    leaves_waiting d c.args.second c.args.ticket (omega arith) c.requires.sound c.in_default.ensures c.in-Some-find.ensures in
    rw c.leave.ensures (left_sound left c.ranges.second.fits)
