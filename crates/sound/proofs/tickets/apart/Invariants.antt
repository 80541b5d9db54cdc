-- The claims before i have another ticket than all behind them, and those from i on decide; so does the inner walk from j on.
use Rattle.std.proofs.Common.{◌≡◌, ◌+◌, drop}
use Rattle.law.specs.Base.{every_of, every_pair}
use Rattle.sound.specs.Tests.{apart}
use Rattle.sound.proofs.DiskLaws.{claims}
use Rattle.sound.proofs.tickets.apart.Given as goal

abbrev pub invariant-loop-j : goal.invariant-loop-j
invariant-loop-j l = every_of (apart l.x) (drop l.j (claims l.s)) ≡ every_of (apart l.x) (drop (l.i + 1) (claims l.s))

abbrev pub invariant-loop-i : goal.invariant-loop-i
invariant-loop-i l = every_pair apart (drop l.i (claims l.s)) ≡ every_pair apart (claims l.s)
