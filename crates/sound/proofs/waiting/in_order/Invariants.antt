-- The neighbours before i are in order, and those from the one in front of i on decide.
use Rattle.std.proofs.Common.{◌-◌, ◌≡◌, drop}
use Rattle.law.specs.Base.{every_pair}
use Rattle.law.specs.Calls.{before}
use Rattle.sound.proofs.WalkLaws.{neighbours}
use Rattle.sound.proofs.DiskLaws.{waitings}
use Rattle.sound.proofs.waiting.in_order.Given as goal

abbrev pub invariant-loop-i : goal.invariant-loop-i
invariant-loop-i l = neighbours before (drop (l.i - 1) (waitings l.s)) ≡ every_pair before (waitings l.s)
