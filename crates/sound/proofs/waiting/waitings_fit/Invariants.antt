-- What the walk comes to from i on, with the marks so far, is what it comes to from the first claim on.
use Rattle.std.proofs.Common.{◌≡◌, drop}
use Rattle.part.specs.Held.{held}
use Rattle.sound.specs.Seen.{waited_of}
use Rattle.sound.proofs.MarkLaws.{marked}
use Rattle.sound.proofs.DiskLaws.{waitings, waiting_fit}
use Rattle.sound.proofs.waiting.waitings_fit.Given as goal

abbrev pub invariant-loop-i : goal.invariant-loop-i
invariant-loop-i l = marked (waiting_fit l.s) l.all (drop l.i (waitings l.s)) ≡ waited_of (held l.s) l.fn.marks
