-- The place in what is left, counted from the front, is the place in the list.
use Rattle.std.proofs.Common.{◌≡◌, ◌+◌, take, drop}
use Rattle.rules.specs.Rows.{place_of}
use Rattle.part.specs.Layout.{slots}
use Rattle.slots.proofs.find_in.Given as goal

abbrev pub invariant-loop-i : goal.invariant-loop-i
invariant-loop-i l = l.i + place_of l.ticket (drop l.i (take l.n (slots 8 l.row))) ≡ place_of l.ticket (take l.n (slots 8 l.row))
