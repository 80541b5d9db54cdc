-- Taking one out at i of what stands now is taking it out at `at` of what stood.
use Rattle.std.proofs.Common.{◌≡◌, take}
use Rattle.rules.specs.Rows.{Row, remove_at}
use Rattle.part.specs.Layout.{slots}
use Rattle.slots.specs.Slots.{Slots}
use Rattle.slots.proofs.take_out.Given as goal

abbrev pub invariant-loop-i : goal.invariant-loop-i
invariant-loop-i l =
    Slots l.row
    × Row (slots 8 l.row) l.n
    × (remove_at l.i (take l.n (slots 8 l.row)) ≡ remove_at l.at (take l.n (slots 8 l.initial.row)))
