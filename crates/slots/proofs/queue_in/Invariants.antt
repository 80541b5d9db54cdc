-- Putting y in at i of what stands now is putting c in at its place in what stood.
use Rattle.std.proofs.Common.{◌≡◌, take}
use Rattle.law.specs.Calls.{queue}
use Rattle.rules.specs.Rows.{Row, insert_at}
use Rattle.part.specs.Layout.{slots}
use Rattle.slots.specs.Slots.{Slots}
use Rattle.slots.proofs.queue_in.Given as goal

abbrev pub invariant-loop-i : goal.invariant-loop-i
invariant-loop-i l =
    Slots l.row
    × Row (slots 8 l.row) l.n
    × (insert_at l.i l.y (take l.n (slots 8 l.row)) ≡ queue l.initial.y (take l.n (slots 8 l.initial.row)))
