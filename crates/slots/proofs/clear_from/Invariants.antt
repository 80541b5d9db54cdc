-- Clearing from the end keeps a row of m claims whose first k are those at the start.
use Rattle.std.proofs.Common.{◌≡◌, take}
use Rattle.rules.specs.Rows.{Row}
use Rattle.part.specs.Layout.{slots}
use Rattle.slots.specs.Slots.{Slots}
use Rattle.slots.proofs.clear_from.Given as goal

abbrev pub invariant-loop-m : goal.invariant-loop-m
invariant-loop-m l =
    Slots l.row × Row (slots 8 l.row) l.m × (take l.k (slots 8 l.row) ≡ take l.k (slots 8 l.initial.row))
