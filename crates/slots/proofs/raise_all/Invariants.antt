-- The claims before i are raised, and those from i on stand as they were.
use Rattle.std.proofs.Common.{◌≡◌}
use Rattle.part.specs.Layout.{slots}
use Rattle.slots.specs.Slots.{Slots, map_to, raise_with}
use Rattle.slots.proofs.raise_all.Given as goal

abbrev pub invariant-loop-i : goal.invariant-loop-i
invariant-loop-i l = Slots l.row × (slots 8 l.row ≡ map_to l.i (raise_with l.m l.raise) (slots 8 l.initial.row))
