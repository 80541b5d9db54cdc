-- The place in what is left, counted from the front, is the place in the list.
use Rattle.std.proofs.Common.{◌≡◌, ◌+◌, Bool, not, take, drop}
use Rattle.law.specs.declared.Claim.{Claim}
use Rattle.law.specs.Calls.{before}
use Rattle.rules.specs.Rows.{first_of}
use Rattle.part.specs.Layout.{slots}
use Rattle.slots.proofs.place.Given as goal

abbrev pub invariant-loop-i : goal.invariant-loop-i
invariant-loop-i l =
    let stops : Claim → Bool = λ w. not (before w l.c) in
    l.i + first_of stops (drop l.i (take l.n (slots 8 l.row))) ≡ first_of stops (take l.n (slots 8 l.row))
