-- The active and the waiting claims of a part, by one name each: where they stand, and how many they are.
use Rattle.std.specs.Prelude.{ℕ, List}
use Rattle.law.specs.declared.Claim.{Claim}
use Rattle.rules.specs.declared.disk.Disk.{Disk}
use Rattle.part.specs.declared.status.Status.{Status}
use Rattle.part.specs.declared.status.Status.TheVariants.{Active, Waiting}
use Rattle.part.specs.Layout.{actives_at, waitings_at, active_at, waiting_at}

-- Where their slots begin.
abbrev pub slots_of : Status → ℕ
slots_of Active = active_at
slots_of Waiting = waiting_at

-- Where their number stands.
abbrev pub count_of : Status → ℕ
count_of Active = actives_at
count_of Waiting = waitings_at

-- Their eight places on a disk by value.
abbrev pub places_in : Status → Disk → List Claim
places_in Active d = d.active
places_in Waiting d = d.waiting

-- How many they are.
abbrev pub count_in : Status → Disk → ℕ
count_in Active d = d.actives
count_in Waiting d = d.waitings
