-- What the test gathers on its way and hands on: the marks of tickets, and what it has seen of the whole disk.
use Rattle.std.specs.Prelude.{ℕ, ◌%◌, ◌^◌, true, cond, Option, Some, None, List, [], ◌∷◌, ◌≡◌}
use Rattle.std.specs.Int.Bits.{bit_and, bit_or}
use Rattle.law.specs.declared.Claim.{Claim}
use Rattle.law.specs.Types.{Disk as LawDisk}
use Rattle.law.specs.Sound.{sound}
use Rattle.law.specs.DiskType.{disk_table}
use Rattle.rules.specs.Methods.{bounds_of}
use Rattle.rules.specs.declared.totals.Totals.{Totals}
use Rattle.rules.specs.Totals.{totals_of}
use Rattle.part.specs.Layout.{decode}
use Rattle.part.specs.Held.{held, HoldsDisk}
use Rattle.sound.specs.declared.alone.Most.{Most}
use Rattle.sound.specs.declared.tickets.Marks.{Marks}
use Rattle.sound.specs.declared.active.Walked.{Walked}
use Rattle.sound.specs.Tests.{figures_on, actives_fit, waitings_fit}

-- ---- the marks of tickets

-- The bit of a claim's ticket: its last six.
abbrev pub bit_of : Claim → ℕ
bit_of c = c.ticket % 64

abbrev pub no_marks : Marks
no_marks = record { met = 0; again = 0 }

-- The marks with one claim more: a bit that has been met is met again.
unfoldable pub with_ticket : Marks → Claim → Marks
with_ticket m c = record { met = bit_or m.met (2 ^ bit_of c); again = bit_or m.again (bit_and m.met (2 ^ bit_of c)) }

-- The marks of claims, added to others.
unfoldable pub marks_from : Marks → List Claim → Marks
marks_from m [] = m
marks_from m (c ∷ cs) = marks_from (with_ticket m c) cs

abbrev pub marks_of : List Claim → Marks
marks_of cs = marks_from no_marks cs

-- ---- what a walk over claims starts from

-- How large the fields of a claim may be on the disk of a part.
abbrev pub most_in : List ℕ → List ℕ
most_in s = bounds_of (decode s).used.limit (decode s).promised.limit (decode s).clock

-- A part that holds a disk whose figures fit, the rows of its bounds, and its next ticket.
pub record Ready (s : List ℕ) (most : Most) : Type 0 where
  pub disk : HoldsDisk s
  pub figures : figures_on (held s) ≡ true
  pub rows : most.rows ≡ most_in s
  pub next : most.next ≡ (decode s).next

-- ---- what the walks and the whole test hand on

-- The totals and the marks of the active claims, if these fit.
unfoldable pub walked_of : LawDisk → Option Walked
walked_of d =
    cond (actives_fit d) (Some (record { totals = totals_of d.core.active; marks = marks_of d.core.active })) None

-- The marks of the waiting claims, added to others, if these claims fit.
unfoldable pub waited_of : LawDisk → Marks → Option Marks
waited_of d m = cond (waitings_fit d) (Some (marks_from m d.waiting)) None

-- The totals of the active claims, if the disk is sound.
unfoldable pub seen_of : LawDisk → Option Totals
seen_of d = cond (sound disk_table d) (Some (totals_of d.core.active)) None
