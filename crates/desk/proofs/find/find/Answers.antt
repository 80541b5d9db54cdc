-- The slots that are lent hold the claims of that status.
use Rattle.std.proofs.Common.{ℕ, ◌+◌, ◌-◌, List, ◌≡◌, take, drop, arith}
use Rattle.num.specs.Word.{Bytes}
use Rattle.rules.specs.Rows.{Row}
use Rattle.part.specs.declared.status.Status.{Status}
use Rattle.part.specs.declared.status.Status.TheVariants.{Active, Waiting}
use Rattle.part.specs.Layout.{slots, decode}
use Rattle.part.specs.Held.{HoldsDisk}
use Rattle.part.specs.Status.{slots_of, places_in, count_in}
use Rattle.part.specs.PartLaws.{disk_good}
use Rattle.slots.specs.Slots.{Slots}
use Rattle.change.specs.HoldingLaws.{disk_holds, active_lent, active_slots, waiting_lent, waiting_slots}
use Rattle.desk.proofs.find.find.Goals as goal

wide : (at : ℕ) → at + 352 - at ≡ 352
wide at = omega arith

module _ {s : List ℕ} (disk : HoldsDisk s) (bytes : Bytes s) where
  lent : (t : Status) → Slots (take 352 (drop (slots_of t) s))
  lent Active = active_lent (disk_holds disk bytes)
  lent Waiting = waiting_lent (disk_holds disk bytes)

  claims : (t : Status) → slots 8 (take 352 (drop (slots_of t) s)) ≡ places_in t (decode s)
  claims Active = active_slots (disk_holds disk bytes)
  claims Waiting = waiting_slots (disk_holds disk bytes)

  row : (t : Status) → Row (places_in t (decode s)) (count_in t (decode s))
  row Active = (disk_good disk).active
  row Waiting = (disk_good disk).waiting

pub find_in-requires-clause-slots : goal.find_in-requires-clause-slots
find_in-requires-clause-slots c = rw (wide, c.slots_at-at.ensures.value) (lent c.requires c.fits-s c.args.status)

pub find_in-requires-clause-row : goal.find_in-requires-clause-row
find_in-requires-clause-row c =
    rw (wide, c.slots_at-at.ensures.value, c.count_at-n.ensures, claims c.requires c.fits-s c.args.status)
    (row c.requires c.fits-s c.args.status)

pub returns : goal.returns
returns c =
    rw (wide, c.slots_at-at.ensures.value, c.count_at-n.ensures, claims c.requires c.fits-s c.args.status) at c.find_in.ensures
