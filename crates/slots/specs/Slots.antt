-- Eight slots in bytes, and the readings among their claims raised by the grant of a write.
use Rattle.std.specs.Prelude.{ℕ, ◌+◌, ◌*◌, ◌<◌, false, true, List, ◌++◌, map, ◌≡◌, length, take, drop, get_or}
use Rattle.law.specs.declared.Claim.{Claim}
use Rattle.law.specs.declared.Entry.{Entry}
use Rattle.law.specs.declared.Entry.TheVariants.{A, N, D, G}
use Rattle.law.specs.Entries.{entry_by, kind_at, kind_of}
use Rattle.law.specs.Granting.{put_told}
use Rattle.law.specs.DiskType.{disk_table}
use Rattle.rules.specs.Rows.{no_claim}
use Rattle.rules.specs.Pairs.{lets_by}
use Rattle.part.specs.Layout.{slot_bytes, slots, in_slots}

-- Eight slots: there are as many bytes as they take, and these are the bytes of their claims, so that every other byte is zero.
pub record Slots (row : List ℕ) : Type 0 where
  pub long : length row ≡ 8 * slot_bytes
  pub canonical : in_slots (slots 8 row) ≡ row

-- The list with f applied to its first i elements.
abbrev pub map_to : {X : Type 0} → ℕ → (X → X) → List X → List X
map_to i f l = map f (take i l) ++ drop i l

-- The active claim x after the grant of a write with which its entry is e: under G its amount grows by `raise`.
abbrev pub raise_by : Claim → Entry → ℕ → Claim
raise_by x A raise = x
raise_by x N raise = x
raise_by x D raise = x
raise_by x G raise = put_told x x.told (x.amount + raise)

-- The active claim x after the grant of a write of method m.
abbrev pub raise_with : ℕ → ℕ → Claim → Claim
raise_with m raise x = raise_by x (entry_by (kind_of disk_table x) (kind_at disk_table m)) raise

-- The grant of a write of method m raises none of the first n claims past its limit.
abbrev pub Raisable : List Claim → ℕ → ℕ → ℕ → Type 0
Raisable cs n m raise =
    (i : ℕ) → i < n →
    lets_by (entry_by (kind_of disk_table (get_or cs i no_claim)) (kind_at disk_table m)) false
    (get_or cs i no_claim).amount (get_or cs i no_claim).error raise
    ≡ true
