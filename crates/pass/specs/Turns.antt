-- A turn of the pass on a part, and what the pass leaves.
use Rattle.std.specs.Prelude.{ℕ, ◌+◌, ◌-◌, ◌*◌, ◌≤◌, Bool, true, false, List, ◌≡◌, take, get_or, set}
use Rattle.num.specs.Runs.{splice}
use Rattle.law.specs.declared.Claim.{Claim}
use Rattle.law.specs.Types.{most_error, Attribute, attr, Item, Disk as LawDisk}
use Rattle.law.specs.Fields.{ValueFits}
use Rattle.law.specs.Granting.{granted, grant_item}
use Rattle.law.specs.Calls.{pass}
use Rattle.law.specs.DiskType.{disk_table}
use Rattle.rules.specs.Rows.{no_claim}
use Rattle.rules.specs.declared.disk.Disk.{Disk}
use Rattle.rules.specs.Disks.{figures_in, core_in, disk_of, DiskIs, grant_of}
use Rattle.answer.specs.declared.Answer.{Answer}
use Rattle.answer.specs.declared.Answer.TheVariants.{Granted}
use Rattle.answer.specs.Answers.{item_bytes}
use Rattle.change.specs.Holding.{with_waiting}

-- The answer of a grant.
abbrev pub grant_answer : Item → Answer
grant_answer i = Granted i.ticket i.told i.amount

-- The item that shows the grant of c on the disk d.
abbrev pub item_of : Disk → Claim → List ℕ
item_of d c = item_bytes (grant_answer (grant_item disk_table (core_in d) c))

-- The claim at place i, which is tried, and those in front, which still wait.
abbrev pub tried : Disk → ℕ → Claim
tried d i = get_or d.waiting i no_claim

abbrev pub front : Disk → ℕ → List Claim
front d k = take k d.waiting

-- What is told and counted in a turn is in range.
abbrev pub TurnFits : Disk → ℕ → Type 0
TurnFits d i =
    ((x : Attribute) → ValueFits x (attr (figures_in d) x).value) ×
    ((x : Attribute) → (attr (figures_in d) x).limit ≤ most_error) ×
    ((tried d i).error ≤ most_error)

-- The disk d with the i-th waiting claim in the k-th place.
abbrev pub kept_at : Disk → ℕ → ℕ → Disk
kept_at d i k = with_waiting d d.waitings (set d.waiting k (tried d i))

-- A turn on the disk d and the answer buffer a leaves e and b, and r claims that wait.
abbrev pub TurnBy : Bool → Disk → Disk → List ℕ → List ℕ → ℕ → ℕ → ℕ → Type 0
TurnBy true d e a b i k r =
    (r ≡ k) ×
    DiskIs e (grant_of (disk_of d) (tried d i)) ×
    (b ≡ splice a (16 + 16 * (i - k)) (item_of d (tried d i)))
TurnBy false d e a b i k r =
    (r ≡ k + 1) ×
    (e ≡ kept_at d i k) ×
    (b ≡ a)

abbrev pub Turned : Disk → Disk → List ℕ → List ℕ → ℕ → ℕ → ℕ → Type 0
Turned d e a b i k r = TurnBy (granted disk_table (core_in d) (front d k) (tried d i)) d e a b i k r

-- The disk of which the first k waiting claims wait on.
abbrev pub closed_at : Disk → ℕ → LawDisk
closed_at d k = record { core = core_in d; waiting = front d k; next = d.next }

-- The disk that the pass leaves.
unfoldable pub passed_of : LawDisk → LawDisk
passed_of e =
    record {
      core = (pass disk_table e.core e.waiting).core;
      waiting = (pass disk_table e.core e.waiting).ahead;
      next = e.next;
    }
