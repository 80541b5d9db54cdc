-- The disk by value, and the disk of the law that it stands for.
use Rattle.std.specs.Prelude.{◌-◌, ◌≤◌, List, ◌++◌, ◌≡◌, length, take, replicate}
use Rattle.num.specs.Metric.{size}
use Rattle.law.specs.declared.Claim.{Claim}
use Rattle.law.specs.Types.{Figures, Core, Disk as LawDisk}
use Rattle.law.specs.Entries.{kind_of}
use Rattle.law.specs.Granting.{told_by, grant}
use Rattle.law.specs.DiskType.{disk_table}
use Rattle.rules.specs.Rows.{Row, no_claim}
use Rattle.rules.specs.Methods.{figures_of}
use Rattle.rules.specs.Pairs.{core_of}
use Rattle.rules.specs.declared.disk.Disk.{Disk}
use Rattle.rules.specs.declared.figures.Figures.{Figures as CodeFigures}

abbrev pub figures_in : Disk → Figures
figures_in d = figures_of d.used d.promised d.state

-- The same as the code has them.
abbrev pub figures_at : Disk → CodeFigures
figures_at d = record { used = d.used; promised = d.promised; state = d.state }

-- The disk as a decision sees it.
abbrev pub core_in : Disk → Core
core_in d = core_of (figures_in d) d.clock (take d.actives d.active)

-- The disk of the law.
abbrev pub disk_of : Disk → LawDisk
disk_of d = record { core = core_in d; waiting = take d.waitings d.waiting; next = d.next }

-- Both arrays are clear past their counts, so that a disk of the law has one such disk.
pub record Good (d : Disk) : Type 0 where
  pub active : Row d.active d.actives
  pub waiting : Row d.waiting d.waitings

-- A good disk that stands for e.
pub record DiskIs (d : Disk) (e : LawDisk) : Type 0 where
  pub good : Good d
  pub is : disk_of d ≡ e

-- The grant of c.
abbrev pub grant_of : LawDisk → Claim → LawDisk
grant_of e c = record { core = grant disk_table e.core c; waiting = e.waiting; next = e.next }

-- What a granted claim is told is in range.
abbrev pub ToldFits : Disk → Claim → Type 0
ToldFits d c = size (told_by (figures_in d) (kind_of disk_table c)) ≤ 2_000_000_000

-- ---- the disk by value of a disk of the law

-- A list of at most eight claims in its array.
abbrev pub padded : List Claim → List Claim
padded ws = ws ++ replicate (8 - length ws) no_claim

unfoldable pub by_value : LawDisk → Disk
by_value e =
    record {
      clock = e.core.clock;
      next = e.next;
      actives = length e.core.active;
      waitings = length e.waiting;
      used = e.core.figures.f0;
      promised = e.core.figures.f1;
      state = e.core.figures.f2;
      active = padded e.core.active;
      waiting = padded e.waiting;
    }
