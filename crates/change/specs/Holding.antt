-- The disk by value that a part holds while it is changed, and the changes.
use Rattle.std.specs.Prelude.{ℕ, ◌+◌, ◌≤◌, true, List, ◌++◌, map, ◌≡◌, take, drop, set}
use Rattle.num.specs.Metric.{size}
use Rattle.law.specs.declared.Claim.{Claim}
use Rattle.law.specs.Types.{Figures}
use Rattle.law.specs.Entries.{kind_at, kind_of}
use Rattle.law.specs.Granting.{note_by, raised}
use Rattle.law.specs.Calls.{land_by}
use Rattle.law.specs.DiskType.{disk_table}
use Rattle.rules.specs.Methods.{sets_state}
use Rattle.rules.specs.declared.disk.Disk.{Disk}
use Rattle.rules.specs.Disks.{figures_in, core_in}
use Rattle.part.specs.Layout.{encode, DiskFits}

-- The part s holds the disk by value d, of which every figure has its place.
pub record Holds (s : List ℕ) (d : Disk) : Type 0 where
  pub is : s ≡ encode d
  pub fits : DiskFits d

-- The disk with other figures.
abbrev pub with_figures : Disk → Figures → Disk
with_figures d f =
    record {
      clock = d.clock;
      next = d.next;
      actives = d.actives;
      waitings = d.waitings;
      used = f.f0;
      promised = f.f1;
      state = f.f2;
      active = d.active;
      waiting = d.waiting;
    }

-- The disk with another array of active claims.
abbrev pub with_active : Disk → List Claim → Disk
with_active d a =
    record {
      clock = d.clock;
      next = d.next;
      actives = d.actives;
      waitings = d.waitings;
      used = d.used;
      promised = d.promised;
      state = d.state;
      active = a;
      waiting = d.waiting;
    }

-- The disk with other numbers in its head: the clock, the next ticket and the two counts.
abbrev pub numbered : Disk → ℕ → ℕ → ℕ → ℕ → Disk
numbered d clock next actives waitings =
    record {
      clock = clock;
      next = next;
      actives = actives;
      waitings = waitings;
      used = d.used;
      promised = d.promised;
      state = d.state;
      active = d.active;
      waiting = d.waiting;
    }

-- The disk with another array of waiting claims, of which the first n wait.
abbrev pub with_waiting : Disk → ℕ → List Claim → Disk
with_waiting d n ws =
    record {
      clock = d.clock;
      next = d.next;
      actives = d.actives;
      waitings = n;
      used = d.used;
      promised = d.promised;
      state = d.state;
      active = d.active;
      waiting = ws;
    }

-- The disk with the claim c behind n active ones.
abbrev pub with_last : Disk → ℕ → Claim → Disk
with_last d n c = numbered (with_active d (set d.active n c)) d.clock d.next (n + 1) d.waitings

-- ---- what ends and what is granted

-- The figures after the end of the active claim w.
unfoldable pub land_of : Disk → Claim → Disk
land_of d w = with_figures d (land_by (figures_in d) (kind_of disk_table w) w)

-- An add can land: the sum of the two sizes is in range.
abbrev pub LandFits : Disk → Claim → Type 0
LandFits d w = size d.promised.value + size w.value ≤ 2_000_000_000

-- The figures with the total of a granted write of method m noted.
abbrev pub noted : Disk → ℕ → ℕ → Disk
noted d m total = with_figures d (note_by (figures_in d) (kind_at disk_table m) total)

-- A total can be noted: the state has no place for one, so a set of the state has total 0.
abbrev pub NoteFits : ℕ → ℕ → Type 0
NoteFits m total = sets_state (kind_at disk_table m) ≡ true → total ≡ 0

-- Every active claim raised by the grant of c; the places behind them stay as they are.
unfoldable pub raised_of : Disk → Claim → Disk
raised_of d c =
    with_active d (map (raised disk_table (core_in d) c) (take d.actives d.active) ++ drop d.actives d.active)
