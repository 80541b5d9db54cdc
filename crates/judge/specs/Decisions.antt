-- What the walks over the claims of a disk ask of each, and the decision that they come to.
use Rattle.std.specs.Prelude.{ℕ, Bool, true, false, cond, Option, Some, None, List, ◌≡◌, take}
use Rattle.law.specs.declared.Claim.{Claim}
use Rattle.law.specs.Base.{every_of, sum_of}
use Rattle.law.specs.Types.{Figures, Core}
use Rattle.law.specs.Entries.{kind_at, entry_by}
use Rattle.law.specs.Granting.{total, granted}
use Rattle.law.specs.DiskType.{disk_table}
use Rattle.rules.specs.Methods.{is_reading}
use Rattle.rules.specs.Pairs.{lets_by, cost_between, raise_of, bars_by}
use Rattle.rules.specs.declared.disk.Disk.{Disk}

-- The active claim w lets c pass.
unfoldable pub lets_of : Figures → Claim → Claim → Bool
lets_of f c w =
    lets_by (entry_by (kind_at disk_table w.method) (kind_at disk_table c.method)) (is_reading (kind_at disk_table c.method))
    w.amount w.error (raise_of f c)

-- What w adds to the total of c.
unfoldable pub cost_of : Figures → Claim → Claim → ℕ
cost_of f c w =
    cost_between f (entry_by (kind_at disk_table w.method) (kind_at disk_table c.method)) (is_reading (kind_at disk_table c.method)) c w

-- The waiting claim w bars one of a priority and a method, with the sum of the active adds handed in.
unfoldable pub bars_at : Figures → ℕ → ℕ → ℕ → ℕ → Claim → Bool
bars_at f now sum priority m w =
    bars_by f now sum priority (entry_by (kind_at disk_table w.method) (kind_at disk_table m)) w

-- It bars c.
abbrev pub bars_of : Figures → ℕ → ℕ → Claim → Claim → Bool
bars_of f now sum c = bars_at f now sum c.priority c.method

-- The active claims of a disk.
abbrev pub actives_in : Disk → List Claim
actives_in d = take d.actives d.active

-- The lock step of c over active claims: what they add to its total, if each lets it pass.
unfoldable pub locked : Figures → Claim → List Claim → Option ℕ
locked f c ws = cond (every_of (lets_of f c) ws) (Some (sum_of (cost_of f c) ws)) None

-- The decision on a claim behind those ahead: its total, if it is granted.
unfoldable pub decided : Core → List Claim → Claim → Option ℕ
decided s ahead c = cond (granted disk_table s ahead c) (Some (total disk_table s c)) None

-- A decision on a claim behind those ahead, and its total where it is granted, else 0: what `decided` says, in two values.
pub record DecidedIs (ok : Bool) (sum : ℕ) (s : Core) (ahead : List Claim) (c : Claim) : Type 0 where
  pub says : ok ≡ granted disk_table s ahead c
  pub counts : ok ≡ true → sum ≡ total disk_table s c
  pub fails : ok ≡ false → sum ≡ 0
