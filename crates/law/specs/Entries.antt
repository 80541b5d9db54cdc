-- The compatibility of two methods: an entry A, N, D or G, computed from their kinds. For the disk it is 01's table (TableLaws).
use Rattle.std.specs.Prelude.{ℕ, Bool, true, false, cond, get_or}
use Rattle.law.specs.declared.Claim.{Claim}
use Rattle.law.specs.declared.Entry.{Entry}
use Rattle.law.specs.declared.Entry.TheVariants.{A, N, D, G}
use Rattle.law.specs.Types.{Attribute, metric, same, within, Kind, sets, adds, reads, Table}

-- A write of a beside a reading of mask m: G if m has a (N if a is the state), otherwise A.
abbrev pub entry_read : Attribute → ℕ → Entry
entry_read a m = cond (within m a) (cond (metric a) G N) A

-- Two sets of the same metric attribute: D. A set and an add of the same attribute: N. Two adds: A. A reading and a write of a metric
-- attribute that it reads: G. Two methods on the state: N, unless both read it (no method adds to a state). Everything else: A.
abbrev pub entry_by : Kind → Kind → Entry
entry_by (sets a) (sets b) = cond (same a b) (cond (metric a) D N) A
entry_by (sets a) (adds b) = cond (same a b) N A
entry_by (sets a) (reads m) = entry_read a m
entry_by (adds a) (sets b) = cond (same a b) N A
entry_by (adds a) (adds b) = A
entry_by (adds a) (reads m) = entry_read a m
entry_by (reads m) (sets b) = entry_read b m
entry_by (reads m) (adds b) = entry_read b m
entry_by (reads m) (reads n) = A

abbrev pub is_always : Entry → Bool
is_always A = true
is_always N = false
is_always D = false
is_always G = false

abbrev pub is_never : Entry → Bool
is_never A = false
is_never N = true
is_never D = false
is_never G = false

module _ (t : Table) where
  -- The kind of method m; an unknown method is a reading of nothing.
  abbrev pub kind_at : ℕ → Kind
  kind_at m = get_or t.kinds m (reads 0)

  abbrev pub kind_of : Claim → Kind
  kind_of c = kind_at c.method

  -- The entry of the active claim w and the requested claim c.
  abbrev pub entry : Claim → Claim → Entry
  entry w c = entry_by (kind_of w) (kind_of c)
