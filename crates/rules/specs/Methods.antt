-- What the code says of a method and of one claim, over the law's kinds.
use Rattle.std.specs.Prelude.{ℕ, ◌+◌, Bool, true, false, cond, Result, Ok, Err, List, [], ◌∷◌, leb, ltb, ℤ, get_or}
use Rattle.num.specs.Metric.{size}
use Rattle.law.specs.declared.Attr.{Attr}
use Rattle.law.specs.declared.Claim.{Claim}
use Rattle.law.specs.Base.{all_true}
use Rattle.law.specs.Types.{most_value, most_error, most_state, most_flag, Attribute, a0, a1, a2, Kind, sets, adds, reads, Figures, attr, Core}
use Rattle.law.specs.Entries.{kind_at}
use Rattle.law.specs.Granting.{fresh, addable, bearable}
use Rattle.law.specs.DiskType.{disk_table}
use Rattle.rules.specs.declared.figures.Figures.{Figures as CodeFigures}
use Rattle.rules.specs.declared.method.Method.{Method}
use Rattle.rules.specs.declared.method.Method.TheVariants as M
use Rattle.rules.specs.declared.method.Unknown.{Unknown}

-- The figures of a disk.
abbrev pub figures_of : Attr → Attr → Attr → Figures
figures_of used promised state = record { f0 = used; f1 = promised; f2 = state }

-- The figures of the code, as the law has them.
abbrev pub in_law : CodeFigures → Figures
in_law f = figures_of f.used f.promised f.state

-- The methods by their numbers; from 7 on there is none.
abbrev pub methods : List Method
methods =
    M.ReportUsed ∷ M.AddPromised ∷ M.SetPromised ∷ M.SetState ∷ M.ReadUsed ∷ M.ReadLoad ∷ M.ReadState ∷ []

unfoldable pub method_of : ℕ → Result Method Unknown
method_of m = cond (ltb m 7) (Ok (get_or methods m M.ReportUsed)) (Err (record {}))

-- The masks of what a method sets, adds to, reads and writes.
abbrev pub mask_of : Attribute → ℕ
mask_of a0 = 1
mask_of a1 = 2
mask_of a2 = 4

abbrev pub sets_by : Kind → ℕ
sets_by (sets a) = mask_of a
sets_by (adds a) = 0
sets_by (reads m) = 0

abbrev pub adds_by : Kind → ℕ
adds_by (sets a) = 0
adds_by (adds a) = mask_of a
adds_by (reads m) = 0

abbrev pub reads_by : Kind → ℕ
reads_by (sets a) = 0
reads_by (adds a) = 0
reads_by (reads m) = m

abbrev pub writes_by : Kind → ℕ
writes_by (sets a) = mask_of a
writes_by (adds a) = mask_of a
writes_by (reads m) = 0

unfoldable pub set_mask : ℕ → ℕ
set_mask m = sets_by (kind_at disk_table m)

unfoldable pub add_mask : ℕ → ℕ
add_mask m = adds_by (kind_at disk_table m)

unfoldable pub read_mask : ℕ → ℕ
read_mask m = reads_by (kind_at disk_table m)

unfoldable pub write_mask : ℕ → ℕ
write_mask m = writes_by (kind_at disk_table m)

-- How large the fields of a claim may be, by the limits of used and promised and the clock: for each field a row of seven, by method.
-- Its value; its error; its second of measuring; its flag; what it was told.
abbrev pub bounds_of : ℕ → ℕ → ℕ → List ℕ
bounds_of used promised clock =
    most_value ∷ most_value ∷ most_value ∷ most_state ∷ 0 ∷ 0 ∷ 0
    ∷ used ∷ promised ∷ promised ∷ 0 ∷ most_error ∷ most_error ∷ most_error
    ∷ clock ∷ clock ∷ clock ∷ clock ∷ 0 ∷ 0 ∷ 0
    ∷ 0 ∷ 0 ∷ 0 ∷ 0 ∷ most_flag ∷ most_flag ∷ most_flag
    ∷ 0 ∷ 0 ∷ 0 ∷ 0 ∷ most_error ∷ most_error ∷ most_error ∷ []

-- ---- the kinds that a test tells apart

abbrev pub is_reading : Kind → Bool
is_reading (sets a) = false
is_reading (adds a) = false
is_reading (reads m) = true

abbrev pub is_add : Kind → Bool
is_add (sets a) = false
is_add (adds a) = true
is_add (reads m) = false

-- It sets the state.
abbrev pub sets_state : Kind → Bool
sets_state (sets a0) = false
sets_state (sets a1) = false
sets_state (sets a2) = true
sets_state (adds a) = false
sets_state (reads m) = false

-- The attribute that a write writes; the state for a reading.
abbrev pub written_by : Figures → Kind → Attr
written_by f (sets a) = attr f a
written_by f (adds a) = attr f a
written_by f (reads m) = attr f a2

-- A disk with these figures and no active claims, at second now.
abbrev pub alone : Figures → ℕ → Core
alone f now = record { clock = now; figures = f; active = [] }

-- Precondition (a) looks at the clock and the figures alone.
unfoldable pub fresh_at : Figures → ℕ → Kind → ℕ → Bool
fresh_at f now k flag = fresh disk_table (alone f now) k flag

-- Precondition (d), with the sum of the active adds handed in.
abbrev pub ranged_by : Figures → ℕ → Kind → ℤ → Bool
ranged_by f sum (sets a) z = true
ranged_by f sum (adds a) d = leb (size (attr f a).value + sum + size d) most_value
ranged_by f sum (reads m) z = true

-- Preconditions (a) to (d), with the sum of the active adds handed in.
unfoldable pub pre_of : Figures → ℕ → ℕ → Claim → Bool
pre_of f now sum c =
    all_true
    (fresh_at f now (kind_at disk_table c.method) c.flag
    ∷ addable disk_table (alone f now) (kind_at disk_table c.method) c.error
    ∷ bearable disk_table (alone f now) (kind_at disk_table c.method) c.error
    ∷ ranged_by f sum (kind_at disk_table c.method) c.value
    ∷ [])
