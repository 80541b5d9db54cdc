-- 01's disk type: its methods, its validities and its compatibility table, a row a line.
use Rattle.std.specs.Prelude.{ℕ, List, [], ◌∷◌, get_or}
use Rattle.law.specs.declared.Entry.{Entry}
use Rattle.law.specs.declared.Entry.TheVariants.{A, N, D, G}
use Rattle.law.specs.Types.{Attribute, a0, a1, a2, Kind, sets, adds, reads, Table}

-- 0 ReportUsed sets used; 1 AddPromised adds to promised; 2 SetPromised; 3 SetState; 4 ReadUsed; 5 ReadLoad, told
-- used + promised; 6 ReadState.
abbrev pub disk_kinds : List Kind
disk_kinds = sets a0 ∷ adds a1 ∷ sets a1 ∷ sets a2 ∷ reads 1 ∷ reads 3 ∷ reads 4 ∷ []

-- Valid for 300, 300 and 3,600 seconds.
abbrev pub disk_valid : ℕ → Attribute → ℕ
disk_valid flag a0 = 300
disk_valid flag a1 = 300
disk_valid flag a2 = 3_600

unfoldable pub disk_table : Table
disk_table = record { kinds = disk_kinds; valid = disk_valid }

-- The compatibility table. Row: active method; column: requested. TableLaws proves that it is the rule by kinds, and symmetric.
unfoldable pub disk_entries : List (List Entry)
disk_entries =
    (D ∷ A ∷ A ∷ A ∷ G ∷ G ∷ A ∷ [])
    ∷ (A ∷ A ∷ N ∷ A ∷ A ∷ G ∷ A ∷ [])
    ∷ (A ∷ N ∷ D ∷ A ∷ A ∷ G ∷ A ∷ [])
    ∷ (A ∷ A ∷ A ∷ N ∷ A ∷ A ∷ N ∷ [])
    ∷ (G ∷ A ∷ A ∷ A ∷ A ∷ A ∷ A ∷ [])
    ∷ (G ∷ G ∷ G ∷ A ∷ A ∷ A ∷ A ∷ [])
    ∷ (A ∷ A ∷ A ∷ N ∷ A ∷ A ∷ A ∷ [])
    ∷ []

-- The entry of an active and a requested method, looked up in the constant.
abbrev pub entry_at : ℕ → ℕ → Entry
entry_at active requested = get_or (get_or disk_entries active []) requested A
