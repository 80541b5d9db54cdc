-- Laws of proper disk types: every method's kind is proper, an unknown method's too; 01's disk type is proper.
use Rattle.std.specs.Prelude.{ℕ, true, ◌≡◌, refl}
use Rattle.num.specs.Bits.{has_bit}
use Rattle.law.specs.Types.{reads, Table, proper_kind, Proper}
use Rattle.law.specs.DiskType.{disk_table}
use Rattle.law.specs.Says.{every_at}
use Rattle.law.specs.Entries.{kind_at}

pub proper_kind_lem : (t : Table) → Proper t → (m : ℕ) → proper_kind (kind_at t m) ≡ true
unfolding has_bit
proper_kind_lem t p m = every_at proper_kind (reads 0) refl t.kinds p.proper m

pub disk_proper : Proper disk_table
unfolding disk_table has_bit
disk_proper = record { proper = refl }
