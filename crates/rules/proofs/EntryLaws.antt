-- Laws of methods and their entries: what holds of each kind, and the entries of a method that there is not.
use Prim.Native.Nat.{ℕ, zero, suc, ◌≤◌}
use mathlib.Core.Bool.{Bool, true, false, ◌&&◌}
use mathlib.Core.Path.{◌≡◌, refl, sym, ap, ◌∙◌}
use Rattle.num.specs.Bits.{has_bit}
use Rattle.law.specs.declared.Entry.TheVariants.{A}
use Rattle.law.specs.Types.{a0, a1, a2, Kind, sets, adds, reads}
use Rattle.law.specs.Entries.{kind_at, entry_by}
use Rattle.law.specs.Granting.{adds_to}
use Rattle.law.specs.DiskType.{disk_table}
use Rattle.rules.specs.Methods.{is_add}
use Rattle.rules.proofs.MethodLaws.{method_past}

-- ---- methods

-- A fact of the kind of each of the disk's methods, and of the kind of one that there is not, is a fact of every method's kind.
pub each_kind : (P : Kind → Type 0) → P (sets a0) → P (adds a1) → P (sets a1) → P (sets a2) →
    P (reads 1) → P (reads 3) → P (reads 4) → P (reads 0) → (m : ℕ) → P (kind_at disk_table m)
unfolding disk_table
each_kind P p0 p1 p2 p3 p4 p5 p6 p7 zero = p0
each_kind P p0 p1 p2 p3 p4 p5 p6 p7 (suc zero) = p1
each_kind P p0 p1 p2 p3 p4 p5 p6 p7 (suc (suc zero)) = p2
each_kind P p0 p1 p2 p3 p4 p5 p6 p7 (suc (suc (suc zero))) = p3
each_kind P p0 p1 p2 p3 p4 p5 p6 p7 (suc (suc (suc (suc zero)))) = p4
each_kind P p0 p1 p2 p3 p4 p5 p6 p7 (suc (suc (suc (suc (suc zero))))) = p5
each_kind P p0 p1 p2 p3 p4 p5 p6 p7 (suc (suc (suc (suc (suc (suc zero)))))) = p6
each_kind P p0 p1 p2 p3 p4 p5 p6 p7 (suc (suc (suc (suc (suc (suc (suc m))))))) = p7

-- Whatever adds adds to attribute 1.
pub add_is : (m : ℕ) → is_add (kind_at disk_table m) ≡ adds_to a1 (kind_at disk_table m)
add_is m = each_kind (λ k. is_add k ≡ adds_to a1 k) refl refl refl refl refl refl refl refl m

-- A method that there is not goes with all, as the row and as the column.
past : (k : Kind) → (A ≡ entry_by (reads 0) k) × (A ≡ entry_by k (reads 0))
unfolding has_bit
past (sets a0) = (refl, refl)
past (sets a1) = (refl, refl)
past (sets a2) = (refl, refl)
past (adds a0) = (refl, refl)
past (adds a1) = (refl, refl)
past (adds a2) = (refl, refl)
past (reads m) = (refl, refl)

pub entry_row_past : (m n : ℕ) → 7 ≤ m → A ≡ entry_by (kind_at disk_table m) (kind_at disk_table n)
entry_row_past m n h = (past (kind_at disk_table n)).0 ∙ ap (λ k. entry_by k (kind_at disk_table n)) (sym (method_past m h))

pub entry_col_past : (m n : ℕ) → 7 ≤ n → A ≡ entry_by (kind_at disk_table m) (kind_at disk_table n)
entry_col_past m n h = (past (kind_at disk_table m)).1 ∙ ap (entry_by (kind_at disk_table m)) (sym (method_past n h))

-- The last test of a list of tests.
pub last_test : (b : Bool) → b ≡ (b && true)
last_test true = refl
last_test false = refl
