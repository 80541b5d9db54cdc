-- Laws of the methods: their kinds and masks by number, and what a claim reads, is told, carries and writes by the masks of its kind.
use Prim.Native.Nat.{ℕ, zero, suc, ◌≤◌}
use mathlib.Core.Bool.{cond}
use mathlib.Core.Path.{◌≡◌, refl, sym, ap, ◌∙◌}
use native.Mathlib.Omega.{arith}
use borrow.Author.Tests.{le-ltb}
use lib.Bits.{bit_or}
use lib.ListN.{get_or-eq_default}
use Rattle.std.specs.Prelude.{Result, Ok, Err}
use Rattle.num.specs.Bits.{has_bit}
use Rattle.law.specs.Types.{a0, a1, a2, Kind, sets, adds, reads, Figures}
use Rattle.law.specs.Readings.{present, carried}
use Rattle.law.specs.Entries.{kind_at}
use Rattle.law.specs.Granting.{told_by, carried_by}
use Rattle.law.specs.DiskType.{disk_table}
use Rattle.rules.specs.declared.method.Method.{Method}
use Rattle.rules.specs.declared.method.Method.TheVariants as M
use Rattle.rules.specs.declared.method.Unknown.{Unknown}
use Rattle.rules.specs.Masks.{masks_by, masks_of}
use Rattle.rules.specs.Methods.{method_of, sets_by, adds_by, reads_by, writes_by, set_mask, add_mask, read_mask, write_mask, written_by}

-- ---- by method

-- An unknown method reads nothing.
pub method_past : (m : ℕ) → 7 ≤ m → kind_at disk_table m ≡ reads 0
unfolding disk_table
method_past m h = get_or-eq_default disk_table.kinds (reads 0) h

-- What holds of the seven methods and of any other number holds of all.
pub method_cases : (P : ℕ → Type 0) → P 0 → P 1 → P 2 → P 3 → P 4 → P 5 → P 6 → ((m : ℕ) → 7 ≤ m → P m) → (m : ℕ) → P m
method_cases P p0 p1 p2 p3 p4 p5 p6 more zero = p0
method_cases P p0 p1 p2 p3 p4 p5 p6 more (suc zero) = p1
method_cases P p0 p1 p2 p3 p4 p5 p6 more (suc (suc zero)) = p2
method_cases P p0 p1 p2 p3 p4 p5 p6 more (suc (suc (suc zero))) = p3
method_cases P p0 p1 p2 p3 p4 p5 p6 more (suc (suc (suc (suc zero)))) = p4
method_cases P p0 p1 p2 p3 p4 p5 p6 more (suc (suc (suc (suc (suc zero))))) = p5
method_cases P p0 p1 p2 p3 p4 p5 p6 more (suc (suc (suc (suc (suc (suc zero)))))) = p6
method_cases P p0 p1 p2 p3 p4 p5 p6 more (suc (suc (suc (suc (suc (suc (suc m))))))) =
    more (suc (suc (suc (suc (suc (suc (suc m))))))) (omega arith)

-- The kind of each method, and of what is no method.
abbrev pub kind_found : Result Method Unknown → Kind
kind_found (Ok M.ReportUsed) = sets a0
kind_found (Ok M.AddPromised) = adds a1
kind_found (Ok M.SetPromised) = sets a1
kind_found (Ok M.SetState) = sets a2
kind_found (Ok M.ReadUsed) = reads 1
kind_found (Ok M.ReadLoad) = reads 3
kind_found (Ok M.ReadState) = reads 4
kind_found (Err u) = reads 0

-- The kind of a number is that of the method that it is.
kind_is : (m : ℕ) → kind_at disk_table m ≡ kind_found (method_of m)
unfolding disk_table method_of
kind_is =
    method_cases (λ m. kind_at disk_table m ≡ kind_found (method_of m)) refl refl refl refl refl refl refl
    (λ m h. rw (method_past m h, le-ltb m 7 h))

-- So it is by what the number was found to be.
pub kind_by : (m : ℕ) {r : Result Method Unknown} → r ≡ method_of m → kind_at disk_table m ≡ kind_found r
kind_by m e = kind_is m ∙ ap kind_found (sym e)

-- And so are its masks.
pub masks_found : (m : ℕ) {r : Result Method Unknown} → r ≡ method_of m →
    masks_of m ≡ masks_by (sets_by (kind_found r)) (adds_by (kind_found r)) (reads_by (kind_found r))
unfolding masks_of set_mask add_mask read_mask
masks_found m e = rw (kind_by m e)

-- What a method writes is what it sets and what it adds to.
write_by : (k : Kind) → bit_or (sets_by k) (adds_by k) ≡ writes_by k
write_by (sets a0) = refl
write_by (sets a1) = refl
write_by (sets a2) = refl
write_by (adds a0) = refl
write_by (adds a1) = refl
write_by (adds a2) = refl
write_by (reads m) = refl

pub write_is : (m : ℕ) → bit_or (set_mask m) (add_mask m) ≡ write_mask m
unfolding set_mask add_mask write_mask
write_is m = write_by (kind_at disk_table m)

-- ---- by kind, and so by the masks of a method

module _ (f : Figures) where
  carried_by_lem : (k : Kind) → carried f (reads_by k) ≡ carried_by f k
  unfolding has_bit
  carried_by_lem (sets a) = refl
  carried_by_lem (adds a) = refl
  carried_by_lem (reads m) = refl

  -- The error carried is the sum of the amounts read.
  pub carried_of : (m : ℕ) → carried f (read_mask m) ≡ carried_by f (kind_at disk_table m)
  unfolding read_mask
  carried_of m = carried_by_lem (kind_at disk_table m)

  told_by_lem : (k : Kind) → present f (reads_by k) ≡ told_by f k
  unfolding has_bit
  told_by_lem (sets a) = refl
  told_by_lem (adds a) = refl
  told_by_lem (reads m) = refl

  -- What is told is the sum of the values read.
  pub told_of_lem : (m : ℕ) → present f (read_mask m) ≡ told_by f (kind_at disk_table m)
  unfolding read_mask
  told_of_lem m = told_by_lem (kind_at disk_table m)

  written_by_lem : (k : Kind) → cond (has_bit (writes_by k) 0) f.f0 (cond (has_bit (writes_by k) 1) f.f1 f.f2) ≡ written_by f k
  unfolding has_bit
  written_by_lem (sets a0) = refl
  written_by_lem (sets a1) = refl
  written_by_lem (sets a2) = refl
  written_by_lem (adds a0) = refl
  written_by_lem (adds a1) = refl
  written_by_lem (adds a2) = refl
  written_by_lem (reads m) = refl

  -- A write's mask tells its attribute.
  pub written_of : (m : ℕ) →
      cond (has_bit (write_mask m) 0) f.f0 (cond (has_bit (write_mask m) 1) f.f1 f.f2) ≡ written_by f (kind_at disk_table m)
  unfolding write_mask
  written_of m = written_by_lem (kind_at disk_table m)
