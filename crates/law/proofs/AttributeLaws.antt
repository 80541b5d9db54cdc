-- Laws of the three attributes: a fact of one attribute and of the others is a fact of all; and what follows from values, sums
-- and told sums being in range. Each is shown once here, for sets, adds and readings alike.
use Rattle.std.specs.Prelude.{ℕ, ◌+◌, ◌≤◌, Bool, true, false, cond, not, ◌&&◌, ◌≡◌, refl, ℤ, pos, negsuc, ◌+ℤ◌}
use Rattle.std.proofs.Common.{arith}
use Rattle.num.specs.Metric.{size, size_add}
use Rattle.law.specs.declared.Attr.{Attr}
use Rattle.law.specs.Lists.{never_true}
use Rattle.law.specs.Types.{most_value, most_error, most_state, Attribute, a0, a1, a2, metric, same, within, Kind, sets, adds, reads, proper_kind, Figures, attr, put_attr}
use Rattle.law.specs.Granting.{with_amount, note_by}
use Rattle.law.specs.Sound.{SumFits}
use Rattle.law.specs.Fields.{IsCode, ValueFits}
use Rattle.law.specs.Readings.{present}

-- ---- one attribute and the others

-- If P holds of b with its new content x, and of every attribute with its old content, it holds of all after the replacement.
pub put_all : (P : Attribute → Attr → Type 0) (f : Figures) (b : Attribute) (x : Attr) → P b x →
    ((a : Attribute) → P a (attr f a)) → (a : Attribute) → P a (attr (put_attr f b x) a)
put_all P f a0 x new others a0 = new
put_all P f a0 x new others a1 = others a1
put_all P f a0 x new others a2 = others a2
put_all P f a1 x new others a0 = others a0
put_all P f a1 x new others a1 = new
put_all P f a1 x new others a2 = others a2
put_all P f a2 x new others a0 = others a0
put_all P f a2 x new others a1 = others a1
put_all P f a2 x new others a2 = new

-- Case distinction on `same a b`: P of b with true, and of every attribute with false.
pub same_all : (P : Attribute → Bool → Type 0) (b : Attribute) → P b true → ((a : Attribute) → P a false) →
    (a : Attribute) → P a (same a b)
same_all P a0 this others a0 = this
same_all P a0 this others a1 = others a1
same_all P a0 this others a2 = others a2
same_all P a1 this others a0 = others a0
same_all P a1 this others a1 = this
same_all P a1 this others a2 = others a2
same_all P a2 this others a0 = others a0
same_all P a2 this others a1 = others a1
same_all P a2 this others a2 = this

pub same_self : (a : Attribute) → same a a ≡ true
same_self a0 = refl
same_self a1 = refl
same_self a2 = refl

pub same_turned : (a b : Attribute) → same a b ≡ same b a
same_turned a0 a0 = refl
same_turned a0 a1 = refl
same_turned a0 a2 = refl
same_turned a1 a0 = refl
same_turned a1 a1 = refl
same_turned a1 a2 = refl
same_turned a2 a0 = refl
same_turned a2 a1 = refl
same_turned a2 a2 = refl

-- ---- what a grant notes

-- Noting a total changes no field but the amount.
pub note_same : {X : Type 0} (field : Attr → X) → ((x : Attr) (n : ℕ) → field (with_amount x n) ≡ field x) →
    (f : Figures) (k : Kind) (n : ℕ) (a : Attribute) → field (attr (note_by f k n) a) ≡ field (attr f a)
note_same field kept f (sets b) n = put_all (λ a x. field x ≡ field (attr f a)) f b (with_amount (attr f b) n) (kept (attr f b) n) (λ a. refl)
note_same field kept f (adds b) n = put_all (λ a x. field x ≡ field (attr f a)) f b (with_amount (attr f b) n) (kept (attr f b) n) (λ a. refl)
note_same field kept f (reads m) n = λ a. refl

-- ---- ranges

-- A smaller sum is in range too; and every sum up to 1,000,000,000 is.
pub sum_less : (a : Attribute) (m n : ℕ) → m ≤ n → SumFits a n → SumFits a m
sum_less a0 m n h k = omega arith
sum_less a1 m n h k = omega arith
sum_less a2 m n h k = tt

pub sum_most : (a : Attribute) (n : ℕ) → n ≤ most_value → SumFits a n
sum_most a0 n h = h
sum_most a1 n h = h
sum_most a2 n h = tt

-- A value in range plus no adds is a sum in range; and if a metric attribute's sum is in range, so is its value.
pub value_sum : (a : Attribute) (z : ℤ) (n : ℕ) → n ≡ 0 → ValueFits a z → SumFits a (size z + n)
value_sum a0 z n e h = omega arith
value_sum a1 z n e h = omega arith
value_sum a2 z n e h = tt

pub sum_value : (a : Attribute) (z : ℤ) (n : ℕ) → metric a ≡ true → SumFits a (size z + n) → ValueFits a z
sum_value a0 z n e h = omega arith
sum_value a1 z n e h = omega arith
sum_value a2 z n e h = never_true (IsCode z) e

code_size : (z : ℤ) → IsCode z → size z ≤ most_state
code_size (pos n) h = h
code_size (negsuc n) h = absurd h

part_size : (b : Bool) (z : ℤ) (n : ℕ) → size z ≤ n → size (cond b z (pos 0)) ≤ n
part_size true z n h = h
part_size false z n h = omega arith

-- A proper reading is told used, promised, their sum, the state, or nothing: within ±2,000,000,000.
pub told_range : (f : Figures) (m : ℕ) → proper_kind (reads m) ≡ true → ((a : Attribute) → ValueFits a (attr f a).value) →
    size (present f m) ≤ most_error
told_range f m proper h =
    go (within m a0) (within m a1) (within m a2) (attr f a0).value (attr f a1).value (attr f a2).value proper (h a0) (h a1) (h a2)
  where
    go : (p q r : Bool) (x y z : ℤ) → cond r (not p && not q) true ≡ true → size x ≤ most_value → size y ≤ most_value → IsCode z →
        size (cond p x (pos 0) +ℤ cond q y (pos 0) +ℤ cond r z (pos 0)) ≤ most_error
    go true q true x y z e i j k = never_true (size (x +ℤ cond q y (pos 0) +ℤ z) ≤ most_error) e
    go false true true x y z e i j k = never_true (size (pos 0 +ℤ y +ℤ z) ≤ most_error) e
    go false false true x y z e i j k = omega (arith, size_add (pos 0 +ℤ pos 0) z, code_size z k)
    go p q false x y z e i j k =
        omega (
          arith,
          size_add (cond p x (pos 0) +ℤ cond q y (pos 0)) (pos 0),
          size_add (cond p x (pos 0)) (cond q y (pos 0)),
          part_size p x most_value i,
          part_size q y most_value j,
        )
