-- Laws of the rules of one claim: what each rule comes to where its method's kind is known, a law for each answer of
-- the code; and the preconditions with the sum handed in are the law's.
use Prim.Native.Nat.{ℕ, ◌+◌, ◌≤◌, ◌<◌}
use mathlib.Core.Bool.{Bool, true, false, cond, not, ◌&&◌, and-true, and-false}
use mathlib.Core.List.{[], ◌∷◌}
use mathlib.Core.Path.{◌≡◌, refl, sym}
use borrow.Author.Tests.{leb-true, leb-false, lt-ltb, le-ltb, le-leb, lt-leb, eq-eqb, ne_eqb}
use lib.Dec.{leb, ltb}
use Rattle.num.specs.Bits.{has_bit}
use Rattle.num.specs.Metric.{size}
use Rattle.law.specs.declared.Claim.{Claim}
use Rattle.law.specs.Base.{all_true}
use Rattle.law.specs.Types.{most_value, Attribute, a0, a1, a2, bit_of, Kind, sets, adds, reads, Figures, attr, Core}
use Rattle.law.specs.Readings.{carried}
use Rattle.law.specs.Entries.{kind_at}
use Rattle.law.specs.Granting.{carried_by, fresh, addable, bearable, ranged, adds_on, preconditions}
use Rattle.law.specs.DiskType.{disk_table, disk_valid}
use Rattle.law.specs.Lists.{never_true}
use Rattle.rules.specs.Methods.{reads_by, is_reading, is_add, written_by, alone, fresh_at, ranged_by, pre_of}
use Rattle.rules.proofs.MethodLaws.{method_cases, method_past}

-- ---- a fact of the readings, of the adds, of the sets

module _ (P : Kind → Type 0) where
  pub by_reads : ((m : ℕ) → P (reads m)) → (k : Kind) → is_reading k ≡ true → P k
  by_reads f (sets a) e = never_true _ e
  by_reads f (adds a) e = never_true _ e
  by_reads f (reads m) e = f m

  pub by_adds : ((a : Attribute) → P (adds a)) → (k : Kind) → is_add k ≡ true → P k
  by_adds f (sets a) e = never_true _ e
  by_adds f (adds a) e = f a
  by_adds f (reads m) e = never_true _ e

  pub by_sets : ((a : Attribute) → P (sets a)) → (k : Kind) → is_reading k ≡ false → is_add k ≡ false → P k
  by_sets f (sets a) e h = f a
  by_sets f (adds a) e h = never_true _ (sym h)
  by_sets f (reads m) e h = never_true _ (sym e)

-- ---- precondition (a)

-- What is not stale yet is valid.
later : (x now : ℕ) (b : Bool) → leb x now ≡ b → ltb now x ≡ not b
later x now true e = le-ltb now x (leb-true x now e)
later x now false e = lt-ltb now x (leb-false x now e)

in_time : (x now : ℕ) (read : Bool) → cond read (ltb now x) true ≡ not (read && leb x now)
in_time x now true = later x now (leb x now) refl
in_time x now false = refl

-- An attribute of a mask is stale under a flag.
abbrev pub stale_in : Figures → ℕ → ℕ → ℕ → Attribute → Bool
stale_in f now flag mask a = has_bit mask (bit_of a) && leb ((attr f a).stamp + disk_valid flag a) now

module _ (f : Figures) (now : ℕ) where
  pub fresh_unasked : (k : Kind) (flag : ℕ) → flag ≡ 0 → fresh_at f now k flag ≡ true
  unfolding fresh_at
  fresh_unasked (sets a) flag e = refl
  fresh_unasked (adds a) flag e = refl
  fresh_unasked (reads m) flag e = rw (eq-eqb flag 0 e)

  pub fresh_asked : (k : Kind) (flag : ℕ) → (flag ≡ 0 → ⊥) →
      fresh_at f now k flag ≡ all_true
      (not (stale_in f now flag (reads_by k) a0)
      ∷ not (stale_in f now flag (reads_by k) a1)
      ∷ not (stale_in f now flag (reads_by k) a2)
      ∷ [])
  unfolding fresh_at disk_table has_bit
  fresh_asked (sets a) flag e = refl
  fresh_asked (adds a) flag e = refl
  fresh_asked (reads m) flag e = simp (ne_eqb flag 0 e, in_time)

-- ---- preconditions (a) to (d)

-- The preconditions of a claim whose method is of kind k: `pre_of` by definition.
abbrev pub pre_by : Figures → ℕ → ℕ → Claim → Kind → Bool
pre_by f now sum c k =
    all_true
    (fresh_at f now k c.flag
    ∷ addable disk_table (alone f now) k c.error
    ∷ bearable disk_table (alone f now) k c.error
    ∷ ranged_by f sum k c.value
    ∷ [])

module _ (f : Figures) (now sum : ℕ) (c : Claim) (k : Kind) where
  -- An add over its limit, and one within.
  pub pre_over : is_add k ≡ true → (written_by f k).limit < (written_by f k).amount + c.error → pre_by f now sum c k ≡ false
  unfolding fresh_at
  pre_over =
      by_adds (λ k. (written_by f k).limit < (written_by f k).amount + c.error → pre_by f now sum c k ≡ false)
      (λ a h. rw (lt-leb ((attr f a).amount + c.error) (attr f a).limit h))
      k

  pub pre_adds : is_add k ≡ true → (written_by f k).amount + c.error ≤ (written_by f k).limit →
      pre_by f now sum c k ≡ leb (size (written_by f k).value + sum + size c.value) most_value
  unfolding fresh_at
  pre_adds =
      by_adds
      (λ k. (written_by f k).amount + c.error ≤ (written_by f k).limit →
      pre_by f now sum c k ≡ leb (size (written_by f k).value + sum + size c.value) most_value)
      (λ a h. rw (le-leb ((attr f a).amount + c.error) (attr f a).limit h) (and-true _))
      k

  -- A reading of figures that carry more than it bears, and of others.
  pub pre_carries : is_reading k ≡ true → c.error < carried_by f k → pre_by f now sum c k ≡ false
  pre_carries =
      by_reads (λ k. c.error < carried_by f k → pre_by f now sum c k ≡ false)
      (λ m h. rw (lt-leb (carried f m) c.error h) (and-false (fresh_at f now (reads m) c.flag)))
      k

  pub pre_reads : is_reading k ≡ true → carried_by f k ≤ c.error → pre_by f now sum c k ≡ fresh_at f now k c.flag
  pre_reads =
      by_reads (λ k. carried_by f k ≤ c.error → pre_by f now sum c k ≡ fresh_at f now k c.flag)
      (λ m h. rw (le-leb (carried f m) c.error h) (and-true _))
      k

  pub pre_sets : is_reading k ≡ false → is_add k ≡ false → pre_by f now sum c k ≡ true
  unfolding fresh_at
  pre_sets = by_sets (λ k. pre_by f now sum c k ≡ true) (λ a. refl) k

-- ---- they are the law's

-- The law's four tests of a claim whose method is of kind k.
abbrev tests_by : Core → Claim → Kind → Bool
tests_by s c k =
    all_true
    (fresh disk_table s k c.flag
    ∷ addable disk_table s k c.error
    ∷ bearable disk_table s k c.error
    ∷ ranged disk_table s k c.value
    ∷ [])

-- The one attribute that a disk's method adds to is promised.
pub pre_is : (s : Core) (c : Claim) →
    pre_of s.figures s.clock (adds_on disk_table a1 s.active) c ≡ preconditions disk_table s c
unfolding pre_of preconditions fresh_at disk_table
pre_is s c =
    let sum = adds_on disk_table a1 s.active in
    method_cases
    (λ m. pre_by s.figures s.clock sum c (kind_at disk_table m) ≡ tests_by s c (kind_at disk_table m))
    refl
    refl
    refl
    refl
    refl
    refl
    refl
    (λ m h. rw (method_past m h))
    c.method
