-- Laws of a claim by itself: where the figures fit, what the code compares with the most that a claim's method may have are the
-- law's tests of it.
use Prim.Native.Nat.{ℕ, ◌+◌, ◌^◌, ◌≤◌, ◌<◌}
use mathlib.Core.Bool.{Bool, true, false, cond, not, ◌||◌, and-true}
use mathlib.Core.List.{List, [], ◌∷◌, map}
use mathlib.Core.Path.{◌≡◌, refl, sym, ◌∙◌}
use native.Mathlib.Omega.{arith}
use borrow.Author.Tests.{ltb-true, leb-true, leb-false, lt-ltb, le-leb, lt-leb, eqb-true, eq-eqb}
use lib.Dec.{leb, ltb, eqb}
use lib.IntN.{ℤ, pos, negsuc}
use lib.ListN.{length, get_or}
use lib.Signed.{mag}
use Rattle.num.specs.Metric.{size}
use Rattle.num.specs.Signed.{word_of}
use Rattle.law.specs.declared.Claim.{Claim}
use Rattle.law.specs.Base.{all_true}
use Rattle.law.specs.Lists.{Passed, passed, all_passed}
use Rattle.law.specs.Says.{◌and◌}
use Rattle.law.specs.Types.{most_value, most_error, most_state, most_priority, most_flag, Attribute, a0, a1, a2, Kind, sets, adds, reads, Figures, attr}
use Rattle.law.specs.Entries.{kind_at, kind_of}
use Rattle.law.specs.Granting.{adds_to}
use Rattle.law.specs.Calls.{is_code, value_fits, field_tests, own_fits}
use Rattle.law.specs.Sound.{bare, bare_by, reading_by, limit_fits}
use Rattle.law.specs.DiskType.{disk_table}
use Rattle.law.proofs.TableLaws.{disk_methods}
use Rattle.rules.specs.Methods.{bounds_of}
use Rattle.rules.specs.Pairs.{add_of}
use Rattle.rules.proofs.MethodLaws.{method_cases}
use Rattle.sound.specs.Tests.{figure_tests, figure_fits, figures_tests, figures_fit, active_row, active_fits, waiting_fits, Bounds, if_reading, most_value_by, value_size_by, value_in, alone_tests, alone_fits, active_by, waiting_by}
use mir.Val.{SFits}
use Rattle.std.proofs.Common.{w32}
use Rattle.std.proofs.lemmas.Bool.Decides.{nat_tests}
use Rattle.std.proofs.lemmas.Int.{to_z-of_z}
use Rattle.sound.proofs.WalkLaws.{same_test}

-- ---- tests that are the same

none : (n : ℕ) → leb n 0 ≡ eqb n 0
none n = grind (arith, nat_tests)

-- A code: the word of a figure below 0 is 2^31 or more.
code_is : (z : ℤ) → mag z < 2 ^ 31 → leb (word_of z) most_state ≡ is_code z
unfolding word_of
code_is (pos n) h = refl
code_is (negsuc n) h = lt-leb (word_of (negsuc n)) most_state (omega arith)

-- A value of 32 bits is in range where it is not larger than it may be.
pub value_is : (k : Kind) (z : ℤ) → mag z < 2 ^ 31 → leb (value_size_by k z) (most_value_by k) ≡ value_in k z
value_is (sets a0) z h = refl
value_is (sets a1) z h = refl
value_is (sets a2) z h = code_is z h
value_is (adds a) z h = refl
value_is (reads m) z h = none (size z)

-- 16 to 18 as the law has them, of three tests.
pass_by : (a b c : Bool) → a ≡ false → b ≡ true → c ≡ true → not (a || (not b || (not c || false))) ≡ true
pass_by a b c h k l = rw (h, k, l)

by_pass : (a b c : Bool) → not (a || (not b || (not c || false))) ≡ true → (a ≡ false) × (b ≡ true) × (c ≡ true)
by_pass a b c h = (grind arith, grind arith, grind arith)

-- ---- by kind

module _ (now next : ℕ) (c : Claim) where
  -- An unknown method.
  abbrev past : Bool
  past = leb (length disk_table.kinds) c.method

  abbrev form_tests : List Bool
  form_tests = leb c.priority most_priority ∷ leb c.flag most_flag ∷ []

  -- The code's tests, with v that of the value and bounds for error, second and flag.
  abbrev ours : Bool → ℕ → ℕ → ℕ → List Bool
  ours v l m g =
      ltb c.method 7
      ∷ leb 1 c.ticket
      ∷ ltb c.ticket next
      ∷ leb c.priority most_priority
      ∷ v
      ∷ leb c.error l
      ∷ leb c.measured m
      ∷ leb c.flag g
      ∷ []

  -- The law's, by those of the fields and of the own error.
  abbrev theirs : List Bool → Bool → List Bool
  theirs fields own =
      all_true form_tests
      ∷ leb c.measured now
      ∷ leb 1 c.ticket
      ∷ ltb c.ticket next
      ∷ not (past || (not (all_true fields) || (not own || false)))
      ∷ []

  -- They are the same where the fields and the own error say what v and the bounds say.
  module _ (v : Bool) (l m g : ℕ) (fields : List Bool) (own : Bool) (early : m ≤ now) (small : g ≤ most_flag)
      (to : v ≡ true → c.error ≤ l → c.measured ≤ m → c.flag ≤ g → Passed fields × (own ≡ true))
      (from : Passed fields → own ≡ true → c.flag ≤ most_flag → (v ≡ true) × (c.error ≤ l) × (c.measured ≤ m) × (c.flag ≤ g)) where
    there : all_true (ours v l m g) ≡ true → all_true (theirs fields own) ≡ true
    there e =
        let t = passed (ours v l m g) e in
        let r = t.1.1.1.1.1 in
        let k : c.method < 7 = ltb-true c.method 7 t.0 in
        let second : c.measured ≤ m = leb-true c.measured m r.1.0 in
        let flag : c.flag ≤ g = leb-true c.flag g r.1.1.0 in
        let q = to t.1.1.1.1.0 (leb-true c.error l r.0) second flag in
        all_passed (theirs fields own)
        (all_passed form_tests (t.1.1.1.0 and le-leb c.flag most_flag (omega arith) and tt)
        and le-leb c.measured now (omega arith)
        and t.1.0
        and t.1.1.0
        and pass_by past (all_true fields) own (lt-leb (length disk_table.kinds) c.method (omega (arith, disk_methods)))
        (all_passed fields q.0) q.1
        and tt)

    back : all_true (theirs fields own) ≡ true → all_true (ours v l m g) ≡ true
    back e =
        let t = passed (theirs fields own) e in
        let p = passed form_tests t.0 in
        let q = by_pass past (all_true fields) own t.1.1.1.1.0 in
        let k : c.method < length disk_table.kinds = leb-false (length disk_table.kinds) c.method q.0 in
        let b = from (passed fields q.1) q.2 (leb-true c.flag most_flag p.1.0) in
        all_passed (ours v l m g)
        (lt-ltb c.method 7 (omega (arith, disk_methods))
        and t.1.1.0
        and t.1.1.1.0
        and p.0
        and b.0
        and le-leb c.error l b.1
        and le-leb c.measured m b.2
        and le-leb c.flag g b.3
        and tt)

    same_tests : all_true (ours v l m g) ≡ all_true (theirs fields own)
    same_tests = same_test (all_true (ours v l m g)) (all_true (theirs fields own)) there back

  -- A write, whose own error is within the limit l.
  abbrev written : Bool → List Bool
  written v = v ∷ eqb c.flag 0 ∷ leb c.measured now ∷ leb c.error most_error ∷ []

  write_is : (v : Bool) (l : ℕ) → l ≤ most_error → all_true (ours v l now 0) ≡ all_true (theirs (written v) (leb c.error l))
  write_is v l most =
      same_tests v l now 0 (written v) (leb c.error l) (omega arith) (omega arith)
      (λ h e m g. (
        h and eq-eqb c.flag 0 (omega arith) and le-leb c.measured now m and le-leb c.error most_error (omega arith) and tt,
        le-leb c.error l e,
      ))
      (λ p e g. (p.0, leb-true c.error l e, leb-true c.measured now p.1.1.0, omega (arith, eqb-true c.flag 0 p.1.0)))

  -- A reading, measured at second 0.
  abbrev stated : Bool → List Bool
  stated v = v ∷ eqb c.measured 0 ∷ leb c.error most_error ∷ []

  read_is : (v : Bool) → all_true (ours v most_error 0 most_flag) ≡ all_true (theirs (stated v) true)
  read_is v =
      same_tests v most_error 0 most_flag (stated v) true (omega arith) (omega arith)
      (λ h e m g. (h and eq-eqb c.measured 0 (omega arith) and le-leb c.error most_error e and tt, refl))
      (λ p e g. (p.0, leb-true c.error most_error p.1.1.0, omega (arith, eqb-true c.measured 0 p.1.0), g))

  -- Told and amount of an active claim: a reading's are within its bounds, a write has neither.
  told_is : (k : Kind) →
      all_true (leb (size c.told) (if_reading k most_error 0) ∷ leb c.amount (if_reading k c.error 0) ∷ [])
      ≡ all_true (bare_by k c ∷ reading_by k c ∷ [])
  told_is (sets a) = rw (none (size c.told), none c.amount) (sym (and-true (bare c)))
  told_is (adds a) = rw (none (size c.told), none c.amount) (sym (and-true (bare c)))
  told_is (reads m) = sym (and-true (reading_by (reads m) c))

-- ---- the claim

module _ (f : Figures) (now next : ℕ) (h : figures_fit f now next ≡ true) where
  -- Their limits: each in range, that of the state 0.
  figures_pass : Passed (figures_tests f now next)
  unfolding figures_fit
  figures_pass = passed (figures_tests f now next) h

  limit_fits_lem : (a : Attribute) → limit_fits a (attr f a).limit ≡ true
  unfolding figure_fits
  limit_fits_lem a0 = (passed (figure_tests a0 now f.f0) figures_pass.1.1.0).1.0
  limit_fits_lem a1 = (passed (figure_tests a1 now f.f1) figures_pass.1.1.1.0).1.0
  limit_fits_lem a2 = (passed (figure_tests a2 now f.f2) figures_pass.1.1.1.1.0).1.0

  none_of_state : f.f2.limit ≡ 0
  none_of_state = eqb-true f.f2.limit 0 (limit_fits_lem a2)

  limit_in : (a : Attribute) → (attr f a).limit ≤ most_error
  limit_in a0 = leb-true f.f0.limit most_error (limit_fits_lem a0)
  limit_in a1 = leb-true f.f1.limit most_error (limit_fits_lem a1)
  limit_in a2 = omega (arith, none_of_state)

  -- The rows; the most error by kind, which its row has at the method.
  abbrev most : List ℕ
  most = bounds_of f.f0.limit f.f1.limit now

  abbrev most_by : Kind → ℕ
  most_by (sets a) = (attr f a).limit
  most_by (adds a) = (attr f a).limit
  most_by (reads m) = most_error

  abbrev RowsAt : ℕ → Type 0
  RowsAt m =
      (get_or most (7 + m) 0 ≡ most_by (kind_at disk_table m)) × (get_or most (14 + m) 0 ≡ if_reading (kind_at disk_table m) 0 now)

  rows_at : (m : ℕ) → m < 7 → RowsAt m
  unfolding disk_table
  rows_at =
      method_cases (λ m. m < 7 → RowsAt m)
      (λ k. (refl, refl)) (λ k. (refl, refl)) (λ k. (refl, refl)) (λ k. (sym none_of_state, refl))
      (λ k. (refl, refl)) (λ k. (refl, refl)) (λ k. (refl, refl)) (λ m l k. absurd (omega arith))

  module _ (c : Claim) where
    abbrev kind : Kind
    kind = kind_of disk_table c

    -- The law's tests of a claim wherever it stands, by kind.
    abbrev lawful : Kind → Bool
    lawful k = all_true (theirs now next c (field_tests now k c) (own_fits f k c.error))

    kind_is : (k : Kind) → all_true (alone_tests (most_by k) (if_reading k 0 now) next k c) ≡ lawful k
    kind_is (sets a) = write_is now next c (value_fits a c.value) (attr f a).limit (limit_in a)
    kind_is (adds a) = write_is now next c (leb (size c.value) most_value) (attr f a).limit (limit_in a)
    kind_is (reads m) = read_is now next c (eqb (size c.value) 0)

    -- An unknown method fails, whatever its error and its second of measuring may be.
    row_is : alone_fits most next c ≡ all_true (alone_tests (most_by kind) (if_reading kind 0 now) next kind c)
    unfolding alone_fits
    row_is = by (ltb c.method 7) refl
      where
        by : (b : Bool) → ltb c.method 7 ≡ b →
            alone_fits most next c ≡ all_true (alone_tests (most_by kind) (if_reading kind 0 now) next kind c)
        by true e = let r = rows_at c.method (ltb-true c.method 7 e) in rw (r.0, r.1)
        by false e = rw e

    alone_is : alone_fits most next c ≡ lawful kind
    alone_is = row_is ∙ kind_is kind

    pub active_is : active_by most next c ≡ active_fits f now next c
    unfolding active_by active_fits
    active_is = grind (arith, alone_is, told_is now next c kind)

    pub waiting_is : waiting_by most next c ≡ waiting_fits f now next c
    unfolding waiting_by waiting_fits
    waiting_is = grind (arith, alone_is)

-- The rows of any disk are bounds.
pub rows_bound : (used promised now : ℕ) → Bounds (bounds_of used promised now)
unfolding disk_table
rows_bound used promised now =
    record {
      long = refl;
      values =
          method_cases (λ m. m < 7 → get_or (bounds_of used promised now) m 0 ≡ most_value_by (kind_at disk_table m))
          (λ k. refl) (λ k. refl) (λ k. refl) (λ k. refl) (λ k. refl) (λ k. refl) (λ k. refl) (λ m l k. absurd (omega arith));
      flags =
          method_cases (λ m. m < 7 → get_or (bounds_of used promised now) (21 + m) 0 ≡ if_reading (kind_at disk_table m) most_flag 0)
          (λ k. refl) (λ k. refl) (λ k. refl) (λ k. refl) (λ k. refl) (λ k. refl) (λ k. refl) (λ m l k. absurd (omega arith));
      tolds =
          method_cases (λ m. m < 7 → get_or (bounds_of used promised now) (28 + m) 0 ≡ if_reading (kind_at disk_table m) most_error 0)
          (λ k. refl) (λ k. refl) (λ k. refl) (λ k. refl) (λ k. refl) (λ k. refl) (λ k. refl) (λ m l k. absurd (omega arith));
    }

-- What each row says of a claim whose method is known.
module _ {most : List ℕ} (b : Bounds most) (c : Claim) where
  pub value_bound : c.method < 7 → SFits w32 c.value →
      leb (value_size_by (kind_of disk_table c) c.value) (get_or most c.method 0) ≡ value_in (kind_of disk_table c) c.value
  value_bound k fits = rw (b.values c.method k) (value_is (kind_of disk_table c) c.value fits.sfits)

  pub flag_bound : c.method < 7 → get_or most (21 + c.method) 0 ≡ if_reading (kind_of disk_table c) most_flag 0
  flag_bound = b.flags c.method

  pub told_bound : c.method < 7 → get_or most (28 + c.method) 0 ≡ if_reading (kind_of disk_table c) most_error 0
  told_bound = b.tolds c.method

-- What passes has a known method.
pub known_method : (most : List ℕ) (next : ℕ) (c : Claim) → alone_fits most next c ≡ true → c.method < 7
unfolding alone_fits
known_method most next c e = grind (arith, nat_tests)

-- What an active claim adds is in range.
pub add_most : (f : Figures) (now next : ℕ) (c : Claim) → active_fits f now next c ≡ true → add_of c ≤ most_value
unfolding active_fits add_of
add_most f now next c h =
    let t = passed (map (λ p. p c) (active_row f now next)) h in
    let k : Kind = kind_of disk_table c in
    go k (by_pass (past now next c) (all_true (field_tests now k c)) (own_fits f k c.error) t.1.1.1.1.1.1.0).1
  where
    go : (k : Kind) → all_true (field_tests now k c) ≡ true → cond (adds_to a1 k) (size c.value) 0 ≤ most_value
    go (sets a) e = omega arith
    go (adds a0) e = omega arith
    go (adds a1) e = leb-true (size c.value) most_value (passed (field_tests now (adds a1) c) e).0
    go (adds a2) e = omega arith
    go (reads m) e = omega arith

-- What the code's tests of a claim take.
pub ruleset alone_laws = (nat_tests, to_z-of_z, value_bound, flag_bound)

pub ruleset told_laws = (nat_tests, to_z-of_z, known_method, told_bound)
