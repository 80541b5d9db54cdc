-- Laws of an active reading: its told sum and the present sum differ by at most its amount less the error carried at its grant.
-- Each attribute has a share of that amount (Near); a grant that widens the shares raises the amount by at least as much.
use Rattle.std.specs.Prelude.{ℕ, ◌+◌, ◌≤◌, Bool, true, false, ◌≡◌, refl, leb, ℤ}
use Rattle.std.proofs.Math.Bool.{cond}
use mathlib.Core.List.{List, [], ◌∷◌}
use Rattle.std.proofs.Common.{sym, leb-true}
use Rattle.std.proofs.Math.Path.{ap, subst}
use native.Mathlib.Omega.{arith}
use Rattle.num.specs.Metric.{dist}
use Rattle.law.specs.declared.Claim.{Claim}
use Rattle.law.specs.declared.Entry.TheVariants.{A, N, G}
use Rattle.law.specs.Base.{sum_of, All}
use Rattle.law.specs.Lists.{never_true}
use Rattle.law.specs.Types.{Attribute, within, metric, Kind, sets, adds, reads, Table, Figures, attr, Core}
use Rattle.law.specs.Granting.{gap_by, cost_by, raises_by, told_by, amount_by, gap, stays, total, raised, as_granted, grant}
use Rattle.law.proofs.GrantLaws.{start_reads}
use Rattle.law.specs.Calls.{landed, without}
use Rattle.law.proofs.AttributeLaws.{note_same}
use Rattle.law.specs.MaskLaws.{sum_two, sum_one, sum_none, dist_read}
use Rattle.law.proofs.Near.{gap_on, Near, near_grant, share_of, near_start, near_end}
use Rattle.law.specs.Entries.{entry_by, is_never, kind_of, entry}
use Rattle.law.specs.Readings.{sum_read, told_read, present, carried}

-- ---- a reading and a write of an attribute it reads: their entry is G or N, so the gap is counted or nothing is granted

covers_grow : (w mt : Bool) (k : Kind) (own g : ℕ) → raises_by G k ≡ true → is_never (cond w (cond mt G N) A) ≡ false →
    cond w g 0 ≤ cond (raises_by (cond w (cond mt G N) A) k) (own + g) 0
covers_grow true true k own g h e = subst (λ (b : Bool). g ≤ cond b (own + g) 0) (sym h) (omega arith)
covers_grow true false k own g h e = never_true (g ≤ cond (raises_by N k) (own + g) 0) (sym e)
covers_grow false mt k own g h e = omega arith

covers_cost : (w mt : Bool) (m d g : ℕ) → is_never (cond w (cond mt G N) A) ≡ false →
    cond w g 0 ≤ cost_by (cond w (cond mt G N) A) (reads m) d g
covers_cost true true m d g e = omega arith
covers_cost true false m d g e = never_true (g ≤ 0) (sym e)
covers_cost false mt m d g e = omega arith

-- A granted write raises the reading's amount by at least what it adds to the shares.
pub grow_covers : (f : Figures) (m : ℕ) (k : Kind) (y : ℤ) (own : ℕ) → is_never (entry_by (reads m) k) ≡ false →
    sum_read m (λ a. gap_on f a k y) ≤ cond (raises_by (entry_by (reads m) k) k) (own + gap_by f k y) 0
grow_covers f m (sets b) y own e =
    omega (
      arith,
      sum_one m b (gap_by f (sets b) y),
      covers_grow (within m b) (metric b) (sets b) own (gap_by f (sets b) y) refl e,
    )
grow_covers f m (adds b) y own e =
    omega (
      arith,
      sum_one m b (gap_by f (adds b) y),
      covers_grow (within m b) (metric b) (adds b) own (gap_by f (adds b) y) refl e,
    )
grow_covers f m (reads n) y own e = omega (arith, sum_none m)

-- An active write adds to a requested reading's total at least what it adds to the shares.
pub cost_covers : (f : Figures) (m : ℕ) (k : Kind) (y : ℤ) (d : ℕ) → is_never (entry_by k (reads m)) ≡ false →
    sum_read m (λ a. gap_on f a k y) ≤ cost_by (entry_by k (reads m)) (reads m) d (gap_by f k y)
cost_covers f m (sets b) y d e =
    omega (arith, sum_one m b (gap_by f (sets b) y), covers_cost (within m b) (metric b) m d (gap_by f (sets b) y) e)
cost_covers f m (adds b) y d e =
    omega (arith, sum_one m b (gap_by f (adds b) y), covers_cost (within m b) (metric b) m d (gap_by f (adds b) y) e)
cost_covers f m (reads n) y d e = omega (arith, sum_none m)

-- A reading whose growth passes the test stays within its limit.
stays_within : (b : Bool) (x g l : ℕ) → cond b (leb (x + cond b g 0) l) true ≡ true → x ≤ l → x + cond b g 0 ≤ l
stays_within true x g l h k = leb-true (x + g) l h
stays_within false x g l h k = omega arith

module _ (t : Table) where
  -- The reading r of mask m was granted while the figures carried e, and was told z; its amount covers e and the shares.
  pub record Covered (f : Figures) (ws : List Claim) (m e : ℕ) (r : Claim) (z : Attribute → ℤ) (share : Attribute → ℕ) : Type 0 where
    pub near : (a : Attribute) → Near t a (z a) (share a) (attr f a).value ws
    pub told_is : r.told ≡ told_read m z
    pub counted : e + sum_read m share ≤ r.amount
    pub inside : r.amount ≤ r.error

  -- Demand 3 for one reading, written without a subtraction.
  pub covered_bound : (f : Figures) (ws : List Claim) (m e : ℕ) (r : Claim) (z : Attribute → ℤ) (share : Attribute → ℕ) →
      Covered f ws m e r z share → dist r.told (present f m) + e ≤ r.error
  covered_bound f ws m e r z share h =
      omega (
        arith,
        h.counted,
        h.inside,
        subst (λ (x : ℤ). dist x (present f m) ≤ sum_read m share) (sym h.told_is)
            (dist_read m z (λ a. (attr f a).value) share (λ a w. omega (arith, (h.near a).stands))),
      )

  -- The grant of another claim c keeps r covered, with wider shares.
  pub covered_grant : (s : Core) (c : Claim) (m e : ℕ) (r : Claim) (z : Attribute → ℤ) (share : Attribute → ℕ) →
      kind_of t r ≡ reads m → is_never (entry t r c) ≡ false → stays t s c r ≡ true → Covered s.figures s.active m e r z share →
      Covered (grant t s c).figures (grant t s c).active m e (raised t s c r) z (λ a. share a + gap_on s.figures a (kind_of t c) c.value)
  unfolding grant
  covered_grant s c m e r z share p never stay h =
      record {
        near =
            λ a.
            subst
            (λ (v : ℤ). Near t a (z a) (share a + gap_on s.figures a (kind_of t c) c.value) v (grant t s c).active)
            (sym (note_same (λ x. x.value) (λ x n. refl) s.figures (kind_of t c) (total t s c) a))
            (near_grant t a s c (z a) (share a) s.active (h.near a));
        told_is = h.told_is;
        counted =
            omega (
              arith,
              h.counted,
              sum_two m share (λ a. gap_on s.figures a (kind_of t c) c.value),
              subst
                  (λ (k : Kind). sum_read m (λ a. gap_on s.figures a (kind_of t c) c.value) ≤ cond (raises_by (entry_by k (kind_of t c)) (kind_of t c)) (c.error + gap t s c) 0)
                  (sym p)
                  (grow_covers s.figures m (kind_of t c) c.value c.error
                  (subst (λ (k : Kind). is_never (entry_by k (kind_of t c)) ≡ false) p never)),
            );
        inside =
            stays_within (raises_by (entry t r c) (kind_of t c)) r.amount (c.error + gap t s c) r.error stay h.inside;
      }

  -- The grant of the reading itself: its cost covers its first shares.
  shares_cost : (s : Core) (c : Claim) (m : ℕ) (ws : List Claim) → All (λ w. is_never (entry_by (kind_of t w) (reads m)) ≡ false) ws →
      sum_read m (λ a. share_of t a s.figures ws) ≤ sum_of (λ w. cost_by (entry_by (kind_of t w) (reads m)) (reads m) (dist c.value w.value) (gap t s w)) ws
  unfolding share_of
  shares_cost s c m [] h = omega (arith, sum_none m)
  shares_cost s c m (w ∷ ws) h =
      omega (
        arith,
        sum_two m (λ a. gap_on s.figures a (kind_of t w) w.value) (λ a. share_of t a s.figures ws),
        cost_covers s.figures m (kind_of t w) w.value (dist c.value w.value) h.0,
        shares_cost s c m ws h.1,
      )

  pub covered_start : (s : Core) (c : Claim) (m : ℕ) →
      kind_of t c ≡ reads m → All (λ w. is_never (entry t w c) ≡ false) s.active → total t s c ≤ c.error →
      Covered (grant t s c).figures (grant t s c).active m (carried s.figures m) (as_granted t s c)
      (λ a. (attr s.figures a).value)
      (λ a. share_of t a s.figures s.active + gap_on s.figures a (kind_of t c) c.value)
  unfolding grant total
  covered_start s c m p never fits =
      record {
        near =
            λ a.
            subst
            (λ (v : ℤ).
            Near t a (attr s.figures a).value (share_of t a s.figures s.active + gap_on s.figures a (kind_of t c) c.value) v (grant t s c).active)
            (sym (note_same (λ x. x.value) (λ x n. refl) s.figures (kind_of t c) (total t s c) a))
            (near_grant t a s c (attr s.figures a).value (share_of t a s.figures s.active) s.active (near_start t a s.figures s.active));
        told_is = ap (told_by s.figures) p;
        counted =
            omega (
              arith,
              sum_two m (λ a. share_of t a s.figures s.active) (λ a. gap_on s.figures a (kind_of t c) c.value),
              subst (λ (k : Kind). sum_read m (λ a. gap_on s.figures a k c.value) ≡ 0) (sym p) (sum_none m),
              ap (λ (k : Kind). amount_by k (total t s c)) p,
              start_reads t s c m p,
              subst
                  (λ (k : Kind).
                  sum_read m (λ a. share_of t a s.figures s.active) ≤ sum_of (λ w. cost_by (entry_by (kind_of t w) k) k (dist c.value w.value) (gap t s w)) s.active)
                  (sym p)
                  (shares_cost s c m s.active
                  (subst (λ (k : Kind). All (λ w. is_never (entry_by (kind_of t w) k) ≡ false) s.active) p never)),
            );
        inside = omega (arith, fits, ap (λ (k : Kind). amount_by k (total t s c)) p);
      }

  -- The end of a claim keeps r covered, with the same shares.
  pub covered_end : (f : Figures) (ws : List Claim) (n m e : ℕ) (r : Claim) (z : Attribute → ℤ) (share : Attribute → ℕ) →
      Covered f ws m e r z share → Covered (landed t f n ws) (without n ws) m e r z share
  covered_end f ws n m e r z share h =
      record {
        near = λ a. near_end t a f n (z a) (share a) ws (h.near a);
        told_is = h.told_is;
        counted = h.counted;
        inside = h.inside;
      }
