-- 01's "Sound", clause by clause in its order: as a test that computes, and as a proposition. SoundTest shows that they agree.
use Rattle.std.specs.Prelude.{ℕ, ◌+◌, ◌≤◌, ◌<◌, Bool, true, false, not, List, [], ◌∷◌, ◌++◌, ◌≡◌, leb, ltb, eqb, pos, length}
use Rattle.num.specs.Metric.{size}
use Rattle.law.specs.declared.Claim.{Claim}
use Rattle.law.specs.Base.{all_true, every_of, any_of, every_pair, All, Pairs}
use Rattle.law.specs.Fields.{ValueFits, FieldsFit, OwnFits}
use Rattle.law.specs.Types.{most_value, most_error, most_priority, most_flag, places, last_ticket, Attribute, a0, a1, a2, Kind, sets, adds, reads, Table, Figures, attr, Disk}
use Rattle.law.specs.Granting.{adds_on, stated_limit}
use Rattle.law.specs.Calls.{value_fits, before, claim_refusals}
use Rattle.law.specs.Entries.{kind_of, entry, is_never}

-- ---- tests of a claim and of the attributes

abbrev pub each_attribute : (Attribute → Bool) → Bool
each_attribute p = all_true (p a0 ∷ p a1 ∷ p a2 ∷ [])

-- Told and amount are 0.
abbrev pub bare : Claim → Bool
bare c = all_true (eqb (size c.told) 0 ∷ eqb c.amount 0 ∷ [])

-- An active write has told and amount 0.
abbrev pub bare_by : Kind → Claim → Bool
bare_by (sets a) c = bare c
bare_by (adds a) c = bare c
bare_by (reads m) c = true

-- An active reading's told lies within ±2,000,000,000 and its amount ≤ its limit.
abbrev pub reading_by : Kind → Claim → Bool
reading_by (sets a) c = true
reading_by (adds a) c = true
reading_by (reads m) c = all_true (leb (size c.told) most_error ∷ leb c.amount (stated_limit c) ∷ [])

-- Limits are 0 to 2,000,000,000; the state's is 0.
abbrev pub limit_fits : Attribute → ℕ → Bool
limit_fits a0 n = leb n most_error
limit_fits a1 n = leb n most_error
limit_fits a2 n = eqb n 0

-- Priority and fresh flag are in the range that a record can hold.
abbrev pub formed : Claim → Bool
formed c = all_true (leb c.priority most_priority ∷ leb c.flag most_flag ∷ [])

-- n, a metric attribute's |value| plus the |d| of its active adds, is in range.
abbrev pub sum_fits : Attribute → ℕ → Bool
sum_fits a0 n = leb n most_value
sum_fits a1 n = leb n most_value
sum_fits a2 n = true

-- ---- the same as propositions

abbrev pub Bare : Claim → Type 0
Bare c = (c.told ≡ pos 0) × (c.amount ≡ 0)

abbrev pub BareBy : Kind → Claim → Type 0
BareBy (sets a) c = Bare c
BareBy (adds a) c = Bare c
BareBy (reads m) c = Unit {0}

abbrev pub ReadingBy : Kind → Claim → Type 0
ReadingBy (sets a) c = Unit {0}
ReadingBy (adds a) c = Unit {0}
ReadingBy (reads m) c = (size c.told ≤ most_error) × (c.amount ≤ stated_limit c)

abbrev pub LimitFits : Attribute → ℕ → Type 0
LimitFits a0 n = n ≤ most_error
LimitFits a1 n = n ≤ most_error
LimitFits a2 n = n ≡ 0

abbrev pub Formed : Claim → Type 0
Formed c = (c.priority ≤ most_priority) × (c.flag ≤ most_flag)

abbrev pub SumFits : Attribute → ℕ → Type 0
SumFits a0 n = n ≤ most_value
SumFits a1 n = n ≤ most_value
SumFits a2 n = Unit {0}

-- All claims on a disk.
abbrev pub claims_on : Disk → List Claim
claims_on d = d.core.active ++ d.waiting

module _ (t : Table) where
  -- A claim passes 16 to 18 at second now.
  abbrev pub passes : Figures → ℕ → Claim → Bool
  passes f now c = not (any_of (λ r. r.when) (claim_refusals t f now c))

  pub record Passes (f : Figures) (now : ℕ) (c : Claim) : Type 0 where
    pub method : c.method < length t.kinds
    pub fields : FieldsFit now (kind_of t c) c
    pub own : OwnFits f (kind_of t c) c.error

  unfoldable pub sound_tests : Disk → List Bool
  sound_tests d =
      -- the part decodes; of this clause only one thing concerns a disk: told and amount are 0 except in an active reading
      every_of (λ c. bare_by (kind_of t c) c) d.core.active
      ∷ every_of bare d.waiting
      -- ranges hold
      ∷ each_attribute (λ a. value_fits a (attr d.core.figures a).value)
      ∷ each_attribute (λ a. limit_fits a (attr d.core.figures a).limit)
      ∷ every_of formed (claims_on d)
      -- amounts ≤ limits
      ∷ each_attribute (λ a. leb (attr d.core.figures a).amount (attr d.core.figures a).limit)
      -- stamps and measuring seconds ≤ clock
      ∷ each_attribute (λ a. leb (attr d.core.figures a).stamp d.core.clock)
      ∷ every_of (λ c. leb c.measured d.core.clock) (claims_on d)
      -- next ticket 1 to 1,000,000
      ∷ leb 1 d.next
      ∷ leb d.next (last_ticket + 1)
      -- at most 8 active and 8 waiting
      ∷ leb (length d.core.active) places
      ∷ leb (length d.waiting) places
      -- tickets distinct, at least 1 and below next
      ∷ every_pair (λ x y. not (eqb x.ticket y.ticket)) (claims_on d)
      ∷ every_of (λ c. leb 1 c.ticket) (claims_on d)
      ∷ every_of (λ c. ltb c.ticket d.next) (claims_on d)
      -- every claim passes 16 to 18
      ∷ every_of (passes d.core.figures d.core.clock) (claims_on d)
      -- an active reading's told lies within ±2,000,000,000 and its amount ≤ its limit
      ∷ every_of (λ c. reading_by (kind_of t c) c) d.core.active
      -- |promised| + the sum of |d| of active adds ≤ 1,000,000,000; used has no adds
      ∷ each_attribute (λ a. sum_fits a (size (attr d.core.figures a).value + adds_on t a d.core.active))
      -- no two active claims have entry N
      ∷ every_pair (λ x y. not (is_never (entry t x y))) d.core.active
      -- waiting claims stand in the pass's order
      ∷ every_pair before d.waiting
      ∷ []

  unfoldable pub sound : Disk → Bool
  sound d = all_true (sound_tests d)

  pub record Sound (d : Disk) : Type 0 where
    pub bare_active : All (λ c. BareBy (kind_of t c) c) d.core.active
    pub bare_waiting : All Bare d.waiting
    pub values : (a : Attribute) → ValueFits a (attr d.core.figures a).value
    pub limits : (a : Attribute) → LimitFits a (attr d.core.figures a).limit
    pub all_formed : All Formed (claims_on d)
    pub amounts : (a : Attribute) → (attr d.core.figures a).amount ≤ (attr d.core.figures a).limit
    pub stamps : (a : Attribute) → (attr d.core.figures a).stamp ≤ d.core.clock
    pub seconds : All (λ c. c.measured ≤ d.core.clock) (claims_on d)
    pub next_first : 1 ≤ d.next
    pub next_last : d.next ≤ last_ticket + 1
    pub few_active : length d.core.active ≤ places
    pub few_waiting : length d.waiting ≤ places
    pub distinct : Pairs (λ x y. x.ticket ≡ y.ticket → ⊥) (claims_on d)
    pub ticket_first : All (λ c. 1 ≤ c.ticket) (claims_on d)
    pub ticket_below : All (λ c. c.ticket < d.next) (claims_on d)
    pub all_pass : All (Passes d.core.figures d.core.clock) (claims_on d)
    pub readings : All (λ c. ReadingBy (kind_of t c) c) d.core.active
    pub sums : (a : Attribute) → SumFits a (size (attr d.core.figures a).value + adds_on t a d.core.active)
    pub no_never : Pairs (λ x y. is_never (entry t x y) ≡ false) d.core.active
    pub order : Pairs (λ x y. before x y ≡ true) d.waiting
