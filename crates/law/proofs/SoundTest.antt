-- Laws of soundness: the test `sound` decides the proposition `Sound`, clause by clause.
use Rattle.std.specs.Prelude.{ℕ, ◌+◌, Bool, not, ◌↔◌, leb, eqb, length}
use Rattle.std.proofs.Common.{ap, leb-false}
use Rattle.std.proofs.lemmas.Bool.{lt-leb, not-false}
use Rattle.num.specs.Metric.{size}
use Rattle.law.specs.declared.Claim.{Claim}
use Rattle.law.specs.Base.{all_true}
use Rattle.law.specs.Types.{most_value, most_error, most_priority, most_flag, places, last_ticket, Attribute, a0, a1, a2, Kind, sets, adds, reads, Table, Figures, attr, Disk}
use Rattle.law.specs.Entries.{is_never, kind_of, entry}
use Rattle.law.specs.Granting.{adds_on, stated_limit}
use Rattle.law.specs.Calls.{field_tests, own_fits, before, claim_refusals}
use Rattle.law.specs.Sound.{each_attribute, bare, bare_by, reading_by, limit_fits, formed, sum_fits, Bare, BareBy, ReadingBy, LimitFits, Formed, SumFits, passes, Passes, claims_on, sound_tests, sound, Sound}
use Rattle.law.specs.Says.{Says, says_true, says_le, says_lt, says_eq, says_not, says_two, Tests, none, ◌⊳◌, says_tests, says_every, says_none, says_pairs, says_self, says_fails, ◌and◌}
use Rattle.law.proofs.FieldLaws.{says_zero, says_value, says_fields, says_own}
use Rattle.law.proofs.Events.{NoneHolds}

-- ---- an attribute

pub says_each : {p : Attribute → Bool} {P : Attribute → Type 0} → ((a : Attribute) → Says (p a) (P a)) →
    Says (each_attribute p) ((a : Attribute) → P a)
says_each {p} {P} s = (λ e. of_three (row.0 e), λ h. row.1 (h a0 and h a1 and h a2 and tt))
  where
    row : Says (each_attribute p) (P a0 × (P a1 × (P a2 × Unit {0})))
    row = says_tests (s a0 ⊳ s a1 ⊳ s a2 ⊳ none)

    of_three : P a0 × (P a1 × (P a2 × Unit {0})) → (a : Attribute) → P a
    of_three h a0 = h.0
    of_three h a1 = h.1.0
    of_three h a2 = h.1.1.0

says_limit : (a : Attribute) (n : ℕ) → Says (limit_fits a n) (LimitFits a n)
says_limit a0 n = says_le n most_error
says_limit a1 n = says_le n most_error
says_limit a2 n = says_eq n 0

says_sum : (a : Attribute) (n : ℕ) → Says (sum_fits a n) (SumFits a n)
says_sum a0 n = says_le n most_value
says_sum a1 n = says_le n most_value
says_sum a2 n = says_true

-- ---- a claim

says_bare : (c : Claim) → Says (bare c) (Bare c)
says_bare c = says_two (eqb (size c.told) 0) (eqb c.amount 0) (says_zero c.told) (says_eq c.amount 0)

says_bare_by : (k : Kind) (c : Claim) → Says (bare_by k c) (BareBy k c)
says_bare_by (sets a) c = says_bare c
says_bare_by (adds a) c = says_bare c
says_bare_by (reads m) c = says_true

says_reading : (k : Kind) (c : Claim) → Says (reading_by k c) (ReadingBy k c)
says_reading (sets a) c = says_true
says_reading (adds a) c = says_true
says_reading (reads m) c =
    says_two (leb (size c.told) most_error) (leb c.amount (stated_limit c))
    (says_le (size c.told) most_error) (says_le c.amount (stated_limit c))

says_formed : (c : Claim) → Says (formed c) (Formed c)
says_formed c =
    says_two (leb c.priority most_priority) (leb c.flag most_flag) (says_le c.priority most_priority) (says_le c.flag most_flag)

module _ (t : Table) (f : Figures) (now : ℕ) (c : Claim) where
  -- A claim passes exactly if none of 16 to 18 refuses it.
  pub unrefused : NoneHolds (claim_refusals t f now c) ↔ Passes t f now c
  unrefused = (
    λ h.
        record {
          method = leb-false (length t.kinds) c.method h.0;
          fields = (says_fields now (kind_of t c) c).0 (not-false (all_true (field_tests now (kind_of t c) c)) h.1.0);
          own = (says_own f (kind_of t c) c.error).0 (not-false (own_fits f (kind_of t c) c.error) h.1.1.0);
        },
    λ h.
        lt-leb (length t.kinds) c.method h.method
        and ap not ((says_fields now (kind_of t c) c).1 h.fields)
        and ap not ((says_own f (kind_of t c) c.error).1 h.own)
        and tt,
  )

  says_passes : Says (passes t f now c) (Passes t f now c)
  says_passes =
      let tests : Says (passes t f now c) (NoneHolds (claim_refusals t f now c)) = says_none (λ r. r.when) (λ r. says_fails r.when) (claim_refusals t f now c) in
      (λ e. unrefused.0 (tests.0 e), λ h. tests.1 (unrefused.1 h))

-- ---- the whole

module _ (t : Table) (d : Disk) where
  pub says_sound : Says (sound t d) (Sound t d)
  unfolding sound sound_tests
  says_sound =
      let now = d.core.clock in
      let f = d.core.figures in
      let ws = d.core.active in
      let row : Tests (sound_tests t d) _ =
      says_every (λ c. says_bare_by (kind_of t c) c) ws
      ⊳ says_every says_bare d.waiting
      ⊳ says_each (λ a. says_value a (attr f a).value)
      ⊳ says_each (λ a. says_limit a (attr f a).limit)
      ⊳ says_every says_formed (claims_on d)
      ⊳ says_each (λ a. says_le (attr f a).amount (attr f a).limit)
      ⊳ says_each (λ a. says_le (attr f a).stamp now)
      ⊳ says_every (λ c. says_le c.measured now) (claims_on d)
      ⊳ says_le 1 d.next
      ⊳ says_le d.next (last_ticket + 1)
      ⊳ says_le (length ws) places
      ⊳ says_le (length d.waiting) places
      ⊳ says_pairs (λ x y. says_not (eqb x.ticket y.ticket) (says_eq x.ticket y.ticket)) (claims_on d)
      ⊳ says_every (λ c. says_le 1 c.ticket) (claims_on d)
      ⊳ says_every (λ c. says_lt c.ticket d.next) (claims_on d)
      ⊳ says_every (says_passes t f now) (claims_on d)
      ⊳ says_every (λ c. says_reading (kind_of t c) c) ws
      ⊳ says_each (λ a. says_sum a (size (attr f a).value + adds_on t a ws))
      ⊳ says_pairs (λ x y. says_fails (is_never (entry t x y))) ws
      ⊳ says_pairs (λ x y. says_self (before x y)) d.waiting
      ⊳ none in
      let both = says_tests row in (
        λ e.
            let h = both.0 e in
            record {
              bare_active = h.0;
              bare_waiting = h.1.0;
              values = h.1.1.0;
              limits = h.1.1.1.0;
              all_formed = h.1.1.1.1.0;
              amounts = h.1.1.1.1.1.0;
              stamps = h.1.1.1.1.1.1.0;
              seconds = h.1.1.1.1.1.1.1.0;
              next_first = h.1.1.1.1.1.1.1.1.0;
              next_last = h.1.1.1.1.1.1.1.1.1.0;
              few_active = h.1.1.1.1.1.1.1.1.1.1.0;
              few_waiting = h.1.1.1.1.1.1.1.1.1.1.1.0;
              distinct = h.1.1.1.1.1.1.1.1.1.1.1.1.0;
              ticket_first = h.1.1.1.1.1.1.1.1.1.1.1.1.1.0;
              ticket_below = h.1.1.1.1.1.1.1.1.1.1.1.1.1.1.0;
              all_pass = h.1.1.1.1.1.1.1.1.1.1.1.1.1.1.1.0;
              readings = h.1.1.1.1.1.1.1.1.1.1.1.1.1.1.1.1.0;
              sums = h.1.1.1.1.1.1.1.1.1.1.1.1.1.1.1.1.1.0;
              no_never = h.1.1.1.1.1.1.1.1.1.1.1.1.1.1.1.1.1.1.0;
              order = h.1.1.1.1.1.1.1.1.1.1.1.1.1.1.1.1.1.1.1.0;
            },
        λ s.
            both.1
            (s.bare_active
            and s.bare_waiting
            and s.values
            and s.limits
            and s.all_formed
            and s.amounts
            and s.stamps
            and s.seconds
            and s.next_first
            and s.next_last
            and s.few_active
            and s.few_waiting
            and s.distinct
            and s.ticket_first
            and s.ticket_below
            and s.all_pass
            and s.readings
            and s.sums
            and s.no_never
            and s.order
            and tt),
      )
