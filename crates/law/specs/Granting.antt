-- 01's "Granting" up to the grant itself, sentence by sentence, for any type of disk.
-- The decision on a claim is four tests in order: preconditions, barring, lock step, place.
use Rattle.std.specs.Prelude.{ℕ, ◌+◌, Bool, true, false, cond, not, List, [], ◌∷◌, ◌++◌, map, leb, ltb, eqb, ℤ, pos, length}
use Rattle.num.specs.Metric.{size, dist}
use Rattle.law.specs.declared.Attr.{Attr}
use Rattle.law.specs.declared.Claim.{Claim}
use Rattle.law.specs.declared.Entry.{Entry}
use Rattle.law.specs.declared.Entry.TheVariants.{A, N, D, G}
use Rattle.law.specs.Base.{all_true, every_of, any_of, sum_of}
use Rattle.law.specs.Types.{most_value, places, Attribute, same, Kind, sets, adds, reads, Table, Figures, attr, put_attr, Core, Item}
use Rattle.law.specs.Readings.{every_read, present, carried}
use Rattle.law.specs.Entries.{is_always, is_never, kind_of, entry}

-- ---- the rules by the kind of a claim's method

-- A method of this kind adds to attribute a.
abbrev pub adds_to : Attribute → Kind → Bool
adds_to a (sets b) = false
adds_to a (adds b) = same a b
adds_to a (reads m) = false

-- The gap between a write of value z and the present figures: |z − value| for a set, |d| for an add.
abbrev pub gap_by : Figures → Kind → ℤ → ℕ
gap_by f (sets a) z = dist z (attr f a).value
gap_by f (adds a) d = size d
gap_by f (reads m) z = 0

-- Starting amount: a set, its own error; an add, the attribute's amount + its own error; a reading, the sum of the amounts read.
abbrev pub start_by : Figures → Kind → ℕ → ℕ
start_by f (sets a) own = own
start_by f (adds a) own = (attr f a).amount + own
start_by f (reads m) stated = carried f m

-- The limit of the total: the attribute's limit for a write, the stated limit for a reading.
abbrev pub limit_by : Figures → Kind → ℕ → ℕ
limit_by f (sets a) own = (attr f a).limit
limit_by f (adds a) own = (attr f a).limit
limit_by f (reads m) stated = stated

-- What one active claim adds to the total of a requested claim of kind k: under D the distance d of the two sets; under G, if a
-- reading is requested, the active write's gap g; otherwise nothing.
abbrev pub cost_by : Entry → Kind → ℕ → ℕ → ℕ
cost_by A k d g = 0
cost_by N k d g = 0
cost_by D k d g = d
cost_by G (sets a) d g = 0
cost_by G (adds a) d g = 0
cost_by G (reads m) d g = g

-- Whether a requested claim of kind k raises the active claim's amount: only under G, if a write is requested.
abbrev pub raises_by : Entry → Kind → Bool
raises_by A k = false
raises_by N k = false
raises_by D k = false
raises_by G (sets a) = true
raises_by G (adds a) = true
raises_by G (reads m) = false

-- The attribute x with amount n.
abbrev pub with_amount : Attr → ℕ → Attr
with_amount x n = record { value = x.value; stamp = x.stamp; amount = n; limit = x.limit }

-- A granted write's total becomes the attribute's amount at once.
abbrev pub note_by : Figures → Kind → ℕ → Figures
note_by f (sets a) total = put_attr f a (with_amount (attr f a) total)
note_by f (adds a) total = put_attr f a (with_amount (attr f a) total)
note_by f (reads m) total = f

-- A reading is told the present sum, a write 0.
abbrev pub told_by : Figures → Kind → ℤ
told_by f (sets a) = pos 0
told_by f (adds a) = pos 0
told_by f (reads m) = present f m

-- A granted reading's total becomes its own amount. A write has none.
abbrev pub amount_by : Kind → ℕ → ℕ
amount_by (sets a) total = 0
amount_by (adds a) total = 0
amount_by (reads m) total = total

-- The error carried at the grant of a reading; 0 for a write.
abbrev pub carried_by : Figures → Kind → ℕ
carried_by f (sets a) = 0
carried_by f (adds a) = 0
carried_by f (reads m) = carried f m

-- The field `error` is a write's own error or a reading's stated limit; these two names say which is meant.
abbrev pub own_error : Claim → ℕ
own_error c = c.error

abbrev pub stated_limit : Claim → ℕ
stated_limit c = c.error

-- The claim c with another told sum and amount.
abbrev pub put_told : Claim → ℤ → ℕ → Claim
put_told c told amount =
    record {
      ticket = c.ticket;
      method = c.method;
      priority = c.priority;
      flag = c.flag;
      measured = c.measured;
      value = c.value;
      error = c.error;
      told = told;
      amount = amount;
    }

module _ (t : Table) where
  -- The sum of |d| over the active adds to an attribute.
  abbrev pub adds_on : Attribute → List Claim → ℕ
  adds_on a ws = sum_of (λ w. cond (adds_to a (kind_of t w)) (size w.value) 0) ws

  -- ---- preconditions at second "now"

  -- (a) a reading that asks for fresh figures: for each attribute read, stamp + validity > now.
  abbrev pub fresh : Core → Kind → ℕ → Bool
  fresh s (sets a) flag = true
  fresh s (adds a) flag = true
  fresh s (reads m) flag =
      cond (eqb flag 0) true
      (every_read m (λ a. ltb s.clock ((attr s.figures a).stamp + t.valid flag a)))

  -- (b) an add: amount + own error ≤ limit.
  abbrev pub addable : Core → Kind → ℕ → Bool
  addable s (sets a) own = true
  addable s (adds a) own = leb ((attr s.figures a).amount + own) (attr s.figures a).limit
  addable s (reads m) stated = true

  -- (c) a reading: the sum of the amounts read ≤ its stated limit.
  abbrev pub bearable : Core → Kind → ℕ → Bool
  bearable s (sets a) own = true
  bearable s (adds a) own = true
  bearable s (reads m) stated = leb (carried s.figures m) stated

  -- (d) an add of d: |value| + the sum of |d'| over active adds + |d| ≤ 1,000,000,000.
  abbrev pub ranged : Core → Kind → ℤ → Bool
  ranged s (sets a) z = true
  ranged s (adds a) d = leb (size (attr s.figures a).value + adds_on a s.active + size d) most_value
  ranged s (reads m) z = true

  abbrev pub precondition_tests : Core → Claim → List Bool
  precondition_tests s c =
      fresh s (kind_of t c) c.flag
      ∷ addable s (kind_of t c) c.error
      ∷ bearable s (kind_of t c) c.error
      ∷ ranged s (kind_of t c) c.value
      ∷ []

  unfoldable pub preconditions : Core → Claim → Bool
  preconditions s c = all_true (precondition_tests s c)

  -- ---- lock step

  abbrev pub start : Core → Claim → ℕ
  start s c = start_by s.figures (kind_of t c) c.error

  abbrev pub limit : Core → Claim → ℕ
  limit s c = limit_by s.figures (kind_of t c) c.error

  abbrev pub gap : Core → Claim → ℕ
  gap s c = gap_by s.figures (kind_of t c) c.value

  -- What the active claim w adds to the total of the requested claim c.
  abbrev pub cost : Core → Claim → Claim → ℕ
  cost s c w = cost_by (entry t w c) (kind_of t c) (dist c.value w.value) (gap s w)

  -- The starting amount plus what each active claim adds.
  unfoldable pub total : Core → Claim → ℕ
  total s c = start s c + sum_of (cost s c) s.active

  -- G, write requested: the active reading's amount grows by the write's own error + its gap.
  abbrev pub growth : Core → Claim → Claim → ℕ
  growth s c w = cond (raises_by (entry t w c) (kind_of t c)) (own_error c + gap s c) 0

  -- The raised amount must stay ≤ that reading's limit.
  abbrev pub stays : Core → Claim → Claim → Bool
  stays s c w = cond (raises_by (entry t w c) (kind_of t c)) (leb (w.amount + growth s c w) (stated_limit w)) true

  -- No entry is N; the total is within its limit; each active reading stays within its own. 01 tests the total after each claim
  -- that adds to it; one test at the end is the same (lock_in_turn), also if no claim adds: the total is then the starting
  -- amount, which 18, (b) and (c) keep within the limit (start_within).
  abbrev pub lock_tests : Core → Claim → List Bool
  lock_tests s c =
      every_of (λ w. not (is_never (entry t w c))) s.active
      ∷ leb (total s c) (limit s c)
      ∷ every_of (stays s c) s.active
      ∷ []

  unfoldable pub lock_step : Core → Claim → Bool
  lock_step s c = all_true (lock_tests s c)

  -- ---- barring

  -- A waiting claim of equal or higher priority bars a claim if their entry isn't A and the waiting one's preconditions hold now.
  unfoldable pub bars : Core → Claim → Claim → Bool
  bars s c w =
      all_true (leb c.priority w.priority ∷ not (is_always (entry t w c)) ∷ preconditions s w ∷ [])

  -- ---- granted

  -- The preconditions hold, no claim ahead bars, the lock step passes, fewer than 8 are active.
  abbrev pub grant_tests : Core → List Claim → Claim → List Bool
  grant_tests s ahead c =
      preconditions s c
      ∷ not (any_of (bars s c) ahead)
      ∷ lock_step s c
      ∷ ltb (length s.active) places
      ∷ []

  unfoldable pub granted : Core → List Claim → Claim → Bool
  granted s ahead c = all_true (grant_tests s ahead c)

  -- The active claim w after the grant of c.
  abbrev pub raised : Core → Claim → Claim → Claim
  raised s c w = put_told w w.told (w.amount + growth s c w)

  -- The claim c as it becomes active.
  abbrev pub as_granted : Core → Claim → Claim
  as_granted s c = put_told c (told_by s.figures (kind_of t c)) (amount_by (kind_of t c) (total s c))

  -- The disk after the grant of c.
  unfoldable pub grant : Core → Claim → Core
  grant s c =
      record {
        clock = s.clock;
        figures = note_by s.figures (kind_of t c) (total s c);
        active = map (raised s c) s.active ++ (as_granted s c ∷ []);
      }

  -- The answer item of that grant.
  unfoldable pub grant_item : Core → Claim → Item
  grant_item s c =
      record {
        code = 0;
        ticket = c.ticket;
        told = told_by s.figures (kind_of t c);
        amount = total s c;
        carried = carried_by s.figures (kind_of t c);
      }
