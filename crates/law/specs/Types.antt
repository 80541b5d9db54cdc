-- What the rules speak of: attributes, methods, claims, disks, requests and answers.
use Rattle.std.specs.Prelude.{ℕ, Bool, true, false, cond, not, ◌&&◌, ◌≡◌, List, ℤ, pos}
use Rattle.num.specs.Bits.{has_bit}
use Rattle.law.specs.Base.{every_of}
use Rattle.law.specs.declared.Attr.{Attr}
use Rattle.law.specs.declared.Claim.{Claim}

-- ---- 01's numbers

-- Values of attributes 0 and 1, and amounts to add, lie within ± this.
abbrev pub most_value : ℕ
most_value = 1_000_000_000

-- Limits, own errors, amounts and stated limits run from 0 to this; a told sum lies within ± this.
abbrev pub most_error : ℕ
most_error = 2_000_000_000

-- A state is a code from 0 to this.
abbrev pub most_state : ℕ
most_state = 255

-- A record's priority runs from 0 to 255, its fresh flag from 0 to 1.
abbrev pub most_priority : ℕ
most_priority = 255

abbrev pub most_flag : ℕ
most_flag = 1

-- At most this many claims of a disk are active, and at most this many wait.
abbrev pub places : ℕ
places = 8

-- Tickets run from 1 to this.
abbrev pub last_ticket : ℕ
last_ticket = 999_999

-- ---- the type of a disk

-- The three attributes. On 01's disk, a0 is used and a1 is promised, both metric; a2 is the state, which is not.
pub data Attribute : Type 0 where
  a0 a1 a2 : Attribute

-- An attribute's number, which is its bit in a mask.
abbrev pub bit_of : Attribute → ℕ
bit_of a0 = 0
bit_of a1 = 1
bit_of a2 = 2

abbrev pub metric : Attribute → Bool
metric a0 = true
metric a1 = true
metric a2 = false

abbrev pub same : Attribute → Attribute → Bool
same a0 a0 = true
same a0 a1 = false
same a0 a2 = false
same a1 a0 = false
same a1 a1 = true
same a1 a2 = false
same a2 a0 = false
same a2 a1 = false
same a2 a2 = true

-- The kind of a method: it sets one attribute, adds to one, or reads the attributes in a mask (one bit for each attribute). A
-- write's own mask is the one bit of its attribute.
pub data Kind : Type 0 where
  sets adds : Attribute → Kind
  reads : ℕ → Kind

-- Whether attribute a is in the mask.
abbrev pub within : ℕ → Attribute → Bool
within mask a = has_bit mask (bit_of a)

-- A disk type: the kind of each method, and `valid flag a`, the seconds for which attribute a is fresh to a reading with that flag.
pub record Table : Type 0 where
  pub kinds : List Kind
  pub valid : ℕ → Attribute → ℕ

-- The kinds a proper disk type may have: any set, an add to a metric attribute, a reading of
-- metric attributes, a reading of the state alone.
abbrev pub proper_kind : Kind → Bool
proper_kind (sets a) = true
proper_kind (adds a) = metric a
proper_kind (reads m) = cond (within m a2) (not (within m a0) && not (within m a1)) true

pub record Proper (t : Table) : Type 0 where
  pub proper : every_of proper_kind t.kinds ≡ true

-- ---- figures and claims

pub record Figures : Type 0 where
  pub f0 : Attr
  pub f1 : Attr
  pub f2 : Attr

abbrev pub attr : Figures → Attribute → Attr
attr f a0 = f.f0
attr f a1 = f.f1
attr f a2 = f.f2

-- The figures with attribute a replaced by x.
abbrev pub put_attr : Figures → Attribute → Attr → Figures
put_attr f a0 x = record { f0 = x; f1 = f.f1; f2 = f.f2 }
put_attr f a1 x = record { f0 = f.f0; f1 = x; f2 = f.f2 }
put_attr f a2 x = record { f0 = f.f0; f1 = f.f1; f2 = x }

-- What a decision looks at: the clock (set to now before the decision), the figures, and the active claims in the order of their grants.
pub record Core : Type 0 where
  pub clock : ℕ
  pub figures : Figures
  pub active : List Claim

-- A disk: its core, the waiting claims in the pass's order, and the next ticket.
pub record Disk : Type 0 where
  pub core : Core
  pub waiting : List Claim
  pub next : ℕ

-- ---- requests and answers

-- The fields of a claim's record. A priority up to 255 and a flag up to 1 are ensured earlier, by the record's bytes and refusal 10.
pub record Asked : Type 0 where
  pub now : ℕ
  pub method : ℕ
  pub priority : ℕ
  pub flag : ℕ
  pub measured : ℕ
  pub value : ℤ
  pub error : ℕ

-- The request q as a claim with ticket n.
abbrev pub claim_of : Asked → ℕ → Claim
claim_of q n =
    record {
      ticket = n;
      method = q.method;
      priority = q.priority;
      flag = q.flag;
      measured = q.measured;
      value = q.value;
      error = q.error;
      told = pos 0;
      amount = 0;
    }

-- An answer item. The first four numbers go into the answer buffer. `carried` does not: it is the error that the figures read
-- carried when a reading was granted, which demand 3 needs; it is 0 in every other item.
pub record Item : Type 0 where
  pub code : ℕ
  pub ticket : ℕ
  pub told : ℤ
  pub amount : ℕ
  pub carried : ℕ

-- The outcome of a call: a refusal with its number, or the new disk and the answer items, the call's own first.
pub data Outcome : Type 0 where
  refused : ℕ → Outcome
  accepted : Disk → List Item → Outcome
