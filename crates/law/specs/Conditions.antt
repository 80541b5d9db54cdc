-- The mission's conditions under which a reading is granted in its own call (demand 3, second half), and the answer that it then gets.
use Rattle.std.specs.Prelude.{ℕ, ◌+◌, ◌≤◌, ◌<◌, Bool, true, false, ◌≡◌, pos, length}
use Rattle.law.specs.Base.{All}
use Rattle.law.specs.Types.{most_error, places, last_ticket, Attribute, within, Kind, sets, adds, reads, Table, attr, Disk, Asked, Item}
use Rattle.law.specs.Entries.{kind_at, kind_of}
use Rattle.law.specs.Readings.{present, carried}

-- A method of this kind writes an attribute that is in mask m.
abbrev pub writes_what : ℕ → Kind → Bool
writes_what m (sets a) = within m a
writes_what m (adds a) = within m a
writes_what m (reads n) = false

module _ (t : Table) where
  -- A well-formed claim on a method that reads mask m: value and second of measuring are 0, the stated limit is in range.
  pub record Reading (q : Asked) (m : ℕ) : Type 0 where
    pub method : q.method < length t.kinds
    pub kind : kind_at t q.method ≡ reads m
    pub value : q.value ≡ pos 0
    pub measured : q.measured ≡ 0
    pub stated : q.error ≤ most_error

  -- The mission's conditions.
  pub record Free (d : Disk) (q : Asked) (m : ℕ) : Type 0 where
    -- no earlier than that disk's clock
    pub time : d.core.clock ≤ q.now
    -- tickets remain
    pub tickets : d.next ≤ last_ticket
    -- fewer than eight claims are active
    pub few : length d.core.active < places
    -- none active and none waiting at equal or higher priority writes what it reads
    pub none_active : All (λ w. writes_what m (kind_of t w) ≡ false) d.core.active
    pub none_waiting : All (λ w. q.priority ≤ w.priority → writes_what m (kind_of t w) ≡ false) d.waiting
    -- the carried error is within its limit
    pub bears : carried d.core.figures m ≤ q.error
    -- the figures are fresh if it asked for that
    pub freshly : (q.flag ≡ 0 → ⊥) → (a : Attribute) → within m a ≡ true → q.now < (attr d.core.figures a).stamp + t.valid q.flag a

-- The answer: told the present sum; the amount is the carried error.
abbrev pub reading_item : Disk → ℕ → Item
reading_item d m =
    record {
      code = 0;
      ticket = d.next;
      told = present d.core.figures m;
      amount = carried d.core.figures m;
      carried = carried d.core.figures m;
    }
