-- The part of a disk: 768 bytes. A head of 64 bytes, then sixteen slots of 44, the active claims' eight and the waiting ones' eight.
-- Every figure is a word of four bytes, lowest first; docs/LAYOUT.md draws it.
use Rattle.std.specs.Prelude.{ℕ, zero, suc, ◌+◌, ◌*◌, ◌-◌, ◌^◌, ◌<◌, Bool, true, ◌&&◌, List, [], ◌∷◌, ◌++◌, ◌≡◌, leb, length, take, drop, get_or}
use Rattle.std.specs.Int.Signed.{mag}
use Rattle.num.specs.Word.{word_at}
use Rattle.num.specs.Signed.{signed_at, word_of}
use Rattle.num.specs.Runs.{flat, all_zero}
use Rattle.law.specs.declared.Attr.{Attr}
use Rattle.law.specs.declared.Claim.{Claim}
use Rattle.law.specs.Base.{all_true}
use Rattle.rules.specs.Rows.{no_claim}
use Rattle.rules.specs.declared.disk.Disk.{Disk}

-- ---- sizes and places

abbrev pub part_bytes : ℕ
part_bytes = 768

abbrev pub slot_bytes : ℕ
slot_bytes = 44

-- Where the words of the head stand: the clock, the next ticket, the two counts, the attributes, and two words that are zero.
abbrev pub clock_at : ℕ
clock_at = 0

abbrev pub next_at : ℕ
next_at = 4

abbrev pub actives_at : ℕ
actives_at = 8

abbrev pub waitings_at : ℕ
waitings_at = 12

abbrev pub used_at : ℕ
used_at = 16

abbrev pub promised_at : ℕ
promised_at = 32

abbrev pub state_at : ℕ
state_at = 48

abbrev pub head_spare_at : ℕ
head_spare_at = 56

-- Where the slots of the active claims begin, and those of the waiting ones.
abbrev pub active_at : ℕ
active_at = 64

abbrev pub waiting_at : ℕ
waiting_at = 416

-- ---- a claim in its slot: nine words of figures, two words zero

unfoldable pub claim_in : List ℕ → Claim
claim_in s =
    record {
      ticket = word_at s 0;
      method = word_at s 4;
      priority = word_at s 8;
      flag = word_at s 12;
      measured = word_at s 16;
      value = signed_at s 20;
      error = word_at s 24;
      told = signed_at s 28;
      amount = word_at s 32;
    }

unfoldable pub claim_words : Claim → List ℕ
claim_words c =
    c.ticket
    ∷ c.method
    ∷ c.priority
    ∷ c.flag
    ∷ c.measured
    ∷ word_of c.value
    ∷ c.error
    ∷ word_of c.told
    ∷ c.amount
    ∷ 0
    ∷ 0
    ∷ []

-- The claims of the first n slots of a run of slots.
unfoldable pub slots : ℕ → List ℕ → List Claim
slots zero s = []
slots (suc n) s = claim_in (take slot_bytes s) ∷ slots n (drop slot_bytes s)

-- The bytes of claims, slot after slot.
unfoldable pub in_slots : List Claim → List ℕ
in_slots [] = []
in_slots (c ∷ cs) = flat (claim_words c) ++ in_slots cs

-- ---- the head: clock, next ticket, the two counts; used and promised with value, stamp, amount and limit each; the state's value
-- and stamp (its amount and limit are 0 and have no place); two words zero

-- The four figures of used or promised.
unfoldable pub attr_at : List ℕ → ℕ → Attr
attr_at s at =
    record { value = signed_at s at; stamp = word_at s (at + 4); amount = word_at s (at + 8); limit = word_at s (at + 12) }

-- The state's two.
unfoldable pub state_in : List ℕ → ℕ → Attr
state_in s at = record { value = signed_at s at; stamp = word_at s (at + 4); amount = 0; limit = 0 }

unfoldable pub head_words : Disk → List ℕ
head_words d =
    d.clock
    ∷ d.next
    ∷ d.actives
    ∷ d.waitings
    ∷ word_of d.used.value
    ∷ d.used.stamp
    ∷ d.used.amount
    ∷ d.used.limit
    ∷ word_of d.promised.value
    ∷ d.promised.stamp
    ∷ d.promised.amount
    ∷ d.promised.limit
    ∷ word_of d.state.value
    ∷ d.state.stamp
    ∷ 0
    ∷ 0
    ∷ []

-- ---- a part and its disk

-- The disk by value that a part holds.
unfoldable pub decode : List ℕ → Disk
decode s =
    record {
      clock = word_at s clock_at;
      next = word_at s next_at;
      actives = word_at s actives_at;
      waitings = word_at s waitings_at;
      used = attr_at s used_at;
      promised = attr_at s promised_at;
      state = state_in s state_at;
      active = slots 8 (drop active_at s);
      waiting = slots 8 (drop waiting_at s);
    }

-- The part that holds a disk by value.
unfoldable pub encode : Disk → List ℕ
encode d = flat (head_words d) ++ (in_slots d.active ++ in_slots d.waiting)

-- ---- "the part decodes": every byte that carries no figure is zero

-- So many bytes from an index on are zero.
abbrev pub zero_at : List ℕ → ℕ → ℕ → Bool
zero_at s at n = all_zero (take n (drop at s))

-- In each of n slots from an index on, the two words behind the figures are zero.
unfoldable pub spare_zero : List ℕ → ℕ → ℕ → Bool
spare_zero s at zero = true
spare_zero s at (suc n) = spare_zero s at n && zero_at s (at + slot_bytes * n + 36) 8

-- Of eight slots from an index on the first n hold claims, and the others are zero.
unfoldable pub slots_whole : List ℕ → ℕ → ℕ → Bool
slots_whole s at n = all_true (leb n 8 ∷ spare_zero s at n ∷ zero_at s (at + slot_bytes * n) (slot_bytes * (8 - n)) ∷ [])

-- The part decodes. (Of told and amount, which stand in an active reading only, the law's test speaks.)
unfoldable pub decodes : List ℕ → Bool
decodes s = all_true (zero_at s head_spare_at 8 ∷ slots_whole s active_at (word_at s actives_at) ∷ slots_whole s waiting_at (word_at s waitings_at) ∷ [])

-- ---- what has a place in a part: words of 32 bits

pub record ClaimFits (c : Claim) : Type 0 where
  pub ticket : c.ticket < 2 ^ 32
  pub method : c.method < 2 ^ 32
  pub priority : c.priority < 2 ^ 32
  pub flag : c.flag < 2 ^ 32
  pub measured : c.measured < 2 ^ 32
  pub value : mag c.value < 2 ^ 31
  pub error : c.error < 2 ^ 32
  pub told : mag c.told < 2 ^ 31
  pub amount : c.amount < 2 ^ 32

pub record AttrFits (a : Attr) : Type 0 where
  pub value : mag a.value < 2 ^ 31
  pub stamp : a.stamp < 2 ^ 32
  pub amount : a.amount < 2 ^ 32
  pub limit : a.limit < 2 ^ 32

-- The state's amount and limit have no place, so they are 0.
pub record StateFits (a : Attr) : Type 0 where
  pub value : mag a.value < 2 ^ 31
  pub stamp : a.stamp < 2 ^ 32
  pub amount : a.amount ≡ 0
  pub limit : a.limit ≡ 0

-- Eight places whose claims all have a slot.
pub record ClaimsFit (cs : List Claim) : Type 0 where
  pub room : length cs ≡ 8
  pub each : (k : ℕ) → ClaimFits (get_or cs k no_claim)

-- A disk of which every figure has its place.
pub record DiskFits (d : Disk) : Type 0 where
  pub clock : d.clock < 2 ^ 32
  pub next : d.next < 2 ^ 32
  pub actives : d.actives < 2 ^ 32
  pub waitings : d.waitings < 2 ^ 32
  pub used : AttrFits d.used
  pub promised : AttrFits d.promised
  pub state : StateFits d.state
  pub active : ClaimsFit d.active
  pub waiting : ClaimsFit d.waiting
