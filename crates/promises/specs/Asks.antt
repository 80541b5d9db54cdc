-- What was asked on each disk: the accepted claims, each with its ticket and its record, and the tickets that were taken. And
-- the relation between a claim on the board and what was asked and said.
use Rattle.std.specs.Prelude.{ℕ, ◌+◌, ◌≤◌, ◌<◌, Bool, cond, List, [], ◌∷◌, ◌++◌, ◌≡◌, leb, eqb, pos}
use Rattle.num.specs.Metric.{dist}
use Rattle.num.specs.Word.{word_at}
use Rattle.num.specs.Signed.{signed_at}
use Rattle.law.specs.declared.Claim.{Claim}
use Rattle.law.specs.Base.{Some}
use Rattle.law.specs.Types.{reads, claim_of, Item}
use Rattle.law.specs.Readings.{present}
use Rattle.law.specs.Entries.{kind_at}
use Rattle.law.specs.DiskType.{disk_table}
use Rattle.law.specs.Granting.{put_told}
use Rattle.part.specs.Held.{held}
use Rattle.desk.specs.Record.{byte_at, kind_byte, disk_number, asked_in}
use Rattle.desk.specs.Step.{Said, refuses, accepts}
use Rattle.promises.specs.Histories.{BoardCall, said_by, items_in, History, after}
use Rattle.promises.specs.Sentences.{WellFormed}

-- The claim as it was asked for: told and amount, which a grant sets, are 0.
abbrev pub as_asked : Claim → Claim
as_asked c = put_told c (pos 0) 0

-- An accepted claim: the ticket that it took, and its record.
pub record Claimed : Type 0 where
  pub ticket : ℕ
  pub asks : List ℕ

-- What an accepted call with these items claimed; v says whether its record is a claim's.
abbrev pub taken_by : Bool → List Item → List ℕ → List Claimed
taken_by v [] r = []
taken_by v (i ∷ items) r = cond v (record { ticket = i.ticket; asks = r } ∷ []) []

-- What a call claimed, by what it said; a refused call claims nothing.
abbrev pub taken : Said → List ℕ → List Claimed
taken (refuses x) r = []
taken (accepts items) r = taken_by (eqb (kind_byte r) 2) items r

-- On disk d.
abbrev pub claimed_on : List ℕ → BoardCall → ℕ → List Claimed
claimed_on b k d = cond (eqb d (disk_number k.asks)) (taken (said_by b k) k.asks) []

-- By a list of calls.
unfoldable pub claimed : History → List BoardCall → ℕ → List Claimed
claimed h [] d = []
claimed h (k ∷ ks) d = claimed_on h.board k d ++ claimed (after h k) ks d

-- The ticket that a call took: the ticket of its own answer (the first item), if that grants a claim (code 0) or lets it wait (code 1).
abbrev pub took_by : List Item → List ℕ
took_by [] = []
took_by (i ∷ items) = cond (leb i.code 1) (i.ticket ∷ []) []

-- On disk d.
abbrev pub took_on : List ℕ → BoardCall → ℕ → List ℕ
took_on b k d = cond (eqb d (disk_number k.asks)) (took_by (items_in (said_by b k))) []

-- By a list of calls, in their order.
unfoldable pub took : History → List BoardCall → ℕ → List ℕ
took h [] d = []
took h (k ∷ ks) d = took_on h.board k d ++ took (after h k) ks d

-- The claim is one of those claimed: its ticket is the one taken, and all but told and amount is as the record asks.
abbrev pub AsAsked : List Claimed → Claim → Type 0
AsAsked past c = Some (λ x. as_asked c ≡ claim_of (asked_in x.asks) x.ticket) past

-- The claim's ticket is one of those claimed, and its own error or stated limit stands in bytes 20–23 of that record.
abbrev pub Stated : List Claimed → Claim → Type 0
Stated past c = Some (λ x. (c.ticket ≡ x.ticket) × (c.error ≡ word_at x.asks 20)) past

-- One of the items granted the claim: it has the claim's ticket and told sum.
abbrev pub WasGranted : List Item → Claim → Type 0
WasGranted past c = Some (λ i. (i.code ≡ 0) × ((i.ticket ≡ c.ticket) × (i.told ≡ c.told))) past

-- For a part p, the claims made on its disk and an item i said on it: if i granted a claim, one of those made took its ticket, and if the
-- method of that record (byte 4) reads mask m, the told sum and the present sum of the same figures differ by at most the limit that the
-- record states in bytes 20–23 less the error that those figures carried at that grant. Written as a sum: difference plus carried error
-- is within the limit.
abbrev pub Relies : List ℕ → List Claimed → Item → Type 0
Relies p made i =
    i.code ≡ 0 →
    Some
    (λ x.
    (x.ticket ≡ i.ticket) ×
    ((m : ℕ) → kind_at disk_table (byte_at x.asks 4) ≡ reads m →
    dist i.told (present (held p).core.figures m) + i.carried ≤ word_at x.asks 20))
    made

-- A well-formed claim on a method that reads mask m: second of measuring and value 0, a limit in range.
pub record AsksReading (r : List ℕ) (m : ℕ) : Type 0 where
  pub formed : WellFormed r
  pub claims : kind_byte r ≡ 2
  pub disk : disk_number r < 64
  pub method : byte_at r 4 < 7
  pub reading : kind_at disk_table (byte_at r 4) ≡ reads m
  pub measured : word_at r 12 ≡ 0
  pub value : signed_at r 16 ≡ pos 0
  pub stated : word_at r 20 ≤ 2_000_000_000
