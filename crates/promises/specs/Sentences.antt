-- Refusals 9 to 21 as 01's sentences over bytes, in the order they apply: the list is 01's table.
-- And when a claim that is not refused is granted.
use Rattle.std.specs.Prelude.{ℕ, ◌≤◌, ◌<◌, true, false, cond, List, [], ◌∷◌, ◌⊎◌, ◌≡◌, eqb, length}
use Rattle.num.specs.Opened.{open_at}
use Rattle.law.specs.declared.Claim.{Claim}
use Rattle.law.specs.Base.{All}
use Rattle.law.specs.Types.{Core, Disk as LawDisk}
use Rattle.law.specs.Granting.{preconditions, lock_step, bars}
use Rattle.law.specs.Calls.{at, asked}
use Rattle.law.specs.Sentences.{Sentence, open_sentences, sentences_of}
use Rattle.law.specs.Sound.{Sound}
use Rattle.law.specs.DiskType.{disk_table}
use Rattle.part.specs.Layout.{decodes}
use Rattle.desk.specs.Record.{byte_at, kind_byte, disk_number, asked_in, call_of, used_limit, promised_limit}
use Rattle.desk.specs.Board.{part_of}
use Rattle.part.specs.Held.{held}

-- ---- 10: a well-formed record

-- The bytes from index `from` up to, but not including, `to` are zero.
abbrev pub Unused : List ℕ → ℕ → ℕ → Type 0
Unused r from to = (k : ℕ) → from ≤ k → k < to → byte_at r k ≡ 0

-- An open with bytes 4–6 and 12–15 zero, a claim, or a release with bytes 4–6 and 16–23 zero.
abbrev pub KindFits : List ℕ → Type 0
KindFits r =
    ((kind_byte r ≡ 1) × Unused r 4 7 × Unused r 12 16) ⊎ ((kind_byte r ≡ 2) ⊎ ((kind_byte r ≡ 3) × Unused r 4 7 × Unused r 16 24))

-- A well-formed record, which 10 does not refuse.
pub record WellFormed (r : List ℕ) : Type 0 where
  pub size : length r ≡ 24
  pub mark : (byte_at r 0 ≡ 0x52) × (byte_at r 1 ≡ 0x42)
  pub kind : KindFits r
  pub flag : byte_at r 6 ≤ 1
  pub zero : byte_at r 7 ≡ 0

-- ---- 14: a sound part

-- The part decodes, and the disk that it holds is sound.
pub record SoundPart (p : List ℕ) : Type 0 where
  pub whole : decodes p ≡ true
  pub holds : Sound disk_table (held p)

-- ---- the sentences

-- 15 to 21: the sentences of an open, or of the claim or release on the disk that the part holds.
abbrev pub rule_sentences : List ℕ → List ℕ → List Sentence
rule_sentences b r =
    cond (eqb (kind_byte r) 1)
    (open_sentences (used_limit r) (promised_limit r))
    (sentences_of disk_table (held (part_of b (disk_number r))) (call_of r))

-- 9 board or answer buffer of another length; 10 a record that is not well formed; 11 a disk above 63; 12 open of an open disk; 13 claim
-- or release on a closed disk; 14 a part that is not sound (not for open); then 15 to 21.
abbrev pub sentences : List ℕ → List ℕ → List ℕ → List Sentence
sentences b r a =
    record { number = 9; says = (length b ≡ 49_216) × (length a ≡ 144) → ⊥ }
    ∷ record { number = 10; says = WellFormed r → ⊥ }
    ∷ record { number = 11; says = 63 < disk_number r }
    ∷ record { number = 12; says = (kind_byte r ≡ 1) × (open_at b (disk_number r) ≡ true) }
    ∷ record { number = 13; says = (kind_byte r ≡ 1 → ⊥) × (open_at b (disk_number r) ≡ false) }
    ∷ record { number = 14; says = (kind_byte r ≡ 1 → ⊥) × (SoundPart (part_of b (disk_number r)) → ⊥) }
    ∷ rule_sentences b r

-- ---- no refusal

-- None of the sentences holds.
abbrev pub NoneHold : List Sentence → Type 0
NoneHold [] = Unit {0}
NoneHold (s ∷ ss) = (s.says → ⊥) × NoneHold ss

-- Granted: preconditions hold, nothing bars, the lock step passes, fewer than 8 are active.
pub record Grants (s : Core) (waiting : List Claim) (c : Claim) : Type 0 where
  pub holds : preconditions disk_table s c ≡ true
  pub unbarred : All (λ w. bars disk_table s c w ≡ false) waiting
  pub passes : lock_step disk_table s c ≡ true
  pub place : length s.active < 8

-- The record's claim is granted on the disk d, at the record's second and with the disk's next ticket.
abbrev pub GrantsOn : LawDisk → List ℕ → Type 0
GrantsOn d r = Grants (at d (asked_in r).now) d.waiting (asked d (asked_in r))

-- The record's claim is granted on the disk that its part of the board holds.
abbrev pub GrantsIn : List ℕ → List ℕ → Type 0
GrantsIn b r = GrantsOn (held (part_of b (disk_number r))) r
