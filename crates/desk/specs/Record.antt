-- A request record: 24 bytes, little-endian. When it is well formed, and the request that it holds.
use Rattle.std.specs.Prelude.{ℕ, Bool, true, false, cond, ◌≡◌, Result, Ok, Err, List, [], ◌∷◌, leb, eqb, length, take, drop, get_or}
use Rattle.num.specs.Word.{word_at}
use Rattle.num.specs.Signed.{signed_at}
use Rattle.num.specs.Runs.{flat, all_zero}
use Rattle.law.specs.Base.{all_true}
use Rattle.law.specs.Types.{most_flag, Asked}
use Rattle.law.specs.History.{Call, claims, releases}
use Rattle.std.specs.Borrow.{Bor}
use Rattle.answer.specs.declared.Refusal.{Refusal}
use Rattle.answer.specs.declared.Refusal.TheVariants as R
use Rattle.desk.specs.declared.record.Kind.{Kind}
use Rattle.desk.specs.declared.record.Kind.TheVariants as K
use Rattle.rules.specs.declared.method.Unknown.{Unknown}

abbrev pub byte_at : List ℕ → ℕ → ℕ
byte_at r i = get_or r i 0

-- ---- where what stands: 0–1 the mark, 2 kind, 3 disk, 4 method, 5 priority, 6 fresh flag, 7 zero, 8–11 now

-- 1 open, 2 claim, 3 release.
abbrev pub kind_byte : List ℕ → ℕ
kind_byte r = byte_at r 2

abbrev pub disk_number : List ℕ → ℕ
disk_number r = byte_at r 3

abbrev pub now_of : List ℕ → ℕ
now_of r = word_at r 8

-- The length of a record of a kind.
abbrev pub record_bytes : ℕ → ℕ
record_bytes kind = 24

-- ---- well formed: no refusal 10

-- So many bytes from an index on are zero.
abbrev pub unused : List ℕ → ℕ → ℕ → Bool
unused r at n = all_zero (take n (drop at r))

-- The kind is known, and the bytes that it does not use are zero: 4–6 and 12–15 of an open, 4–6 and 16–23 of a release.
abbrev pub kind_fits : List ℕ → ℕ → Bool
kind_fits r kind =
    cond (eqb kind 1) (all_true (unused r 4 3 ∷ unused r 12 4 ∷ []))
    (cond (eqb kind 2) true
    (cond (eqb kind 3) (all_true (unused r 4 3 ∷ unused r 16 8 ∷ [])) false))

-- 24 bytes, the mark, a known kind with its unused bytes zero, flag 0 or 1, byte 7 zero.
unfoldable pub well_formed : List ℕ → Bool
well_formed r =
    all_true (eqb (length r) (record_bytes (kind_byte r))
    ∷ eqb (byte_at r 0) 0x52
    ∷ eqb (byte_at r 1) 0x42
    ∷ eqb (byte_at r 7) 0
    ∷ leb (byte_at r 6) most_flag
    ∷ kind_fits r (kind_byte r)
    ∷ [])

-- The record that is read in lent bytes: the bytes themselves where they are well formed, else refusal 10.
abbrev pub RecordIn : List ℕ → Result (Bor (List ℕ)) Refusal → Type 0
RecordIn r (Ok s) = (well_formed r ≡ true) × (s.now ≡ r)
RecordIn r (Err e) = (well_formed r ≡ false) × (e ≡ R.Record)

-- The kinds by their numbers; any other number is none.
abbrev pub kind_of : ℕ → Result Kind Unknown
kind_of n = cond (eqb n 1) (Ok K.Open) (cond (eqb n 2) (Ok K.Claim) (cond (eqb n 3) (Ok K.Release) (Err (record {}))))

abbrev pub number_of : Kind → ℕ
number_of K.Open = 1
number_of K.Claim = 2
number_of K.Release = 3

-- ---- the request

-- A claim's fields: 12–15 second of measuring, 16–19 signed value, 20–23 own error or stated limit.
unfoldable pub asked_in : List ℕ → Asked
asked_in r =
    record {
      now = now_of r;
      method = byte_at r 4;
      priority = byte_at r 5;
      flag = byte_at r 6;
      measured = word_at r 12;
      value = signed_at r 16;
      error = word_at r 20;
    }

-- A claim, or the release of the ticket in 12–15.
abbrev pub call_of : List ℕ → Call
call_of r = cond (eqb (kind_byte r) 2) (claims (asked_in r)) (releases (now_of r) (word_at r 12))

-- The limits of used and promised of an open: 16–19 and 20–23.
abbrev pub used_limit : List ℕ → ℕ
used_limit r = word_at r 16

abbrev pub promised_limit : List ℕ → ℕ
promised_limit r = word_at r 20

-- ---- a record made from its fields

-- A record: the mark, kind, disk, method, priority, fresh flag and zero; then four words.
abbrev pub laid_out : ℕ → ℕ → ℕ → ℕ → ℕ → List ℕ → List ℕ
laid_out kind disk method priority flag words =
    0x52 ∷ 0x42 ∷ kind ∷ disk ∷ method ∷ priority ∷ flag ∷ 0 ∷ flat words
