-- The record of a row of the table, and the board after the row.
use Rattle.std.specs.Prelude.{ℕ, Option, Some, None, List, [], ◌∷◌, replicate}
use Rattle.num.specs.Signed.{word_of}
use Rattle.desk.specs.Record.{laid_out}
use Rattle.desk.specs.Step.{step_of}
use Rattle.situations.specs.declared.rows.Disk.{Disk}
use Rattle.situations.specs.declared.rows.Disk.TheVariants.{Opened, Closed}
use Rattle.situations.specs.declared.rows.Row.{Row}
use Rattle.situations.specs.declared.rows.Row.TheVariants.{Open, Claim, Release, Show}

-- The number of a disk.
abbrev pub number_of : Disk → ℕ
number_of Opened = 3
number_of Closed = 4

-- The record of a row, if it makes a call. All are on disk 3, except the claim on a closed disk, which is on disk 4.
abbrev pub record_of : Row → Option (List ℕ)
record_of (Open n now used promised) = Some (laid_out 1 3 0 0 0 (now ∷ 0 ∷ used ∷ promised ∷ []))
record_of (Claim disk now method priority flag measured value error) =
    Some (laid_out 2 (number_of disk) method priority flag (now ∷ measured ∷ word_of value ∷ error ∷ []))
record_of (Release now ticket) = Some (laid_out 3 3 0 0 0 (now ∷ ticket ∷ 0 ∷ 0 ∷ []))
record_of (Show ticket) = None

-- The board after a call with a record and an answer buffer of zeros, if there is one.
abbrev pub after_call : List ℕ → Option (List ℕ) → List ℕ
after_call b (Some r) = (step_of b r (replicate 144 0)).bytes
after_call b None = b

-- The board after a row: a row that only shows something leaves it.
unfoldable pub after_row : List ℕ → Row → List ℕ
after_row b q = after_call b (record_of q)
