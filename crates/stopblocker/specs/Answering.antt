-- How the program goes through a run of records: for each piece that is due, one call of the desk and its lines.
use Rattle.std.specs.Prelude.{ℕ, zero, suc, ◌+◌, Bool, cond, List, [], ◌++◌, eqb, ltb, length, get_or, replicate}
use Rattle.desk.specs.Step.{Stepped, step_of}
use Rattle.records.specs.declared.Piece.{Piece}
use Rattle.records.specs.declared.Piece.TheVariants.{Record, Short, End}
use Rattle.records.specs.Pieces.{piece_at, span, bytes_of}
use Rattle.stopblocker.specs.Lines.{lines_of}

-- ---- one piece

-- The call, with an answer buffer of zeros.
abbrev pub called : List ℕ → List ℕ → Stepped
called b r = step_of b r (replicate 144 0)

-- The disk that is shown: a record refused 10 shows 0.
unfoldable pub shown_disk : ℕ → List ℕ → ℕ
shown_disk code r = cond (eqb code 10) 0 (get_or r 3 0)

unfoldable pub answer_lines : List ℕ → List ℕ → ℕ → List ℕ
answer_lines b r number = lines_of number (shown_disk (called b r).code r) (called b r).answer

-- ---- a run

-- Where the piece at `at` ends, if it is due; otherwise `at`. A short piece is due only if no more bytes come.
abbrev pub due_of : Piece → ℕ → Bool → ℕ
due_of (Record to) at last = to
due_of (Short to) at last = cond last to at
due_of End at last = at

abbrev pub due_at : List ℕ → ℕ → Bool → ℕ
due_at s at last = due_of (piece_at s at) at last

-- How far a run has been answered: the board, the text, the number of the last record, and the place behind it.
pub record Reached : Type 0 where
  pub board : List ℕ
  pub text : List ℕ
  pub number : ℕ
  pub at : ℕ

abbrev pub reached : List ℕ → List ℕ → ℕ → ℕ → Reached
reached b text number at = record { board = b; text = text; number = number; at = at }

-- After the piece up to `to` is answered.
abbrev pub answered_to : List ℕ → Reached → ℕ → Reached
answered_to s e to =
    reached
    (called e.board (bytes_of s (span e.at to))).bytes
    (e.text ++ answer_lines e.board (bytes_of s (span e.at to)) (e.number + 1))
    (e.number + 1)
    to

-- After at most `most` pieces are answered.
unfoldable pub answered_by : ℕ → List ℕ → Bool → Reached → Reached
answered_by zero s last e = e
answered_by (suc most) s last e =
    cond (ltb e.at (due_at s e.at last)) (answered_by most s last (answered_to s e (due_at s e.at last))) e

-- After all that is due in a run is answered; a run has at most as many pieces as bytes.
abbrev pub answered_run : List ℕ → List ℕ → ℕ → Bool → Reached
answered_run b s from last = answered_by (length s) s last (reached b [] from 0)
