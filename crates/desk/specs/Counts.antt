-- The number of open disks of a board, and whether a disk is open.
use Rattle.std.specs.Prelude.{ℕ, Bool, cond, ◌&&◌, Result, Ok, Err, List, ltb, eqb, length}
use Rattle.num.specs.Opened.{open_at, open_count}
use Rattle.answer.specs.declared.Refusal.{Refusal}
use Rattle.answer.specs.declared.Refusal.TheVariants as R
use Rattle.desk.specs.Board.{disks, board_bytes}

-- The count of the open bits; a board of another length is refused.
unfoldable pub count_of : List ℕ → Result ℕ Refusal
count_of b = cond (eqb (length b) board_bytes) (Ok (open_count b)) (Err R.Length)

-- Whether disk d of a board is open; a board of another length has none, nor is there a disk above 63.
unfoldable pub open_on : List ℕ → ℕ → Bool
open_on b d = eqb (length b) board_bytes && (ltb d disks && open_at b d)
