-- The history of a board: any calls from the empty board, each with any record and any answer
-- buffer, and what was said on each disk so far.
use Rattle.std.specs.Prelude.{ℕ, cond, ◌&&◌, List, [], ◌∷◌, ◌++◌, eqb, length, replicate}
use Rattle.num.specs.Word.{Bytes}
use Rattle.law.specs.Types.{Item}
use Rattle.answer.specs.Answers.{answer_size}
use Rattle.answer.specs.declared.Refusal.TheVariants as R
use Rattle.desk.specs.Record.{disk_number}
use Rattle.desk.specs.Board.{board_bytes}
use Rattle.desk.specs.Step.{Said, refuses, accepts, effect_of, Stepped, step_of}

-- All zeros is the empty board.
abbrev pub empty_board : List ℕ
empty_board = replicate board_bytes 0

-- What a call gets besides the board: the bytes of a record and of an answer buffer.
pub record BoardCall : Type 0 where
  pub asks : List ℕ
  pub buffer : List ℕ

-- The record consists of bytes: each number is below 256.
abbrev pub BytesIn : BoardCall → Type 0
BytesIn k = Bytes k.asks

-- The call's code, and the board and answer buffer after it.
abbrev pub step_by : List ℕ → BoardCall → Stepped
step_by b k = step_of b k.asks k.buffer

-- What the call says: a refusal, or its items, each with the error that the figures carried at that grant.
unfoldable pub said_by : List ℕ → BoardCall → Said
said_by b k =
    cond (eqb (length b) board_bytes && eqb (length k.buffer) answer_size) (effect_of b k.asks).said (refuses R.Length)

-- A refusal has no items.
abbrev pub items_in : Said → List Item
items_in (refuses r) = []
items_in (accepts items) = items

-- The items that a call says on disk d.
abbrev pub items_on : List ℕ → BoardCall → ℕ → List Item
items_on b k d = cond (eqb d (disk_number k.asks)) (items_in (said_by b k)) []

-- A board, and for each disk the items said on it so far.
pub record History : Type 0 where
  pub board : List ℕ
  pub past : ℕ → List Item

-- The history begins with the empty board and nothing said.
abbrev pub begun : History
begun = record { board = empty_board; past = λ d. [] }

-- After one more call: the board that it leaves, and its items appended.
abbrev pub after : History → BoardCall → History
after h k = record { board = (step_by h.board k).bytes; past = λ d. h.past d ++ items_on h.board k d }

-- The history after a list of calls.
unfoldable pub lived : History → List BoardCall → History
lived h [] = h
lived h (k ∷ ks) = lived (after h k) ks
