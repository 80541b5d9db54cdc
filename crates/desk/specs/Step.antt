-- What a call comes to, from bytes to bytes: lengths (9), record (10), disk (11), open bit (12, 13), the disk's part (14), and on it
-- the law of one disk (15 to 21, grants and passes).
use Rattle.std.specs.Prelude.{ℕ, cond, ◌&&◌, ◌≡◌, Result, Ok, Err, List, [], ◌∷◌, map, leb, eqb, length}
use Rattle.num.specs.Opened.{open_at, set_open}
use Rattle.law.specs.Types.{Disk as LawDisk, Item, Outcome, refused, accepted}
use Rattle.law.specs.Calls.{item, pass, open_disk}
use Rattle.law.specs.History.{Call, answered}
use Rattle.law.specs.DiskType.{disk_table}
use Rattle.rules.specs.Answers.{answer_of}
use Rattle.part.specs.Held.{held, part_for, sound_part}
use Rattle.answer.specs.declared.Answer.{Answer}
use Rattle.answer.specs.declared.Answer.TheVariants as A
use Rattle.answer.specs.declared.Refusal.{Refusal}
use Rattle.answer.specs.declared.Refusal.TheVariants as R
use Rattle.answer.specs.Answers.{refusal_of, code_of, answer_bytes, answer_size}
use Rattle.pass.specs.Turns.{passed_of}
use Rattle.desk.specs.Record.{well_formed, kind_byte, disk_number, now_of, call_of, used_limit, promised_limit}
use Rattle.desk.specs.Board.{disks, board_bytes, part_of, with_part}

-- ---- answers

-- What a call says: a refusal, or the items of the law, the call's own first, then the grants of its pass in order.
pub data Said : Type 0 where
  refuses : Refusal → Said
  accepts : List Item → Said

-- The call's own answer, and the grants of its pass. (Every accepted call has an item of its own.)
abbrev pub own_of : Said → Answer
own_of (refuses r) = A.Refused r
own_of (accepts []) = A.Opened
own_of (accepts (i ∷ items)) = answer_of i

abbrev pub grants_of : Said → List Answer
grants_of (refuses r) = []
grants_of (accepts []) = []
grants_of (accepts (i ∷ items)) = map answer_of items

-- ---- what a call comes to

-- The bytes lent to be written, a part or the board, after the call; and what the call says.
pub record Effect : Type 0 where
  pub bytes : List ℕ
  pub said : Said

abbrev pub effect : List ℕ → Said → Effect
effect s m = record { bytes = s; said = m }

-- A refusal leaves the bytes as they were.
abbrev pub refusing : List ℕ → Refusal → Effect
refusing s r = effect s (refuses r)

-- ---- a call on the part of an open disk

-- What the law's outcome comes to on a part.
abbrev pub settled : List ℕ → Outcome → Effect
settled p (refused n) = refusing p (refusal_of n)
settled p (accepted d items) = effect (part_for d) (accepts items)

-- A release whose claim has ended, which leaves the disk e: its ticket, and the pass over e.
unfoldable pub released : LawDisk → ℕ → Outcome
released e n = accepted (passed_of e) (item 2 n ∷ (pass disk_table e.core e.waiting).items)

unfoldable pub serve_of : List ℕ → Call → Effect
serve_of p k = cond (sound_part p) (settled p (answered disk_table (held p) k)) (refusing p R.Unsound)

-- ---- a call on a board of the right length

-- Only the disk's own part is written.
abbrev pub on_part : List ℕ → ℕ → Effect → Effect
on_part b d t = effect (with_part b d t.bytes) t.said

-- An open also sets the disk's bit.
abbrev pub opening : List ℕ → ℕ → Outcome → Effect
opening b d (refused n) = refusing b (refusal_of n)
opening b d (accepted e items) = effect (set_open (with_part b d (part_for e)) d) (accepts items)

abbrev pub on_disk : List ℕ → List ℕ → ℕ → Effect
on_disk b r d =
    cond (eqb (kind_byte r) 1)
    (cond (open_at b d) (refusing b R.Open) (opening b d (open_disk (now_of r) (used_limit r) (promised_limit r))))
    (cond (open_at b d) (on_part b d (serve_of (part_of b d) (call_of r))) (refusing b R.Closed))

-- A well-formed record.
unfoldable pub on_board : List ℕ → List ℕ → Effect
on_board b r = cond (leb disks (disk_number r)) (refusing b R.Disk) (on_disk b r (disk_number r))

-- Any record.
unfoldable pub effect_of : List ℕ → List ℕ → Effect
effect_of b r = cond (well_formed r) (on_board b r) (refusing b R.Record)

-- ---- the call

-- The code, and what the bytes lent to be written and the answer buffer hold at the end.
pub record Stepped : Type 0 where
  pub code : ℕ
  pub bytes : List ℕ
  pub answer : List ℕ

abbrev pub stepped : ℕ → List ℕ → List ℕ → Stepped
stepped n s a = record { code = n; bytes = s; answer = a }

-- All of the answer buffer is rewritten; the call returns the first item's code.
abbrev pub written : Effect → Stepped
written t = stepped (code_of (own_of t.said)) t.bytes (answer_bytes (own_of t.said) (grants_of t.said))

-- What a call that may be refused leaves of the bytes lent to be written and of the answer buffer. An accepted one returns its code, and
-- its answer stands in the buffer; of a refused one the refusal is still to be put there, and the bytes are as they were.
abbrev pub Ends : Result ℕ Refusal → List ℕ → List ℕ → Effect → Type 0
Ends (Ok n) s a t = stepped n s a ≡ written t
Ends (Err r) s a t = refusing s r ≡ t

-- 9 is returned alone: neither buffer is touched.
unfoldable pub step_of : List ℕ → List ℕ → List ℕ → Stepped
step_of b r a =
    cond (eqb (length b) board_bytes && eqb (length a) answer_size) (written (effect_of b r)) (stepped 9 b a)
