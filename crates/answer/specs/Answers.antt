-- 01's number of each refusal, the code, ticket, told and amount of each answer, and the bytes of the answer buffer.
use Rattle.std.specs.Prelude.{ℕ, ◌+◌, ◌*◌, ◌-◌, cond, ◌&&◌, List, [], ◌∷◌, ◌++◌, ◌≡◌, leb, eqb, ℤ, pos, length, replicate}
use Rattle.num.specs.Word.{word_at}
use Rattle.num.specs.Signed.{word_of, signed_at}
use Rattle.num.specs.Runs.{flat}
use Rattle.answer.specs.declared.Refusal.{Refusal}
use Rattle.answer.specs.declared.Refusal.TheVariants as R
use Rattle.answer.specs.declared.Answer.{Answer}
use Rattle.answer.specs.declared.Shown.{Shown}
use Rattle.answer.specs.declared.Answer.TheVariants as A

-- ---- refusals

abbrev pub number_of : Refusal → ℕ
number_of R.Length = 9
number_of R.Record = 10
number_of R.Disk = 11
number_of R.Open = 12
number_of R.Closed = 13
number_of R.Unsound = 14
number_of R.Clock = 15
number_of R.Method = 16
number_of R.Field = 17
number_of R.OwnError = 18
number_of R.NoTicket = 19
number_of R.Full = 20
number_of R.Ticket = 21

-- The refusal with number n; any other number gives `Ticket`.
unfoldable pub refusal_of : ℕ → Refusal
refusal_of n =
    cond (eqb n 9) R.Length
    (cond (eqb n 10) R.Record
    (cond (eqb n 11) R.Disk
    (cond (eqb n 12) R.Open
    (cond (eqb n 13) R.Closed
    (cond (eqb n 14) R.Unsound
    (cond (eqb n 15) R.Clock
    (cond (eqb n 16) R.Method
    (cond (eqb n 17) R.Field
    (cond (eqb n 18) R.OwnError
    (cond (eqb n 19) R.NoTicket
    (cond (eqb n 20) R.Full R.Ticket)))))))))))

-- ---- the four figures of an answer

-- 0 granted, 1 waits, 2 released, 3 opened; a refusal's number.
abbrev pub code_of : Answer → ℕ
code_of (A.Granted t z m) = 0
code_of (A.Waits t) = 1
code_of (A.Released t) = 2
code_of A.Opened = 3
code_of (A.Refused r) = number_of r

-- Waits and released carry only the ticket, opened and a refusal nothing.
abbrev pub ticket_of : Answer → ℕ
ticket_of (A.Granted t z m) = t
ticket_of (A.Waits t) = t
ticket_of (A.Released t) = t
ticket_of A.Opened = 0
ticket_of (A.Refused r) = 0

abbrev pub told_of : Answer → ℤ
told_of (A.Granted t z m) = z
told_of (A.Waits t) = pos 0
told_of (A.Released t) = pos 0
told_of A.Opened = pos 0
told_of (A.Refused r) = pos 0

abbrev pub amount_of : Answer → ℕ
amount_of (A.Granted t z m) = m
amount_of (A.Waits t) = 0
amount_of (A.Released t) = 0
amount_of A.Opened = 0
amount_of (A.Refused r) = 0

-- ---- the buffer: nine items of 16 bytes

abbrev pub answer_size : ℕ
answer_size = 144

-- The four words of an item as it shows: code, ticket, told as signed, amount.
abbrev pub shown_bytes : Shown → List ℕ
shown_bytes s = flat (s.code ∷ s.ticket ∷ word_of s.told ∷ s.amount ∷ [])

-- An item: code, ticket, told as signed, amount.
unfoldable pub item_bytes : Answer → List ℕ
item_bytes a = flat (code_of a ∷ ticket_of a ∷ word_of (told_of a) ∷ amount_of a ∷ [])

unfoldable pub items_bytes : List Answer → List ℕ
items_bytes [] = []
items_bytes (a ∷ more) = item_bytes a ++ items_bytes more

-- First the call's own answer, then the pass's grants in order, unused items zero.
unfoldable pub answer_bytes : Answer → List Answer → List ℕ
answer_bytes own grants = item_bytes own ++ (items_bytes grants ++ replicate (128 - 16 * length grants) 0)

-- The buffer holds an answer and no grants.
pub record OwnOnly (s : List ℕ) : Type 0 where
  pub own : Answer
  pub is : s ≡ answer_bytes own []

-- If s holds an answer and no grants, t holds the same answer followed by these grants.
abbrev pub Behind : List ℕ → List Answer → List ℕ → Type 0
Behind s grants t = (own : Answer) → s ≡ answer_bytes own [] → t ≡ answer_bytes own grants

-- ---- an item read back

-- The figures of an answer, as an item shows them.
abbrev pub shown_of : Answer → Shown
shown_of a = record { code = code_of a; ticket = ticket_of a; told = told_of a; amount = amount_of a }

abbrev pub nothing : Shown
nothing = record { code = 0; ticket = 0; told = pos 0; amount = 0 }

-- The figures of item k of a buffer: 0 the call's own answer, 1 to 8 the grants. A buffer of another length shows nothing, and there is
-- no item above 8.
unfoldable pub shown_at : List ℕ → ℕ → Shown
shown_at s k =
    cond (eqb (length s) answer_size && leb k 8)
    (record { code = word_at s (16 * k); ticket = word_at s (16 * k + 4); told = signed_at s (16 * k + 8); amount = word_at s (16 * k + 12) })
    nothing
