-- How a situation is written down: requests, the steps after an open, the expected result of each step, and the test of a situation.
use Rattle.std.specs.Prelude.{ℕ, Bool, true, false, ◌&&◌, List, [], ◌∷◌, eqb, ℤ, pos, neg_ℤ}
use Rattle.num.specs.Bits.{has_bit}
use Rattle.num.specs.Metric.{dist}
use Rattle.law.specs.Base.{all_true, any_of}
use Rattle.law.specs.Types.{Asked, Item, Outcome, refused, accepted}
use Rattle.law.specs.Granting.{preconditions, total, lock_step, bars, granted, grant, grant_item}
use Rattle.law.specs.Calls.{opened, open_disk, claim, release, finish, turn, pass_over}
use Rattle.law.specs.DiskType.{disk_table}
use Rattle.law.specs.History.{Call, History, begun, after, answered}

-- ---- requests

-- The fields: now, method, priority, fresh flag, second of measuring, value, own error or stated limit.
abbrev request : ℕ → ℕ → ℕ → ℕ → ℕ → ℤ → ℕ → Asked
request now m p flag second z e =
    record { now = now; method = m; priority = p; flag = flag; measured = second; value = z; error = e }

-- A request on method m at second 0, of priority 5. A write has a value and an own error, a reading a stated limit.
abbrev pub asks : ℕ → ℤ → ℕ → Asked
asks m z e = request 0 m 5 0 0 z e

abbrev pub report_used : ℕ → ℕ → Asked
report_used z own = asks 0 (pos z) own

abbrev pub add_promised : ℤ → ℕ → Asked
add_promised d own = asks 1 d own

abbrev pub set_promised : ℕ → ℕ → Asked
set_promised z own = asks 2 (pos z) own

abbrev pub set_state : ℕ → Asked
set_state z = asks 3 (pos z) 0

abbrev pub read_used : ℕ → Asked
read_used stated = asks 4 (pos 0) stated

abbrev pub read_load : ℕ → Asked
read_load stated = asks 5 (pos 0) stated

abbrev pub read_state : ℕ → Asked
read_state stated = asks 6 (pos 0) stated

abbrev pub minus : ℕ → ℤ
minus n = neg_ℤ (pos n)

-- The same request with another priority; at another second; measured at second n; asking for fresh figures.
abbrev pub priority : ℕ → Asked → Asked
priority p q = request q.now q.method p q.flag q.measured q.value q.error

abbrev pub second : ℕ → Asked → Asked
second n q = request n q.method q.priority q.flag q.measured q.value q.error

abbrev pub measured : ℕ → Asked → Asked
measured n q = request q.now q.method q.priority q.flag n q.value q.error

abbrev pub fresh : Asked → Asked
fresh q = request q.now q.method q.priority 1 q.measured q.value q.error

-- ---- what is expected

-- An answer item as the buffer shows it.
pub record Line : Type 0 where
  pub code : ℕ
  pub ticket : ℕ
  pub told : ℤ
  pub amount : ℕ

-- A granted write, with the attribute's amount after the grant; a granted reading; an item that carries only the ticket.
abbrev pub write : ℕ → ℕ → Line
write n amount = record { code = 0; ticket = n; told = pos 0; amount = amount }

abbrev pub reading : ℕ → ℤ → ℕ → Line
reading n told amount = record { code = 0; ticket = n; told = told; amount = amount }

abbrev pub only : ℕ → ℕ → Line
only code n = record { code = code; ticket = n; told = pos 0; amount = 0 }

-- The expected result of a call: a grant, a wait, a release with the grants of its pass in order, a refusal.
pub data Expected : Type 0 where
  grants : Line → Expected
  waits : ℕ → Expected
  ends : ℕ → List Line → Expected
  refuses : ℕ → Expected

-- A step of a situation: a call with its expected result; or `bears n told amount`, the active claim with ticket n now has this
-- told sum and amount; or `carries n error`, the figures carried this error when ticket n was granted.
infix 70 ◌⇒◌
pub data Step : Type 0 where
  ◌⇒◌ : Call → Expected → Step
  bears : ℕ → ℤ → ℕ → Step
  carries : ℕ → ℕ → Step

-- A disk opened at a second with limits of used and promised, and the steps that follow.
pub data Situation : Type 0 where
  opening : ℕ → ℕ → ℕ → List Step → Situation

-- Used and promised limit 1,000, opened at second 0.
abbrev pub usual : List Step → Situation
usual steps = opening 0 1_000 1_000 steps

-- ---- the test of a situation

-- The item shows the line.
abbrev shows : Line → Item → Bool
shows l i =
    all_true
    (eqb i.code l.code
    ∷ eqb i.ticket l.ticket
    ∷ eqb (dist i.told l.told) 0
    ∷ eqb i.amount l.amount
    ∷ [])

-- The items show these lines and no others.
abbrev shows_all : List Line → List Item → Bool
shows_all [] [] = true
shows_all [] (i ∷ items) = false
shows_all (l ∷ ls) [] = false
shows_all (l ∷ ls) (i ∷ items) = shows l i && shows_all ls items

-- The call is accepted, and its answer shows these lines.
abbrev answers : List Line → Outcome → Bool
answers ls (refused n) = false
answers ls (accepted d items) = shows_all ls items

-- The outcome is the one expected. Codes: 1 waits, 2 released.
abbrev meets : Expected → Outcome → Bool
meets (grants l) o = answers (l ∷ []) o
meets (waits n) o = answers (only 1 n ∷ []) o
meets (ends n ls) o = answers (only 2 n ∷ ls) o
meets (refuses n) (refused m) = eqb m n
meets (refuses n) (accepted d items) = false

-- The active claim with ticket n has that told sum and amount.
abbrev bearing : History → ℕ → ℤ → ℕ → Bool
bearing h n told amount =
    any_of
    (λ w. all_true (eqb w.ticket n ∷ eqb (dist w.told told) 0 ∷ eqb w.amount amount ∷ []))
    h.disk.core.active

-- The figures carried that error when ticket n was granted.
abbrev carrying : History → ℕ → ℕ → Bool
carrying h n error = any_of (λ i. all_true (eqb i.code 0 ∷ eqb i.ticket n ∷ eqb i.carried error ∷ [])) h.past

-- Each step from a history goes as expected.
abbrev goes : History → List Step → Bool
goes h [] = true
goes h ((k ⇒ e) ∷ steps) = meets e (answered disk_table h.disk k) && goes (after h (answered disk_table h.disk k)) steps
goes h (bears n told amount ∷ steps) = bearing h n told amount && goes h steps
goes h (carries n error ∷ steps) = carrying h n error && goes h steps

-- The disk is opened, with code 3, and each step goes as expected.
unfoldable pub holds : Situation → Bool
unfolding opened open_disk claim release finish turn pass_over preconditions total lock_step bars granted grant grant_item disk_table dist has_bit
holds (opening now l0 l1 steps) = answers (only 3 0 ∷ []) (open_disk now l0 l1) && goes (begun now l0 l1) steps
