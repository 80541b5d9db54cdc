-- The lines of an answer: number, disk, code, ticket, told, amount; then a line for each grant of the pass, "+" before the number.
use Rattle.std.specs.Prelude.{ℕ, zero, suc, ◌+◌, ◌*◌, Bool, false, cond, not, List, [], ◌∷◌, ◌++◌, eqb, ltb, ℤ}
use Rattle.num.specs.Word.{word_at}
use Rattle.num.specs.Signed.{signed_at}
use Rattle.answer.specs.declared.Answer.{Answer}
use Rattle.answer.specs.Answers.{code_of, ticket_of, told_of, amount_of}
use Rattle.stopblocker.specs.Text.{decimal, signed_text}

-- 32 is a space, 10 the end of a line, 43 a plus.
abbrev pub next : ℕ → List ℕ
next n = 32 ∷ decimal n

-- Code, ticket, told and amount, to the end of the line.
unfoldable pub figures : ℕ → ℕ → ℤ → ℕ → List ℕ
figures code ticket told amount = next code ++ (next ticket ++ ((32 ∷ signed_text told) ++ (next amount ++ (10 ∷ []))))

-- The same for item k of an answer buffer.
abbrev pub item_text : List ℕ → ℕ → List ℕ
item_text a k = figures (word_at a (16 * k)) (word_at a (16 * k + 4)) (signed_at a (16 * k + 8)) (word_at a (16 * k + 12))

unfoldable pub line_of : ℕ → ℕ → List ℕ → ℕ → List ℕ
line_of number disk a k = decimal number ++ (next disk ++ item_text a k)

-- Item k, from 1 to 8, shows a grant of the pass: its ticket is not 0.
unfoldable pub is_grant : List ℕ → ℕ → Bool
is_grant a k = cond (ltb 8 k) false (not (eqb (word_at a (16 * k + 4)) 0))

-- The lines of the grants from item k on, at most `most` of them.
unfoldable pub grant_lines : ℕ → ℕ → ℕ → List ℕ → ℕ → List ℕ
grant_lines zero number disk a k = []
grant_lines (suc most) number disk a k =
    cond (is_grant a k) ((43 ∷ line_of number disk a k) ++ grant_lines most number disk a (k + 1)) []

-- All lines of a record's answer.
unfoldable pub lines_of : ℕ → ℕ → List ℕ → List ℕ
lines_of number disk a = line_of number disk a 0 ++ grant_lines 8 number disk a 1

-- ---- the same from the answers, not from the bytes that show them

-- The line of an answer.
unfoldable pub answer_line : ℕ → ℕ → Answer → List ℕ
answer_line number disk x = decimal number ++ (next disk ++ figures (code_of x) (ticket_of x) (told_of x) (amount_of x))

-- A line for each of these answers, in order, with "+" before the number.
unfoldable pub plus_lines : ℕ → ℕ → List Answer → List ℕ
plus_lines number disk [] = []
plus_lines number disk (x ∷ more) = (43 ∷ answer_line number disk x) ++ plus_lines number disk more
