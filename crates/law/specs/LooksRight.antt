-- 01's "Errors that look right": for each of the five, situations whose outcome differs if the error is made.
use Rattle.std.specs.Prelude.{true, List, [], ◌∷◌, ◌≡◌, refl, pos}
use Rattle.law.specs.Base.{every_of}
use Rattle.law.specs.History.{claims, releases}
use Rattle.law.specs.Steps.{report_used, add_promised, read_used, read_load, minus, priority, second, measured, fresh, write, reading, grants, waits, ends, ◌⇒◌, bears, Situation, opening, usual, holds}

unfoldable pub looks_right : List Situation
looks_right =
    -- A new set is compared with each active set: 4; 6 + 2; 5 + 1 + 1; 7 + 3 + 1 + 2, which is over 10.
    opening 0 10 1_000
    (claims (report_used 100 0) ⇒ grants (write 1 0)
    ∷ claims (report_used 104 0) ⇒ grants (write 2 4)
    ∷ claims (report_used 106 0) ⇒ grants (write 3 8)
    ∷ claims (report_used 105 0) ⇒ grants (write 4 7)
    ∷ claims (report_used 107 0) ⇒ waits 5
    ∷ [])
    -- A report that would exceed the second reading's limit waits, and the first reading's amount stays as it was too.
    ∷ usual
    (claims (read_used 100) ⇒ grants (reading 1 (pos 0) 0)
    ∷ claims (read_used 50) ⇒ grants (reading 2 (pos 0) 0)
    ∷ claims (report_used 60 0) ⇒ waits 3
    ∷ bears 1 (pos 0) 0
    ∷ bears 2 (pos 0) 0
    ∷ claims (priority 6 (report_used 50 0)) ⇒ grants (write 4 0)
    ∷ bears 1 (pos 0) 50
    ∷ bears 2 (pos 0) 50
    ∷ [])
    -- A report too far from an active report waits, and the reading's amount stays as it was.
    ∷ opening 0 10 1_000
    (claims (read_used 1_000) ⇒ grants (reading 1 (pos 0) 0)
    ∷ claims (report_used 100 0) ⇒ grants (write 2 0)
    ∷ claims (report_used 120 0) ⇒ waits 3
    ∷ bears 1 (pos 0) 100
    ∷ [])
    -- −500 and +500 don't cancel, in the amount of an active reading
    ∷ usual
    (claims (read_load 1_000) ⇒ grants (reading 1 (pos 0) 0)
    ∷ claims (add_promised (pos 500) 0) ⇒ grants (write 2 0)
    ∷ claims (add_promised (minus 500) 0) ⇒ grants (write 3 0)
    ∷ bears 1 (pos 0) 1_000
    ∷ claims (add_promised (pos 1) 0) ⇒ waits 4
    ∷ [])
    -- nor in the amount of a requested one.
    ∷ usual
    (claims (add_promised (pos 500) 0) ⇒ grants (write 1 0)
    ∷ claims (add_promised (minus 500) 0) ⇒ grants (write 2 0)
    ∷ claims (read_load 999) ⇒ waits 3
    ∷ claims (read_load 1_000) ⇒ grants (reading 4 (pos 0) 1_000)
    ∷ [])
    -- The gap is measured from the present value, 60, not from the told one, 0.
    ∷ usual
    (claims (read_used 100) ⇒ grants (reading 1 (pos 0) 0)
    ∷ claims (report_used 60 0) ⇒ grants (write 2 0)
    ∷ bears 1 (pos 0) 60
    ∷ releases 0 2 ⇒ ends 2 []
    ∷ claims (report_used 70 0) ⇒ grants (write 3 0)
    ∷ bears 1 (pos 0) 70
    ∷ [])
    -- A reading with stale figures doesn't bar the very report it waits for.
    ∷ usual
    (claims (second 300 (fresh (read_used 0))) ⇒ waits 1
    ∷ claims (second 300 (measured 300 (report_used 50 0))) ⇒ grants (write 2 0)
    ∷ releases 301 2 ⇒ ends 2 (reading 1 (pos 50) 0 ∷ [])
    ∷ [])
    ∷ []

pub looks_right_hold : every_of holds looks_right ≡ true
unfolding looks_right holds
looks_right_hold = refl
