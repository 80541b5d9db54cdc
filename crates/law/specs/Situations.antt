-- 01's situations K1 to K12 and its printed run, checked by computation. Own errors 0, priorities
-- equal, used and promised limit 1,000 unless said.
use Rattle.std.specs.Prelude.{true, List, [], ◌∷◌, ◌≡◌, refl, pos}
use Rattle.law.specs.Base.{every_of}
use Rattle.law.specs.History.{claims, releases}
use Rattle.law.specs.Steps.{report_used, add_promised, set_promised, read_used, read_load, minus, priority, second, measured, fresh, write, reading, grants, waits, ends, refuses, ◌⇒◌, bears, Situation, opening, usual, holds}

unfoldable pub situations : List Situation
situations =
    -- K1 (000's Speed example, in tenths) used limit 10, ReportUsed 100 active: ReportUsed 106, own error 3: granted, amount 9.
    opening 0 10 1_000
    (claims (report_used 100 0) ⇒ grants (write 1 0)
    ∷ claims (report_used 106 3) ⇒ grants (write 2 9)
    ∷ [])
    -- K2 the same with 107: granted, 10.
    ∷ opening 0 10 1_000
    (claims (report_used 100 0) ⇒ grants (write 1 0)
    ∷ claims (report_used 107 3) ⇒ grants (write 2 10)
    ∷ [])
    -- K3 the same with 108: waits.
    ∷ opening 0 10 1_000
    (claims (report_used 100 0) ⇒ grants (write 1 0)
    ∷ claims (report_used 108 3) ⇒ waits 2
    ∷ [])
    -- K4 limit 10, nothing active: own error 10 granted; 11 refused 18.
    ∷ opening 0 10 1_000 (claims (report_used 100 10) ⇒ grants (write 1 10) ∷ [])
    ∷ opening 0 10 1_000 (claims (report_used 100 11) ⇒ refuses 18 ∷ [])
    -- K5 AddPromised 300 active: AddPromised −300 granted, amount 0.
    ∷ usual
    (claims (add_promised (pos 300) 0) ⇒ grants (write 1 0)
    ∷ claims (add_promised (minus 300) 0) ⇒ grants (write 2 0)
    ∷ [])
    -- K6 SetPromised waits.
    ∷ usual
    (claims (add_promised (pos 300) 0) ⇒ grants (write 1 0)
    ∷ claims (set_promised 300 0) ⇒ waits 2
    ∷ [])
    -- K7 ReadLoad active, limit 500, amount 0: AddPromised 500 granted, the reading's amount 500;
    ∷ usual
    (claims (read_load 500) ⇒ grants (reading 1 (pos 0) 0)
    ∷ claims (add_promised (pos 500) 0) ⇒ grants (write 2 0)
    ∷ bears 1 (pos 0) 500
    ∷ [])
    -- with own error 1, waits.
    ∷ usual
    (claims (read_load 500) ⇒ grants (reading 1 (pos 0) 0)
    ∷ claims (add_promised (pos 500) 1) ⇒ waits 2
    ∷ bears 1 (pos 0) 0
    ∷ [])
    -- K8 instead AddPromised −500: granted, the reading's amount 500.
    ∷ usual
    (claims (read_load 500) ⇒ grants (reading 1 (pos 0) 0)
    ∷ claims (add_promised (minus 500) 0) ⇒ grants (write 2 0)
    ∷ bears 1 (pos 0) 500
    ∷ [])
    -- K9 used stamped 100, nothing active: fresh ReadUsed at 399 granted,
    ∷ usual
    (claims (second 120 (measured 100 (report_used 40 0))) ⇒ grants (write 1 0)
    ∷ releases 130 1 ⇒ ends 1 []
    ∷ claims (second 399 (fresh (read_used 0))) ⇒ grants (reading 2 (pos 40) 0)
    ∷ [])
    -- at 400 waits.
    ∷ usual
    (claims (second 120 (measured 100 (report_used 40 0))) ⇒ grants (write 1 0)
    ∷ releases 130 1 ⇒ ends 1 []
    ∷ claims (second 400 (fresh (read_used 0))) ⇒ waits 2
    ∷ [])
    -- K10 promised 999,999,999, nothing active: AddPromised 1 granted;
    ∷ usual
    (claims (set_promised 999_999_999 0) ⇒ grants (write 1 0)
    ∷ releases 0 1 ⇒ ends 1 []
    ∷ claims (add_promised (pos 1) 0) ⇒ grants (write 2 0)
    ∷ [])
    -- 2 waits.
    ∷ usual
    (claims (set_promised 999_999_999 0) ⇒ grants (write 1 0)
    ∷ releases 0 1 ⇒ ends 1 []
    ∷ claims (add_promised (pos 2) 0) ⇒ waits 2
    ∷ [])
    -- K11 used amount 5: ReadUsed, limit 4, waits; ReportUsed of lower priority is granted; its release grants the reading, amount 0.
    ∷ usual
    (claims (report_used 40 5) ⇒ grants (write 1 5)
    ∷ releases 0 1 ⇒ ends 1 []
    ∷ claims (read_used 4) ⇒ waits 2
    ∷ claims (priority 4 (report_used 50 0)) ⇒ grants (write 3 0)
    ∷ releases 0 3 ⇒ ends 3 (reading 2 (pos 50) 0 ∷ [])
    ∷ [])
    -- K12 AddPromised active, SetPromised waits at priority 7: AddPromised at 7 waits,
    ∷ usual
    (claims (add_promised (pos 300) 0) ⇒ grants (write 1 0)
    ∷ claims (priority 7 (set_promised 300 0)) ⇒ waits 2
    ∷ claims (priority 7 (add_promised (pos 1) 0)) ⇒ waits 3
    ∷ [])
    -- at 8 is granted.
    ∷ usual
    (claims (add_promised (pos 300) 0) ⇒ grants (write 1 0)
    ∷ claims (priority 7 (set_promised 300 0)) ⇒ waits 2
    ∷ claims (priority 8 (add_promised (pos 1) 0)) ⇒ grants (write 3 0)
    ∷ [])
    ∷ []

-- Each of them comes out as 01 says.
pub situations_hold : every_of holds situations ≡ true
unfolding situations holds
situations_hold = refl

-- The printed run; the open is its first line.
unfoldable pub printed : Situation
printed =
    opening 100 1_000 500
    (claims (second 100 (measured 100 (report_used 40_000 20))) ⇒ grants (write 1 20)
    ∷ claims (second 101 (read_used 50_000)) ⇒ grants (reading 2 (pos 0) 40_020)
    ∷ claims (second 102 (measured 102 (report_used 40_600 0))) ⇒ waits 3
    ∷ releases 103 2 ⇒ ends 2 (write 3 600 ∷ [])
    ∷ releases 104 9 ⇒ refuses 21
    ∷ claims (second 99 (read_used 0)) ⇒ refuses 15
    ∷ [])

pub printed_run : holds printed ≡ true
unfolding printed holds
printed_run = refl
