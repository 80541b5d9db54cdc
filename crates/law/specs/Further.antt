-- Further edges of 01's rules that K1 to K12 leave open, checked by computation.
use Rattle.std.specs.Prelude.{ℕ, zero, suc, true, List, [], ◌∷◌, ◌++◌, ◌≡◌, refl, pos}
use Rattle.law.specs.Base.{every_of}
use Rattle.law.specs.History.{claims, releases}
use Rattle.law.specs.Steps.{asks, report_used, add_promised, set_promised, set_state, read_used, read_load, read_state, minus, priority, second, measured, fresh, write, reading, grants, waits, ends, refuses, Step, ◌⇒◌, bears, carries, Situation, opening, usual, holds}

-- ---- amounts, stamps and ranges

unfoldable pub figures : List Situation
figures =
    -- A set starts from its own error alone; an add from the attribute's amount.
    usual
    (claims (report_used 40 20) ⇒ grants (write 1 20)
    ∷ releases 0 1 ⇒ ends 1 []
    ∷ claims (report_used 45 0) ⇒ grants (write 2 0)
    ∷ claims (add_promised (pos 1) 20) ⇒ grants (write 3 20)
    ∷ releases 0 3 ⇒ ends 3 []
    ∷ claims (add_promised (pos 1) 5) ⇒ grants (write 4 25)
    ∷ [])
    -- An add waits if the attribute's amount plus its own error exceeds the limit, and is refused 18 if its own error alone
    -- does. Adds don't bar adds.
    ∷ opening 0 1_000 10
    (claims (add_promised (pos 1) 6) ⇒ grants (write 1 6)
    ∷ claims (add_promised (pos 1) 6) ⇒ waits 2
    ∷ claims (add_promised (pos 1) 11) ⇒ refuses 18
    ∷ claims (add_promised (pos 1) 4) ⇒ grants (write 3 10)
    ∷ [])
    -- A requested reading counts each active write's gap, 40 and 30, and the error that the figures carry, 5 and 2.
    ∷ usual
    (claims (report_used 40 5) ⇒ grants (write 1 5)
    ∷ claims (add_promised (minus 30) 2) ⇒ grants (write 2 2)
    ∷ claims (read_load 76) ⇒ waits 3
    ∷ claims (read_load 77) ⇒ grants (reading 4 (pos 0) 77)
    ∷ carries 4 7
    ∷ [])
    -- A granted write's total, 4, becomes the attribute's amount at once; the claim's own amount stays 0.
    ∷ opening 0 10 1_000
    (claims (report_used 100 0) ⇒ grants (write 1 0)
    ∷ claims (report_used 104 0) ⇒ grants (write 2 4)
    ∷ bears 2 (pos 0) 0
    ∷ claims (read_used 207) ⇒ waits 3
    ∷ claims (read_used 208) ⇒ grants (reading 4 (pos 0) 208)
    ∷ carries 4 4
    ∷ [])
    -- An active reading's amount grows by a write's own error and its gap.
    ∷ usual
    (claims (read_used 100) ⇒ grants (reading 1 (pos 0) 0)
    ∷ claims (report_used 60 5) ⇒ grants (write 2 5)
    ∷ bears 1 (pos 0) 65
    ∷ carries 1 0
    ∷ [])
    -- A release adds an add's amount; a reading is told used + promised.
    ∷ usual
    (claims (report_used 40 0) ⇒ grants (write 1 0)
    ∷ claims (add_promised (pos 300) 0) ⇒ grants (write 2 0)
    ∷ claims (add_promised (minus 500) 0) ⇒ grants (write 3 0)
    ∷ releases 0 2 ⇒ ends 2 []
    ∷ releases 0 1 ⇒ ends 1 []
    ∷ releases 0 3 ⇒ ends 3 []
    ∷ claims (read_load 0) ⇒ grants (reading 4 (minus 160) 0)
    ∷ [])
    -- Promised −999,999,999: an add of 2 waits, though the sum would shrink; 1 is granted.
    ∷ usual
    (claims (add_promised (minus 999_999_999) 0) ⇒ grants (write 1 0)
    ∷ releases 0 1 ⇒ ends 1 []
    ∷ claims (add_promised (pos 2) 0) ⇒ waits 2
    ∷ claims (add_promised (pos 1) 0) ⇒ grants (write 3 0)
    ∷ [])
    -- The amounts of active adds count without their sign.
    ∷ usual
    (claims (add_promised (pos 600_000_000) 0) ⇒ grants (write 1 0)
    ∷ claims (add_promised (minus 400_000_001) 0) ⇒ waits 2
    ∷ claims (add_promised (minus 400_000_000) 0) ⇒ grants (write 3 0)
    ∷ [])
    -- Promised is valid for 300 seconds, and an add leaves its stamp: a fresh ReadLoad at 299 granted, at 300 waits.
    ∷ usual
    (claims (second 200 (measured 200 (report_used 40 0))) ⇒ grants (write 1 0)
    ∷ claims (second 200 (measured 200 (add_promised (minus 50) 0))) ⇒ grants (write 2 0)
    ∷ releases 200 1 ⇒ ends 1 []
    ∷ releases 200 2 ⇒ ends 2 []
    ∷ claims (second 299 (fresh (read_load 0))) ⇒ grants (reading 3 (minus 10) 0)
    ∷ claims (second 300 (fresh (read_load 0))) ⇒ waits 4
    ∷ [])
    -- An opened disk's stamps are the second of its open.
    ∷ opening 100 1_000 1_000
    (claims (second 399 (fresh (read_used 0))) ⇒ grants (reading 1 (pos 0) 0)
    ∷ claims (second 400 (fresh (read_used 0))) ⇒ waits 2
    ∷ [])
    -- So is the state's, and the state is valid for 3,600 seconds: opened at 5,000, a fresh ReadState at 8,599 granted, at 8,600 waits.
    ∷ opening 5_000 1_000 1_000
    (claims (second 8_599 (fresh (read_state 0))) ⇒ grants (reading 1 (pos 0) 0)
    ∷ claims (second 8_600 (fresh (read_state 0))) ⇒ waits 2
    ∷ [])
    -- State is valid for 3,600 seconds.
    ∷ usual
    (claims (second 3_599 (fresh (read_state 0))) ⇒ grants (reading 1 (pos 0) 0)
    ∷ claims (second 3_600 (fresh (read_state 0))) ⇒ waits 2
    ∷ [])
    -- A stamp may go back: it is the second of measuring.
    ∷ opening 100 1_000 1_000
    (claims (second 100 (measured 10 (report_used 40 0))) ⇒ grants (write 1 0)
    ∷ releases 100 1 ⇒ ends 1 []
    ∷ claims (second 310 (fresh (read_used 0))) ⇒ waits 2
    ∷ [])
    ∷ []

-- ---- barring and the pass

unfoldable pub queues : List Situation
queues =
    -- A waiting set bars every set of its attribute, even one equal to the active set. Its release starts a pass.
    opening 0 10 1_000
    (claims (report_used 100 0) ⇒ grants (write 1 0)
    ∷ claims (report_used 200 0) ⇒ waits 2
    ∷ claims (report_used 100 0) ⇒ waits 3
    ∷ releases 0 2 ⇒ ends 2 (write 3 0 ∷ [])
    ∷ [])
    -- A waiting write bars a reading of equal priority, not of a higher one.
    ∷ usual
    (claims (read_used 0) ⇒ grants (reading 1 (pos 0) 0)
    ∷ claims (priority 1 (report_used 5 0)) ⇒ waits 2
    ∷ claims (priority 2 (read_used 0)) ⇒ grants (reading 3 (pos 0) 0)
    ∷ claims (priority 1 (read_used 0)) ⇒ waits 4
    ∷ [])
    -- K11's reading bars the next report, once the granted one has brought the amount down.
    ∷ usual
    (claims (report_used 40 5) ⇒ grants (write 1 5)
    ∷ releases 0 1 ⇒ ends 1 []
    ∷ claims (read_used 4) ⇒ waits 2
    ∷ claims (priority 4 (report_used 50 0)) ⇒ grants (write 3 0)
    ∷ claims (priority 4 (report_used 50 0)) ⇒ waits 4
    ∷ [])
    -- A waiting add bars no set while it waits for a smaller amount,
    ∷ opening 0 1_000 10
    (claims (add_promised (pos 1) 6) ⇒ grants (write 1 6)
    ∷ releases 0 1 ⇒ ends 1 []
    ∷ claims (priority 9 (add_promised (pos 1) 6)) ⇒ waits 2
    ∷ claims (set_promised 5 0) ⇒ grants (write 3 0)
    ∷ releases 0 3 ⇒ ends 3 (write 2 6 ∷ [])
    ∷ [])
    -- nor while it waits for a value that leaves room for it.
    ∷ usual
    (claims (set_promised 999_999_999 0) ⇒ grants (write 1 0)
    ∷ releases 0 1 ⇒ ends 1 []
    ∷ claims (priority 9 (add_promised (pos 2) 0)) ⇒ waits 2
    ∷ claims (set_promised 5 0) ⇒ grants (write 3 0)
    ∷ releases 0 3 ⇒ ends 3 (write 2 0 ∷ [])
    ∷ [])
    -- Time alone can lift a bar: at 300 used is stale for the fresh reading 2, which then bars
    -- nobody, and 3 is granted at its distance to 1.
    ∷ usual
    (claims (priority 1 (report_used 500 0)) ⇒ grants (write 1 0)
    ∷ claims (priority 9 (fresh (read_used 0))) ⇒ waits 2
    ∷ claims (priority 1 (report_used 600 0)) ⇒ waits 3
    ∷ claims (read_state 0) ⇒ grants (reading 4 (pos 0) 0)
    ∷ releases 300 4 ⇒ ends 4 (write 3 100 ∷ [])
    ∷ [])
    -- Barring in a pass goes by the state so far: after the grant of 3, 2 bars 4. There is no second pass for 2.
    ∷ usual
    (claims (report_used 0 5) ⇒ grants (write 1 5)
    ∷ claims (priority 9 (read_used 4)) ⇒ waits 2
    ∷ claims (priority 8 (report_used 2_000 0)) ⇒ waits 3
    ∷ claims (priority 7 (report_used 2_000 0)) ⇒ waits 4
    ∷ releases 0 1 ⇒ ends 1 (write 3 0 ∷ [])
    ∷ [])
    -- One pass: the grant of 5 leaves used with amount 0, which 3 could bear, but 3 was tried before. The next pass grants it.
    ∷ usual
    (claims (report_used 0 5) ⇒ grants (write 1 5)
    ∷ releases 0 1 ⇒ ends 1 []
    ∷ claims (read_used 5) ⇒ grants (reading 2 (pos 0) 5)
    ∷ claims (priority 10 (read_used 4)) ⇒ waits 3
    ∷ claims (priority 9 (report_used 500 0)) ⇒ waits 4
    ∷ claims (priority 8 (report_used 0 0)) ⇒ waits 5
    ∷ releases 0 4 ⇒ ends 4 (write 5 0 ∷ [])
    ∷ releases 0 2 ⇒ ends 2 (reading 3 (pos 0) 0 ∷ [])
    ∷ [])
    -- A grant by itself starts no pass: the grant of 3 sets used's amount to 0, but 2 waits until the release.
    ∷ usual
    (claims (report_used 40 5) ⇒ grants (write 1 5)
    ∷ releases 0 1 ⇒ ends 1 []
    ∷ claims (read_used 4) ⇒ waits 2
    ∷ claims (priority 4 (report_used 41 0)) ⇒ grants (write 3 0)
    ∷ releases 0 3 ⇒ ends 3 (reading 2 (pos 41) 0 ∷ [])
    ∷ [])
    -- An item shows the amount at its grant: 0, though the next grant of the pass raises the reading's amount to 50.
    ∷ usual
    (claims (report_used 300 0) ⇒ grants (write 1 0)
    ∷ claims (priority 9 (read_used 100)) ⇒ waits 2
    ∷ claims (priority 8 (report_used 350 0)) ⇒ waits 3
    ∷ releases 0 1 ⇒ ends 1 (reading 2 (pos 300) 0 ∷ write 3 0 ∷ [])
    ∷ bears 2 (pos 300) 50
    ∷ [])
    -- Claims that a pass leaves waiting keep their order for the next one.
    ∷ usual
    (claims (report_used 100 0) ⇒ grants (write 1 0)
    ∷ claims (priority 9 (read_used 0)) ⇒ waits 2
    ∷ claims (priority 8 (read_used 0)) ⇒ waits 3
    ∷ claims (read_state 0) ⇒ grants (reading 4 (pos 0) 0)
    ∷ releases 0 4 ⇒ ends 4 []
    ∷ releases 0 1 ⇒ ends 1 (reading 2 (pos 100) 0 ∷ reading 3 (pos 100) 0 ∷ [])
    ∷ [])
    -- Higher priority first, then lower ticket. Two claims on the state: N, unless both read it.
    ∷ usual
    (claims (set_state 3) ⇒ grants (write 1 0)
    ∷ claims (read_state 0) ⇒ waits 2
    ∷ claims (set_state 4) ⇒ waits 3
    ∷ claims (priority 6 (read_state 0)) ⇒ waits 4
    ∷ releases 0 1 ⇒ ends 1 (reading 4 (pos 3) 0 ∷ reading 2 (pos 3) 0 ∷ [])
    ∷ [])
    ∷ []

-- ---- places and refusals

-- A step for each of the k tickets from n on.
abbrev each : ℕ → ℕ → (ℕ → Step) → List Step
each zero n step = []
each (suc k) n step = step n ∷ each k (suc n) step

unfoldable pub refusing : List Situation
refusing =
    -- Eight ReadUsed active: the ninth waits. Eight waiting: the next such claim gets 20.
    usual
    (each 8 1 (λ n. claims (read_used 0) ⇒ grants (reading n (pos 0) 0))
    ++ each 8 9 (λ n. claims (read_used 0) ⇒ waits n)
    ++ (claims (read_used 0) ⇒ refuses 20 ∷ []))
    -- A claim that waits and its release are accepted calls, and set the clock.
    ∷ usual
    (claims (report_used 500 0) ⇒ grants (write 1 0)
    ∷ claims (second 300 (read_used 0)) ⇒ waits 2
    ∷ claims (second 299 (read_used 1_000)) ⇒ refuses 15
    ∷ releases 301 2 ⇒ ends 2 []
    ∷ releases 300 1 ⇒ refuses 15
    ∷ [])
    -- No refusal changes the disk: neither its clock nor its next ticket.
    ∷ opening 100 1_000 1_000
    (claims (second 99 (asks 7 (pos 0) 0)) ⇒ refuses 15
    ∷ claims (second 200 (asks 7 (pos 0) 0)) ⇒ refuses 16
    ∷ claims (second 200 (report_used 1_000_000_001 0)) ⇒ refuses 17
    ∷ claims (second 200 (asks 2 (minus 1_000_000_001) 0)) ⇒ refuses 17
    ∷ claims (second 200 (add_promised (minus 1_000_000_001) 0)) ⇒ refuses 17
    ∷ claims (second 200 (set_state 256)) ⇒ refuses 17
    ∷ claims (second 200 (asks 3 (minus 1) 0)) ⇒ refuses 17
    ∷ claims (second 200 (report_used 0 2_000_000_001)) ⇒ refuses 17
    ∷ claims (second 200 (read_used 2_000_000_001)) ⇒ refuses 17
    ∷ claims (second 200 (asks 4 (pos 1) 0)) ⇒ refuses 17
    ∷ claims (second 200 (measured 1 (read_used 0))) ⇒ refuses 17
    ∷ claims (second 200 (fresh (report_used 0 0))) ⇒ refuses 17
    ∷ claims (second 200 (measured 201 (add_promised (pos 0) 0))) ⇒ refuses 17
    ∷ claims (second 200 (asks 3 (pos 1) 1)) ⇒ refuses 18
    ∷ releases 200 1 ⇒ refuses 21
    ∷ claims (second 100 (set_state 255)) ⇒ grants (write 1 0)
    ∷ [])
    ∷ []

-- ---- all of them

unfoldable pub further : List Situation
further = figures ++ queues ++ refusing

pub further_hold : every_of holds further ≡ true
unfolding further figures queues refusing holds
further_hold = refl
