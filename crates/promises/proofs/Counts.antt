-- The number of open disks: its answer, and exactly when it is refused.
use Rattle.std.specs.Prelude.{ℕ, Result, Ok, Err, List, ◌↔◌, ◌≡◌, refl, eqb, length}
use Rattle.std.proofs.Common.{arith, eqb-true, eq-eqb}
use Rattle.std.proofs.lemmas.Bool.{eqb-false}
use Rattle.num.specs.Count.{count_to}
use Rattle.num.specs.Opened.{open_at, open_count}
use Rattle.answer.specs.declared.Refusal.{Refusal}
use Rattle.answer.specs.Answers.{number_of}
use Rattle.law.specs.Says.{by_test}
use Rattle.desk.specs.Board.{board_bytes}
use Rattle.desk.specs.Counts.{count_of}

-- 01's number of each case, 0 if it is no refusal; and the count in each case, 0 in a refusal.
abbrev pub number_in : Result ℕ Refusal → ℕ
number_in (Ok n) = 0
number_in (Err r) = number_of r

abbrev pub disks_in : Result ℕ Refusal → ℕ
disks_in (Ok n) = n
disks_in (Err r) = 0

-- 9 exactly if the board has another length.
pub count_refused_exactly : (b : List ℕ) → (number_in (count_of b) ≡ 9) ↔ (length b ≡ 49_216 → ⊥)
unfolding count_of
count_refused_exactly b =
    by_test (λ c. (number_in c ≡ 9) ↔ (length b ≡ 49_216 → ⊥)) (eqb (length b) board_bytes)
    (λ v. (λ e. absurd (omega arith), λ h. absurd (h (eqb-true (length b) board_bytes v))))
    (λ v. (λ e. eqb-false (length b) board_bytes v, λ h. refl))

-- On a board of the right length: how many of its 64 bits are set.
pub count_is : (b : List ℕ) → length b ≡ 49_216 → count_of b ≡ Ok (count_to (open_at b) 64)
unfolding count_of open_count
count_is b h = rw (eq-eqb (length b) board_bytes h)
