-- What the program prints for a call, on any board of the right length: the line of the call's own answer, then exactly one "+"
-- line for each grant of its pass, in order, with the grant's ticket, told and amount.
use Rattle.std.specs.Prelude.{ℕ, ◌≤◌, List, ◌++◌, ◌≡◌, length}
use Rattle.std.proofs.Math.Path.{ap}
use Rattle.std.proofs.Common.{◌∙◌, eq-eqb}
use Rattle.num.specs.Word.{Bytes}
use Rattle.law.specs.Base.{All}
use Rattle.desk.specs.Board.{board_bytes}
use Rattle.desk.specs.Step.{Said, own_of, grants_of, effect_of, Stepped, written, step_of}
use Rattle.stopblocker.specs.Lines.{lines_of, answer_line, plus_lines}
use Rattle.stopblocker.specs.Answering.{called, shown_disk, answer_lines}
use Rattle.stopblocker.specs.LineLaws.{lines_shown}
use Rattle.stopblocker.specs.SaidLaws.{Granting, shows, told_fits}

module _ (b r : List ℕ) (whole : length b ≡ board_bytes) (bs : Bytes r) where
  -- What the call says, and the disk that is shown.
  abbrev said : Said
  said = (effect_of b r).said

  abbrev disk : ℕ
  disk = shown_disk (called b r).code r

  called_is : called b r ≡ written (effect_of b r)
  unfolding step_of
  called_is = rw (eq-eqb (length b) board_bytes whole)

  -- The lines are that of the call's own answer, and a "+" line for each grant.
  pub call_lines : (number : ℕ) → answer_lines b r number ≡ answer_line number disk (own_of said) ++ plus_lines number disk (grants_of said)
  unfolding answer_lines
  call_lines number =
      let s = shows said (told_fits b r bs) in
      ap (λ (x : Stepped). lines_of number disk x.answer) called_is
      ∙ lines_shown number disk (own_of said) (grants_of said) s.own s.few s.fit

  -- There are at most 8 grants, each with code 0 and a ticket of at least 1.
  pub call_grants : All Granting (grants_of said) × (length (grants_of said) ≤ 8)
  call_grants = let s = shows said (told_fits b r bs) in (s.grant, s.few)
