-- Demand 1: how a call ends, when it is refused and with which number, when it grants, waits, releases or opens, and what a
-- refusal leaves unchanged. For any board b, record r and answer buffer a, of any length and content.
use Rattle.std.specs.Prelude.{ℕ, ◌≤◌, ◌<◌, List, ◌++◌, ◌↔◌, ◌⊎◌, ◌≡◌, refl, replicate}
use Rattle.std.proofs.Common.{inr, ⊎_elim, arith}
use Rattle.num.specs.Runs.{le4}
use Rattle.law.specs.Sentences.{FirstHolds}
use Rattle.desk.specs.Record.{kind_byte}
use Rattle.desk.specs.Step.{own_of, effect_of, step_of}
use Rattle.promises.specs.Sentences.{NoneHold, GrantsIn, sentences}
use Rattle.promises.proofs.RefusalLaws.{code_exactly, first_least, nine_only, answer_ends, by_lengths, effect_leaves, said_answers}
use Rattle.promises.proofs.AcceptLaws.{none_first, first_none, Ends, ends, ends_opened, ends_granted, ends_waits, ends_released}

-- Every call ends in granted, waits, released or opened (0 to 3), or in a refusal (9 to 21).
pub every_call_ends : (b r a : List ℕ) → ((step_of b r a).code ≤ 3) ⊎ ((9 ≤ (step_of b r a).code) × ((step_of b r a).code ≤ 21))
every_call_ends b r a =
    by_lengths b r a (λ s. (s.code ≤ 3) ⊎ ((9 ≤ s.code) × (s.code ≤ 21)))
    (λ w v. answer_ends (own_of (effect_of b r).said))
    (inr (omega arith, omega arith))

-- Refusal n is given exactly if its sentence holds and no sentence before it does (`Sentences` has them in order).
pub refused_exactly : (n : ℕ) → 9 ≤ n → (b r a : List ℕ) → ((step_of b r a).code ≡ n) ↔ FirstHolds n (sentences b r a)
refused_exactly n l b r a = code_exactly b r a n l

-- A call is accepted exactly if none of the sentences holds.
pub accepted_exactly : (b r a : List ℕ) → ((step_of b r a).code ≤ 3) ↔ NoneHold (sentences b r a)
accepted_exactly b r a = (
  λ h. first_none (sentences b r a) (λ n f. omega (arith, h, first_least b r a n f, (code_exactly b r a n (first_least b r a n f)).1 f)),
  λ none.
      ⊎_elim (λ h. h)
      (λ h. absurd (none_first (sentences b r a) none (step_of b r a).code ((code_exactly b r a (step_of b r a).code h.0).0 refl)))
      (every_call_ends b r a),
)

-- If none holds: a claim is granted exactly if preconditions hold, nothing bars, the lock step passes and fewer than 8 are
-- active; any other claim waits; a release is released, and an open opened.
module _ (b r a : List ℕ) where
  among : {P : Type 0} (n : ℕ) → n ≤ 3 → (Ends b r (step_of b r a).code → ((step_of b r a).code ≡ n) ↔ P) →
      ((step_of b r a).code ≡ n) ↔ (NoneHold (sentences b r a) × P)
  among n l case = (
    λ e.
        let h : (step_of b r a).code ≤ 3 = omega (arith, e) in
        let none = (accepted_exactly b r a).0 h in
        (none, (case (ends b r a none h)).0 e),
    λ h. (case (ends b r a h.0 ((accepted_exactly b r a).1 h.0))).1 h.1,
  )

  pub granted_exactly : ((step_of b r a).code ≡ 0) ↔ (NoneHold (sentences b r a) × ((kind_byte r ≡ 2) × GrantsIn b r))
  granted_exactly = among 0 (omega arith) (ends_granted b r (step_of b r a).code)

  pub waits_exactly : ((step_of b r a).code ≡ 1) ↔ (NoneHold (sentences b r a) × ((kind_byte r ≡ 2) × (GrantsIn b r → ⊥)))
  waits_exactly = among 1 (omega arith) (ends_waits b r (step_of b r a).code)

  pub released_exactly : ((step_of b r a).code ≡ 2) ↔ (NoneHold (sentences b r a) × (kind_byte r ≡ 3))
  released_exactly = among 2 (omega arith) (ends_released b r (step_of b r a).code)

  pub opened_exactly : ((step_of b r a).code ≡ 3) ↔ (NoneHold (sentences b r a) × (kind_byte r ≡ 1))
  opened_exactly = among 3 (omega arith) (ends_opened b r (step_of b r a).code)

-- A refusal leaves every byte of the board as it was.
pub refusal_leaves_board : (b r a : List ℕ) → 9 ≤ (step_of b r a).code → (step_of b r a).bytes ≡ b
refusal_leaves_board b r a =
    by_lengths b r a (λ s. 9 ≤ s.code → s.bytes ≡ b) (λ w v. effect_leaves b r w) (λ h. refl)

-- Refusal 9 leaves the answer buffer as it was too.
pub refusal_leaves_answer : (b r a : List ℕ) → (step_of b r a).code ≡ 9 → (step_of b r a).answer ≡ a
refusal_leaves_answer b r a e =
    by_lengths b r a (λ s. s.answer ≡ a)
    (λ w v. absurd (nine_only b r a ((refused_exactly 9 (omega arith) b r a).0 e) (w, v)))
    refl

-- Any other refusal puts its number into the first four bytes of the answer buffer and zeros into the other 140.
pub refusal_answers : (b r a : List ℕ) → 9 < (step_of b r a).code →
    (step_of b r a).answer ≡ le4 (step_of b r a).code ++ replicate 140 0
refusal_answers b r a =
    by_lengths b r a (λ s. 9 < s.code → s.answer ≡ le4 s.code ++ replicate 140 0)
    (λ w v h. said_answers (effect_of b r).said (omega arith))
    (λ h. absurd (omega arith))
