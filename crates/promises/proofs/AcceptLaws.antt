-- Laws of accepted calls: the code is at most 3 exactly if none of the sentences holds, and then
-- it is given by the record's kind and the decision.
use Rattle.std.specs.Prelude.{ℕ, ◌≤◌, Bool, true, false, cond, List, [], ◌∷◌, ◌↔◌, ◌≡◌, refl, leb, eqb, length}
use Rattle.std.proofs.Common.{inl, inr, ap, ◌∙◌, arith}
use Rattle.num.specs.Opened.{open_at}
use Rattle.law.specs.declared.Claim.{Claim}
use Rattle.law.specs.Base.{All}
use Rattle.law.specs.Types.{places, Core, Disk as LawDisk, Asked, Outcome, accepted}
use Rattle.law.specs.Granting.{preconditions, lock_step, bars, granted, grant_item}
use Rattle.law.specs.Calls.{Rule, unless, item, opened as opened_disk, open_refusals, open_disk, at, asked, granted_at_once, refusals, decided_by, decided, claim, release_refusals, with_end, let_go, release}
use Rattle.law.specs.History.{claims, releases, answered}
use Rattle.law.specs.DiskType.{disk_table}
use Rattle.law.proofs.Events.{by_rules}
use Rattle.law.specs.Says.{by_test, Says, fails, says_lt, says_self, says_fails, says_none, none, ◌⊳◌ as ◌then◌, says_tests, ◌and◌}
use Rattle.law.specs.Sentences.{Sentence, FirstHolds}
use Rattle.rules.specs.Answers.{answer_of}
use Rattle.answer.specs.Answers.{refusal_of}
use Rattle.answer.specs.AnswerLaws.{number_range}
use Rattle.desk.specs.Record.{kind_byte, disk_number, now_of, asked_in, used_limit, promised_limit, well_formed}
use Rattle.desk.specs.Board.{disks, part_of}
use Rattle.part.specs.Held.{held, sound_part}
use Rattle.desk.specs.Step.{step_of}
use Rattle.num.specs.Word.{word_at}
use Rattle.promises.specs.Sentences.{WellFormed, KindFits, NoneHold, Grants, GrantsIn, sentences}
use Rattle.promises.proofs.RefusalLaws.{says_formed, outcome_code, first_of, tests, opened, served, lengths, code_by}

-- ---- none of the sentences

pub none_first : (ss : List Sentence) → NoneHold ss → (n : ℕ) → FirstHolds n ss → ⊥
none_first [] h n f = f
none_first (s ∷ ss) h n (inl x) = h.0 x.0
none_first (s ∷ ss) h n (inr x) = none_first ss h.1 n x.1

pub first_none : (ss : List Sentence) → ((n : ℕ) → FirstHolds n ss → ⊥) → NoneHold ss
first_none [] h = tt
first_none (s ∷ ss) h =
    let fails : s.says → ⊥ = λ p. h s.number (inl (p, refl)) in (fails, first_none ss (λ n f. h n (inr (fails, f))))

-- If none holds, the record is well formed.
none_formed : (b r a : List ℕ) → NoneHold (sentences b r a) → WellFormed r
none_formed b r a h = go (well_formed r) refl
  where
    go : (v : Bool) → well_formed r ≡ v → WellFormed r
    go true e = (says_formed r).0 e
    go false e = absurd (h.1.0 ((fails (well_formed r) (says_formed r)).0 e))

-- ---- the decision says that the claim is granted

says_grants : (s : Core) (waiting : List Claim) (c : Claim) → Says (granted disk_table s waiting c) (Grants s waiting c)
unfolding granted
says_grants s waiting c =
    let all =
    says_tests
    (says_self (preconditions disk_table s c)
    then says_none (bars disk_table s c) (λ w. says_fails (bars disk_table s c w)) waiting
    then says_self (lock_step disk_table s c)
    then says_lt (length s.active) places
    then none) in (
      λ e. let h = all.0 e in record { holds = h.0; unbarred = h.1.0; passes = h.1.1.0; place = h.1.1.1.0 },
      λ g. all.1 (g.holds and g.unbarred and g.passes and g.place and tt),
    )

-- ---- codes of at most 3

-- None of the tests for 9 to 14 refuses.
first_rest : (ts : List Rule) (x : ℕ) → All (λ t. 9 ≤ t.number) ts → first_of ts x ≤ 3 → first_of ts x ≡ x
first_rest [] x n h = refl
first_rest (t ∷ ts) x n h =
    by_test (λ y. y ≤ 3 → y ≡ x) t.when (λ e k. absurd (omega (arith, k, n.0))) (λ e. first_rest ts x n.1) h

-- None of the law's rules refuses.
unless_code : (rs : List Rule) (good : Outcome) → outcome_code (unless rs good) ≤ 3 →
    outcome_code (unless rs good) ≡ outcome_code good
unless_code rs good =
    by_rules (λ o. outcome_code o ≤ 3 → outcome_code o ≡ outcome_code good) rs good
    (λ n k. absurd (omega (arith, k, (number_range (refusal_of n)).0))) (λ ok k. refl)

open_code : (now l0 l1 : ℕ) → outcome_code (open_disk now l0 l1) ≤ 3 → outcome_code (open_disk now l0 l1) ≡ 3
unfolding open_disk answer_of
open_code now l0 l1 h = unless_code (open_refusals l0 l1) (accepted (opened_disk now l0 l1) (item 3 0 ∷ [])) h

release_code : (d : LawDisk) (now n : ℕ) → outcome_code (release disk_table d now n) ≤ 3 →
    outcome_code (release disk_table d now n) ≡ 2
unfolding release answer_of
release_code d now n h =
    unless_code (release_refusals disk_table d now n)
    (accepted (with_end disk_table d now n) (item 2 n ∷ (let_go disk_table d now n).items)) h

-- The code of a claim: granted or waits.
abbrev claim_code : Bool → ℕ
claim_code true = 0
claim_code false = 1

claim_code_lem : (d : LawDisk) (q : Asked) → outcome_code (claim disk_table d q) ≤ 3 →
    outcome_code (claim disk_table d q) ≡ claim_code (granted_at_once disk_table d q)
unfolding claim answer_of grant_item
claim_code_lem d q h = unless_code (refusals disk_table d q) (decided disk_table d q) h ∙ go (granted_at_once disk_table d q)
  where
    go : (w : Bool) →
        outcome_code (decided_by disk_table w d q) ≡ claim_code w
    go true = refl
    go false = refl

-- The code of the law's outcome, by the kind of the record.
abbrev rest_of : ℕ → Outcome → LawDisk → List ℕ → ℕ
rest_of k o d r =
    cond (eqb k 1) (outcome_code o)
    (outcome_code (answered disk_table d (cond (eqb k 2) (claims (asked_in r)) (releases (now_of r) (word_at r 12)))))

-- ---- how an accepted call ends

pub data Ends (b r : List ℕ) (code : ℕ) : Type 0 where
  opens : kind_byte r ≡ 1 → code ≡ 3 → Ends b r code
  grants : kind_byte r ≡ 2 → GrantsIn b r → code ≡ 0 → Ends b r code
  waits : kind_byte r ≡ 2 → (GrantsIn b r → ⊥) → code ≡ 1 → Ends b r code
  frees : kind_byte r ≡ 3 → code ≡ 2 → Ends b r code

pub ends : (b r a : List ℕ) → NoneHold (sentences b r a) → (step_of b r a).code ≤ 3 → Ends b r (step_of b r a).code
ends b r a free h = by_kind (none_formed b r a free).kind
  where
    d : LawDisk
    d = held (part_of b (disk_number r))

    rest : ℕ
    rest = cond (eqb (kind_byte r) 1) (outcome_code (opened b r a)) (outcome_code (served b r a))

    is_rest : (step_of b r a).code ≡ rest
    is_rest =
        code_by b r a
        ∙ first_rest
        (tests (lengths b r a) (well_formed r) (leb disks (disk_number r)) (eqb (kind_byte r) 1) (open_at b (disk_number r)) (sound_part (part_of b (disk_number r))))
        rest
        (omega arith and omega arith and omega arith and omega arith and omega arith and omega arith and tt)
        (omega (arith, h, code_by b r a))

    small : rest ≤ 3
    small = omega (arith, h, is_rest)

    at_kind : (n : ℕ) → kind_byte r ≡ n → rest ≡ rest_of n (opened b r a) d r
    at_kind n k = ap (λ (j : ℕ). rest_of j (opened b r a) d r) k

    open_rest : kind_byte r ≡ 1 → rest ≡ 3
    open_rest k =
        at_kind 1 k ∙ open_code (now_of r) (used_limit r) (promised_limit r) (omega (arith, small, at_kind 1 k))

    claim_rest : kind_byte r ≡ 2 → rest ≡ claim_code (granted_at_once disk_table d (asked_in r))
    claim_rest k = at_kind 2 k ∙ claim_code_lem d (asked_in r) (omega (arith, small, at_kind 2 k))

    release_rest : kind_byte r ≡ 3 → rest ≡ 2
    release_rest k = at_kind 3 k ∙ release_code d (now_of r) (word_at r 12) (omega (arith, small, at_kind 3 k))

    claimed : kind_byte r ≡ 2 → (w : Bool) → granted_at_once disk_table d (asked_in r) ≡ w → rest ≡ claim_code w → Ends b r (step_of b r a).code
    claimed k true e q = grants k ((says_grants (at d (asked_in r).now) d.waiting (asked d (asked_in r))).0 e) (is_rest ∙ q)
    claimed k false e q =
        waits k
        ((fails (granted_at_once disk_table d (asked_in r)) (says_grants (at d (asked_in r).now) d.waiting (asked d (asked_in r)))).0 e)
        (is_rest ∙ q)

    by_kind : KindFits r → Ends b r (step_of b r a).code
    by_kind (inl k) = opens k.0 (is_rest ∙ open_rest k.0)
    by_kind (inr (inl k)) = claimed k (granted_at_once disk_table d (asked_in r)) refl (claim_rest k)
    by_kind (inr (inr k)) = frees k.0 (is_rest ∙ release_rest k.0)

-- Each code exactly in its case.
module _ (b r : List ℕ) (code : ℕ) where
  pub ends_opened : Ends b r code → (code ≡ 3) ↔ (kind_byte r ≡ 1)
  ends_opened (opens k c) = (λ e. k, λ j. c)
  ends_opened (grants k g c) = (λ e. absurd (omega arith), λ j. absurd (omega arith))
  ends_opened (waits k g c) = (λ e. absurd (omega arith), λ j. absurd (omega arith))
  ends_opened (frees k c) = (λ e. absurd (omega arith), λ j. absurd (omega arith))

  pub ends_granted : Ends b r code → (code ≡ 0) ↔ ((kind_byte r ≡ 2) × GrantsIn b r)
  ends_granted (opens k c) = (λ e. absurd (omega arith), λ j. absurd (omega (arith, j.0)))
  ends_granted (grants k g c) = (λ e. (k, g), λ j. c)
  ends_granted (waits k g c) = (λ e. absurd (omega arith), λ j. absurd (g j.1))
  ends_granted (frees k c) = (λ e. absurd (omega arith), λ j. absurd (omega (arith, j.0)))

  pub ends_waits : Ends b r code → (code ≡ 1) ↔ ((kind_byte r ≡ 2) × (GrantsIn b r → ⊥))
  ends_waits (opens k c) = (λ e. absurd (omega arith), λ j. absurd (omega (arith, j.0)))
  ends_waits (grants k g c) = (λ e. absurd (omega arith), λ j. absurd (j.1 g))
  ends_waits (waits k g c) = (λ e. (k, g), λ j. c)
  ends_waits (frees k c) = (λ e. absurd (omega arith), λ j. absurd (omega (arith, j.0)))

  pub ends_released : Ends b r code → (code ≡ 2) ↔ (kind_byte r ≡ 3)
  ends_released (opens k c) = (λ e. absurd (omega arith), λ j. absurd (omega arith))
  ends_released (grants k g c) = (λ e. absurd (omega arith), λ j. absurd (omega arith))
  ends_released (waits k g c) = (λ e. absurd (omega arith), λ j. absurd (omega arith))
  ends_released (frees k c) = (λ e. k, λ j. c)
