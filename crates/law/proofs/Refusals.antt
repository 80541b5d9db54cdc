-- Laws of the refusals: a number is given exactly if its rule is the first in the list that holds, and a refusal changes nothing.
use Rattle.std.specs.Prelude.{ℕ, ◌≤◌, Bool, true, false, cond, not, List, [], ◌∷◌, ◌↔◌, ◌⊎◌, ◌≡◌, refl, leb, length}
use Rattle.std.proofs.lemmas.Bool.{false≢true}
use Rattle.std.proofs.Common.{true≢false, inl, inr, subst, leb-true, le-leb}
use Rattle.std.proofs.Math.Logic.{⊎_map}
use Rattle.std.proofs.Math.Logic.Iff.{trans as iff_trans}
use Rattle.law.specs.declared.Claim.{Claim}
use Rattle.law.specs.Base.{all_true, any_of}
use Rattle.law.specs.Types.{most_error, places, last_ticket, Table, Disk, Asked, Outcome, refused, accepted}
use Rattle.law.specs.Calls.{Rule, unless, field_tests, has_ticket, open_refusals, open_disk, asked, granted_at_once, refusals, decided, claim, release_refusals, release}
use Rattle.law.specs.History.{Call, claims, releases, History, after, answered}
use Rattle.law.proofs.Events.{NoneHolds}
use Rattle.law.specs.Says.{by_test, Says, fails, says_le, says_lt, says_eq, says_not, says_neither, says_none, says_two}
use Rattle.law.proofs.FieldLaws.{says_fields, says_exceeds}
use Rattle.law.specs.Sentences.{Sentence, FirstHolds, Lacks, open_sentences, claim_sentences, release_sentences, sentences_of}
use Rattle.law.specs.Entries.{kind_at}

-- ---- the first test that passes

-- The rule with number n passes its test, and no rule before it does.
abbrev pub First : ℕ → List Rule → Type 0
First n [] = ⊥
First n (r ∷ rs) = ((r.when ≡ true) × (r.number ≡ n)) ⊎ ((r.when ≡ false) × First n rs)

-- The outcome is no refusal.
abbrev pub Accepts : Outcome → Type 0
Accepts (refused n) = ⊥
Accepts (accepted d items) = Unit {0}

first_of : (n : ℕ) (rs : List Rule) (good : Outcome) → Accepts good → unless rs good ≡ refused n → First n rs
first_of n [] good a e = subst Accepts e a
first_of n (r ∷ rs) good a e =
    by_test (λ o. o ≡ refused n → First n (r ∷ rs)) r.when (λ p q. inl (p, cc)) (λ p q. inr (p, first_of n rs good a q)) e

refused_first : (n : ℕ) (rs : List Rule) (good : Outcome) → First n rs → unless rs good ≡ refused n
refused_first n [] good f = absurd f
refused_first n (r ∷ rs) good (inl h) = rw (h.0, h.1)
refused_first n (r ∷ rs) good (inr h) = rw h.0 (refused_first n rs good h.1)

-- The refusal is that of the first rule whose test passes.
pub unless_exactly : (n : ℕ) (rs : List Rule) (good : Outcome) → Accepts good → (unless rs good ≡ refused n) ↔ First n rs
unless_exactly n rs good a = (first_of n rs good a, refused_first n rs good)

-- If none passes, the outcome is the accepted one.
pub accepted_otherwise : (rs : List Rule) (good : Outcome) → NoneHolds rs → unless rs good ≡ good
accepted_otherwise [] good none = refl
accepted_otherwise (r ∷ rs) good none = rw none.0 (accepted_otherwise rs good none.1)

-- ---- each test decides its sentence

-- 20: the claim is not granted, and all waiting places are taken.
pub says_full : (granted : Bool) (n : ℕ) → Says (cond granted false (leb places n)) ((granted ≡ false) × (places ≤ n))
says_full true n = (λ e. absurd (false≢true e), λ h. absurd (true≢false h.0))
says_full false n = (λ e. (refl, leb-true places n e), λ h. le-leb places n h.1)

-- 21: no claim of the list has the ticket.
says_lacks : (n : ℕ) (ws : List Claim) → Says (not (any_of (has_ticket n) ws)) (Lacks n ws)
says_lacks n ws = says_none (has_ticket n) (λ w. says_not (has_ticket n w) (says_eq w.ticket n)) ws

-- Rules and sentences in the same order: the same numbers, and each rule's test decides its sentence.
infixr 20 ◌⊳◌
pub data Matches : List Rule → List Sentence → Type 1 where
  done : Matches [] []
  ◌⊳◌ : {n : ℕ} {b : Bool} {P : Type 0} {rs : List Rule} {ps : List Sentence} → Says b P → Matches rs ps →
      Matches (record { number = n; when = b } ∷ rs) (record { number = n; says = P } ∷ ps)

-- Then the first rule whose test passes has the number of the first sentence that holds.
pub first_holds : (n : ℕ) {rs : List Rule} {ps : List Sentence} → Matches rs ps → First n rs ↔ FirstHolds n ps
first_holds n done = (λ no. no, λ no. no)
first_holds n (◌⊳◌ {b = b} {rs = rs} {ps = ps} s m) =
    let rest : First n rs ↔ FirstHolds n ps = first_holds n m in (
      ⊎_map (λ h. (s.0 h.0, h.1)) (λ h. ((fails b s).0 h.0, rest.0 h.1)),
      ⊎_map (λ h. (s.1 h.0, h.1)) (λ h. ((fails b s).1 h.0, rest.1 h.1)),
    )

pub open_matches : (l0 l1 : ℕ) → Matches (open_refusals l0 l1) (open_sentences l0 l1)
open_matches l0 l1 =
    says_not (all_true (leb l0 most_error ∷ leb l1 most_error ∷ []))
    (says_two (leb l0 most_error) (leb l1 most_error) (says_le l0 most_error) (says_le l1 most_error))
    ⊳ done

pub claim_matches : (t : Table) (d : Disk) (q : Asked) → Matches (refusals t d q) (claim_sentences t d q)
claim_matches t d q =
    says_lt q.now d.core.clock
    ⊳ says_le (length t.kinds) q.method
    ⊳ says_not (all_true (field_tests q.now (kind_at t q.method) (asked d q)))
    (says_fields q.now (kind_at t q.method) (asked d q))
    ⊳ says_exceeds d.core.figures (kind_at t q.method) q.error
    ⊳ says_lt last_ticket d.next
    ⊳ says_full (granted_at_once t d q) (length d.waiting)
    ⊳ done

pub release_matches : (t : Table) (d : Disk) (now n : ℕ) → Matches (release_refusals t d now n) (release_sentences d now n)
release_matches t d now n =
    says_lt now d.core.clock
    ⊳ says_neither (any_of (has_ticket n) d.core.active) (any_of (has_ticket n) d.waiting)
    (says_lacks n d.core.active) (says_lacks n d.waiting)
    ⊳ done

-- ---- a request is refused exactly if a rule holds, with the number of the first that does

pub open_refused_exactly : (n now l0 l1 : ℕ) → (open_disk now l0 l1 ≡ refused n) ↔ First n (open_refusals l0 l1)
unfolding open_disk
open_refused_exactly n now l0 l1 = unless_exactly n (open_refusals l0 l1) _ tt

-- The same in 01's words and numbers.
pub open_refused_by_rule : (n now l0 l1 : ℕ) → (open_disk now l0 l1 ≡ refused n) ↔ FirstHolds n (open_sentences l0 l1)
open_refused_by_rule n now l0 l1 =
    iff_trans (open_refused_exactly n now l0 l1) (first_holds n (open_matches l0 l1))

module _ (t : Table) where
  -- A claim that no rule refuses is granted or waits.
  decided_accepts : (d : Disk) (q : Asked) → Accepts (decided t d q)
  decided_accepts d q = by_test Accepts (granted_at_once t d q) (λ e. tt) (λ e. tt)

  pub claim_refused_exactly : (n : ℕ) (d : Disk) (q : Asked) → (claim t d q ≡ refused n) ↔ First n (refusals t d q)
  unfolding claim
  claim_refused_exactly n d q = unless_exactly n (refusals t d q) (decided t d q) (decided_accepts d q)

  pub release_refused_exactly : (n : ℕ) (d : Disk) (now ticket : ℕ) →
      (release t d now ticket ≡ refused n) ↔ First n (release_refusals t d now ticket)
  unfolding release
  release_refused_exactly n d now ticket = unless_exactly n (release_refusals t d now ticket) _ tt

  -- The same in 01's words and numbers, for any call on an open disk.
  pub refused_exactly : (n : ℕ) (d : Disk) (k : Call) → (answered t d k ≡ refused n) ↔ FirstHolds n (sentences_of t d k)
  refused_exactly n d (claims q) =
      iff_trans (claim_refused_exactly n d q) (first_holds n (claim_matches t d q))
  refused_exactly n d (releases now ticket) =
      iff_trans (release_refused_exactly n d now ticket) (first_holds n (release_matches t d now ticket))

  -- A refused call leaves the disk and the answers as they were.
  pub refusal_leaves : (h : History) (k : Call) (n : ℕ) → answered t h.disk k ≡ refused n →
      after h (answered t h.disk k) ≡ h
  refusal_leaves h k n e = rw e
