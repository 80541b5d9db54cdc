-- Laws of calls: a fact that single grants and ends keep is kept by a pass, an accepted call and a history.
use Rattle.std.specs.Prelude.{ℕ, true, false, ◌≡◌}
use mathlib.Core.List.{List, [], ◌∷◌, ◌++◌, append_assoc, append-nil}
use Rattle.std.proofs.Common.{sym}
use Rattle.std.proofs.Math.Path.{subst}
use Rattle.law.specs.declared.Claim.{Claim}
use Rattle.law.specs.Base.{All}
use Rattle.law.specs.Says.{by_test}
use Rattle.law.specs.Types.{Table, Core, Disk, Asked, Item, Outcome, refused, accepted}
use Rattle.law.specs.Granting.{granted, grant, grant_item}
use Rattle.law.specs.Calls.{Rule, unless, Passing, item, asked, at, granted_at_once, refusals, wait_item, decided, claim, turn, pass_over, let_go, release_refusals, release, with_grant, with_wait, with_end}
use Rattle.law.proofs.GrantLaws.{by_turn}
use Rattle.law.specs.History.{Call, History, after, answered, lived}

-- If the call is accepted, P holds of the new disk and the items.
abbrev pub After : (Disk → List Item → Type 0) → Outcome → Type 0
After P (refused n) = Unit {0}
After P (accepted d items) = P d items

-- None of the rules holds.
abbrev pub NoneHolds : List Rule → Type 0
NoneHolds rs = All (λ r. r.when ≡ false) rs

-- P of `unless rs good`: P of every refusal, and P of `good` if no rule holds.
pub by_rules : (P : Outcome → Type 0) (rs : List Rule) (good : Outcome) → ((n : ℕ) → P (refused n)) → (NoneHolds rs → P good) →
    P (unless rs good)
by_rules P [] good refuse accept = accept tt
by_rules P (r ∷ rs) good refuse accept =
    by_test P r.when (λ e. refuse r.number) (λ e. by_rules P rs good refuse (λ k. accept (e, k)))

module _ (t : Table) where
  -- An accepted claim is granted or waits.
  pub claim_after : (P : Disk → List Item → Type 0) (d : Disk) (q : Asked) →
      (NoneHolds (refusals t d q) → granted_at_once t d q ≡ true → P (with_grant t d q) (grant_item t (at d q.now) (asked d q) ∷ [])) →
      (NoneHolds (refusals t d q) → granted_at_once t d q ≡ false → P (with_wait t d q) (wait_item t d q ∷ [])) →
      After P (claim t d q)
  unfolding claim
  claim_after P d q grants waits =
      by_rules (After P) (refusals t d q) (decided t d q) (λ n. tt)
      (λ ok. by_test (After P) (granted_at_once t d q) (grants ok) (waits ok))

  pub release_after : (P : Disk → List Item → Type 0) (d : Disk) (now n : ℕ) →
      (NoneHolds (release_refusals t d now n) → P (with_end t d now n) (item 2 n ∷ (let_go t d now n).items)) →
      After P (release t d now n)
  unfolding release
  release_after P d now n h =
      by_rules (After P) (release_refusals t d now n) (accepted (with_end t d now n) (item 2 n ∷ (let_go t d now n).items)) (λ m. tt) h

  -- If every grant of a pass keeps P, the pass keeps P. P speaks of the state, all waiting claims and the answers so far.
  module _ (P : Core → List Claim → List Item → Type 0)
      (kept : (s : Core) (ahead : List Claim) (c : Claim) (rest : List Claim) (items : List Item) →
      granted t s ahead c ≡ true → P s (ahead ++ (c ∷ rest)) items →
      P (grant t s c) (ahead ++ rest) (items ++ (grant_item t s c ∷ []))) where
    turn_keeps : (p : Passing) (c : Claim) (rest : List Claim) → P p.core (p.ahead ++ (c ∷ rest)) p.items →
        P (turn t p c).core ((turn t p c).ahead ++ rest) (turn t p c).items
    turn_keeps p c rest h =
        by_turn t (λ q. P q.core (q.ahead ++ rest) q.items) p c (λ e. kept p.core p.ahead c rest p.items e h)
        (λ e. subst (λ (ws : List Claim). P p.core ws p.items) (sym (append_assoc p.ahead (c ∷ []) rest)) h)

    pub pass_keeps : (p : Passing) (rest : List Claim) → P p.core (p.ahead ++ rest) p.items →
        P (pass_over t p rest).core (pass_over t p rest).ahead (pass_over t p rest).items
    unfolding pass_over
    pass_keeps p [] h = subst (λ (ws : List Claim). P p.core ws p.items) (append-nil p.ahead) h
    pass_keeps p (c ∷ rest) h = pass_keeps (turn t p c) rest (turn_keeps p c rest h)

  -- If every accepted call keeps I, a history of any such calls keeps I.
  pub lived_keeps : (I : History → Type 0) (C : Call → Type 0) →
      ((h : History) (k : Call) → C k → I h → After (λ d items. I (record { disk = d; past = h.past ++ items })) (answered t h.disk k)) →
      (h : History) (ks : List Call) → All C ks → I h → I (lived t h ks)
  unfolding lived
  lived_keeps I C kept h [] ok i = i
  lived_keeps I C kept h (k ∷ ks) ok i =
      lived_keeps I C kept (after h (answered t h.disk k)) ks ok.1 (go (answered t h.disk k) (kept h k ok.0 i))
    where
      go : (o : Outcome) → After (λ d items. I (record { disk = d; past = h.past ++ items })) o → I (after h o)
      go (refused n) a = i
      go (accepted d items) a = a
