-- Laws of the disk that a part holds: its claims as the code reads them, the bounds read of it, and what is seen of the whole.
use Rattle.std.proofs.Common.{ℕ, ◌+◌, ◌-◌, ◌≤◌, ◌<◌, Bool, true, cond, Some, None, List, ◌≡◌, ◌∙◌, sym, ap, arith, length, get_or, length-append, get_or-take}
use Rattle.std.proofs.lemmas.List.{get_or_append_left, get_or-append_right}
use Rattle.law.specs.declared.Claim.{Claim}
use Rattle.law.specs.Base.{all_true}
use Rattle.law.specs.Sound.{claims_on}
use Rattle.rules.specs.Rows.{no_claim, Row}
use Rattle.rules.specs.RowLaws.{row_length}
use Rattle.num.specs.Metric.{size}
use Rattle.rules.specs.Totals.{totals_of}
use Rattle.rules.proofs.TotalsLaws.{sum_is}
use Rattle.rules.specs.Disks.{figures_in}
use Rattle.part.specs.declared.status.Status.{Status}
use Rattle.part.specs.declared.status.Status.TheVariants.{Active, Waiting}
use Rattle.part.specs.Status.{count_in, places_in}
use Rattle.part.specs.Layout.{decode}
use Rattle.part.specs.PartLaws.{disk_good}
use Rattle.part.specs.Held.{held, HoldsDisk}
use Rattle.sound.specs.declared.alone.Most.{Most}
use Rattle.sound.specs.declared.tickets.Marks.{Marks}
use Rattle.sound.specs.declared.active.Walked.{Walked}
use Rattle.sound.specs.Tests.{tickets_differ, active_fits, waiting_fits, active_by, waiting_by, code_tests}
use Rattle.sound.specs.Seen.{no_marks, marks_from, marks_of, Ready, walked_of, seen_of}
use Rattle.sound.proofs.AloneLaws.{active_is, waiting_is}
use Rattle.sound.proofs.MarkLaws.{marks_append, marks_apart}
use Rattle.sound.proofs.MeetLaws.{meets_is, seen_none, walked}
use Rattle.sound.proofs.SoundLaws.{sound_is}

-- The claims of a part.
abbrev pub actives : List ℕ → List Claim
actives s = (held s).core.active

abbrev pub waitings : List ℕ → List Claim
waitings s = (held s).waiting

abbrev pub claims : List ℕ → List Claim
claims s = claims_on (held s)

module _ {s : List ℕ} (h : HoldsDisk s) where
  -- Its two rows.
  pub row_in : (status : Status) → Row (places_in status (decode s)) (count_in status (decode s))
  row_in Active = (disk_good h).active
  row_in Waiting = (disk_good h).waiting

  pub few_active : (decode s).actives ≤ 8
  few_active = (row_in Active).few

  pub few_waiting : (decode s).waitings ≤ 8
  few_waiting = (row_in Waiting).few

  -- Among all claims the active ones stand first.
  pub some_claims : length (claims s) ≡ (decode s).actives + (decode s).waitings
  some_claims =
      omega (arith, length-append (actives s) (waitings s), row_length (row_in Active), row_length (row_in Waiting))

  pub active_on : (i : ℕ) → i < (decode s).actives → get_or (decode s).active i no_claim ≡ get_or (claims s) i no_claim
  active_on i k =
      sym
      (get_or_append_left (actives s) (waitings s) no_claim i (omega (arith, row_length (row_in Active)))
      ∙ get_or-take (decode s).actives (decode s).active i no_claim k)

  pub waiting_on : (i : ℕ) → (decode s).actives ≤ i → i < (decode s).actives + (decode s).waitings →
      get_or (decode s).waiting (i - (decode s).actives) no_claim ≡ get_or (claims s) i no_claim
  waiting_on i l k =
      sym
      (get_or-append_right (actives s) (waitings s) (decode s).actives i no_claim (row_length (row_in Active)) l
      ∙ get_or-take (decode s).waitings (decode s).waiting (i - (decode s).actives) no_claim (omega arith))

  -- What reading a claim by its place among all takes.
  pub ruleset claims_read = (few_active, few_waiting, active_on, waiting_on)

  -- The tests in their order are the law's "Sound".
  pub seen_is : seen_of (held s) ≡ cond (all_true (code_tests (held s))) (Some (totals_of (actives s))) None
  unfolding seen_of
  seen_is =
      rw (sound_is (held s) (omega (arith, row_length (row_in Active), few_active))
      (omega (arith, row_length (row_in Waiting), few_waiting)))

-- The tests of a claim by itself.
abbrev pub active_fit : List ℕ → Claim → Bool
active_fit s = active_fits (figures_in (decode s)) (decode s).clock (decode s).next

abbrev pub waiting_fit : List ℕ → Claim → Bool
waiting_fit s = waiting_fits (figures_in (decode s)) (decode s).clock (decode s).next

-- Where no bit of a ticket is met again, no two claims have the same.
pub all_differ : (s : List ℕ) → (marks_from (marks_of (actives s)) (waitings s)).again ≡ 0 → tickets_differ (held s) ≡ true
all_differ s h = marks_apart (claims s) (ap (λ (m : Marks). m.again) (marks_append no_marks (actives s) (waitings s)) ∙ h)

-- The walk over all active claims, which has seen nothing before, is their test.
pub walked_all : (s : List ℕ) (w : Walked) →
    ((w.totals.sum ≡ 0) × (w.totals.does ≡ 0)) × ((w.marks.met ≡ 0) × (w.marks.again ≡ 0)) →
    walked (active_fit s) (size (decode s).promised.value) w (actives s) ≡ walked_of (held s)
unfolding walked walked_of
walked_all s w h = rw (seen_none w h, meets_is (actives s), sum_is (actives s))

-- The test with the bounds read is that with the disk's figures.
module _ {s : List ℕ} {most : Most} (r : Ready s most) (c : Claim) where
  pub active_by_lem : active_by most.rows most.next c ≡ active_fit s c
  active_by_lem =
      (λ i. active_by (r.rows i) (r.next i) c) ∙ active_is (figures_in (decode s)) (decode s).clock (decode s).next r.figures c

  pub waiting_by_lem : waiting_by most.rows most.next c ≡ waiting_fit s c
  waiting_by_lem =
      (λ i. waiting_by (r.rows i) (r.next i) c) ∙ waiting_is (figures_in (decode s)) (decode s).clock (decode s).next r.figures c
