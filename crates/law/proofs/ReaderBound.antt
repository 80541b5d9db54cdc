-- Demand 3, first half, for one disk: from the grant of a reading to its release, its told sum and the present sum of the same
-- figures differ by at most the limit it stated less the error those figures carried at that grant.
use Rattle.std.specs.Prelude.{ℕ, ◌+◌, ◌≤◌, ◌≡◌}
use mathlib.Core.List.{List, [], ◌∷◌, ◌++◌, append_assoc, append-nil}
use Rattle.std.proofs.Math.Path.{refl, subst}
use Rattle.std.proofs.Common.{sym, arith}
use Rattle.num.specs.Metric.{dist}
use Rattle.law.specs.declared.Claim.{Claim}
use Rattle.law.specs.Base.{All, Pairs}
use Rattle.law.specs.Lists.{all_say, all_true_lem}
use Rattle.law.specs.Types.{reads, Table, Core, Disk, Asked, Item}
use Rattle.law.specs.Granting.{grant, grant_item}
use Rattle.law.specs.Calls.{opened, item, wait_item, claim, release, asked, at, let_go, finish, without, landed}
use Rattle.law.specs.History.{Call, claims, releases, History, begun, answered, lived, Once}
use Rattle.law.proofs.Events.{After, claim_after, release_after, pass_keeps, lived_keeps}
use Rattle.law.proofs.Covered.{covered_bound}
use Rattle.law.proofs.Invariant.{AllBorne, Borne, Invariant, kept_note, kept_new, kept_leave, kept_end, kept_grant}
use Rattle.law.proofs.QueueLaws.{ended_cases, queue_cases}
use Rattle.law.specs.Entries.{kind_of}
use Rattle.law.specs.Readings.{present}

module _ (t : Table) where
  -- The bound of an answer that granted a reading, as long as that reading is active.
  abbrev pub Bounded : Core → Item → Type 0
  Bounded s i =
      i.code ≡ 0 →
      All
      (λ r. r.ticket ≡ i.ticket → (m : ℕ) → kind_of t r ≡ reads m →
      dist i.told (present s.figures m) + i.carried ≤ r.error)
      s.active

  KeptIn : Disk → List Item → Type 0
  KeptIn d past = Invariant t d.core.figures d.core.active d.waiting d.next past

  kept_opened : (now l0 l1 : ℕ) → KeptIn (opened now l0 l1) (item 3 0 ∷ [])
  unfolding KeptIn opened
  kept_opened now l0 l1 =
      kept_note t {past = []} (item 3 0) (λ e. omega arith)
      (record {
        tickets = record { below_active = tt; below_waiting = tt; apart_active = tt; apart_waiting = tt; apart_both = tt };
        given = tt;
        once = tt;
        borne = tt;
      })

  -- A claim: the new claim waits with the next ticket; then it is granted, or stays waiting.
  kept_claim : (d : Disk) (q : Asked) (past : List Item) → KeptIn d past → After (λ e items. KeptIn e (past ++ items)) (claim t d q)
  unfolding KeptIn
  kept_claim d q past h =
      claim_after t (λ e items. KeptIn e (past ++ items)) d q
      (λ ok g. kept_grant t (at d q.now) d.waiting (asked d q) [] d.waiting g (kept_new t [] d.waiting (asked d q) refl h))
      (λ ok g.
      kept_note t (wait_item t d q) (λ e. omega arith)
      (queue_cases
      (λ ws vs.
      Invariant t d.core.figures d.core.active ws d.next past →
      Invariant t d.core.figures d.core.active vs (d.next + 1) past)
      (asked d q) (λ xs ys. kept_new t xs ys (asked d q) refl) d.waiting h))

  -- A release: the claim ends, active or waiting; then come the grants of the pass.
  kept_finish : (d : Disk) (now n : ℕ) (past : List Item) → KeptIn d past →
      Invariant t (finish t (at d now) n).figures (finish t (at d now) n).active (without n d.waiting) d.next past
  unfolding KeptIn finish
  kept_finish d now n past h =
      ended_cases t (λ ws f vs. left ws → left vs) d.core.figures n (λ ws k. k) (λ xs w ys. kept_leave t xs w ys) d.waiting
      (kept_end t n h)
    where
      left : List Claim → Type 0
      left ws = Invariant t (landed t d.core.figures n d.core.active) (without n d.core.active) ws d.next past

  kept_release : (d : Disk) (now n : ℕ) (past : List Item) → KeptIn d past →
      After (λ e items. KeptIn e (past ++ items)) (release t d now n)
  unfolding KeptIn
  kept_release d now n past h =
      release_after t (λ e items. KeptIn e (past ++ items)) d now n
      (λ ok.
      subst (In (let_go t d now n).core (let_go t d now n).ahead) (append_assoc past (item 2 n ∷ []) (let_go t d now n).items)
      (pass_keeps t (λ s waiting items. In s waiting (before ++ items))
      (λ s ahead c rest items g k.
      subst (In (grant t s c) (ahead ++ rest)) (append_assoc before items (grant_item t s c ∷ []))
      (kept_grant t s ahead c ahead rest g k))
      (record { core = finish t (at d now) n; ahead = []; items = [] })
      (without n d.waiting)
      (subst (In (finish t (at d now) n) (without n d.waiting)) (sym (append-nil before))
      (kept_finish d now n before (kept_note t (item 2 n) (λ e. omega arith) h)))))
    where
      before : List Item
      before = past ++ (item 2 n ∷ [])

      In : Core → List Claim → List Item → Type 0
      In s waiting items = Invariant t s.figures s.active waiting d.next items

  kept_lived : (now l0 l1 : ℕ) (ks : List Call) →
      KeptIn (lived t (begun now l0 l1) ks).disk (lived t (begun now l0 l1) ks).past
  kept_lived now l0 l1 ks =
      lived_keeps t (λ h. KeptIn h.disk h.past) (λ k. Unit {0}) kept (begun now l0 l1) ks
      (all_true_lem (λ k. Unit {0}) (λ k. tt) ks)
      (kept_opened now l0 l1)
    where
      kept : (h : History) (k : Call) → Unit {0} → KeptIn h.disk h.past →
          After (λ d items. KeptIn d (h.past ++ items)) (answered t h.disk k)
      kept h (claims q) u i = kept_claim h.disk q h.past i
      kept h (releases now n) u i = kept_release h.disk now n h.past i

  pub reader_bound : (now l0 l1 : ℕ) (ks : List Call) →
      All (Bounded (lived t (begun now l0 l1) ks).disk.core) (lived t (begun now l0 l1) ks).past
  unfolding KeptIn
  reader_bound now l0 l1 ks =
      let d : Disk = (lived t (begun now l0 l1) ks).disk in
      all_say
      (AllBorne t d.core.figures d.core.active)
      (Bounded d.core)
      (λ i b z.
      all_say
      (Borne t d.core.figures d.core.active i)
      (λ r. r.ticket ≡ i.ticket → (m : ℕ) → kind_of t r ≡ reads m → dist i.told (present d.core.figures m) + i.carried ≤ r.error)
      (λ r w q m p.
      let bears = w q m p in
      subst (λ x. dist x (present d.core.figures m) + i.carried ≤ r.error) (sym bears.told)
      (covered_bound t d.core.figures d.core.active m i.carried r bears.z bears.share bears.held))
      d.core.active
      (b z))
      (lived t (begun now l0 l1) ks).past
      (kept_lived now l0 l1 ks).borne

  -- No ticket of a disk is granted twice.
  pub granted_once : (now l0 l1 : ℕ) (ks : List Call) →
      Pairs Once (lived t (begun now l0 l1) ks).past
  unfolding KeptIn
  granted_once now l0 l1 ks = (kept_lived now l0 l1 ks).once
