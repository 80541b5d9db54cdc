-- Laws: a claim that was granted is active, with what it was told, until an item releases its ticket; a claim that waits waits until an
-- item grants or releases it.
use Rattle.std.specs.Prelude.{ℕ, ◌≡◌}
use mathlib.Core.List.{List, [], ◌∷◌, ◌++◌, map, append_assoc}
use Rattle.std.proofs.Common.{inl, inr, ◌∙◌, arith}
use Rattle.std.proofs.Math.Path.{refl, sym, subst}
use Rattle.law.specs.declared.Claim.{Claim}
use Rattle.law.specs.Base.{All, Some}
use Rattle.law.specs.Lists.{all_true_lem, all_left, all_right}
use Rattle.law.specs.SomeLaws.{some_left, some_right, some_map, some_less, some_more, some_without}
use Rattle.law.specs.Types.{Table, Core, Item}
use Rattle.law.specs.Granting.{grant, grant_item, raised, as_granted}
use Rattle.law.specs.Calls.{item, wait_item, without, opened, asked, at, finish}
use Rattle.law.proofs.QueueLaws.{queue_cases}
use Rattle.law.proofs.Events.{After, claim_after, release_after, pass_keeps, lived_keeps}
use Rattle.law.specs.History.{Call, claims, releases, History, begun, answered, lived, EndsGrant, EndsWait, Lasting, StandsActive, StandsWaiting}

-- More is said: what holds of an item so far still holds where none of the new items ends it.
module _ (Ends : Item → Item → Type 0) {P Q : Item → Type 0} where
  lasting_more : (past new : List Item) → ((i : Item) → All (λ j. Ends i j → ⊥) new → P i → Q i) →
      Lasting Ends P past → Lasting Ends Q new → Lasting Ends Q (past ++ new)
  lasting_more [] new f h g = g
  lasting_more (i ∷ past) new f h g = (
    (λ none. f i (all_right (λ j. Ends i j → ⊥) past new none) (h.0 (all_left (λ j. Ends i j → ⊥) past new none))),
    lasting_more past new f h.1 g,
  )

-- What lasts and what holds of all.
pub lasting_all : (Ends : Item → Item → Type 0) {P Q R : Item → Type 0} → ((i : Item) → P i → Q i → R i) → (past : List Item) →
    Lasting Ends P past → All Q past → Lasting Ends R past
lasting_all Ends f [] h a = tt
lasting_all Ends f (i ∷ past) h a = ((λ none. f i (h.0 none) a.0), lasting_all Ends f past h.1 a.1)

module _ (t : Table) where
  -- ---- granted claims

  abbrev Granted : List Claim → List Item → Type 0
  Granted active past = Lasting EndsGrant (StandsActive active) past

  -- A grant: those active before, and the new one by its own item.
  grant_stays : (s : Core) (c : Claim) (past : List Item) → Granted s.active past → Granted (grant t s c).active (past ++ (grant_item t s c ∷ []))
  unfolding grant grant_item
  grant_stays s c past h =
      lasting_more EndsGrant past (grant_item t s c ∷ [])
      (λ i none p e.
      some_left (λ r. (r.ticket ≡ i.ticket) × (r.told ≡ i.told)) (map (raised t s c) s.active) (as_granted t s c ∷ [])
      (some_map (λ r. (r.ticket ≡ i.ticket) × (r.told ≡ i.told)) (raised t s c) s.active (p e)))
      h (
        (λ none e.
            some_right (λ r. (r.ticket ≡ c.ticket) × (r.told ≡ (as_granted t s c).told)) (map (raised t s c) s.active) (as_granted t s c ∷ [])
            (inl (refl, refl))),
        tt,
      )

  call_stays : (h : History) (k : Call) → Granted h.disk.core.active h.past →
      After (λ d items. Granted d.core.active (h.past ++ items)) (answered t h.disk k)
  unfolding finish
  call_stays h (claims q) g =
      claim_after t (λ d items. Granted d.core.active (h.past ++ items)) h.disk q
      (λ ok e. grant_stays (at h.disk q.now) (asked h.disk q) h.past g)
      (λ ok e. lasting_more EndsGrant h.past (wait_item t h.disk q ∷ []) (λ i none p. p) g ((λ none z. absurd (omega arith)), tt))
  call_stays h (releases now n) g =
      release_after t (λ d items. Granted d.core.active (h.past ++ items)) h.disk now n
      (λ ok.
      pass_keeps t (λ s ws items. Granted s.active (h.past ++ (item 2 n ∷ items)))
      (λ s ahead c rest items e x.
      subst (Granted (grant t s c).active) (append_assoc h.past (item 2 n ∷ items) (grant_item t s c ∷ []))
      (grant_stays s c (h.past ++ (item 2 n ∷ items)) x))
      (record { core = finish t (at h.disk now) n; ahead = []; items = [] })
      (without n h.disk.waiting)
      (lasting_more EndsGrant h.past (item 2 n ∷ [])
      (λ i none p e.
      some_without (λ r. (r.ticket ≡ i.ticket) × (r.told ≡ i.told)) n h.disk.core.active
      (λ r x y. none.0 (refl, sym y ∙ x.0)) (p e))
      g ((λ none z. absurd (omega arith)), tt)))

  pub granted_stays : (now l0 l1 : ℕ) (ks : List Call) →
      Lasting EndsGrant (StandsActive (lived t (begun now l0 l1) ks).disk.core.active) (lived t (begun now l0 l1) ks).past
  unfolding opened
  granted_stays now l0 l1 ks =
      lived_keeps t (λ h. Granted h.disk.core.active h.past) (λ k. Unit {0}) (λ h k u g. call_stays h k g)
      (begun now l0 l1) ks (all_true_lem (λ (k : Call). Unit {0}) (λ k. tt) ks) ((λ none z. absurd (omega arith)), tt)

  -- ---- waiting claims

  abbrev Queued : List Claim → List Item → Type 0
  Queued waiting past = Lasting EndsWait (StandsWaiting waiting) past

  -- A waiting claim is granted: the others wait on.
  turn_waits : (s : Core) (ahead : List Claim) (c : Claim) (rest : List Claim) (past : List Item) → Queued (ahead ++ (c ∷ rest)) past →
      Queued (ahead ++ rest) (past ++ (grant_item t s c ∷ []))
  unfolding grant_item
  turn_waits s ahead c rest past h =
      lasting_more EndsWait past (grant_item t s c ∷ [])
      (λ i none p e. some_less (λ w. w.ticket ≡ i.ticket) ahead c rest (λ x. none.0 (inl refl, x)) (p e))
      h ((λ none z. absurd (omega arith)), tt)

  call_waits : (h : History) (k : Call) → Queued h.disk.waiting h.past →
      After (λ d items. Queued d.waiting (h.past ++ items)) (answered t h.disk k)
  unfolding grant_item
  call_waits h (claims q) g =
      claim_after t (λ d items. Queued d.waiting (h.past ++ items)) h.disk q
      (λ ok e. lasting_more EndsWait h.past (grant_item t (at h.disk q.now) (asked h.disk q) ∷ []) (λ i none p. p) g ((λ none z. absurd (omega arith)), tt))
      (λ ok e.
      lasting_more EndsWait h.past (wait_item t h.disk q ∷ [])
      (λ i none p z.
      queue_cases (λ ws vs. Some (λ w. w.ticket ≡ i.ticket) ws → Some (λ w. w.ticket ≡ i.ticket) vs) (asked h.disk q)
      (λ xs ys. some_more (λ w. w.ticket ≡ i.ticket) xs (asked h.disk q) ys) h.disk.waiting (p z))
      g (
        (λ none z.
            queue_cases (λ ws vs. Some (λ w. w.ticket ≡ h.disk.next) vs) (asked h.disk q)
            (λ xs ys. some_right (λ w. w.ticket ≡ h.disk.next) xs (asked h.disk q ∷ ys) (inl refl)) h.disk.waiting),
        tt,
      ))
  call_waits h (releases now n) g =
      release_after t (λ d items. Queued d.waiting (h.past ++ items)) h.disk now n
      (λ ok.
      pass_keeps t (λ s ws items. Queued ws (h.past ++ (item 2 n ∷ items)))
      (λ s ahead c rest items e x.
      subst (Queued (ahead ++ rest)) (append_assoc h.past (item 2 n ∷ items) (grant_item t s c ∷ []))
      (turn_waits s ahead c rest (h.past ++ (item 2 n ∷ items)) x))
      (record { core = finish t (at h.disk now) n; ahead = []; items = [] })
      (without n h.disk.waiting)
      (lasting_more EndsWait h.past (item 2 n ∷ [])
      (λ i none p e. some_without (λ w. w.ticket ≡ i.ticket) n h.disk.waiting (λ w x y. none.0 (inr refl, sym y ∙ x)) (p e))
      g ((λ none z. absurd (omega arith)), tt)))

  pub waiting_stays : (now l0 l1 : ℕ) (ks : List Call) →
      Lasting EndsWait (StandsWaiting (lived t (begun now l0 l1) ks).disk.waiting) (lived t (begun now l0 l1) ks).past
  unfolding opened
  waiting_stays now l0 l1 ks =
      lived_keeps t (λ h. Queued h.disk.waiting h.past) (λ k. Unit {0}) (λ h k u g. call_waits h k g)
      (begun now l0 l1) ks (all_true_lem (λ (k : Call). Unit {0}) (λ k. tt) ks) ((λ none z. absurd (omega arith)), tt)
