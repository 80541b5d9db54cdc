-- Laws of grants: every active claim was granted by an item, and keeps the told sum of that item.
use Rattle.std.specs.Prelude.{ℕ, List, [], ◌∷◌, ◌++◌, ◌≡◌, refl}
use Rattle.std.proofs.Common.{append_assoc, inl, subst}
use Rattle.law.specs.declared.Claim.{Claim}
use Rattle.law.specs.Base.{All}
use Rattle.law.specs.Lists.{all_say, all_true_lem, all_grown}
use Rattle.law.specs.Types.{Core, Item}
use Rattle.law.specs.Granting.{grant, grant_item, raised, as_granted}
use Rattle.law.specs.Calls.{item, wait_item, without, opened, asked, at, finish}
use Rattle.law.proofs.QueueLaws.{all_without}
use Rattle.law.proofs.Events.{After, claim_after, release_after, pass_keeps, lived_keeps}
use Rattle.law.specs.History.{Call, claims, releases, History, begun, answered, lived}
use Rattle.law.specs.DiskType.{disk_table}
use Rattle.promises.specs.Asks.{WasGranted}
use Rattle.law.specs.SomeLaws.{some_left, some_right}

-- This stays so when more is said.
more_granted : (past new : List Item) (ws : List Claim) → All (WasGranted past) ws → All (WasGranted (past ++ new)) ws
more_granted past new ws h =
    all_say (WasGranted past) (WasGranted (past ++ new))
    (λ c. some_left (λ i. (i.code ≡ 0) × ((i.ticket ≡ c.ticket) × (i.told ≡ c.told))) past new) ws h

-- After a grant: the claims active before, and the new one by its own item.
grant_granted : (past : List Item) (s : Core) (c : Claim) → All (WasGranted past) s.active →
    All (WasGranted (past ++ (grant_item disk_table s c ∷ []))) (grant disk_table s c).active
unfolding grant grant_item
grant_granted past s c h =
    all_grown (raised disk_table s c) s.active (as_granted disk_table s c) (WasGranted (past ++ (grant_item disk_table s c ∷ [])))
    (more_granted past (grant_item disk_table s c ∷ []) s.active h)
    (some_right (λ i. (i.code ≡ 0) × ((i.ticket ≡ c.ticket) × (i.told ≡ (as_granted disk_table s c).told))) past (grant_item disk_table s c ∷ [])
    (inl (refl, (refl, refl))))

-- Every call keeps this.
call_granted : (h : History) (k : Call) → All (WasGranted h.past) h.disk.core.active →
    After (λ d items. All (WasGranted (h.past ++ items)) d.core.active) (answered disk_table h.disk k)
unfolding finish
call_granted h (claims q) g =
    claim_after disk_table (λ d items. All (WasGranted (h.past ++ items)) d.core.active) h.disk q
    (λ ok e. grant_granted h.past (at h.disk q.now) (asked h.disk q) g)
    (λ ok e. more_granted h.past (wait_item disk_table h.disk q ∷ []) h.disk.core.active g)
call_granted h (releases now n) g =
    release_after disk_table (λ d items. All (WasGranted (h.past ++ items)) d.core.active) h.disk now n
    (λ ok.
    pass_keeps disk_table (λ s ws items. All (WasGranted (h.past ++ (item 2 n ∷ items))) s.active)
    (λ s ahead c rest items e x.
    subst (λ (past : List Item). All (WasGranted past) (grant disk_table s c).active)
    (append_assoc h.past (item 2 n ∷ items) (grant_item disk_table s c ∷ []))
    (grant_granted (h.past ++ (item 2 n ∷ items)) s c x))
    (record { core = finish disk_table (at h.disk now) n; ahead = []; items = [] })
    (without n h.disk.waiting)
    (more_granted h.past (item 2 n ∷ []) (without n h.disk.core.active)
    (all_without (WasGranted h.past) n h.disk.core.active g)))

-- So it holds after any calls from an opened disk.
pub lived_granted : (now l0 l1 : ℕ) (ks : List Call) →
    All (WasGranted (lived disk_table (begun now l0 l1) ks).past) (lived disk_table (begun now l0 l1) ks).disk.core.active
unfolding opened
lived_granted now l0 l1 ks =
    lived_keeps disk_table (λ h. All (WasGranted h.past) h.disk.core.active) (λ k. Unit {0}) (λ h k u g. call_granted h k g)
    (begun now l0 l1) ks (all_true_lem (λ (k : Call). Unit {0}) (λ k. tt) ks) tt
