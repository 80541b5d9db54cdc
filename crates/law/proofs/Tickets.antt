-- Laws of tickets: a granted or waiting claim takes the next ticket and a release takes none, so no ticket is given twice.
use Rattle.std.specs.Prelude.{ℕ, ◌+◌, ◌≤◌, ◌<◌, List, [], ◌∷◌, ◌≡◌, refl}
use Rattle.std.proofs.Common.{subst, arith}
use Rattle.law.specs.Lists.{all_true_lem}
use Rattle.law.specs.Types.{Table, Disk, Asked, Item, Outcome, accepted}
use Rattle.law.specs.Granting.{grant_item}
use Rattle.law.specs.Calls.{claim, release}
use Rattle.law.specs.History.{Call, claims, releases, History, after, answered, lived}
use Rattle.law.proofs.Events.{After, claim_after, release_after, lived_keeps}

-- The ticket of the call's own answer.
abbrev pub ticket_of : List Item → ℕ
ticket_of [] = 0
ticket_of (i ∷ items) = i.ticket

module _ (t : Table) where
  pub claim_takes : (d : Disk) (q : Asked) → After (λ e items. (ticket_of items ≡ d.next) × (e.next ≡ d.next + 1)) (claim t d q)
  unfolding grant_item
  claim_takes d q =
      claim_after t (λ e items. (ticket_of items ≡ d.next) × (e.next ≡ d.next + 1)) d q
      (λ ok g. (refl, refl))
      (λ ok g. (refl, refl))

  pub release_takes : (d : Disk) (now n : ℕ) → After (λ e items. e.next ≡ d.next) (release t d now n)
  release_takes d now n = release_after t (λ e items. e.next ≡ d.next) d now n (λ ok. refl)

  -- The next ticket never falls.
  pub next_grows : (h : History) (ks : List Call) → h.disk.next ≤ (lived t h ks).disk.next
  next_grows h ks =
      lived_keeps t (λ g. h.disk.next ≤ g.disk.next) (λ k. Unit {0}) kept h ks (all_true_lem (λ k. Unit {0}) (λ k. tt) ks) (omega arith)
    where
      more : (g : History) (o : Outcome) → h.disk.next ≤ g.disk.next → After (λ e items. g.disk.next ≤ e.next) o →
          After (λ e items. h.disk.next ≤ e.next) o
      more g (Outcome.refused n) low a = tt
      more g (accepted e items) low a = omega arith

      step : (g : History) (k : Call) → After (λ e items. g.disk.next ≤ e.next) (answered t g.disk k)
      step g (claims q) =
          claim_after t (λ e items. g.disk.next ≤ e.next) g.disk q (λ ok y. omega arith) (λ ok y. omega arith)
      step g (releases now n) = release_after t (λ e items. g.disk.next ≤ e.next) g.disk now n (λ ok. omega arith)

      kept : (g : History) (k : Call) → Unit {0} → h.disk.next ≤ g.disk.next →
          After (λ e items. h.disk.next ≤ e.next) (answered t g.disk k)
      kept g k u low = more g (answered t g.disk k) low (step g k)

  -- Of two accepted claims on a disk, with any calls between them, the later one has the higher ticket.
  pub tickets_once : (h : History) (q q' : Asked) (ks : List Call) (d e : Disk) (is js : List Item) →
      claim t h.disk q ≡ accepted d is →
      claim t (lived t (after h (accepted d is)) ks).disk q' ≡ accepted e js →
      ticket_of is < ticket_of js
  tickets_once h q q' ks d e is js p r =
      let first : (ticket_of is ≡ h.disk.next) × (d.next ≡ h.disk.next + 1) =
      subst (After (λ f items. (ticket_of items ≡ h.disk.next) × (f.next ≡ h.disk.next + 1))) p (claim_takes h.disk q) in
      let then : (ticket_of js ≡ (lived t (after h (accepted d is)) ks).disk.next) × (e.next ≡ (lived t (after h (accepted d is)) ks).disk.next + 1) =
      subst
      (After
      (λ f items.
      (ticket_of items ≡ (lived t (after h (accepted d is)) ks).disk.next) × (f.next ≡ (lived t (after h (accepted d is)) ks).disk.next + 1)))
      r
      (claim_takes (lived t (after h (accepted d is)) ks).disk q') in
      omega (arith, first.0, first.1, then.0, next_grows (after h (accepted d is)) ks)
