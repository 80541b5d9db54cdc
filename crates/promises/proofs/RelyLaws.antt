-- Laws of the bound: an active claim that is as its record asks, and bounded by its own limit, is bounded by the limit that the record
-- states.
use Rattle.std.specs.Prelude.{ℕ, ◌+◌, ◌≤◌, List, ◌≡◌}
use Rattle.std.proofs.Math.Path.{sym, subst}
use Rattle.std.proofs.Common.{ap, ◌∙◌}
use Rattle.num.specs.Metric.{dist}
use Rattle.law.specs.declared.Claim.{Claim}
use Rattle.law.specs.Base.{All}
use Rattle.law.specs.Lists.{all_both}
use Rattle.law.specs.SomeLaws.{some_say, some_all, some_then}
use Rattle.law.specs.Types.{reads, Item}
use Rattle.law.specs.Readings.{present}
use Rattle.law.specs.Entries.{kind_at, kind_of}
use Rattle.law.specs.History.{StandsActive}
use Rattle.law.proofs.ReaderBound.{Bounded}
use Rattle.law.specs.DiskType.{disk_table}
use Rattle.part.specs.Held.{held}
use Rattle.desk.specs.Record.{asked_in}
use Rattle.promises.specs.Asks.{Claimed, AsAsked, Relies}

module _ (p : List ℕ) (made : List Claimed) (i : Item) where
  abbrev off : ℕ → ℕ
  off m = dist i.told (present (held p).core.figures m) + i.carried

  -- A claim with the item's ticket is within its own limit.
  abbrev Within : Claim → Type 0
  Within r = r.ticket ≡ i.ticket → (m : ℕ) → kind_of disk_table r ≡ reads m → off m ≤ r.error

  -- Of one claim.
  claim_relies : (r : Claim) → i.code ≡ 0 → r.ticket ≡ i.ticket → AsAsked made r → ((m : ℕ) → kind_of disk_table r ≡ reads m → off m ≤ r.error) →
      Relies p made i
  unfolding asked_in
  claim_relies r z n asked bound code =
      some_say
      (λ x q. (
        sym (ap (λ (e : Claim). e.ticket) q) ∙ n,
        λ m k. subst (λ (e : ℕ). off m ≤ e) (ap (λ (e : Claim). e.error) q) (bound m (ap (λ (e : Claim). kind_at disk_table e.method) q ∙ k)),
      ))
      made asked

  pub item_relies : All (AsAsked made) (held p).core.active → StandsActive (held p).core.active i → Bounded disk_table (held p).core i →
      Relies p made i
  item_relies asked stands bound z =
      some_then {P = λ r. ((r.ticket ≡ i.ticket) × (r.told ≡ i.told)) × (AsAsked made r × Within r)} (held p).core.active
      (some_all (λ r x y. (x, y)) (held p).core.active (stands z)
      (all_both (AsAsked made) Within (λ r. AsAsked made r × Within r) (λ r x y. (x, y)) (held p).core.active asked (bound z)))
      (λ r x. claim_relies r z x.0.0 x.1.0 (x.1.1 x.0.0) z)
