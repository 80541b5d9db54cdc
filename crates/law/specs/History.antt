-- The history of one disk: any calls since its opening, refused ones included, and the answers given so far.
use Rattle.std.specs.Prelude.{ℕ, List, [], ◌∷◌, ◌++◌, ◌⊎◌, ◌≡◌}
use Rattle.law.specs.declared.Claim.{Claim}
use Rattle.law.specs.Base.{All, Some}
use Rattle.law.specs.Types.{Table, Disk, Asked, Item, Outcome, refused, accepted}
use Rattle.law.specs.Calls.{opened, item, claim, release}

-- A request on an open disk: a claim, or the release of a ticket at second now. (Another open is refused.)
pub data Call : Type 0 where
  claims : Asked → Call
  releases : (now ticket : ℕ) → Call

-- A disk and all answer items given since its opening: each call's own, then its pass's.
pub record History : Type 0 where
  pub disk : Disk
  pub past : List Item

-- A refusal changes nothing; an accepted call adds its items.
abbrev pub after : History → Outcome → History
after h (refused n) = h
after h (accepted d items) = record { disk = d; past = h.past ++ items }

-- The history of a disk just opened at second now, with limits l0 of used and l1 of promised.
-- Limits that open refuses are not excluded here.
abbrev pub begun : ℕ → ℕ → ℕ → History
begun now l0 l1 = record { disk = opened now l0 l1; past = item 3 0 ∷ [] }

module _ (t : Table) where
  abbrev pub answered : Disk → Call → Outcome
  answered d (claims q) = claim t d q
  answered d (releases now n) = release t d now n

  -- The history after a list of calls.
  unfoldable pub lived : History → List Call → History
  lived h [] = h
  lived h (k ∷ ks) = lived (after h (answered h.disk k)) ks

-- The items i and j do not both grant the same ticket.
abbrev pub Once : Item → Item → Type 0
Once i j = i.code ≡ 0 → j.code ≡ 0 → i.ticket ≡ j.ticket → ⊥

-- The later item j ends what item i said: a grant ends by the release of its ticket, a wait by the grant or the release of its ticket.
abbrev pub EndsGrant : Item → Item → Type 0
EndsGrant i j = (j.code ≡ 2) × (j.ticket ≡ i.ticket)

abbrev pub EndsWait : Item → Item → Type 0
EndsWait i j = ((j.code ≡ 0) ⊎ (j.code ≡ 2)) × (j.ticket ≡ i.ticket)

-- P holds of every item that no later item has ended.
abbrev pub Lasting : (Item → Item → Type 0) → (Item → Type 0) → List Item → Type 0
Lasting Ends P [] = Unit {0}
Lasting Ends P (i ∷ later) = (All (λ j. Ends i j → ⊥) later → P i) × Lasting Ends P later

-- The claim that item i granted is active, and was told what i said; the claim that i let wait waits.
abbrev pub StandsActive : List Claim → Item → Type 0
StandsActive active i = i.code ≡ 0 → Some (λ r. (r.ticket ≡ i.ticket) × (r.told ≡ i.told)) active

abbrev pub StandsWaiting : List Claim → Item → Type 0
StandsWaiting waiting i = i.code ≡ 1 → Some (λ w. w.ticket ≡ i.ticket) waiting
