-- Laws of the claims on a disk: each passes 16 to 18 and has its own ticket. Grants and ends keep this, because limits never
-- change, the clock only grows, and 16 to 18 do not look at told sums or amounts.
use Rattle.std.specs.Prelude.{ℕ, ◌+◌, ◌≤◌, List, [], ◌∷◌, ◌++◌, map, ◌≡◌, refl, ℤ}
use Rattle.std.proofs.Common.{arith}
use Rattle.law.specs.declared.Claim.{Claim}
use Rattle.law.specs.Base.{All}
use Rattle.law.specs.Lists.{all_say, all_there, all_less, all_more, all_grown}
use Rattle.law.specs.Types.{last_ticket, Attribute, Kind, sets, adds, reads, Table, Figures, attr}
use Rattle.law.specs.Granting.{note_by, put_told}
use Rattle.law.specs.Calls.{land_by}
use Rattle.law.specs.Sound.{Formed, Passes}
use Rattle.law.specs.Fields.{FieldsFit, OwnFits}
use Rattle.law.proofs.AttributeLaws.{put_all, note_same}
use Rattle.law.proofs.TicketLaws.{Ticketed, ticketed_end, ticketed_leave, ticketed_new, ticketed_grant}
use Rattle.law.specs.Entries.{kind_of}

-- ---- by the kind

abbrev pub SameLimits : Figures → Figures → Type 0
SameLimits f g = (a : Attribute) → (attr g a).limit ≡ (attr f a).limit

pub note_limits : (f : Figures) (k : Kind) (n : ℕ) → SameLimits f (note_by f k n)
note_limits f k n a = note_same (λ x. x.limit) (λ x m. refl) f k n a

pub land_limits : (f : Figures) (k : Kind) (w : Claim) → SameLimits f (land_by f k w)
land_limits f (sets b) w = put_all (λ a x. x.limit ≡ (attr f a).limit) f b _ refl (λ a. refl)
land_limits f (adds b) w = put_all (λ a x. x.limit ≡ (attr f a).limit) f b _ refl (λ a. refl)
land_limits f (reads m) w = λ a. refl

own_kept : (f g : Figures) → SameLimits f g → (k : Kind) (own : ℕ) → OwnFits f k own → OwnFits g k own
own_kept f g e (sets a) own h = omega (arith, e a)
own_kept f g e (adds a) own h = omega (arith, e a)
own_kept f g e (reads m) own h = tt

fields_kept : (now later : ℕ) → now ≤ later → (k : Kind) (c : Claim) (told : ℤ) (amount : ℕ) → FieldsFit now k c →
    FieldsFit later k (put_told c told amount)
fields_kept now later l (sets a) c told amount h = (h.0, h.1, omega arith, h.3)
fields_kept now later l (adds a) c told amount h = (h.0, h.1, omega arith, h.3)
fields_kept now later l (reads m) c told amount h = h

pub fields_second : (now : ℕ) (k : Kind) (c : Claim) → FieldsFit now k c → c.measured ≤ now
fields_second now (sets a) c h = h.2
fields_second now (adds a) c h = h.2
fields_second now (reads m) c h = omega arith

module _ (t : Table) where
  -- What a claim meets, active or waiting.
  pub record ClaimFits (f : Figures) (now : ℕ) (c : Claim) : Type 0 where
    pub formed : Formed c
    pub first : 1 ≤ c.ticket
    pub passes : Passes t f now c

  -- What the active claims vs and the waiting claims ws meet together.
  pub record ClaimsFit (f : Figures) (now next : ℕ) (vs ws : List Claim) : Type 0 where
    pub active : All (ClaimFits f now) vs
    pub waiting : All (ClaimFits f now) ws
    pub tickets : Ticketed next vs ws
    pub next_first : 1 ≤ next
    pub next_last : next ≤ last_ticket + 1

  claim_kept : {f g : Figures} {now later : ℕ} → SameLimits f g → now ≤ later → (c : Claim) (told : ℤ) (amount : ℕ) →
      ClaimFits f now c → ClaimFits g later (put_told c told amount)
  claim_kept {f} {g} {now} {later} e l c told amount h =
      record {
        formed = h.formed;
        first = h.first;
        passes =
            record {
              method = h.passes.method;
              fields = fields_kept now later l (kind_of t c) c told amount h.passes.fields;
              own = own_kept f g e (kind_of t c) c.error h.passes.own;
            };
      }

  -- With other values and amounts, and a later clock.
  pub claims_kept : {f g : Figures} {now later next : ℕ} {vs ws : List Claim} → SameLimits f g → now ≤ later →
      ClaimsFit f now next vs ws → ClaimsFit g later next vs ws
  claims_kept {f} {g} {now} {later} {next} {vs} {ws} e l h =
      record {
        active = kept vs h.active;
        waiting = kept ws h.waiting;
        tickets = h.tickets;
        next_first = h.next_first;
        next_last = h.next_last;
      }
    where
      kept : (us : List Claim) → All (ClaimFits f now) us → All (ClaimFits g later) us
      kept us = all_say (ClaimFits f now) _ (λ c. claim_kept e l c c.told c.amount) us

  -- Without one active claim.
  pub claims_end : {f : Figures} {now next : ℕ} (xs : List Claim) (w : Claim) (ys : List Claim) {ws : List Claim} →
      ClaimsFit f now next (xs ++ (w ∷ ys)) ws → ClaimsFit f now next (xs ++ ys) ws
  claims_end xs w ys h =
      record {
        active = all_less _ xs w ys h.active;
        waiting = h.waiting;
        tickets = ticketed_end xs w ys h.tickets;
        next_first = h.next_first;
        next_last = h.next_last;
      }

  -- Without one waiting claim.
  pub claims_leave : {f : Figures} {now next : ℕ} {vs : List Claim} (xs : List Claim) (w : Claim) (ys : List Claim) →
      ClaimsFit f now next vs (xs ++ (w ∷ ys)) → ClaimsFit f now next vs (xs ++ ys)
  claims_leave xs w ys h =
      record {
        active = h.active;
        waiting = all_less _ xs w ys h.waiting;
        tickets = ticketed_leave xs w ys h.tickets;
        next_first = h.next_first;
        next_last = h.next_last;
      }

  -- With a new claim that takes the next ticket.
  pub claims_new : {f : Figures} {now next : ℕ} {vs : List Claim} (xs ys : List Claim) (c : Claim) → c.ticket ≡ next →
      next ≤ last_ticket → Formed c → Passes t f now c → ClaimsFit f now next vs (xs ++ ys) →
      ClaimsFit f now (next + 1) vs (xs ++ (c ∷ ys))
  claims_new xs ys c e room formed passes h =
      record {
        active = h.active;
        waiting = all_more _ xs c ys (record { formed = formed; first = omega (arith, h.next_first); passes = passes }) h.waiting;
        tickets = ticketed_new xs ys c e h.tickets;
        next_first = omega arith;
        next_last = omega arith;
      }

  -- A waiting claim becomes active, and other claims' amounts grow.
  pub claims_grant : {f : Figures} {now next : ℕ} {vs : List Claim} (xs : List Claim) (c : Claim) (ys : List Claim)
      (told : ℤ) (amount : ℕ) (growth : Claim → ℕ) → ClaimsFit f now next vs (xs ++ (c ∷ ys)) →
      ClaimsFit f now next (map (λ w. put_told w w.told (w.amount + growth w)) vs ++ (put_told c told amount ∷ [])) (xs ++ ys)
  claims_grant {f} {now} {next} {vs} xs c ys told amount growth h =
      record {
        active =
            all_grown _ vs _ _
            (all_say (ClaimFits f now) _ (λ w. same_claim w w.told (w.amount + growth w)) vs h.active)
            (same_claim c told amount (all_there _ xs c ys h.waiting));
        waiting = all_less _ xs c ys h.waiting;
        tickets = ticketed_grant xs c ys told amount growth h.tickets;
        next_first = h.next_first;
        next_last = h.next_last;
      }
    where
      same_claim : (w : Claim) (z : ℤ) (n : ℕ) → ClaimFits f now w → ClaimFits f now (put_told w z n)
      same_claim = claim_kept (λ a. refl) (omega arith)
