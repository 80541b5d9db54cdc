-- 01's three requests on one disk: open, claim and release with its pass; refusals 15 to 21 in their order.
use Rattle.std.specs.Prelude.{ℕ, ◌+◌, Bool, true, false, cond, not, ◌||◌, List, [], ◌∷◌, ◌++◌, leb, ltb, eqb, ℤ, pos, negsuc, ◌+ℤ◌, length}
use Rattle.num.specs.Metric.{size}
use Rattle.law.specs.declared.Attr.{Attr}
use Rattle.law.specs.declared.Claim.{Claim}
use Rattle.law.specs.Base.{all_true, any_of}
use Rattle.law.specs.Types.{most_value, most_error, most_state, places, last_ticket, Attribute, a0, a1, a2, Kind, sets, adds, reads, Table, Figures, attr, put_attr, Core, Disk, Asked, claim_of, Item, Outcome, refused, accepted}
use Rattle.law.specs.Granting.{granted, grant, grant_item}
use Rattle.law.specs.Entries.{kind_of}

-- ---- refusals: a number and when it is given; the first rule of the list that holds gives the answer

pub record Rule : Type 0 where
  pub number : ℕ
  pub when : Bool

abbrev pub unless : List Rule → Outcome → Outcome
unless [] good = good
unless (r ∷ rs) good = cond r.when (refused r.number) (unless rs good)

-- ---- ranges

-- A state is a code from 0 to 255.
abbrev pub is_code : ℤ → Bool
is_code (pos n) = leb n most_state
is_code (negsuc n) = false

-- A value of attribute a is in its range.
abbrev pub value_fits : Attribute → ℤ → Bool
value_fits a0 z = leb (size z) most_value
value_fits a1 z = leb (size z) most_value
value_fits a2 z = is_code z

-- What refusal 17 tests at second now. A write: its value in range, no fresh flag, not measured after now, its own error in
-- range. A reading: value and second of measuring 0, its stated limit in range.
abbrev pub field_tests : ℕ → Kind → Claim → List Bool
field_tests now (sets a) c = value_fits a c.value ∷ eqb c.flag 0 ∷ leb c.measured now ∷ leb c.error most_error ∷ []
field_tests now (adds a) c = leb (size c.value) most_value ∷ eqb c.flag 0 ∷ leb c.measured now ∷ leb c.error most_error ∷ []
field_tests now (reads m) c = eqb (size c.value) 0 ∷ eqb c.measured 0 ∷ leb c.error most_error ∷ []

-- A write's own error is within its attribute's limit.
abbrev pub own_fits : Figures → Kind → ℕ → Bool
own_fits f (sets a) own = leb own (attr f a).limit
own_fits f (adds a) own = leb own (attr f a).limit
own_fits f (reads m) stated = true

-- ---- the end of a claim

-- A set stores its value, its stamp becomes the second of measuring. An add adds; the stamp stays.
abbrev pub land_by : Figures → Kind → Claim → Figures
land_by f (sets a) w = put_attr f a (record { value = w.value; stamp = w.measured; amount = (attr f a).amount; limit = (attr f a).limit })
land_by f (adds a) w =
    put_attr f a
    (record { value = (attr f a).value +ℤ w.value; stamp = (attr f a).stamp; amount = (attr f a).amount; limit = (attr f a).limit })
land_by f (reads m) w = f

abbrev pub has_ticket : ℕ → Claim → Bool
has_ticket n w = eqb w.ticket n

-- The list without the claim with ticket n.
abbrev pub without : ℕ → List Claim → List Claim
without n [] = []
without n (w ∷ ws) = cond (has_ticket n w) ws (w ∷ without n ws)

-- ---- the pass's order: higher priority first, then lower ticket

abbrev pub before : Claim → Claim → Bool
before x y = ltb y.priority x.priority || (cond (eqb x.priority y.priority) (ltb x.ticket y.ticket) false)

-- The waiting claims with c inserted in that order.
abbrev pub queue : Claim → List Claim → List Claim
queue c [] = c ∷ []
queue c (w ∷ ws) = cond (before w c) (w ∷ queue c ws) (c ∷ w ∷ ws)

-- ---- the pass

-- The pass so far: the state, the claims tried that still wait, and the answers of its grants in order.
pub record Passing : Type 0 where
  pub core : Core
  pub ahead : List Claim
  pub items : List Item

-- ---- answers

abbrev pub item : ℕ → ℕ → Item
item code ticket = record { code = code; ticket = ticket; told = pos 0; amount = 0; carried = 0 }

-- ---- open

abbrev pub new_attr : ℕ → ℕ → Attr
new_attr now most = record { value = pos 0; stamp = now; amount = 0; limit = most }

-- An opened disk has values 0, amounts 0, stamps and clock = now, next ticket 1, no claims. The state's limit is 0.
unfoldable pub opened : ℕ → ℕ → ℕ → Disk
opened now l0 l1 =
    record {
      core =
          record {
            clock = now;
            figures = record { f0 = new_attr now l0; f1 = new_attr now l1; f2 = new_attr now 0 };
            active = [];
          };
      waiting = [];
      next = 1;
    }

-- The limits of used and promised are in range.
abbrev pub limits_fit : ℕ → ℕ → Bool
limits_fit l0 l1 = all_true (leb l0 most_error ∷ leb l1 most_error ∷ [])

abbrev pub open_refusals : ℕ → ℕ → List Rule
open_refusals l0 l1 = record { number = 17; when = not (limits_fit l0 l1) } ∷ []

unfoldable pub open_disk : ℕ → ℕ → ℕ → Outcome
open_disk now l0 l1 = unless (open_refusals l0 l1) (accepted (opened now l0 l1) (item 3 0 ∷ []))

-- Accepted calls set the clock to now.
abbrev pub set_clock : ℕ → Core → Core
set_clock now s = record { clock = now; figures = s.figures; active = s.active }

-- The claim of a request, with the ticket that it would take.
abbrev pub asked : Disk → Asked → Claim
asked d q = claim_of q d.next

-- What a decision looks at, with the clock set to the second of the call.
abbrev pub at : Disk → ℕ → Core
at d now = set_clock now d.core

module _ (t : Table) where
  -- ---- claim

  abbrev pub granted_at_once : Disk → Asked → Bool
  granted_at_once d q = granted t (at d q.now) d.waiting (asked d q)

  -- Refusals 16 to 18 of claim c at second now. Every claim on a sound disk passes them too.
  abbrev pub claim_refusals : Figures → ℕ → Claim → List Rule
  claim_refusals f now c =
      record { number = 16; when = leb (length t.kinds) c.method }
      ∷ record { number = 17; when = not (all_true (field_tests now (kind_of t c) c)) }
      ∷ record { number = 18; when = not (own_fits f (kind_of t c) c.error) }
      ∷ []

  -- The refusals of a claim, in the order they apply.
  abbrev pub refusals : Disk → Asked → List Rule
  refusals d q =
      record { number = 15; when = ltb q.now d.core.clock }
      ∷ claim_refusals d.core.figures q.now (asked d q)
      ++ (record { number = 19; when = ltb last_ticket d.next }
      ∷ record { number = 20; when = cond (granted_at_once d q) false (leb places (length d.waiting)) }
      ∷ [])

  -- The disk after the claim is granted, and after it is put among the waiting. Either way it
  -- takes the next ticket; waiting changes no amount.
  abbrev pub with_grant : Disk → Asked → Disk
  with_grant d q = record { core = grant t (at d q.now) (asked d q); waiting = d.waiting; next = d.next + 1 }

  abbrev pub with_wait : Disk → Asked → Disk
  with_wait d q = record { core = at d q.now; waiting = queue (asked d q) d.waiting; next = d.next + 1 }

  -- The answer item of a claim that waits: only its ticket.
  abbrev pub wait_item : Disk → Asked → Item
  wait_item d q = item 1 d.next

  abbrev pub decided_by : Bool → Disk → Asked → Outcome
  decided_by ok d q =
      cond ok
      (accepted (with_grant d q) (grant_item t (at d q.now) (asked d q) ∷ []))
      (accepted (with_wait d q) (wait_item d q ∷ []))

  abbrev pub decided : Disk → Asked → Outcome
  decided d q = decided_by (granted_at_once d q) d q

  unfoldable pub claim : Disk → Asked → Outcome
  claim d q = unless (refusals d q) (decided d q)

  -- ---- release

  -- The figures after the active claim with ticket n ends.
  abbrev pub landed : Figures → ℕ → List Claim → Figures
  landed f n [] = f
  landed f n (w ∷ ws) = cond (has_ticket n w) (land_by f (kind_of t w) w) (landed f n ws)

  -- The state after the active claim with ticket n ends, if there is one.
  unfoldable pub finish : Core → ℕ → Core
  finish s n = record { clock = s.clock; figures = landed s.figures n s.active; active = without n s.active }

  -- One waiting claim is tried on the state so far. Only the claims ahead that still wait can bar it.
  unfoldable pub turn : Passing → Claim → Passing
  turn p c =
      cond (granted t p.core p.ahead c)
      (record { core = grant t p.core c; ahead = p.ahead; items = p.items ++ (grant_item t p.core c ∷ []) })
      (record { core = p.core; ahead = p.ahead ++ (c ∷ []); items = p.items })

  -- One pass over the waiting claims, in their order.
  unfoldable pub pass_over : Passing → List Claim → Passing
  pass_over p [] = p
  pass_over p (c ∷ cs) = pass_over (turn p c) cs

  abbrev pub pass : Core → List Claim → Passing
  pass s waiting = pass_over (record { core = s; ahead = []; items = [] }) waiting

  -- The claim with ticket n ends, active or waiting; then the pass.
  abbrev pub let_go : Disk → ℕ → ℕ → Passing
  let_go d now n = pass (finish (at d now) n) (without n d.waiting)

  abbrev pub release_refusals : Disk → ℕ → ℕ → List Rule
  release_refusals d now n =
      record { number = 15; when = ltb now d.core.clock }
      ∷ record { number = 21; when = not (any_of (has_ticket n) d.core.active || any_of (has_ticket n) d.waiting) }
      ∷ []

  abbrev pub with_end : Disk → ℕ → ℕ → Disk
  with_end d now n = record { core = (let_go d now n).core; waiting = (let_go d now n).ahead; next = d.next }

  unfoldable pub release : Disk → ℕ → ℕ → Outcome
  release d now n = unless (release_refusals d now n) (accepted (with_end d now n) (item 2 n ∷ (let_go d now n).items))
