-- Laws of the calls: which refusal a request meets, by the tests of its code in their order, and what an accepted one comes to.
use Prim.Native.Nat.{ℕ, ◌≤◌, ◌<◌}
use mathlib.Core.Bool.{Bool, true, false, cond, not}
use mathlib.Core.List.{List, [], ◌∷◌, ◌++◌}
use Rattle.std.specs.Prelude.{Result, Ok, Err}
use mathlib.Core.Path.{◌≡◌, refl, sym, ap, ◌∙◌, subst}
use native.Mathlib.Omega.{arith}
use lib.Dec.{leb}
use lib.IntN.{ℤ}
use lib.ListN.{length, take}
use borrow.Author.Tests.{ltb-false, leb-false, lt-ltb, le-ltb, le-leb, lt-leb}
use Rattle.law.specs.declared.Claim.{Claim}
use Rattle.law.specs.Base.{all_true}
use Rattle.law.specs.Types.{most_error, places, last_ticket, Figures, Disk as LawDisk, Outcome, refused, accepted}
use Rattle.law.specs.Entries.{kind_of}
use Rattle.law.specs.Granting.{told_by, total, granted, grant_item}
use Rattle.law.specs.Calls.{Rule, unless, field_tests, own_fits, item, asked, at, claim}
use Rattle.law.specs.Says.{by_test}
use Rattle.law.proofs.Events.{NoneHolds, by_rules}
use Rattle.law.specs.Sound.{Passes, Sound}
use Rattle.law.proofs.SoundTest.{unrefused}
use Rattle.law.specs.MayGrant.{MayGrant}
use Rattle.law.proofs.GrantLaws.{grant_says}
use Rattle.law.proofs.ProperLaws.{proper_kind_lem, disk_proper}
use Rattle.law.specs.DiskType.{disk_table}
use Rattle.answer.specs.declared.Answer.{Answer}
use Rattle.answer.specs.declared.Answer.TheVariants as A
use Rattle.answer.specs.declared.Refusal.{Refusal}
use Rattle.answer.specs.declared.Refusal.TheVariants as R
use Rattle.answer.specs.Answers.{refusal_of}
use Rattle.rules.specs.RowLaws.{row_length}
use Rattle.rules.specs.Disks.{figures_in, disk_of, Good}
use Rattle.rules.specs.Answers.{answer_of, answer_by, NewOn, request_of, first_refusal, first_rules, core_at, TakesGrant, granted_of, waiting_of}
use Rattle.rules.specs.declared.disk.Disk.{Disk}
use Rattle.rules.proofs.RangeLaws.{limit_most, error_most, limit_range, told_most}

-- ---- 15 to 19 in their order

methods : length disk_table.kinds ≡ 7
unfolding disk_table
methods = refl

module _ (f : Figures) (clock now : ℕ) (c : Claim) where
  abbrev first : Result (Unit {0}) Refusal
  first = first_refusal (first_rules f clock now c)

  abbrev fields : Bool
  fields = all_true (field_tests now (kind_of disk_table c) c)

  abbrev own : Bool
  own = own_fits f (kind_of disk_table c) c.error

  pub first_clock : now < clock → Err R.Clock ≡ first
  unfolding first_rules refusal_of
  first_clock h = rw (lt-ltb now clock h)

  pub first_method : clock ≤ now → 7 ≤ c.method → Err R.Method ≡ first
  unfolding first_rules refusal_of
  first_method t m = rw (le-ltb now clock t, le-leb (length disk_table.kinds) c.method (omega (arith, methods)))

  -- The tests from here on come with 15 and 16 passed.
  module _ (t : clock ≤ now) (m : c.method < 7) where
    known : leb (length disk_table.kinds) c.method ≡ false
    known = lt-leb (length disk_table.kinds) c.method (omega (arith, methods))

    pub first_field : not fields ≡ true → Err R.Field ≡ first
    unfolding first_rules refusal_of
    first_field e = rw (le-ltb now clock t, known, e)

    pub first_own : not fields ≡ false → not own ≡ true → Err R.OwnError ≡ first
    unfolding first_rules refusal_of
    first_own e g = rw (le-ltb now clock t, known, e, g)

    pub first_ticket : not fields ≡ false → not own ≡ false → 999_999 < c.ticket → Err R.NoTicket ≡ first
    unfolding first_rules refusal_of
    first_ticket e g h = rw (le-ltb now clock t, known, e, g, lt-ltb 999_999 c.ticket h)

    pub first_none : not fields ≡ false → not own ≡ false → c.ticket ≤ 999_999 → Ok tt ≡ first
    unfolding first_rules
    first_none e g h = rw (le-ltb now clock t, known, e, g, le-ltb 999_999 c.ticket h)

-- ---- claim: the first refusal, 20, or the decision

-- The answer of a claim: the refusal that the tests find, or else the given answer.
abbrev after : Result (Unit {0}) Refusal → Answer → Answer
after (Ok u) a = a
after (Err r) a = A.Refused r

first_answers : (rs ss : List Rule) (good : Outcome) →
    after (first_refusal rs) (answer_by (unless ss good)) ≡ answer_by (unless (rs ++ ss) good)
first_answers [] ss good = refl
first_answers (r ∷ rs) ss good = go r.when (first_answers rs ss good)
  where
    more : Outcome
    more = unless (rs ++ ss) good

    go : (b : Bool) → after (first_refusal rs) (answer_by (unless ss good)) ≡ answer_by more →
        after (cond b (Err (refusal_of r.number)) (first_refusal rs)) (answer_by (unless ss good))
        ≡ answer_by (cond b (refused r.number) more)
    go true h = refl
    go false h = h

-- Where the tests pass, none of their rules holds.
abbrev Passing : Result (Unit {0}) Refusal → Type 0
Passing (Ok u) = Unit {0}
Passing (Err r) = ⊥

none_hold : (rs : List Rule) → Passing (first_refusal rs) → NoneHolds rs
none_hold [] e = tt
none_hold (r ∷ rs) e =
    by_test (λ x. Passing x → NoneHolds (r ∷ rs)) r.when (λ w e. absurd e) (λ w e. (w, none_hold rs e)) e

-- The law's outcome for a new claim, in the terms of the code: the tests before the decision, the decision, a place to wait.
module _ (d : LawDisk) (now : ℕ) where
  abbrev tests : Claim → List Rule
  tests c = first_rules d.core.figures d.core.clock now c

  abbrev at_once : Claim → Bool
  at_once c = granted disk_table (at d now) d.waiting c

  abbrev full : Claim → Rule
  full c = record { number = 20; when = cond (at_once c) false (leb places (length d.waiting)) }

  abbrev grants : Claim → Outcome
  grants c = accepted (granted_of d now c) (grant_item disk_table (at d now) c ∷ [])

  abbrev waits : Claim → Outcome
  waits c = accepted (waiting_of d now c) (item 1 c.ticket ∷ [])

  abbrev outcome : Claim → Outcome
  outcome c = unless (tests c ++ (full c ∷ [])) (cond (at_once c) (grants c) (waits c))

  claim_is : (c : Claim) → NewOn d c → claim disk_table d (request_of now c) ≡ outcome c
  unfolding claim first_rules granted_of waiting_of
  claim_is c new = ap outcome same
    where
      same : asked d (request_of now c) ≡ c
      same i =
          record {
            ticket = sym new.ticket i;
            method = c.method;
            priority = c.priority;
            flag = c.flag;
            measured = c.measured;
            value = c.value;
            error = c.error;
            told = sym new.told i;
            amount = sym new.amount i;
          }

  module _ (c : Claim) (new : NewOn d c) where
    abbrev answered : Answer
    answered = answer_by (claim disk_table d (request_of now c))

    abbrev rest : Answer
    rest = answer_by (unless (full c ∷ []) (cond (at_once c) (grants c) (waits c)))

    -- The answer, by what the tests find.
    tested : {x : Result (Unit {0}) Refusal} → x ≡ first_refusal (tests c) → after x rest ≡ answered
    tested e = rw (e, claim_is c new) (first_answers (tests c) (full c ∷ []) (cond (at_once c) (grants c) (waits c)))

    pub answer_refused : {r : Refusal} → Err r ≡ first_refusal (tests c) → A.Refused r ≡ answered
    answer_refused e = tested e

    module _ (e : Ok tt ≡ first_refusal (tests c)) where
      pub passed_none : NoneHolds (tests c)
      passed_none = none_hold (tests c) (subst (λ (x : Result (Unit {0}) Refusal). Passing x) e tt)

      passed : {a : Answer} → a ≡ rest → a ≡ answered
      passed h = h ∙ tested e

      pub answer_granted : at_once c ≡ true →
          A.Granted c.ticket (told_by d.core.figures (kind_of disk_table c)) (total disk_table (at d now) c) ≡ answered
      unfolding answer_of grant_item
      answer_granted g = passed (rw g)

      pub answer_full : at_once c ≡ false → places ≤ length d.waiting → A.Refused R.Full ≡ answered
      unfolding refusal_of
      answer_full g h = passed (rw (g, le-leb places (length d.waiting) h))

      pub answer_waits : at_once c ≡ false → length d.waiting < places → A.Waits c.ticket ≡ answered
      unfolding answer_of
      answer_waits g h = passed (rw (g, lt-leb places (length d.waiting) h))

-- ---- what a grant and a wait need: no test has refused

module _ (d : Disk) (now : ℕ) (c : Claim) (none : NoneHolds (tests (disk_of d) now c)) where
  pub ticket_fits : c.ticket ≤ last_ticket
  unfolding first_rules
  ticket_fits = ltb-false last_ticket c.ticket none.1.1.1.1.0

  passes : Passes disk_table (figures_in d) now c
  unfolding first_rules
  passes = (unrefused disk_table (figures_in d) now c).0 (none.1.0, (none.1.1.0, (none.1.1.1.0, tt)))

  pub takes_grant : (sum : ℕ) → Good d → Sound disk_table (disk_of d) → at_once (disk_of d) now c ≡ true →
      sum ≡ total disk_table (core_at d now) c → TakesGrant d now c sum
  takes_grant sum good s g e =
      let may : MayGrant disk_table (core_at d now) c = grant_says disk_table (core_at d now) (take d.waitings d.waiting) c g in
      record {
        good = good;
        may = may;
        told = told_most (figures_in d) (kind_of disk_table c) (proper_kind_lem disk_table disk_proper c.method) s.values;
        counts = e;
        few = omega (arith, may.in_limit, limit_range (figures_in d) (kind_of disk_table c) c.error most_error (λ a. limit_most a _ (s.limits a)) (error_most now (kind_of disk_table c) c passes.fields));
        ticket = ticket_fits;
      }

-- ---- what the answer of a claim says of its outcome

pub record IsGranted (d : Disk) (now : ℕ) (c : Claim) (told : ℤ) (sum : ℕ) (o : Outcome) : Type 0 where
  pub is : o ≡ grants (disk_of d) now c
  pub takes : TakesGrant d now c sum
  pub tells : told ≡ told_by (figures_in d) (kind_of disk_table c)

pub record IsWaiting (d : Disk) (now : ℕ) (c : Claim) (o : Outcome) : Type 0 where
  pub is : o ≡ waits (disk_of d) now c
  pub place : d.waitings < places
  pub ticket : c.ticket ≤ last_ticket

pub record IsRefused (o : Outcome) : Type 0 where
  pub number : ℕ
  pub is : o ≡ refused number

-- What each answer says. A claim is never released or opened.
abbrev pub Says : Disk → ℕ → Claim → Outcome → Answer → Type 0
Says d now c o (A.Granted t z m) = IsGranted d now c z m o
Says d now c o (A.Waits t) = IsWaiting d now c o
Says d now c o (A.Released t) = ⊥
Says d now c o A.Opened = ⊥
Says d now c o (A.Refused r) = IsRefused o

-- A claim that is neither refused 20 nor granted has a place to wait.
place_left : (d : Disk) (now : ℕ) (c : Claim) → Good d → (full (disk_of d) now c).when ≡ false → at_once (disk_of d) now c ≡ false → d.waitings < places
place_left d now c good w g =
    let free : leb places (length (take d.waitings d.waiting)) ≡ false = rw g at w in
    omega (arith, leb-false places (length (take d.waitings d.waiting)) free, row_length good.waiting)

-- Read back from its answer, the outcome is one of three.
outcome_says : (d : Disk) (now : ℕ) (c : Claim) → Good d → Sound disk_table (disk_of d) →
    Says d now c (outcome (disk_of d) now c) (answer_by (outcome (disk_of d) now c))
unfolding first_rules answer_of grant_item
outcome_says d now c good s =
    let l : LawDisk = disk_of d in
    by_rules (λ o. Says d now c o (answer_by o)) (tests l now c ++ (full l now c ∷ [])) (cond (at_once l now c) (grants l now c) (waits l now c))
    (λ n. record { number = n; is = refl })
    (λ none.
    let first : NoneHolds (tests l now c) = (none.0, (none.1.0, (none.1.1.0, (none.1.1.1.0, (none.1.1.1.1.0, tt))))) in
    by_test (λ o. Says d now c o (answer_by o)) (at_once l now c)
    (λ g. record { is = refl; takes = takes_grant d now c first _ good s g refl; tells = refl })
    (λ g. record { is = refl; place = place_left d now c good none.1.1.1.1.1.0 g; ticket = ticket_fits d now c first }))

pub answer_says : (d : Disk) (now : ℕ) (c : Claim) → NewOn (disk_of d) c → Good d → Sound disk_table (disk_of d) → {a : Answer} →
    a ≡ answer_by (claim disk_table (disk_of d) (request_of now c)) → Says d now c (claim disk_table (disk_of d) (request_of now c)) a
answer_says d now c new good s e = rw (e, claim_is (disk_of d) now c new) (outcome_says d now c good s)
