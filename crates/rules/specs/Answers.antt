-- Answers by the law's outcomes, the request that a claim is, and the disks that calls leave.
use Rattle.std.specs.Prelude.{ℕ, ◌+◌, ◌≤◌, Bool, cond, Result, Ok, Err, List, [], ◌∷◌, ◌++◌, ◌≡◌, leb, ltb, eqb, ℤ, pos, take, get_or}
use Rattle.num.specs.Metric.{size}
use Rattle.rules.specs.Rows.{no_claim, remove_at}
use Rattle.law.specs.declared.Claim.{Claim}
use Rattle.law.specs.Types.{most_value, most_error, last_ticket, Kind, sets, adds, reads, Figures, Core, Asked, Item, Outcome, refused, accepted, Disk as LawDisk}
use Rattle.law.specs.Entries.{kind_of}
use Rattle.law.specs.Granting.{total, grant}
use Rattle.law.specs.Calls.{Rule, value_fits, land_by, queue, set_clock, claim_refusals}
use Rattle.law.specs.MayGrant.{MayGrant}
use Rattle.law.specs.DiskType.{disk_table}
use Rattle.answer.specs.declared.Answer.{Answer}
use Rattle.answer.specs.declared.Answer.TheVariants as A
use Rattle.answer.specs.Answers.{refusal_of}
use Rattle.rules.specs.declared.disk.Disk.{Disk}
use Rattle.answer.specs.declared.Refusal.{Refusal}
use Rattle.rules.specs.Pairs.{core_of}
use Rattle.rules.specs.Disks.{figures_in, Good, ToldFits}

-- ---- answers

-- The answer of an item of the law, by its code.
unfoldable pub answer_of : Item → Answer
answer_of i =
    cond (eqb i.code 0) (A.Granted i.ticket i.told i.amount)
    (cond (eqb i.code 1) (A.Waits i.ticket) (cond (eqb i.code 2) (A.Released i.ticket) A.Opened))

-- The call's own answer, by the law's outcome. (Every accepted call has an item of its own.)
abbrev pub answer_by : Outcome → Answer
answer_by (refused n) = A.Refused (refusal_of n)
answer_by (accepted e []) = A.Opened
answer_by (accepted e (i ∷ items)) = answer_of i

-- ---- claim

-- The claim c has not been granted: its ticket is the disk's next, nothing is told and no amount is counted.
pub record NewOn (d : LawDisk) (c : Claim) : Type 0 where
  pub ticket : c.ticket ≡ d.next
  pub told : c.told ≡ pos 0
  pub amount : c.amount ≡ 0

-- The law's request for the claim c at second now.
abbrev pub request_of : ℕ → Claim → Asked
request_of now c =
    record {
      now = now;
      method = c.method;
      priority = c.priority;
      flag = c.flag;
      measured = c.measured;
      value = c.value;
      error = c.error;
    }

-- The value that a write of a kind brings is in range.
abbrev pub value_by : Kind → ℤ → Bool
value_by (sets a) z = value_fits a z
value_by (adds a) z = leb (size z) most_value
value_by (reads m) z = leb (size z) most_value

-- The refusal of the first rule that holds, or that none does.
abbrev pub first_refusal : List Rule → Result (Unit {0}) Refusal
first_refusal [] = Ok tt
first_refusal (r ∷ rs) = cond r.when (Err (refusal_of r.number)) (first_refusal rs)

-- The refusals of a claim before its decision, 15 to 19; its ticket is the next one.
unfoldable pub first_rules : Figures → ℕ → ℕ → Claim → List Rule
first_rules f clock now c =
    record { number = 15; when = ltb now clock }
    ∷ claim_refusals disk_table f now c
    ++ (record { number = 19; when = ltb last_ticket c.ticket } ∷ [])

-- The disk as a decision sees it at second now.
abbrev pub core_at : Disk → ℕ → Core
core_at d now = core_of (figures_in d) now (take d.actives d.active)

-- What the grant of c at second now with that total wants.
pub record TakesGrant (d : Disk) (now : ℕ) (c : Claim) (sum : ℕ) : Type 0 where
  pub good : Good d
  pub may : MayGrant disk_table (core_at d now) c
  pub told : ToldFits d c
  pub counts : sum ≡ total disk_table (core_at d now) c
  pub few : sum ≤ most_error
  pub ticket : c.ticket ≤ last_ticket

-- The disk with the claim c granted at second now.
unfoldable pub granted_of : LawDisk → ℕ → Claim → LawDisk
granted_of e now c = record { core = grant disk_table (set_clock now e.core) c; waiting = e.waiting; next = c.ticket + 1 }

-- The disk with the claim c waiting from second now on.
unfoldable pub waiting_of : LawDisk → ℕ → Claim → LawDisk
waiting_of e now c = record { core = set_clock now e.core; waiting = queue c e.waiting; next = c.ticket + 1 }

-- ---- release

-- The active claim at a place ended at second now.
unfoldable pub ended_at : LawDisk → ℕ → ℕ → LawDisk
ended_at e now at =
    record {
      core =
          record {
            clock = now;
            figures =
                land_by e.core.figures
                (kind_of disk_table (get_or e.core.active at no_claim))
                (get_or e.core.active at no_claim);
            active = remove_at at e.core.active;
          };
      waiting = e.waiting;
      next = e.next;
    }

-- The waiting claim at a place gone at second now.
unfoldable pub left_at : LawDisk → ℕ → ℕ → LawDisk
left_at e now at = record { core = set_clock now e.core; waiting = remove_at at e.waiting; next = e.next }
