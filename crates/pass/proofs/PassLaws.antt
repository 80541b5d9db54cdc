-- Laws of the pass on a part: what a turn that grants and one that waits make of the disk so far, and what is left at the end.
use Rattle.std.proofs.Common.{ℕ, ◌+◌, ◌*◌, ◌≤◌, ◌<◌, Bool, true, false, List, [], ◌∷◌, ◌++◌, map, length, take, drop, set}
use Rattle.std.proofs.Common.{◌≡◌, refl, sym, ap, ◌∙◌, arith, length-append, take-take}
use Rattle.std.proofs.lemmas.List.{length-map, map-append}
use Rattle.num.specs.Runs.{splice}
use Rattle.law.specs.declared.Attr.{Attr}
use Rattle.law.specs.declared.Claim.{Claim}
use Rattle.law.specs.Base.{All}
use Rattle.law.specs.Types.{most_error, Attribute, Figures, attr, Core, Item as LawItem, Disk as LawDisk}
use Rattle.law.specs.Entries.{kind_of}
use Rattle.law.specs.Lists.{all_say, all_right}
use Rattle.law.specs.Fields.{ValueFits}
use Rattle.law.specs.Granting.{with_amount, note_by, total, granted, grant, grant_item}
use Rattle.law.specs.Calls.{Passing, turn, pass_over, pass}
use Rattle.law.specs.Sound.{Passes, Sound}
use Rattle.law.specs.DiskType.{disk_table}
use Rattle.law.specs.MayGrant.{MayGrant}
use Rattle.law.proofs.ProperLaws.{proper_kind_lem, disk_proper}
use Rattle.law.proofs.AttributeLaws.{note_same}
use Rattle.rules.specs.RowLaws.{row_length, left_on, left_end, store_row, store_front, store_left}
use Rattle.rules.specs.declared.disk.Disk.{Disk}
use Rattle.rules.specs.Disks.{figures_in, core_in, disk_of, Good, DiskIs, grant_of, ToldFits}
use Rattle.rules.proofs.RangeLaws.{limit_most, error_most, limit_range, told_most}
use Rattle.part.specs.Layout.{decode}
use Rattle.part.specs.Held.{HoldsDisk}
use Rattle.part.specs.PartLaws.{disk_good}
use Rattle.answer.specs.Answers.{item_bytes, Behind}
use Rattle.answer.specs.AnswerLaws.{one_more}
use Rattle.change.specs.Holding.{with_waiting}
use Rattle.pass.specs.Turns.{grant_answer, tried, front, TurnFits, TurnBy, Turned, closed_at, passed_of}

-- ---- how many wait

pub few_waiting : {s : List ℕ} → HoldsDisk s → (decode s).waitings ≤ 8
few_waiting h = (disk_good h).waiting.few

-- ---- what is told and counted

module _ (d : Disk) (i : ℕ) (f : TurnFits d i) (c : Claim) where
  pub told_fits : ToldFits d c
  told_fits = told_most (figures_in d) (kind_of disk_table c) (proper_kind_lem disk_table disk_proper c.method) f.0

  pub total_most : c ≡ tried d i → MayGrant disk_table (core_in d) c → total disk_table (core_in d) c ≤ most_error
  total_most e may =
      let own : c.error ≤ most_error = rw e f.2 in
      omega (arith, may.in_limit, limit_range (figures_in d) (kind_of disk_table c) c.error most_error f.1 own)

-- ---- a turn of the law

abbrev passing : Core → List Claim → List LawItem → Passing
passing s ahead items = record { core = s; ahead = ahead; items = items }

pub turn_grants : (p : Passing) (c : Claim) → granted disk_table p.core p.ahead c ≡ true →
    turn disk_table p c ≡ passing (grant disk_table p.core c) p.ahead (p.items ++ (grant_item disk_table p.core c ∷ []))
unfolding turn
turn_grants p c h = rw h

pub turn_waits : (p : Passing) (c : Claim) → granted disk_table p.core p.ahead c ≡ false →
    turn disk_table p c ≡ passing p.core (p.ahead ++ (c ∷ [])) p.items
unfolding turn
turn_waits p c h = rw h

-- ---- the pass so far

-- Those that are left.
abbrev left : Disk → ℕ → List Claim
left e i = drop i (take e.waitings e.waiting)

abbrev passed : Disk → Passing
passed d = pass disk_table (core_in d) (take d.waitings d.waiting)

abbrev Limited : Claim → Type 0
Limited c = c.error ≤ most_error

-- The pass of d so far: e is the disk, i claims are looked at, of which the k that still wait stand in front, and the answers are
-- those of the others. What is left of the pass is the pass.
pub record Going (d e : Disk) (answers : List LawItem) (i k : ℕ) : Type 0 where
  pub counted : k + length answers ≡ i
  pub good : Good e
  pub waits : e.waitings ≡ d.waitings
  pub next : e.next ≡ d.next
  pub values : (x : Attribute) → ValueFits x (attr (figures_in e) x).value
  pub limits : (x : Attribute) → (attr (figures_in e) x).limit ≤ most_error
  pub errors : All Limited (left e i)
  pub goes : pass_over disk_table (passing (core_in e) (front e k) answers) (left e i) ≡ passed d

pub going_start : (d : Disk) → Good d → Sound disk_table (disk_of d) → Going d d [] 0 0
going_start d g s =
    record {
      counted = refl;
      good = g;
      waits = refl;
      next = refl;
      values = s.values;
      limits = λ x. limit_most x (attr (figures_in d) x).limit (s.limits x);
      errors = all_say Fits Limited (λ c p. error_most d.clock (kind_of disk_table c) c p.fields) ws (all_right Fits vs ws s.all_pass);
      goes = refl;
    }
  where
    Fits : Claim → Type 0
    Fits = Passes disk_table (figures_in d) d.clock

    vs : List Claim
    vs = take d.actives d.active

    ws : List Claim
    ws = take d.waitings d.waiting

module _ {d e : Disk} {answers : List LawItem} {i k : ℕ} (g : Going d e answers i k) where
  pub kept : k ≤ i
  kept = omega (arith, g.counted)

  module _ (h : i < d.waitings) where
    pub item_place : length answers < 8
    item_place = omega (arith, g.counted, g.waits, g.good.waiting.few)

    left_now : left e i ≡ tried e i ∷ left e (i + 1)
    left_now = left_on g.good.waiting i (omega (arith, g.waits))

    errors_now : All Limited (tried e i ∷ left e (i + 1))
    errors_now = rw left_now at g.errors

    pub turn_fits : TurnFits e i
    turn_fits = (g.values, g.limits, errors_now.0)

    turn_goes : pass_over disk_table (turn disk_table (passing (core_in e) (front e k) answers) (tried e i)) (left e (i + 1)) ≡ passed d
    unfolding pass_over
    turn_goes = ap (pass_over disk_table (passing (core_in e) (front e k) answers)) (sym left_now) ∙ g.goes

    -- ---- it waits: it is stored behind those that wait already

    pub going_wait : granted disk_table (core_in e) (front e k) (tried e i) ≡ false → {r : Disk} →
        r ≡ with_waiting e e.waitings (set e.waiting k (tried e i)) → Going d r answers (i + 1) (k + 1)
    going_wait fails {r} q = rw q go
      where
        c : Claim
        c = tried e i

        after : Disk
        after = with_waiting e e.waitings (set e.waiting k c)

        in_row : k < e.waitings
        in_row = omega (arith, g.waits, kept)

        front_is : front after (k + 1) ≡ front e k ++ (c ∷ [])
        front_is = store_front g.good.waiting k c in_row

        left_is : left after (i + 1) ≡ left e (i + 1)
        left_is = store_left g.good.waiting k (i + 1) c (omega (arith, kept)) in_row

        go : Going d after answers (i + 1) (k + 1)
        go =
            record {
              counted = omega (arith, g.counted);
              good = record { active = g.good.active; waiting = store_row g.good.waiting k c in_row };
              waits = g.waits;
              next = g.next;
              values = g.values;
              limits = g.limits;
              errors = rw left_is errors_now.1;
              goes = rw (front_is, left_is, ← turn_waits (passing (core_in e) (front e k) answers) c fails) turn_goes;
            }

    -- ---- it is granted: it stands last among the active claims

    module _ (ok : granted disk_table (core_in e) (front e k) (tried e i) ≡ true) where
      module _ {r : Disk} (w : DiskIs r (grant_of (disk_of e) (tried e i))) where
        core_is : core_in r ≡ grant disk_table (core_in e) (tried e i)
        core_is = ap (λ (x : LawDisk). x.core) w.is

        waiting_is : take r.waitings r.waiting ≡ take e.waitings e.waiting
        waiting_is = ap (λ (x : LawDisk). x.waiting) w.is

        waitings_are : r.waitings ≡ e.waitings
        waitings_are = sym (row_length w.good.waiting) ∙ ap length waiting_is ∙ row_length g.good.waiting

        front_is : front r k ≡ front e k
        front_is =
            sym (take-take k r.waitings r.waiting (omega (arith, waitings_are, g.waits, kept)))
            ∙ ap (take k) waiting_is
            ∙ take-take k e.waitings e.waiting (omega (arith, g.waits, kept))

        figures_are : figures_in r ≡ note_by (figures_in e) (kind_of disk_table (tried e i)) (total disk_table (core_in e) (tried e i))
        unfolding grant
        figures_are = ap (λ (s : Core). s.figures) core_is

        -- What a grant leaves of an attribute.
        field_is : {X : Type 0} (field : Attr → X) → ((x : Attr) (n : ℕ) → field (with_amount x n) ≡ field x) → (x : Attribute) →
            field (attr (figures_in r) x) ≡ field (attr (figures_in e) x)
        field_is field same x =
            ap (λ (f : Figures). field (attr f x)) figures_are
            ∙ note_same field same (figures_in e) (kind_of disk_table (tried e i)) (total disk_table (core_in e) (tried e i)) x

        pub going_grant : Going d r (answers ++ (grant_item disk_table (core_in e) (tried e i) ∷ [])) (i + 1) k
        going_grant =
            record {
              counted = omega (arith, g.counted, length-append answers (grant_item disk_table (core_in e) (tried e i) ∷ []));
              good = w.good;
              waits = waitings_are ∙ g.waits;
              next = ap (λ (x : LawDisk). x.next) w.is ∙ g.next;
              values = λ x. rw (field_is (λ y. y.value) (λ y n. refl) x) (g.values x);
              limits = λ x. rw (field_is (λ y. y.limit) (λ y n. refl) x) (g.limits x);
              errors = rw waiting_is errors_now.1;
              goes = rw (core_is, front_is, waiting_is, ← turn_grants (passing (core_in e) (front e k) answers) (tried e i) ok) turn_goes;
            }

  -- ---- all are looked at

  pub going_end : d.waitings ≤ i → passing (core_in e) (front e k) answers ≡ passed d
  unfolding pass_over
  going_end h =
      ap (pass_over disk_table (passing (core_in e) (front e k) answers)) (sym (left_end g.good.waiting i (omega (arith, g.waits))))
      ∙ g.goes

-- ---- the answer buffer

-- One more grant behind the call's own answer.
behind_more : {a b c : List ℕ} (l : List LawItem) (x : LawItem) {n : ℕ} → length l ≡ n → n < 8 → Behind a (map grant_answer l) b →
    c ≡ splice b (16 + 16 * n) (item_bytes (grant_answer x)) → Behind a (map grant_answer (l ++ (x ∷ []))) c
behind_more l x e h before q own o =
    let size = length-map l grant_answer ∙ e in
    rw (q, before own o, ← size, map-append grant_answer l (x ∷ []))
    (one_more own (map grant_answer l) (grant_answer x) (omega (arith, size)))

-- ---- the pass so far, and its grants in the buffer

pub record Run (d e : Disk) (a b : List ℕ) (i k : ℕ) : Type 0 where
  pub answers : List LawItem
  pub going : Going d e answers i k
  pub behind : Behind a (map grant_answer answers) b

pub run_start : (d : Disk) (a : List ℕ) → Good d → Sound disk_table (disk_of d) → Run d d a a 0 0
run_start d a g s = record { answers = []; going = going_start d g s; behind = λ own e. e }

module _ {d e : Disk} {a b : List ℕ} {i k : ℕ} (g : Run d e a b i k) (h : i < d.waitings) where
  pub run_turn : {r : Disk} {c : List ℕ} {n : ℕ} → Turned e r b c i k n → Run d r a c (i + 1) n
  run_turn {r} {c} {n} t = go (granted disk_table (core_in e) (front e k) (tried e i)) refl t
    where
      go : (v : Bool) → granted disk_table (core_in e) (front e k) (tried e i) ≡ v → TurnBy v e r b c i k n → Run d r a c (i + 1) n
      go true q t =
          rw t.0
          (record {
            answers = g.answers ++ (grant_item disk_table (core_in e) (tried e i) ∷ []);
            going = going_grant g.going h q t.1;
            behind =
                behind_more g.answers (grant_item disk_table (core_in e) (tried e i)) (omega (arith, g.going.counted))
                (omega (arith, g.going.counted, item_place g.going h)) g.behind t.2;
          })
      go false q t =
          rw t.0
          (record { answers = g.answers; going = going_wait g.going h q t.1; behind = rw t.2 g.behind })

-- All are looked at: the disk that is left, and the grants.
module _ {d e : Disk} {a b : List ℕ} {i k : ℕ} (g : Run d e a b i k) (h : d.waitings ≤ i) where
  pub run_disk : closed_at e k ≡ passed_of (disk_of d)
  unfolding passed_of
  run_disk = rw (← going_end g.going h, g.going.next)

  pub run_behind : Behind a (map grant_answer (pass disk_table (core_in d) (take d.waitings d.waiting)).items) b
  run_behind = rw (← going_end g.going h) g.behind

-- ---- nothing waits

module _ (d : Disk) (h : d.waitings ≡ 0) where
  none_waits : take d.waitings d.waiting ≡ []
  none_waits = ap (λ (n : ℕ). take n d.waiting) h

  pub idle_disk : disk_of d ≡ passed_of (disk_of d)
  unfolding passed_of pass_over
  idle_disk = rw none_waits

  pub idle_behind : (a : List ℕ) → Behind a (map grant_answer (pass disk_table (core_in d) (take d.waitings d.waiting)).items) a
  unfolding pass_over
  idle_behind a = rw none_waits (λ own e. e)
