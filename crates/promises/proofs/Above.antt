-- What a product above the desk can rely on, whatever board is lent: tickets, releases, passes, told sums and values.
use Rattle.std.specs.Prelude.{ℕ, ◌+◌, ◌≤◌, ◌<◌, Bool, true, false, cond, List, [], ◌≡◌, refl, eqb, ℤ}
use Rattle.std.proofs.Common.{true≢false, sym, ◌∙◌, arith}
use Rattle.std.proofs.Math.Path.{ap, subst}
use borrow.Author.Tests.{eq-eqb, eqb-true, eqb-false, lt-leb}
use Rattle.std.proofs.Math.ListN.{length}
use Rattle.num.specs.Word.{Bytes, word_at}
use Rattle.num.specs.Opened.{open_at}
use Rattle.law.specs.Base.{All, Some}
use Rattle.law.specs.SomeLaws.{some_all, some_then}
use Rattle.law.specs.Types.{reads, Attribute, attr, Disk as LawDisk, Asked, Item, Outcome, accepted}
use Rattle.law.specs.Readings.{present}
use Rattle.law.specs.Entries.{kind_at, kind_of}
use Rattle.law.specs.Granting.{told_by, grant_item}
use Rattle.law.specs.Calls.{claim, release, without}
use Rattle.law.specs.Sound.{claims_on, Sound}
use Rattle.law.proofs.Events.{After, claim_after, release_after}
use Rattle.law.specs.History.{claims, releases, answered}
use Rattle.law.specs.DiskType.{disk_table}
use Rattle.rules.specs.Methods.{is_reading}
use Rattle.rules.specs.Answers.{answer_of}
use Rattle.answer.specs.declared.Answer.{Answer}
use Rattle.answer.specs.AnswerLaws.{number_range}
use Rattle.answer.specs.Answers.{code_of, ticket_of, told_of, answer_size, answer_bytes}
use Rattle.desk.specs.Record.{byte_at, kind_byte, disk_number, now_of, asked_in, call_of}
use Rattle.desk.specs.Board.{disks, board_bytes, part_of}
use Rattle.desk.specs.BoardLaws.{part_same}
use Rattle.part.specs.Held.{held, part_for}
use Rattle.part.specs.PartLaws.{sound_held}
use Rattle.desk.specs.Step.{accepts, own_of, grants_of, Effect, serve_of, on_board, effect_of, Stepped, written, step_of}
use Rattle.promises.specs.Sentences.{WellFormed, SoundPart}
use Rattle.promises.proofs.RefusalLaws.{by_lengths, says_formed, says_sound_part}
use Rattle.promises.proofs.CaseLaws.{Case, is_refused, is_opened, is_served, effect_case, served_held, served_size}
use Rattle.promises.proofs.Kept.{other_parts}
use Rattle.promises.proofs.AboveLaws.{Has, Other, NotOf, claim_stands, call_keeps, release_gone, release_goes_on, pass_all, fewer_without, claim_values, release_values}

-- The disk that a board holds in part d.
abbrev pub disk_on : List ℕ → ℕ → LawDisk
disk_on b d = held (part_of b d)

-- A claim with ticket n stands on disk d, active or waiting.
abbrev pub StandsOn : List ℕ → ℕ → ℕ → Type 0
StandsOn b d n = Some (λ w. w.ticket ≡ n) (claims_on (disk_on b d))

-- The answer buffer shows this told sum.
pub record Shown (buffer : List ℕ) (z : ℤ) : Type 0 where
  pub own : Answer
  pub grants : List Answer
  pub shows : buffer ≡ answer_bytes own grants
  pub told : told_of own ≡ z

module _ (b r a : List ℕ) (bs : Bytes r) where
  abbrev d : ℕ
  d = disk_number r

  abbrev n : ℕ
  n = word_at r 12

  -- The accepted claim or release: the law's outcome on the disk that stood there, which was sound, and the disk that stands there now.
  record Served (s : Stepped) : Type 0 where
    items : List Item
    outcome : answered disk_table (disk_on b d) (call_of r) ≡ accepted (disk_on s.bytes d) items
    sound : Sound disk_table (disk_on b d)
    code : s.code ≡ code_of (own_of (accepts items))
    answer : s.answer ≡ answer_bytes (own_of (accepts items)) (grants_of (accepts items))

  served : (step_of b r a).code ≤ 2 → Served (step_of b r a)
  unfolding answer_of
  served = by_lengths b r a (λ s. s.code ≤ 2 → Served s) (λ size m. told size (effect_case b r size)) (λ h. absurd (omega arith))
    where
      told : length b ≡ board_bytes → Case b r → (written (effect_of b r)).code ≤ 2 → Served (written (effect_of b r))
      told size (is_refused x t) h = absurd (omega (arith, h, ap (λ (y : Effect). (written y).code) t, (number_range x).0))
      told size (is_opened w known o f0 f1 t) h = absurd (omega (arith, h, ap (λ (y : Effect). (written y).code) t))
      told size (is_served w known o s e items q t) h =
          record {
            items = items;
            outcome =
                q
                ∙ ap (λ (f : LawDisk). accepted f items)
                (sym
                (ap (λ (y : Effect). disk_on y.bytes d) t
                ∙ ap held (part_same b d size known (part_for e) (served_size (part_of b d) r bs w s e items q))
                ∙ served_held (part_of b d) r bs w s e items q));
            sound = sound_held (part_of b d) s;
            code = ap (λ (y : Effect). (written y).code) t;
            answer = ap (λ (y : Effect). (written y).answer) t;
          }

  -- A claim answers 0 or 1, a release 2. So the code tells which call it was.
  abbrev Outcomes : Bool → Outcome
  Outcomes v = answered disk_table (disk_on b d) (cond v (claims (asked_in r)) (releases (now_of r) n))

  claim_code_lem : (q : Asked) → After (λ e items. code_of (own_of (accepts items)) ≤ 1) (claim disk_table (disk_on b d) q)
  unfolding answer_of grant_item
  claim_code_lem q =
      claim_after disk_table (λ e items. code_of (own_of (accepts items)) ≤ 1) (disk_on b d) q (λ ok g. omega arith) (λ ok g. omega arith)

  release_code : After (λ e items. code_of (own_of (accepts items)) ≡ 2) (release disk_table (disk_on b d) (now_of r) n)
  unfolding answer_of
  release_code = release_after disk_table (λ e items. code_of (own_of (accepts items)) ≡ 2) (disk_on b d) (now_of r) n (λ ok. refl)

  as_claim : (h : Served (step_of b r a)) → (step_of b r a).code ≤ 1 →
      claim disk_table (disk_on b d) (asked_in r) ≡ accepted (disk_on (step_of b r a).bytes d) h.items
  as_claim h l = go (eqb (kind_byte r) 2) refl
    where
      go : (v : Bool) → eqb (kind_byte r) 2 ≡ v → claim disk_table (disk_on b d) (asked_in r) ≡ accepted (disk_on (step_of b r a).bytes d) h.items
      go true e = ap Outcomes (sym e) ∙ h.outcome
      go false e =
          absurd
          (omega (arith, l, h.code, subst (After (λ e items. code_of (own_of (accepts items)) ≡ 2)) (ap Outcomes (sym e) ∙ h.outcome) release_code))

  as_release : (h : Served (step_of b r a)) → (step_of b r a).code ≡ 2 →
      release disk_table (disk_on b d) (now_of r) n ≡ accepted (disk_on (step_of b r a).bytes d) h.items
  as_release h l = go (eqb (kind_byte r) 2) refl
    where
      go : (v : Bool) → eqb (kind_byte r) 2 ≡ v →
          release disk_table (disk_on b d) (now_of r) n ≡ accepted (disk_on (step_of b r a).bytes d) h.items
      go false e = ap Outcomes (sym e) ∙ h.outcome
      go true e =
          absurd
          (omega (arith, l, h.code, subst (After (λ e items. code_of (own_of (accepts items)) ≤ 1)) (ap Outcomes (sym e) ∙ h.outcome) (claim_code_lem (asked_in r))))

  -- ---- claims

  -- An accepted claim shows the next ticket of its disk, which is at least 1, and then stands there with it. No grants are behind it.
  pub record Took (s : Stepped) : Type 0 where
    pub own : Answer
    pub shows : s.answer ≡ answer_bytes own []
    pub ticket : ticket_of own ≡ (disk_on b d).next
    pub first : 1 ≤ (disk_on b d).next
    pub stands : StandsOn s.bytes d (disk_on b d).next

  pub claim_ticket : (step_of b r a).code ≤ 1 → Took (step_of b r a)
  unfolding answer_of grant_item
  claim_ticket l =
      let h = served (omega arith) in
      let q = as_claim h l in
      let own =
      subst (After (λ e items. (ticket_of (own_of (accepts items)) ≡ (disk_on b d).next) × (grants_of (accepts items) ≡ []))) q
      (claim_after disk_table (λ e items. (ticket_of (own_of (accepts items)) ≡ (disk_on b d).next) × (grants_of (accepts items) ≡ [])) (disk_on b d) (asked_in r)
      (λ ok g. (refl, refl)) (λ ok g. (refl, refl))) in
      record {
        own = own_of (accepts h.items);
        shows = h.answer ∙ ap (answer_bytes (own_of (accepts h.items))) own.1;
        ticket = own.0;
        first = h.sound.next_first;
        stands = subst (After (λ e items. Some (Has (disk_on b d).next) (claims_on e))) q (claim_stands (disk_on b d) (asked_in r));
      }

  -- A claim changes no value.
  pub claim_keeps_figures : (step_of b r a).code ≤ 1 → (x : Attribute) →
      (attr (disk_on (step_of b r a).bytes d).core.figures x).value ≡ (attr (disk_on b d).core.figures x).value
  claim_keeps_figures l x =
      subst (After (λ e items. (attr e.core.figures x).value ≡ (attr (disk_on b d).core.figures x).value)) (as_claim (served (omega arith)) l)
      (claim_values (disk_on b d) (asked_in r) x)

  -- A reading that is granted at once is told the sum of the figures that its part holds.
  pub load_told : (step_of b r a).code ≡ 0 → (m : ℕ) → kind_at disk_table (byte_at r 4) ≡ reads m →
      Shown (step_of b r a).answer (present (disk_on b d).core.figures m)
  unfolding answer_of grant_item asked_in
  load_told z m k =
      let h = served (omega arith) in
      record {
        own = own_of (accepts h.items);
        grants = grants_of (accepts h.items);
        shows = h.answer;
        told =
            subst (After (λ e items. code_of (own_of (accepts items)) ≡ 0 → told_of (own_of (accepts items)) ≡ present (disk_on b d).core.figures m))
            (as_claim h (omega arith))
            (claim_after disk_table (λ e items. code_of (own_of (accepts items)) ≡ 0 → told_of (own_of (accepts items)) ≡ present (disk_on b d).core.figures m)
            (disk_on b d) (asked_in r)
            (λ ok g e. ap (told_by (disk_on b d).core.figures) k)
            (λ ok g e. absurd (omega arith)))
            (sym h.code ∙ z);
      }

  -- ---- releases

  -- After its release no claim with that ticket stands there.
  pub released_gone : (step_of b r a).code ≡ 2 → StandsOn (step_of b r a).bytes d n → ⊥
  released_gone l s =
      let h = served (omega arith) in
      some_then (claims_on (disk_on (step_of b r a).bytes d))
      (some_all (λ w x y. y x) (claims_on (disk_on (step_of b r a).bytes d)) s
      (subst (After (λ e items. All (Other n) (claims_on e))) (as_release h l) (release_gone (disk_on b d) (now_of r) n h.sound)))
      (λ w x. x)

  -- A release changes no value either, unless it ends an active write.
  pub release_keeps_figures : (step_of b r a).code ≡ 2 →
      All (λ w. w.ticket ≡ n → is_reading (kind_of disk_table w) ≡ true) (disk_on b d).core.active → (x : Attribute) →
      (attr (disk_on (step_of b r a).bytes d).core.figures x).value ≡ (attr (disk_on b d).core.figures x).value
  release_keeps_figures l h x =
      subst (After (λ e items. (attr e.core.figures x).value ≡ (attr (disk_on b d).core.figures x).value)) (as_release (served (omega arith)) l)
      (release_values (disk_on b d) (now_of r) n x h)

  -- The grants of a pass and the claims that still wait are those that waited, but for the released one: at most eight.
  pub record Counted (s : Stepped) : Type 0 where
    pub own : Answer
    pub grants : List Answer
    pub shows : s.answer ≡ answer_bytes own grants
    pub all : length grants + length (disk_on s.bytes d).waiting ≡ length (without n (disk_on b d).waiting)
    pub most : length grants + length (disk_on s.bytes d).waiting ≤ 8

  pub pass_counts : (step_of b r a).code ≡ 2 → Counted (step_of b r a)
  pass_counts l =
      let h = served (omega arith) in
      let k =
      subst (After (λ e items. length (grants_of (accepts items)) + length e.waiting ≡ length (without n (disk_on b d).waiting))) (as_release h l)
      (pass_all (disk_on b d) (now_of r) n) in
      record {
        own = own_of (accepts h.items);
        grants = grants_of (accepts h.items);
        shows = h.answer;
        all = k;
        most = omega (arith, k, fewer_without n (disk_on b d).waiting, h.sound.few_waiting);
      }

  -- Right lengths, a well-formed release, an open disk with a sound part, a second not before its clock, a ticket that stands there: the
  -- release goes through.
  pub release_goes : length b ≡ board_bytes → length a ≡ answer_size → WellFormed r → kind_byte r ≡ 3 → d < disks → open_at b d ≡ true →
      SoundPart (part_of b d) → (disk_on b d).core.clock ≤ now_of r → StandsOn b d n → (step_of b r a).code ≡ 2
  unfolding step_of effect_of on_board serve_of answer_of
  release_goes size room formed kind known on sound early stands =
      rw (
        eq-eqb (length b) board_bytes size,
        eq-eqb (length a) answer_size room,
        (says_formed r).1 formed,
        lt-leb disks d known,
        kind,
        on,
        (says_sound_part (part_of b d)).1 sound,
        release_goes_on (disk_on b d) (now_of r) n early stands,
      )

  -- ---- every other call

  -- A claim that stands on an open disk, active or waiting, still stands there after any call but the release of its ticket on that disk.
  pub ticket_stays : (e : ℕ) → e < disks → open_at b e ≡ true → (k : ℕ) → (d ≡ e → NotOf k (call_of r)) → StandsOn b e k →
      StandsOn (step_of b r a).bytes e k
  ticket_stays e l on k other stands = go (eqb e d) refl
    where
      own : e ≡ d → StandsOn (step_of b r a).bytes e k
      own same =
          subst (λ (x : ℕ). StandsOn (step_of b r a).bytes x k) (sym same)
          (by_lengths b r a (λ s. StandsOn s.bytes d k) (λ size m. told size (effect_case b r size)) here)
        where
          here : StandsOn b d k
          here = subst (λ (x : ℕ). StandsOn b x k) same stands

          told : length b ≡ board_bytes → Case b r → StandsOn (effect_of b r).bytes d k
          told size (is_refused x t) = subst (λ (y : Effect). StandsOn y.bytes d k) (sym t) here
          told size (is_opened w known o f0 f1 t) = absurd (true≢false (sym on ∙ ap (open_at b) same ∙ o))
          told size (is_served w known o s f items q t) =
              subst (λ (x : LawDisk). Some (Has k) (claims_on x))
              (sym
              (ap (λ (y : Effect). disk_on y.bytes d) t
              ∙ ap held (part_same b d size known (part_for f) (served_size (part_of b d) r bs w s f items q))
              ∙ served_held (part_of b d) r bs w s f items q))
              (subst (After (λ x ys. Some (Has k) (claims_on x))) q (call_keeps k (disk_on b d) (call_of r) (other (sym same)) here))

      go : (v : Bool) → eqb e d ≡ v → StandsOn (step_of b r a).bytes e k
      go true v = own (eqb-true e d v)
      go false v = subst (λ (p : List ℕ). Some (Has k) (claims_on (held p))) (sym (other_parts b r a bs e l (eqb-false e d v))) stands
