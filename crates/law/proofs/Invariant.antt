-- Laws of a history: every ticket is granted at most once, and every reading still active is covered (Covered). Shown for a
-- new claim that waits, for the end of a claim and for the grant of a waiting one; a call is made of these.
use Rattle.std.specs.Prelude.{ℕ, ◌+◌, ◌≤◌, ◌<◌, true, List, [], ◌∷◌, ◌++◌, ◌≡◌, refl, ℤ}
use Rattle.std.proofs.Common.{sym, ap, subst, arith}
use Rattle.law.specs.declared.Claim.{Claim}
use Rattle.law.specs.Base.{All, Pairs}
use Rattle.law.specs.Lists.{all_say, all_both, all_append, all_there, all_less, pairs_last, all_more, all_grown, pairs_around}
use Rattle.law.specs.Types.{Attribute, Kind, reads, Table, Figures, attr, Core, Item}
use Rattle.law.specs.Entries.{kind_of}
use Rattle.law.specs.Granting.{limit_by, told_by, carried_by, amount_by, total, growth, stays, granted, raised, as_granted, grant, grant_item}
use Rattle.law.specs.Calls.{without, landed}
use Rattle.law.specs.History.{Once}
use Rattle.law.proofs.QueueLaws.{ended_cases, all_without}
use Rattle.law.proofs.TicketLaws.{Apart, Ticketed, ticketed_end, ticketed_leave, ticketed_new, ticketed_grant}
use Rattle.law.specs.MayGrant.{NotNever, MayGrant}
use Rattle.law.proofs.GrantLaws.{grant_says}
use Rattle.law.proofs.Near.{gap_on, share_of}
use Rattle.law.proofs.Covered.{Covered, covered_grant, covered_start, covered_end}

-- If the item grants, its ticket has been taken, and its claim no longer waits.
abbrev pub Given : ℕ → List Claim → Item → Type 0
Given next waiting i = i.code ≡ 0 → (i.ticket < next) × All (λ w. w.ticket ≡ i.ticket → ⊥) waiting

module _ (t : Table) where
  -- The reading r was granted by item i, and is covered.
  pub record Bears (f : Figures) (active : List Claim) (m : ℕ) (i : Item) (r : Claim) : Type 0 where
    pub z : Attribute → ℤ
    pub share : Attribute → ℕ
    pub told : i.told ≡ r.told
    pub held : Covered t f active m i.carried r z share

  abbrev pub Borne : Figures → List Claim → Item → Claim → Type 0
  Borne f active i r = r.ticket ≡ i.ticket → (m : ℕ) → kind_of t r ≡ reads m → Bears f active m i r

  abbrev pub AllBorne : Figures → List Claim → Item → Type 0
  AllBorne f active i = i.code ≡ 0 → All (Borne f active i) active

  -- The invariant of the figures, the claims, the next ticket and the answers given so far.
  pub record Invariant (f : Figures) (active waiting : List Claim) (next : ℕ) (past : List Item) : Type 0 where
    pub tickets : Ticketed next active waiting
    pub given : All (Given next waiting) past
    pub once : Pairs Once past
    pub borne : All (AllBorne f active) past

  -- An answer that grants nothing keeps it.
  pub kept_note : {f : Figures} {active waiting : List Claim} {next : ℕ} {past : List Item} (i : Item) → (i.code ≡ 0 → ⊥) →
      Invariant f active waiting next past → Invariant f active waiting next (past ++ (i ∷ []))
  kept_note {f} {active} {waiting} {next} {past} i other h =
      record {
        tickets = h.tickets;
        given = all_append _ past (i ∷ []) h.given ((λ e. absurd (other e)), tt);
        once = pairs_last Once past i h.once (all_say (Given next waiting) _ (λ j g e k q. other k) past h.given);
        borne = all_append (AllBorne f active) past (i ∷ []) h.borne ((λ e. absurd (other e)), tt);
      }

  -- A new claim takes the next ticket and waits, at any position.
  pub kept_new : {f : Figures} {active : List Claim} {next : ℕ} {past : List Item} (xs ys : List Claim) (c : Claim) →
      c.ticket ≡ next → Invariant f active (xs ++ ys) next past → Invariant f active (xs ++ (c ∷ ys)) (next + 1) past
  kept_new {next = next} {past = past} xs ys c e h =
      record {
        tickets = ticketed_new xs ys c e h.tickets;
        given =
            all_say (Given next (xs ++ ys)) (Given (next + 1) (xs ++ (c ∷ ys)))
            (λ i g z.
            let low : i.ticket < next = (g z).0 in
            (omega arith, all_more (λ w. w.ticket ≡ i.ticket → ⊥) xs c ys (λ q. omega arith) (g z).1))
            past h.given;
        once = h.once;
        borne = h.borne;
      }

  -- A waiting claim ends.
  pub kept_leave : {f : Figures} {active : List Claim} {next : ℕ} {past : List Item} (xs : List Claim) (w : Claim) (ys : List Claim) →
      Invariant f active (xs ++ (w ∷ ys)) next past → Invariant f active (xs ++ ys) next past
  kept_leave {next = next} {past = past} xs w ys h =
      record {
        tickets = ticketed_leave xs w ys h.tickets;
        given =
            all_say (Given next (xs ++ (w ∷ ys))) (Given next (xs ++ ys))
            (λ i g z. ((g z).0, all_less (λ v. v.ticket ≡ i.ticket → ⊥) xs w ys (g z).1))
            past h.given;
        once = h.once;
        borne = h.borne;
      }

  -- The claim with ticket n ends, if it is active.
  pub kept_end : {f : Figures} {active waiting : List Claim} {next : ℕ} {past : List Item} (n : ℕ) →
      Invariant f active waiting next past → Invariant (landed t f n active) (without n active) waiting next past
  kept_end {f} {active} {waiting} {next} {past} n h =
      record {
        tickets =
            ended_cases t (λ us g vs. Ticketed next us waiting → Ticketed next vs waiting) f n
            (λ us k. k) (λ xs w ys. ticketed_end xs w ys) active h.tickets;
        given = h.given;
        once = h.once;
        borne =
            all_say (AllBorne f active) (AllBorne f' left)
            (λ i g z.
            all_without (Borne f' left i) n active
            (all_say (Borne f active i) (Borne f' left i)
            (λ r b q m p.
            let old = b q m p in
            record {
              z = old.z;
              share = old.share;
              told = old.told;
              held = covered_end t f active n m i.carried r old.z old.share old.held;
            })
            active (g z)))
            past h.borne;
      }
    where
      f' : Figures
      f' = landed t f n active

      left : List Claim
      left = without n active

  -- A waiting claim is granted: active readings are raised, and if it is a reading, its own answer starts its own bound.
  pub kept_grant : (s : Core) {next : ℕ} {past : List Item} (ahead : List Claim) (c : Claim) (xs ys : List Claim) →
      granted t s ahead c ≡ true →
      Invariant s.figures s.active (xs ++ (c ∷ ys)) next past →
      Invariant (grant t s c).figures (grant t s c).active (xs ++ ys) next (past ++ (grant_item t s c ∷ []))
  unfolding grant grant_item
  kept_grant s {next} {past} ahead c xs ys ok h =
      record {
        tickets = ticketed_grant xs c ys (told_by f (kind_of t c)) (amount_by (kind_of t c) (total t s c)) (growth t s c) h.tickets;
        given =
            all_append (Given next (xs ++ ys)) past (i' ∷ []) (kept_leave xs c ys h).given (
              (λ z. (
                all_there (λ w. w.ticket < next) xs c ys h.tickets.below_waiting,
                pairs_around Apart (λ w. Apart w c) xs c ys (λ x i. i) (λ x i j. i (sym j)) h.tickets.apart_waiting,
              )),
              tt,
            );
        once = pairs_last Once past i' h.once (all_say New _ (λ i u z o q. u z q) past new);
        borne =
            all_append (AllBorne f' active') past (i' ∷ [])
            (all_both (AllBorne f s.active) New (AllBorne f' active')
            (λ i old u z.
            all_grown (raised t s c) s.active (as_granted t s c) (Borne f' active' i)
            (all_both (λ r. NotNever t r c) (λ r. (stays t s c r ≡ true) × Borne f s.active i r) _
            (λ r never sb. raise i r never sb.0 sb.1)
            s.active may.no_never
            (all_both (λ r. stays t s c r ≡ true) (Borne f s.active i) _ (λ r stay b. (stay, b)) s.active may.all_stay (old z)))
            (λ q. absurd (u z (sym q))))
            past h.borne new) (
              (λ z.
                  all_grown (raised t s c) s.active (as_granted t s c) (Borne f' active' i')
                  (all_say (λ r. All (Apart r) (xs ++ (c ∷ ys))) _ (λ r k q. absurd (all_there (Apart r) xs c ys k q)) s.active h.tickets.apart_both)
                  (λ q m p. begin m p)),
              tt,
            );
      }
    where
      f : Figures
      f = s.figures

      f' : Figures
      f' = (grant t s c).figures

      active' : List Claim
      active' = (grant t s c).active

      i' : Item
      i' = grant_item t s c

      may : MayGrant t s c
      may = grant_says t s ahead c ok

      -- no item so far granted this ticket
      New : Item → Type 0
      New i = i.code ≡ 0 → i.ticket ≡ c.ticket → ⊥

      new : All New past
      new =
          all_say (Given next (xs ++ (c ∷ ys))) New
          (λ i g z q. all_there (λ w. w.ticket ≡ i.ticket → ⊥) xs c ys (g z).1 (sym q))
          past h.given

      raise : (i : Item) (r : Claim) → NotNever t r c → stays t s c r ≡ true → Borne f s.active i r →
          Borne f' active' i (raised t s c r)
      raise i r never stay b q m p =
          let old = b q m p in
          record {
            z = old.z;
            share = λ a. old.share a + gap_on f a (kind_of t c) c.value;
            told = old.told;
            held = covered_grant t s c m i.carried r old.z old.share p never stay old.held;
          }

      begin : (m : ℕ) → kind_of t c ≡ reads m → Bears f' active' m i' (as_granted t s c)
      begin m p =
          record {
            z = λ a. (attr f a).value;
            share = λ a. share_of t a f s.active + gap_on f a (kind_of t c) c.value;
            told = refl;
            held =
                subst
                (λ (e : ℕ).
                Covered t f' active' m e (as_granted t s c) (λ a. (attr f a).value) (λ a. share_of t a f s.active + gap_on f a (kind_of t c) c.value))
                (sym (ap (carried_by f) p))
                (covered_start t s c m p may.no_never (subst (λ (k : Kind). total t s c ≤ limit_by f k c.error) p may.in_limit));
          }
