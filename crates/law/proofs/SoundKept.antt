-- Laws of soundness: an opened disk is sound, and no accepted call leaves an unsound one. A call is a later clock, then a new
-- claim or an end, then grants; each keeps `Fit` (FitLaws). The number and order of the waiting claims are shown here.
use Rattle.std.specs.Prelude.{ℕ, ◌+◌, ◌≤◌, ◌<◌, true, false, List, [], ◌∷◌, ◌++◌, ◌≡◌, pos, length}
use Rattle.std.proofs.Math.Path.{refl}
use Rattle.std.proofs.Common.{arith, leb-true, ltb-false, leb-false}
use Rattle.std.proofs.Math.Dec.{leb}
use Rattle.std.proofs.lemmas.Bool.{not-false}
use Rattle.law.specs.declared.Claim.{Claim}
use Rattle.law.specs.Base.{All, Pairs}
use Rattle.law.specs.Lists.{all_say, all_both, all_append, all_left, all_right, pairs_join, pairs_left, pairs_right, pairs_cross, pairs_less, passed, length_more}
use Rattle.law.specs.Types.{most_error, most_priority, most_flag, places, last_ticket, Attribute, a0, a1, a2, Table, Proper, Figures, attr, Core, Disk, Asked, accepted}
use Rattle.law.specs.Calls.{without, item, new_attr, opened, open_refusals, open_disk, asked, at, granted_at_once, refusals, with_grant, with_wait, claim, finish, pass, release}
use Rattle.law.specs.Sound.{BareBy, ReadingBy, LimitFits, Formed, Passes, claims_on, Sound}
use Rattle.law.specs.Fields.{ValueFits}
use Rattle.law.specs.History.{Call, claims, releases, answered, begun, lived}
use Rattle.law.specs.Says.{◌and◌}
use Rattle.law.proofs.Events.{After, NoneHolds, by_rules, claim_after, release_after, pass_keeps, lived_keeps}
use Rattle.law.proofs.SoundTest.{unrefused}
use Rattle.law.proofs.AttributeLaws.{value_sum}
use Rattle.law.proofs.QueueLaws.{Before, ended_cases, queue_cases, queue_ordered}
use Rattle.law.proofs.ClaimLaws.{ClaimFits, fields_second}
use Rattle.law.proofs.TicketLaws.{Apart}
use Rattle.law.proofs.FigureLaws.{AttrFits, ActiveFits}
use Rattle.law.proofs.FitLaws.{Fit, fit_clock, fit_new, fit_leave, fit_finish, fit_grant}
use Rattle.law.specs.Entries.{kind_of}

-- ---- what a record's bytes can hold: a priority of one byte, a flag 0 or 1

pub record Readable (q : Asked) : Type 0 where
  pub priority : q.priority ≤ most_priority
  pub flag : q.flag ≤ most_flag

abbrev pub ReadableCall : Call → Type 0
ReadableCall (claims q) = Readable q
ReadableCall (releases now n) = Unit {0}

-- The disk with this core, waiting claims and next ticket.
abbrev disk_with : Core → List Claim → ℕ → Disk
disk_with s ws next = record { core = s; waiting = ws; next = next }

-- The attributes of an opened disk are in range.
zero_fits : (a : Attribute) → ValueFits a (pos 0)
zero_fits a0 = omega arith
zero_fits a1 = omega arith
zero_fits a2 = omega arith

new_fits : (a : Attribute) (now most : ℕ) → LimitFits a most → AttrFits now a (new_attr now most) 0
new_fits a now most h =
    record {
      value = zero_fits a;
      limit = h;
      amount = omega arith;
      stamp = omega arith;
      sum = value_sum a (pos 0) 0 refl (zero_fits a);
    }

module _ (t : Table) where
  -- ---- Sound is Fit, with at most 8 waiting claims in the pass's order

  all_fit : (f : Figures) (now : ℕ) (cs : List Claim) → All Formed cs → All (λ c. 1 ≤ c.ticket) cs → All (Passes t f now) cs →
      All (ClaimFits t f now) cs
  all_fit f now [] formed first passes = tt
  all_fit f now (c ∷ cs) formed first passes =
      (record { formed = formed.0; first = first.0; passes = passes.0 }, all_fit f now cs formed.1 first.1 passes.1)

  pub sound_fit : {d : Disk} → Sound t d → Fit t d.core d.waiting d.next
  sound_fit {d} h =
      record {
        attrs =
            λ a. record { value = h.values a; limit = h.limits a; amount = h.amounts a; stamp = h.stamps a; sum = h.sums a };
        actives =
            all_both (λ c. BareBy (kind_of t c) c) (λ c. ReadingBy (kind_of t c) c) _ (λ c b r. record { bare = b; reading = r })
            d.core.active h.bare_active h.readings;
        no_never = h.no_never;
        few = h.few_active;
        bare = h.bare_waiting;
        claims =
            record {
              active = all_left _ vs ws each;
              waiting = all_right _ vs ws each;
              tickets =
                  record {
                    below_active = all_left _ vs ws h.ticket_below;
                    below_waiting = all_right _ vs ws h.ticket_below;
                    apart_active = pairs_left Apart vs ws h.distinct;
                    apart_waiting = pairs_right Apart vs ws h.distinct;
                    apart_both = pairs_cross Apart vs ws h.distinct;
                  };
              next_first = h.next_first;
              next_last = h.next_last;
            };
      }
    where
      vs : List Claim
      vs = d.core.active

      ws : List Claim
      ws = d.waiting

      each : All (ClaimFits t d.core.figures d.core.clock) (claims_on d)
      each = all_fit d.core.figures d.core.clock (claims_on d) h.all_formed h.ticket_first h.all_pass

  pub fit_sound : {d : Disk} → length d.waiting ≤ places → Pairs Before d.waiting → Fit t d.core d.waiting d.next → Sound t d
  fit_sound {d} few order h =
      record {
        bare_active = all_say (λ c. ActiveFits (kind_of t c) c) _ (λ c k. k.bare) d.core.active h.actives;
        bare_waiting = h.bare;
        values = λ a. (h.attrs a).value;
        limits = λ a. (h.attrs a).limit;
        all_formed = of_each Formed (λ c k. k.formed);
        amounts = λ a. (h.attrs a).amount;
        stamps = λ a. (h.attrs a).stamp;
        seconds = of_each _ (λ c k. fields_second d.core.clock (kind_of t c) c k.passes.fields);
        next_first = h.claims.next_first;
        next_last = h.claims.next_last;
        few_active = h.few;
        few_waiting = few;
        distinct =
            pairs_join Apart d.core.active d.waiting
            h.claims.tickets.apart_active h.claims.tickets.apart_waiting h.claims.tickets.apart_both;
        ticket_first = of_each _ (λ c k. k.first);
        ticket_below = all_append _ d.core.active d.waiting h.claims.tickets.below_active h.claims.tickets.below_waiting;
        all_pass = of_each _ (λ c k. k.passes);
        readings = all_say (λ c. ActiveFits (kind_of t c) c) _ (λ c k. k.reading) d.core.active h.actives;
        sums = λ a. (h.attrs a).sum;
        no_never = h.no_never;
        order = order;
      }
    where
      Fits : Claim → Type 0
      Fits = ClaimFits t d.core.figures d.core.clock

      of_each : (P : Claim → Type 0) → ((c : Claim) → Fits c → P c) → All P (claims_on d)
      of_each P f =
          all_say Fits P f (claims_on d)
          (all_append Fits d.core.active d.waiting h.claims.active h.claims.waiting)

  -- The disk with its clock set to a later second.
  pub fit_at : {d : Disk} (now : ℕ) → d.core.clock ≤ now → Sound t d → Fit t (at d now) d.waiting d.next
  fit_at now l h = fit_clock t now l (sound_fit h)

  -- A disk without one waiting claim is sound, if its new state still fits.
  sound_less : {s u : Core} {next : ℕ} (xs : List Claim) (c : Claim) (ys : List Claim) →
      (Fit t s (xs ++ (c ∷ ys)) next → Fit t u (xs ++ ys) next) →
      Sound t (disk_with s (xs ++ (c ∷ ys)) next) → Sound t (disk_with u (xs ++ ys) next)
  sound_less xs c ys f h =
      fit_sound (omega (arith, length_more xs c ys, h.few_waiting)) (pairs_less Before xs c ys h.order) (f (sound_fit h))

  -- ---- open

  pub sound_opened : (now l0 l1 : ℕ) → l0 ≤ most_error → l1 ≤ most_error → Sound t (opened now l0 l1)
  unfolding opened
  sound_opened now l0 l1 h0 h1 =
      fit_sound (omega arith) tt
      (record {
        attrs = attrs;
        actives = tt;
        no_never = tt;
        few = omega arith;
        bare = tt;
        claims =
            record {
              active = tt;
              waiting = tt;
              tickets = record { below_active = tt; below_waiting = tt; apart_active = tt; apart_waiting = tt; apart_both = tt };
              next_first = omega arith;
              next_last = omega arith;
            };
      })
    where
      attrs : (a : Attribute) → AttrFits now a (attr (opened now l0 l1).core.figures a) 0
      attrs a0 = new_fits a0 now l0 h0
      attrs a1 = new_fits a1 now l1 h1
      attrs a2 = new_fits a2 now 0 refl

  pub sound_open : (now l0 l1 : ℕ) → After (λ e items. Sound t e) (open_disk now l0 l1)
  unfolding open_disk
  sound_open now l0 l1 =
      by_rules (After (λ e items. Sound t e)) (open_refusals l0 l1) (accepted (opened now l0 l1) (item 3 0 ∷ [])) (λ n. tt)
      (λ ok.
      let limits = passed (leb l0 most_error ∷ leb l1 most_error ∷ []) (not-false _ ok.0) in
      sound_opened now l0 l1 (leb-true l0 most_error limits.0) (leb-true l1 most_error limits.1.0))

  -- ---- claim

  module _ (d : Disk) (q : Asked) (readable : Readable q) (h : Sound t d) (ok : NoneHolds (refusals t d q)) where
    asked_passes : Passes t d.core.figures q.now (asked d q)
    asked_passes =
        (unrefused t d.core.figures q.now (asked d q)).0
        (ok.1.0 and ok.1.1.0 and ok.1.1.1.0 and tt)

    -- The new claim is put among the waiting claims, at any position.
    fit_asked : (xs ys : List Claim) → Fit t (at d q.now) (xs ++ ys) d.next →
        Fit t (at d q.now) (xs ++ (asked d q ∷ ys)) (d.next + 1)
    fit_asked xs ys =
        fit_new t xs ys (asked d q) refl (ltb-false last_ticket d.next ok.1.1.1.1.0)
        (refl, refl) (readable.priority, readable.flag) asked_passes

    fit_now : Fit t (at d q.now) d.waiting d.next
    fit_now = fit_at q.now (ltb-false q.now d.core.clock ok.0) h

    sound_granted : Proper t → granted_at_once t d q ≡ true → Sound t (with_grant t d q)
    sound_granted proper g =
        fit_sound h.few_waiting h.order
        (fit_grant t proper d.waiting (asked d q) [] d.waiting g (fit_asked [] d.waiting fit_now))

    sound_queued : granted_at_once t d q ≡ false → Sound t (with_wait t d q)
    sound_queued g =
        fit_sound
        (queue_cases (λ ws vs. length ws < places → length vs ≤ places) (asked d q)
        (λ xs ys l. omega (arith, length_more xs (asked d q) ys)) d.waiting
        (leb-false places (length d.waiting) (rw g at ok.1.1.1.1.1.0)))
        (queue_ordered (asked d q) d.waiting (all_right _ d.core.active d.waiting h.ticket_below) h.order)
        (queue_cases (λ ws vs. Fit t (at d q.now) ws d.next → Fit t (at d q.now) vs (d.next + 1)) (asked d q)
        fit_asked d.waiting fit_now)

  pub sound_claim : Proper t → (d : Disk) (q : Asked) → Readable q → Sound t d → After (λ e items. Sound t e) (claim t d q)
  sound_claim proper d q readable h =
      claim_after t (λ e items. Sound t e) d q
      (λ ok. sound_granted d q readable h ok proper)
      (λ ok. sound_queued d q readable h ok)

  -- ---- release

  module _ (proper : Proper t) where
    pub sound_finish : (d : Disk) (now n : ℕ) → d.core.clock ≤ now → Sound t d →
        Sound t (disk_with (finish t (at d now) n) (without n d.waiting) d.next)
    sound_finish d now n l h =
        ended_cases t (λ ws f vs. left ws → left vs) d.core.figures n (λ ws k. k)
        (λ xs w ys. sound_less xs w ys (fit_leave t xs w ys)) d.waiting
        (fit_sound h.few_waiting h.order (fit_finish t proper n (fit_at now l h)))
      where
        left : List Claim → Type 0
        left ws = Sound t (disk_with (finish t (at d now) n) ws d.next)

    pub sound_pass : (s : Core) (ws : List Claim) (next : ℕ) → Sound t (disk_with s ws next) →
        Sound t (disk_with (pass t s ws).core (pass t s ws).ahead next)
    sound_pass s ws next =
        pass_keeps t (λ u vs items. Sound t (disk_with u vs next))
        (λ u ahead c rest items g. sound_less ahead c rest (fit_grant t proper ahead c ahead rest g))
        (record { core = s; ahead = []; items = [] }) ws

    pub sound_release : (d : Disk) (now n : ℕ) → Sound t d → After (λ e items. Sound t e) (release t d now n)
    sound_release d now n h =
        release_after t (λ e items. Sound t e) d now n
        (λ ok.
        sound_pass (finish t (at d now) n) (without n d.waiting) d.next
        (sound_finish d now n (ltb-false now d.core.clock ok.0) h))

    -- ---- any call, and any calls

    pub sound_kept : (d : Disk) (k : Call) → ReadableCall k → Sound t d → After (λ e items. Sound t e) (answered t d k)
    sound_kept d (claims q) readable h = sound_claim proper d q readable h
    sound_kept d (releases now n) readable h = sound_release d now n h

    pub lived_sound : (now l0 l1 : ℕ) → l0 ≤ most_error → l1 ≤ most_error → (ks : List Call) → All ReadableCall ks →
        Sound t (lived t (begun now l0 l1) ks).disk
    lived_sound now l0 l1 h0 h1 ks readable =
        lived_keeps t (λ h. Sound t h.disk) ReadableCall (λ h k. sound_kept h.disk k)
        (begun now l0 l1) ks readable (sound_opened now l0 l1 h0 h1)
