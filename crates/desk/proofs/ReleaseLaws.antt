-- Laws of a release: the claim that ends, active or waiting, and the refusal where there is none.
use Rattle.std.specs.Prelude.{ℕ, suc, ◌≤◌, ◌<◌, Bool, true, false, cond, ◌||◌, Some, None, List, [], ◌∷◌, ◌≡◌, refl, ltb, length, get_or}
use Rattle.std.proofs.Common.{sym, ap, ◌∙◌, arith, lt-ltb, le-ltb, ltb-true, ltb-false}
use borrow.Author.Tests.{ne_eqb}
use Rattle.law.specs.declared.Claim.{Claim}
use Rattle.law.specs.Base.{any_of}
use Rattle.law.specs.Lists.{never_true, none_tests, pairs_cross, all_at}
use Rattle.law.specs.Types.{Figures, Disk as LawDisk, refused}
use Rattle.law.specs.Entries.{kind_of}
use Rattle.law.specs.Calls.{has_ticket, without, land_by, landed, finish, at, release}
use Rattle.law.specs.Sound.{Sound}
use Rattle.law.proofs.SoundKept.{sound_finish}
use Rattle.law.proofs.TicketLaws.{Apart}
use Rattle.law.proofs.ProperLaws.{disk_proper}
use Rattle.law.specs.DiskType.{disk_table}
use Rattle.rules.specs.Rows.{no_claim, place_of, found_in, remove_at}
use Rattle.rules.specs.PlaceLaws.{any_first, place_ticket, without_place}
use Rattle.rules.specs.Answers.{ended_at, left_at}
use Rattle.pass.specs.Turns.{passed_of}
use Rattle.desk.specs.Step.{released}

-- ---- the place of a ticket, found or not

module _ (n : ℕ) (ws : List Claim) where
  found_is : {i : ℕ} → Some i ≡ found_in n ws → (i ≡ place_of n ws) × (i < length ws)
  found_is {i} e = go (ltb (place_of n ws) (length ws)) refl e
    where
      go : (b : Bool) → ltb (place_of n ws) (length ws) ≡ b → Some i ≡ cond b (Some (place_of n ws)) None →
          (i ≡ place_of n ws) × (i < length ws)
      go true w e =
          let same : i ≡ place_of n ws = cc in
          (same, omega (arith, ltb-true (place_of n ws) (length ws) w))
      go false w e = absurd (cc)

  none_is : None ≡ found_in n ws → length ws ≤ place_of n ws
  none_is e = go (ltb (place_of n ws) (length ws)) refl e
    where
      go : (b : Bool) → ltb (place_of n ws) (length ws) ≡ b → None ≡ cond b (Some (place_of n ws)) None → length ws ≤ place_of n ws
      go true w e = absurd (cc)
      go false w e = ltb-false (place_of n ws) (length ws) w

-- ---- a claim that is not there, and one that is

module _ (n : ℕ) where
  pub without_absent : (ws : List Claim) → any_of (has_ticket n) ws ≡ false → without n ws ≡ ws
  without_absent [] e = refl
  without_absent (w ∷ ws) e = go (has_ticket n w) e (without_absent ws)
    where
      go : (b : Bool) → (b || any_of (has_ticket n) ws) ≡ false → (any_of (has_ticket n) ws ≡ false → without n ws ≡ ws) →
          cond b ws (w ∷ without n ws) ≡ w ∷ ws
      go true e f = never_true _ (sym e)
      go false e f = ap {B = List Claim} (λ r. w ∷ r) (f e)

  pub landed_absent : (f : Figures) (ws : List Claim) → any_of (has_ticket n) ws ≡ false → landed disk_table f n ws ≡ f
  landed_absent f [] e = refl
  landed_absent f (w ∷ ws) e = go (has_ticket n w) e (landed_absent f ws)
    where
      go : (b : Bool) → (b || any_of (has_ticket n) ws) ≡ false → (any_of (has_ticket n) ws ≡ false → landed disk_table f n ws ≡ f) →
          cond b (land_by f (kind_of disk_table w) w) (landed disk_table f n ws) ≡ f
      go true e k = never_true _ (sym e)
      go false e k = k e

  -- Of a ticket that one has, the one at its place lands.
  pub landed_place : (f : Figures) (ws : List Claim) → place_of n ws < length ws →
      landed disk_table f n ws
      ≡ land_by f (kind_of disk_table (get_or ws (place_of n ws) no_claim)) (get_or ws (place_of n ws) no_claim)
  landed_place f [] h = absurd (omega arith)
  landed_place f (w ∷ ws) h = go (has_ticket n w) h (landed_place f ws)
    where
      lands : Claim → Figures
      lands v = land_by f (kind_of disk_table v) v

      go : (b : Bool) → cond b 0 (suc (place_of n ws)) < suc (length ws) →
          (place_of n ws < length ws → landed disk_table f n ws ≡ lands (get_or ws (place_of n ws) no_claim)) →
          cond b (lands w) (landed disk_table f n ws) ≡ lands (get_or (w ∷ ws) (cond b 0 (suc (place_of n ws))) no_claim)
      go true h k = refl
      go false h k = k (omega arith)

-- ---- the release

-- The release of ticket n at that second ends a claim of the disk d and leaves e, over which its pass runs.
pub record Leaves (d : LawDisk) (now n : ℕ) (e : LawDisk) : Type 0 where
  pub is : release disk_table d now n ≡ released e n
  pub sound : Sound disk_table e
  pub clock : e.core.clock ≡ now

module _ (d : LawDisk) (now n : ℕ) where
  pub release_early : now < d.core.clock → release disk_table d now n ≡ refused 15
  unfolding release
  release_early h = rw (lt-ltb now d.core.clock h)

  module _ (l : d.core.clock ≤ now) (s : Sound disk_table d) where
    -- Its ticket is an active claim's.
    module _ {i : ℕ} (found : Some i ≡ found_in n d.core.active) where
      place : i ≡ place_of n d.core.active
      place = (found_is n d.core.active found).0

      there : place_of n d.core.active < length d.core.active
      there = omega (arith, (found_is n d.core.active found).1, place)

      active_here : any_of (has_ticket n) d.core.active ≡ true
      active_here = any_first (has_ticket n) d.core.active ∙ lt-ltb (place_of n d.core.active) (length d.core.active) there

      core_ends : finish disk_table (at d now) n ≡ (ended_at d now i).core
      unfolding finish ended_at
      core_ends = rw (without_place n d.core.active, landed_place n d.core.figures d.core.active there, place)

      -- No other claim has it, so that none that waits ends.
      waiting_stays : without n d.waiting ≡ d.waiting
      waiting_stays =
          without_absent n d.waiting
          (none_tests (has_ticket n) (Apart (get_or d.core.active (place_of n d.core.active) no_claim))
          (λ v apart.
          ne_eqb v.ticket n
          (λ q. apart (place_ticket n d.core.active there ∙ sym q)))
          d.waiting
          (all_at _ d.core.active no_claim (place_of n d.core.active) there
          (pairs_cross Apart d.core.active d.waiting s.distinct)))

      pub leaves_active : Leaves d now n (ended_at d now i)
      unfolding release released passed_of ended_at
      leaves_active =
          record {
            is = rw (le-ltb now d.core.clock l, active_here, core_ends, waiting_stays);
            sound = rw (core_ends, waiting_stays) at (sound_finish disk_table disk_proper d now n l s);
            clock = refl;
          }

    -- No active claim has it.
    module _ (none : None ≡ found_in n d.core.active) where
      active_none : any_of (has_ticket n) d.core.active ≡ false
      active_none =
          any_first (has_ticket n) d.core.active
          ∙ le-ltb (place_of n d.core.active) (length d.core.active) (none_is n d.core.active none)

      core_stays : finish disk_table (at d now) n ≡ at d now
      unfolding finish
      core_stays = rw (without_absent n d.core.active active_none, landed_absent n d.core.figures d.core.active active_none)

      pub leaves_waiting : {i : ℕ} → Some i ≡ found_in n d.waiting → Leaves d now n (left_at d now i)
      unfolding release released passed_of left_at
      leaves_waiting {i} found =
          let f = found_is n d.waiting found in
          let less : without n d.waiting ≡ remove_at i d.waiting = rw f.0 (without_place n d.waiting) in
          let there : place_of n d.waiting < length d.waiting = omega (arith, f.0, f.1) in
          record {
            is =
                rw (
                  le-ltb now d.core.clock l,
                  active_none,
                  any_first (has_ticket n) d.waiting,
                  lt-ltb (place_of n d.waiting) (length d.waiting) there,
                  core_stays,
                  less,
                );
            sound = rw (core_stays, less) at (sound_finish disk_table disk_proper d now n l s);
            clock = refl;
          }

      pub release_lost : None ≡ found_in n d.waiting → release disk_table d now n ≡ refused 21
      unfolding release
      release_lost lost =
          rw (
            le-ltb now d.core.clock l,
            active_none,
            any_first (has_ticket n) d.waiting,
            le-ltb (place_of n d.waiting) (length d.waiting) (none_is n d.waiting lost),
          )
