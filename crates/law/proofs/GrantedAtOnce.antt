-- Demand 3, second half, for one disk: no reader pays for another's limit. Under exactly the mission's conditions a reading is
-- granted in its own call and is told the present sum, and its amount is the error that the figures carry.
use Rattle.std.specs.Prelude.{ℕ, ◌+◌, ◌≤◌, ◌&&◌, [], ◌∷◌, ◌≡◌, eqb, length}
use Rattle.std.proofs.Math.Bool.{Bool, true, false, cond, not}
use Rattle.std.proofs.Math.Path.{refl, ap}
use Rattle.std.proofs.Common.{◌∙◌}
use native.Mathlib.Omega.{arith}
use borrow.Author.Tests.{leb-true, le-leb, lt-leb, lt-ltb, le-ltb, eq-eqb, eqb-false}
use Rattle.std.proofs.Math.Dec.{leb, ltb}
use Rattle.num.specs.Metric.{size, dist}
use Rattle.law.specs.declared.Claim.{Claim}
use Rattle.law.specs.declared.Entry.{Entry}
use Rattle.law.specs.declared.Entry.TheVariants.{A, N, G}
use Rattle.law.specs.Base.{all_true, every_of, any_of}
use Rattle.law.specs.Lists.{all_say, all_passed, every_tests, none_tests, sum-zero}
use Rattle.law.specs.Types.{most_error, places, last_ticket, Attribute, a0, a1, a2, metric, within, Kind, sets, adds, reads, Table, attr, Core, Disk, Asked, Item, accepted}
use Rattle.law.specs.Granting.{cost_by, raises_by, limit_by, told_by, carried_by, fresh, addable, bearable, ranged, preconditions, limit, gap, cost, total, stays, lock_step, bars, grant_tests, granted, grant_item}
use Rattle.law.proofs.GrantLaws.{start_reads}
use Rattle.law.specs.Calls.{field_tests, own_fits, asked, at, granted_at_once, refusals, with_grant, decided_by, decided, claim}
use Rattle.law.proofs.Events.{NoneHolds}
use Rattle.law.proofs.Refusals.{accepted_otherwise}
use Rattle.law.specs.Entries.{entry_by, is_always, is_never, kind_of, entry}
use Rattle.law.specs.Readings.{every_read, carried}
use Rattle.law.specs.Conditions.{writes_what, Reading, Free, reading_item}

-- ---- a claim that writes nothing the reading reads has entry A with it

entry_free : (m : ℕ) (k : Kind) → writes_what m k ≡ false → entry_by k (reads m) ≡ A
entry_free m (sets a) h = ap (λ (b : Bool). cond b (cond (metric a) G N) A) h
entry_free m (adds a) h = ap (λ (b : Bool). cond b (cond (metric a) G N) A) h
entry_free m (reads n) h = refl

part_passes : (b p : Bool) → (b ≡ true → p ≡ true) → cond b p true ≡ true
part_passes true p h = h refl
part_passes false p h = refl

module _ (t : Table) (d : Disk) (q : Asked) (m : ℕ) (r : Reading t q m) (c : Free t d q m) where
  s : Core
  s = at d q.now

  free_entry : (w : Claim) → writes_what m (kind_of t w) ≡ false → entry t w (asked d q) ≡ A
  free_entry w h = ap (entry_by (kind_of t w)) r.kind ∙ entry_free m (kind_of t w) h

  free_fresh : fresh t s (kind_of t (asked d q)) q.flag ≡ true
  unfolding s
  free_fresh = ap (λ (k : Kind). fresh t s k q.flag) r.kind ∙ go (eqb q.flag 0) refl
    where
      Late : Attribute → Bool
      Late a = ltb q.now ((attr d.core.figures a).stamp + t.valid q.flag a)

      late : (q.flag ≡ 0 → ⊥) → (a : Attribute) → cond (within m a) (Late a) true ≡ true
      late h a =
          part_passes (within m a) (Late a)
          (λ w. lt-ltb q.now ((attr d.core.figures a).stamp + t.valid q.flag a) (c.freshly h a w))

      go : (b : Bool) → eqb q.flag 0 ≡ b → cond b true (every_read m Late) ≡ true
      go true e = refl
      go false e =
          all_passed
          (cond (within m a0) (Late a0) true ∷ cond (within m a1) (Late a1) true ∷ cond (within m a2) (Late a2) true ∷ [])
          (late (eqb-false q.flag 0 e) a0, (late (eqb-false q.flag 0 e) a1, (late (eqb-false q.flag 0 e) a2, tt)))

  free_pre : preconditions t s (asked d q) ≡ true
  unfolding preconditions s
  free_pre =
      all_passed
      (fresh t s (kind_of t (asked d q)) q.flag
      ∷ addable t s (kind_of t (asked d q)) q.error
      ∷ bearable t s (kind_of t (asked d q)) q.error
      ∷ ranged t s (kind_of t (asked d q)) q.value
      ∷ []) (
        free_fresh,
        (
          ap (λ (k : Kind). addable t s k q.error) r.kind,
          (
            ap (λ (k : Kind). bearable t s k q.error) r.kind ∙ le-leb (carried d.core.figures m) q.error c.bears,
            (ap (λ (k : Kind). ranged t s k q.value) r.kind, tt),
          ),
        ),
      )

  free_bars : not (any_of (bars t s (asked d q)) d.waiting) ≡ true
  unfolding bars
  free_bars =
      ap not
      (none_tests (bars t s (asked d q)) (λ w. q.priority ≤ w.priority → writes_what m (kind_of t w) ≡ false) (λ w h. go w (leb q.priority w.priority) refl h) d.waiting c.none_waiting)
    where
      go : (w : Claim) (b : Bool) → leb q.priority w.priority ≡ b → (q.priority ≤ w.priority → writes_what m (kind_of t w) ≡ false) →
          all_true (b ∷ not (is_always (entry t w (asked d q))) ∷ preconditions t s w ∷ []) ≡ false
      go w true e h =
          ap (λ (x : Entry). not (is_always x) && (preconditions t s w && true)) (free_entry w (h (leb-true q.priority w.priority e)))
      go w false e h = refl

  free_total : total t s (asked d q) ≡ carried d.core.figures m
  unfolding total s
  free_total =
      omega (
        arith,
        start_reads t s (asked d q) m r.kind,
        sum-zero (cost t s (asked d q)) d.core.active
            (all_say
            (λ w. writes_what m (kind_of t w) ≡ false)
            (λ w. cost t s (asked d q) w ≡ 0)
            (λ w h. ap (λ (x : Entry). cost_by x (kind_of t (asked d q)) (dist q.value w.value) (gap t s w)) (free_entry w h))
            d.core.active
            c.none_active),
      )

  free_lock : lock_step t s (asked d q) ≡ true
  unfolding lock_step s
  free_lock =
      all_passed
      (every_of (λ w. not (is_never (entry t w (asked d q)))) d.core.active
      ∷ leb (total t s (asked d q)) (limit t s (asked d q))
      ∷ every_of (stays t s (asked d q)) d.core.active
      ∷ []) (
        every_tests (λ w. not (is_never (entry t w (asked d q)))) (λ w. writes_what m (kind_of t w) ≡ false)
            (λ w h. ap (λ (x : Entry). not (is_never x)) (free_entry w h))
            d.core.active
            c.none_active,
        (
          le-leb (total t s (asked d q)) (limit t s (asked d q))
              (omega (arith, free_total, ap (λ (k : Kind). limit_by d.core.figures k q.error) r.kind, c.bears)),
          (
            every_tests (stays t s (asked d q)) (λ w. writes_what m (kind_of t w) ≡ false)
                (λ w h.
                ap
                (λ (x : Entry).
                cond (raises_by x (kind_of t (asked d q)))
                (leb (w.amount + cond (raises_by x (kind_of t (asked d q))) (q.error + gap t s (asked d q)) 0) w.error)
                true)
                (free_entry w h))
                d.core.active
                c.none_active,
            tt,
          ),
        ),
      )

  free_granted : granted_at_once t d q ≡ true
  unfolding granted s
  free_granted =
      all_passed (grant_tests t s d.waiting (asked d q))
      (free_pre, (free_bars, (free_lock, (lt-ltb (length d.core.active) places c.few, tt))))

  free_fields : not (all_true (field_tests q.now (kind_of t (asked d q)) (asked d q))) ≡ false
  free_fields =
      ap (λ (k : Kind). not (all_true (field_tests q.now k (asked d q)))) r.kind
      ∙ ap not
      (all_passed (eqb (size q.value) 0 ∷ eqb q.measured 0 ∷ leb q.error most_error ∷ [])
      (eq-eqb (size q.value) 0 (ap size r.value), (eq-eqb q.measured 0 r.measured, (le-leb q.error most_error r.stated, tt))))

  free_refusals : NoneHolds (refusals t d q)
  free_refusals = (
    le-ltb q.now d.core.clock c.time,
    (
      lt-leb (length t.kinds) q.method r.method,
      (
        free_fields,
        (
          ap (λ (k : Kind). not (own_fits d.core.figures k q.error)) r.kind,
          (
            le-ltb last_ticket d.next c.tickets,
            (ap (λ (b : Bool). cond b false (leb places (length d.waiting))) free_granted, tt),
          ),
        ),
      ),
    ),
  )

  free_item : grant_item t s (asked d q) ≡ reading_item d m
  unfolding grant_item s
  free_item =
      λ i.
      record {
        code = 0;
        ticket = d.next;
        told = told_by d.core.figures (r.kind i);
        amount = free_total i;
        carried = carried_by d.core.figures (r.kind i);
      }

  pub granted_at_once_lem : claim t d q ≡ accepted (with_grant t d q) (reading_item d m ∷ [])
  unfolding claim s
  granted_at_once_lem =
      accepted_otherwise (refusals t d q) (decided t d q) free_refusals
      ∙ ap (λ (b : Bool). decided_by t b d q) free_granted
      ∙ ap (λ (i : Item). accepted (with_grant t d q) (i ∷ [])) free_item
