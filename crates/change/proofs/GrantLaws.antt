-- Laws of a grant on a part: the clock and the next ticket, the total noted in the head, the claim behind the active ones, and the
-- disk that is left.
use Prim.Native.Nat.{ℕ, ◌+◌, ◌^◌, ◌<◌}
use mathlib.Core.Bool.{true, false}
use mathlib.Core.List.{List}
use mathlib.Core.Path.{◌≡◌, refl, sym, ◌∙◌, subst}
use native.Mathlib.Omega.{arith}
use borrow.Rule.Slice.PartMut.{put_mid}
use lib.IntN.{ℤ, pos}
use lib.ListN.{take, drop, set}
use Rattle.num.specs.Bits.{shares}
use Rattle.num.specs.Word.{put_word}
use Rattle.law.specs.declared.Attr.{Attr}
use Rattle.law.specs.declared.Claim.{Claim}
use Rattle.law.specs.Lists.{never_true}
use Rattle.law.specs.Types.{a0, a1, a2, Kind, sets, adds, reads, Figures}
use Rattle.law.specs.Entries.{kind_at, kind_of}
use Rattle.law.specs.Granting.{limit_by, told_by, note_by, with_amount, put_told, total}
use Rattle.law.specs.MayGrant.{MayGrant}
use Rattle.law.specs.DiskType.{disk_table}
use Rattle.rules.specs.Methods.{writes_by, write_mask, is_reading, sets_state}
use Rattle.rules.specs.declared.disk.Disk.{Disk}
use Rattle.rules.specs.Disks.{figures_in, core_in, disk_of, Good, DiskIs, grant_of}
use Rattle.rules.proofs.EntryLaws.{each_kind}
use Rattle.part.specs.Layout.{slots, head_words, decode, AttrFits}
use Rattle.part.specs.Held.{HoldsDisk}
use Rattle.slots.specs.Slots.{Slots}
use Rattle.change.specs.Holding.{Holds, NoteFits, numbered, with_figures, with_active, with_last, noted, raised_of}
use Rattle.change.specs.HoldingLaws.{holds_decode, holds_disk, active_slots, active_back, put_clock, put_next, put_actives, put_figure}
use Rattle.change.proofs.ChangeLaws.{raised_good, grant_place, grant_reading, grant_write}

-- ---- the clock and the next ticket

-- A disk at another second, with another next ticket.
abbrev pub clocked : Disk → ℕ → ℕ → Disk
clocked d second next = numbered d second next d.actives d.waitings

pub clocked_holds : {s : List ℕ} {d : Disk} → Holds s d → {r : List ℕ} {second next : ℕ} → r ≡ put_word (put_word s 0 second) 4 next →
    second < 2 ^ 32 → next < 2 ^ 32 → Holds r (clocked d second next)
clocked_holds h e l m = rw e (put_next (put_clock h l) m)

-- ---- the noted total

amount_fits : {a : Attr} {n : ℕ} → AttrFits a → n < 2 ^ 32 → AttrFits (with_amount a n)
amount_fits f l = record { value = f.value; stamp = f.stamp; amount = l; limit = f.limit }

module _ {s : List ℕ} {d : Disk} (h : Holds s d) (m total : ℕ) (l : total < 2 ^ 32) where
  pub note_used : shares (write_mask m) 1 ≡ true → Holds (put_word s 24 total) (noted d m total)
  unfolding head_words write_mask
  note_used =
      each_kind (λ k. shares (writes_by k) 1 ≡ true → Holds (put_word s 24 total) (with_figures d (note_by (figures_in d) k total)))
      (λ _. put_figure h (amount_fits h.fits.used l) h.fits.promised h.fits.state 6 total (omega arith) refl)
      (never_true _) (never_true _) (never_true _) (never_true _) (never_true _) (never_true _) (never_true _) m

  pub note_promised : shares (write_mask m) 2 ≡ true → Holds (put_word s 40 total) (noted d m total)
  unfolding head_words write_mask
  note_promised =
      let put : Holds (put_word s 40 total) (with_figures d (note_by (figures_in d) (sets a1) total)) =
      put_figure h h.fits.used (amount_fits h.fits.promised l) h.fits.state 10 total (omega arith) refl in
      each_kind (λ k. shares (writes_by k) 2 ≡ true → Holds (put_word s 40 total) (with_figures d (note_by (figures_in d) k total)))
      (never_true _) (λ _. put) (λ _. put) (never_true _) (never_true _) (never_true _) (never_true _) (never_true _) m

  -- The state's amount is 0 and stays so; a reading notes nothing.
  pub note_none : NoteFits m total → shares (write_mask m) 1 ≡ false → shares (write_mask m) 2 ≡ false → Holds s (noted d m total)
  unfolding write_mask
  note_none =
      each_kind
      (λ k.
      (sets_state k ≡ true → total ≡ 0) → shares (writes_by k) 1 ≡ false → shares (writes_by k) 2 ≡ false →
      Holds s (with_figures d (note_by (figures_in d) k total)))
      (λ _ x _. never_true _ (sym x)) (λ _ _ x. never_true _ (sym x)) (λ _ _ x. never_true _ (sym x))
      (λ f _ _. subst (λ (n : ℕ). Holds s (with_figures d (note_by (figures_in d) (sets a2) n))) (h.fits.state.amount ∙ sym (f refl)) h)
      (λ _ _ _. h) (λ _ _ _. h) (λ _ _ _. h) (λ _ _ _. h) m

-- ---- the claim behind the active ones

pub last_holds : {s : List ℕ} {d : Disk} → Holds s d → (c : Claim) → d.actives < 8 → {row : List ℕ} → Slots row →
    slots 8 row ≡ set (slots 8 (take 352 (drop 64 s))) d.actives c →
    Holds (put_word (put_mid 64 352 s row) 8 (d.actives + 1)) (with_last d d.actives c)
last_holds {s} {d} h c l {row} back e =
    let n = d.actives in
    subst
    (λ (cs : List Claim).
    Holds (put_word (put_mid 64 352 s row) 8 (n + 1)) (numbered (with_active d cs) d.clock d.next (n + 1) d.waitings))
    (rw (active_slots h) at e) (put_actives (active_back h back) (omega arith))

-- ---- the grant

-- What a grant leaves.
abbrev Grants : List ℕ → Disk → Claim → Type 0
Grants s d c = HoldsDisk s × DiskIs (decode s) (grant_of (disk_of d) c)

grants : {s : List ℕ} {e : Disk} (d : Disk) (c : Claim) → Holds s e → DiskIs e (grant_of (disk_of d) c) → Grants s d c
grants d c h is = (holds_disk h is.good, rw (holds_decode h) is)

-- The limit of a set of the state is the state's.
state_limit : (f : Figures) (k : Kind) (own : ℕ) → sets_state k ≡ true → limit_by f k own ≡ f.f2.limit
state_limit f (sets a0) own h = never_true _ h
state_limit f (sets a1) own h = never_true _ h
state_limit f (sets a2) own h = refl
state_limit f (adds a) own h = never_true _ h
state_limit f (reads m) own h = never_true _ h

module _ (d : Disk) (c : Claim) (good : Good d) (may : MayGrant disk_table (core_in d) c) where
  -- The state's total is 0.
  pub note_fits : {s : List ℕ} → Holds s d → {sum : ℕ} → sum ≡ total disk_table (core_in d) c → NoteFits c.method sum
  note_fits h e sets_it =
      omega (arith, e, may.in_limit, state_limit (figures_in d) (kind_of disk_table c) c.error sets_it, h.fits.state.limit)

  -- A reading is put behind the active claims, with what it is told and its total.
  pub read_grants : is_reading (kind_at disk_table c.method) ≡ true → {sum : ℕ} {z : ℤ} →
      z ≡ told_by (figures_in d) (kind_of disk_table c) → sum ≡ total disk_table (core_in d) c → {s : List ℕ} →
      Holds s (with_last d d.actives (put_told c z sum)) → Grants s d c
  read_grants r q e h = grants d c h (rw (q, e) (grant_reading d c good may r))

  -- With the active claims raised, and with the total noted, the part holds a disk that still has a place.
  module _ (sum : ℕ) {s t : List ℕ} (raises : Holds s (raised_of d c)) (notes : Holds t (noted (decode s) c.method sum)) where
    noted_holds : Holds t (noted (raised_of d c) c.method sum)
    noted_holds = subst (λ (x : Disk). Holds t (noted x c.method sum)) (holds_decode raises) notes

    pub noted_disk : HoldsDisk t
    noted_disk =
        let g = raised_good d c good in
        holds_disk noted_holds (record { active = g.active; waiting = g.waiting })

    pub noted_place : (decode t).actives < 8
    unfolding raised_of
    noted_place = rw (holds_decode noted_holds) (grant_place d c good may)

    -- A write raises, notes, and is put behind the active claims.
    pub write_grants : is_reading (kind_at disk_table c.method) ≡ false → sum ≡ total disk_table (core_in d) c →
        {u : List ℕ} → Holds u (with_last (decode t) (decode t).actives (put_told c (pos 0) 0)) → Grants u d c
    unfolding raised_of
    write_grants r e {u} puts =
        grants d c
        (subst (λ (x : Disk). Holds u (with_last x x.actives (put_told c (pos 0) 0))) (holds_decode noted_holds) puts)
        (rw e (grant_write d c good may r))
