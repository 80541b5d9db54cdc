-- Laws of the end of a claim on a part: what lands in the figures, and the disk that is left.
use Prim.Native.Nat.{ℕ, ◌+◌, ◌-◌, ◌^◌, ◌≤◌, ◌<◌}
use mathlib.Core.Bool.{true, false}
use mathlib.Core.List.{List}
use mathlib.Core.Path.{◌≡◌, refl, sym, ap, subst}
use native.Mathlib.Omega.{arith}
use borrow.Rule.Slice.PartMut.{put_mid}
use lib.IntN.{ℤ, ◌+ℤ◌}
use lib.ListN.{take, drop, get_or}
use lib.Seq.{get_or-take}
use lib.Signed.{mag}
use Rattle.std.proofs.Common.{FitsSigned, w32, to_z, of_z, to_z-of_z}
use Rattle.num.specs.Bits.{shares}
use Rattle.num.specs.Word.{put_word}
use Rattle.num.specs.Signed.{word_of, put_signed}
use Rattle.law.specs.declared.Attr.{Attr}
use Rattle.law.specs.declared.Claim.{Claim}
use Rattle.law.specs.Types.{Attribute, a0, a1, a2, Kind, sets}
use Rattle.law.specs.Entries.{kind_at}
use Rattle.law.specs.Calls.{queue, land_by}
use Rattle.law.specs.DiskType.{disk_table}
use Rattle.rules.specs.Methods.{mask_of, set_mask, add_mask}
use Rattle.rules.specs.Rows.{RowIs, no_claim, remove_at}
use Rattle.rules.specs.declared.disk.Disk.{Disk}
use Rattle.rules.specs.Answers.{ended_at, left_at, waiting_of}
use Rattle.rules.specs.Disks.{figures_in, disk_of, Good}
use Rattle.part.specs.Held.{part_for}
use Rattle.part.specs.Layout.{used_at, promised_at, state_at, slots, head_words, AttrFits, StateFits}
use Rattle.slots.specs.Slots.{Slots}
use Rattle.change.specs.Holding.{Holds, with_figures, land_of}
use Rattle.change.specs.HoldingLaws.{holds_part, active_slots, active_back, waiting_slots, waiting_back, put_clock, put_next, put_actives, put_waitings, put_figure, put_figures}
use Rattle.change.proofs.ChangeLaws.{sets_at, adds_at, land_none}

-- ---- what lands in the figures

-- Where an attribute stands.
abbrev pub place_of : Attribute → ℕ
place_of a0 = used_at
place_of a1 = promised_at
place_of a2 = state_at

abbrev with : Attr → ℤ → ℕ → Attr
with a z n = record { value = z; stamp = n; amount = a.amount; limit = a.limit }

with_fits : {a : Attr} {z : ℤ} {n : ℕ} → AttrFits a → mag z < 2 ^ 31 → n < 2 ^ 32 → AttrFits (with a z n)
with_fits f v t = record { value = v; stamp = t; amount = f.amount; limit = f.limit }

state_with : {a : Attr} {z : ℤ} {n : ℕ} → StateFits a → mag z < 2 ^ 31 → n < 2 ^ 32 → StateFits (with a z n)
state_with f v t = record { value = v; stamp = t; amount = f.amount; limit = f.limit }

module _ {s : List ℕ} {d : Disk} (h : Holds s d) (w : Claim) where
  -- It goes by the kind of the method.
  by_kind : {r : List ℕ} {k : Kind} → kind_at disk_table w.method ≡ k → Holds r (with_figures d (land_by (figures_in d) k w)) →
      Holds r (land_of d w)
  unfolding land_of
  by_kind {r} e = subst (λ (k : Kind). Holds r (with_figures d (land_by (figures_in d) k w))) (sym e)

  -- A set stores its value, and its stamp behind it.
  pub set_lands : (a : Attribute) → shares (set_mask w.method) (mask_of a) ≡ true → FitsSigned w32 w.value → w.measured < 2 ^ 32 →
      {r : List ℕ} → r ≡ put_word (put_signed s (place_of a) (to_z w32 (of_z w32 w.value))) (place_of a + 4) w.measured →
      Holds r (land_of d w)
  unfolding head_words
  set_lands a x v t e = rw (e, to_z-of_z v) (by_kind (sets_at a w.method x) (go a))
    where
      go : (a : Attribute) →
          Holds (put_word (put_signed s (place_of a) w.value) (place_of a + 4) w.measured) (with_figures d (land_by (figures_in d) (sets a) w))
      go a0 =
          put_figures h (with_fits h.fits.used v.sfits t) h.fits.promised h.fits.state 4 (word_of w.value) 5 w.measured
          (omega arith) (omega arith) refl
      go a1 =
          put_figures h h.fits.used (with_fits h.fits.promised v.sfits t) h.fits.state 8 (word_of w.value) 9 w.measured
          (omega arith) (omega arith) refl
      go a2 =
          put_figures h h.fits.used h.fits.promised (state_with h.fits.state v.sfits t) 12 (word_of w.value) 13 w.measured
          (omega arith) (omega arith) refl

  -- An add to promised stores the sum.
  pub add_lands : shares (add_mask w.method) 2 ≡ true → {z : ℤ} → FitsSigned w32 z → z ≡ d.promised.value +ℤ w.value → {r : List ℕ} →
      r ≡ put_signed s 32 (to_z w32 (of_z w32 z)) → Holds r (land_of d w)
  unfolding head_words
  add_lands x {z} v sum e =
      let promised = with_fits h.fits.promised v.sfits h.fits.promised.stamp in
      rw (e, to_z-of_z v)
      (by_kind (adds_at w.method x)
      (rw (← sum) (put_figure h h.fits.used promised h.fits.state 8 (word_of z) (omega arith) refl)))

  -- A reading leaves them.
  pub none_lands : shares (set_mask w.method) 1 ≡ false → shares (set_mask w.method) 2 ≡ false → shares (set_mask w.method) 4 ≡ false →
      shares (add_mask w.method) 2 ≡ false → Holds s (land_of d w)
  unfolding land_of
  none_lands u p t q = subst (Holds s) (ap (with_figures d) (sym (land_none (figures_in d) w w.method u p t q))) h

-- ---- the disk that is left

module _ {s : List ℕ} {d : Disk} (good : Good d) {second n : ℕ} (l : second < 2 ^ 32) {row : List ℕ} (back : Slots row) where
  -- The active claim at a place ended: what has landed, the other active claims, the second and their number.
  pub end_part : n ≡ d.actives → (at : ℕ) → at < d.actives → {w : Claim} → w ≡ get_or d.active at no_claim → Holds s (land_of d w) →
      RowIs (slots 8 row) (n - 1) (remove_at at (take n (slots 8 (take 352 (drop 64 s))))) →
      put_word (put_word (put_mid 64 352 s row) 0 second) 8 (n - 1) ≡ part_for (ended_at (disk_of d) second at)
  unfolding land_of ended_at
  end_part count at here is h rest =
      holds_part (put_actives (put_clock (active_back h back) l) (omega (arith, count, h.fits.actives)))
      (record {
        good = record { active = rest.row; waiting = good.waiting };
        is = rw (rest.list, active_slots h, count, is, get_or-take d.actives d.active at no_claim here);
      })

  -- The waiting claim at a place gone: the others, the second and their number.
  pub left_part : n ≡ d.waitings → (at : ℕ) → Holds s d →
      RowIs (slots 8 row) (n - 1) (remove_at at (take n (slots 8 (take 352 (drop 416 s))))) →
      put_word (put_word (put_mid 416 352 s row) 0 second) 12 (n - 1) ≡ part_for (left_at (disk_of d) second at)
  unfolding left_at
  left_part count at h rest =
      holds_part (put_waitings (put_clock (waiting_back h back) l) (omega (arith, count, h.fits.waitings)))
      (record { good = record { active = good.active; waiting = rest.row }; is = rw (rest.list, waiting_slots h, count) })

  -- A claim that waits: all that wait, the second, their number and the next ticket.
  pub wait_part : n ≡ d.waitings → d.waitings < 8 → (c : Claim) → c.ticket ≤ 999_999 → Holds s d →
      RowIs (slots 8 row) (n + 1) (queue c (take n (slots 8 (take 352 (drop 416 s))))) →
      put_word (put_word (put_word (put_mid 416 352 s row) 0 second) 12 (n + 1)) 4 (c.ticket + 1)
      ≡ part_for (waiting_of (disk_of d) second c)
  unfolding waiting_of
  wait_part count few c ticket h rest =
      holds_part (put_next (put_waitings (put_clock (waiting_back h back) l) (omega arith)) (omega arith))
      (record { good = record { active = good.active; waiting = rest.row }; is = rw (rest.list, waiting_slots h, count) })
