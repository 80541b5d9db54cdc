-- Laws of a grant and of the end of a claim, over the law: the masks of a method, what lands, what is raised, and the disk that a
-- grant leaves.
use Prim.Native.Nat.{ℕ, ◌+◌, ◌<◌}
use mathlib.Core.Bool.{true, false, cond}
use mathlib.Core.List.{List, [], ◌∷◌, ◌++◌, map, map_congr_left}
use mathlib.Core.Path.{◌≡◌, refl, sym, ap, ◌∙◌}
use native.Mathlib.Nat.{add-zero}
use native.Mathlib.Omega.{arith}
use lib.Dec.{leb}
use lib.IntN.{pos}
use lib.ListN.{length, take, drop, get_or}
use lib.Seq.{get_or-take}
use Rattle.num.specs.Bits.{shares}
use Rattle.law.specs.declared.Claim.{Claim}
use Rattle.law.specs.declared.Entry.{Entry}
use Rattle.law.specs.declared.Entry.TheVariants.{A, N, D, G}
use Rattle.law.specs.Lists.{never_true, all_at, all_left}
use Rattle.law.specs.Types.{Attribute, a0, a1, a2, Kind, sets, adds, reads, Figures, Core, Disk as LawDisk}
use Rattle.law.specs.Entries.{is_never, kind_at, kind_of, entry}
use Rattle.law.specs.Granting.{raises_by, note_by, told_by, amount_by, put_told, gap, total, stays, raised, grant}
use Rattle.law.specs.MayGrant.{NotNever, MayGrant}
use Rattle.law.specs.Calls.{land_by}
use Rattle.law.specs.Sound.{Passes, Sound}
use Rattle.law.specs.DiskType.{disk_table}
use Rattle.rules.specs.Rows.{no_claim}
use Rattle.rules.specs.RowLaws.{row_length, store_last}
use Rattle.rules.specs.Methods.{in_law, mask_of, sets_by, adds_by, set_mask, add_mask, is_reading}
use Rattle.rules.specs.Pairs.{core_of, lets_by, raise_of}
use Rattle.rules.specs.declared.disk.Disk.{Disk}
use Rattle.rules.specs.declared.figures.Figures.{Figures as CodeFigures}
use Rattle.rules.specs.Disks.{figures_in, figures_at, core_in, disk_of, Good, DiskIs, grant_of}
use Rattle.rules.proofs.EntryLaws.{each_kind}
use Rattle.rules.proofs.RangeLaws.{fields_size}
use Rattle.slots.specs.Slots.{map_to, raise_by, raise_with, Raisable}
use Rattle.slots.specs.SlotsLaws.{to_front, to_row}
use Rattle.change.specs.Holding.{LandFits, with_active, with_last, noted, raised_of}

-- ---- what the masks say of a method

-- A method that has attribute a in its mask of sets is a set of a.
pub sets_at : (a : Attribute) (m : ℕ) → shares (set_mask m) (mask_of a) ≡ true → kind_at disk_table m ≡ sets a
unfolding set_mask
sets_at a0 =
    each_kind (λ k. shares (sets_by k) 1 ≡ true → k ≡ sets a0)
    (λ _. refl) (never_true _) (never_true _) (never_true _) (never_true _) (never_true _) (never_true _) (never_true _)
sets_at a1 =
    each_kind (λ k. shares (sets_by k) 2 ≡ true → k ≡ sets a1)
    (never_true _) (never_true _) (λ _. refl) (never_true _) (never_true _) (never_true _) (never_true _) (never_true _)
sets_at a2 =
    each_kind (λ k. shares (sets_by k) 4 ≡ true → k ≡ sets a2)
    (never_true _) (never_true _) (never_true _) (λ _. refl) (never_true _) (never_true _) (never_true _) (never_true _)

pub adds_at : (m : ℕ) → shares (add_mask m) 2 ≡ true → kind_at disk_table m ≡ adds a1
unfolding add_mask
adds_at =
    each_kind (λ k. shares (adds_by k) 2 ≡ true → k ≡ adds a1)
    (never_true _) (λ _. refl) (never_true _) (never_true _) (never_true _) (never_true _) (never_true _) (never_true _)

-- ---- the end of a claim

-- A method that neither sets nor adds changes no figure.
pub land_none : (f : Figures) (w : Claim) (m : ℕ) → shares (set_mask m) 1 ≡ false → shares (set_mask m) 2 ≡ false →
    shares (set_mask m) 4 ≡ false → shares (add_mask m) 2 ≡ false → land_by f (kind_at disk_table m) w ≡ f
unfolding set_mask add_mask
land_none f w =
    each_kind
    (λ k.
    shares (sets_by k) 1 ≡ false → shares (sets_by k) 2 ≡ false → shares (sets_by k) 4 ≡ false → shares (adds_by k) 2 ≡ false →
    land_by f k w ≡ f)
    (λ x _ _ _. never_true _ (sym x)) (λ _ _ _ x. never_true _ (sym x))
    (λ _ x _ _. never_true _ (sym x)) (λ _ _ x _. never_true _ (sym x))
    (λ _ _ _ _. refl) (λ _ _ _ _. refl) (λ _ _ _ _. refl) (λ _ _ _ _. refl)

-- An active claim that lands fits: its value and that of promised are in range.
pub land_fits : (d : Disk) (i : ℕ) → Good d → Sound disk_table (disk_of d) → i < d.actives → LandFits d (get_or d.active i no_claim)
land_fits d i good s h =
    let ws = take d.actives d.active in
    let w = get_or ws i no_claim in
    let here : i < length ws = omega (arith, row_length good.active) in
    let p : Passes disk_table (figures_in d) d.clock w =
    all_at _ ws no_claim i here (all_left _ ws (take d.waitings d.waiting) s.all_pass) in
    let fits : LandFits d w = omega (arith, s.values a1, fields_size d.clock (kind_of disk_table w) w p.fields) in
    rw get_or-take at fits

-- ---- what is raised

raise_by_lem : (x : Claim) (n : ℕ) (e : Entry) (k : Kind) → is_reading k ≡ false →
    put_told x x.told (x.amount + cond (raises_by e k) n 0) ≡ raise_by x e n
raise_by_lem x n A k h = rw add-zero
raise_by_lem x n N k h = rw add-zero
raise_by_lem x n D k h = rw add-zero
raise_by_lem x n G (sets a) h = refl
raise_by_lem x n G (adds a) h = refl
raise_by_lem x n G (reads m) h = never_true _ (sym h)

-- The grant of a write raises an active claim by their entry.
raise_of_lem : (s : Core) (c x : Claim) → is_reading (kind_of disk_table c) ≡ false →
    raised disk_table s c x ≡ raise_with c.method (c.error + gap disk_table s c) x
raise_of_lem s c x h = raise_by_lem x (c.error + gap disk_table s c) (entry disk_table x c) (kind_of disk_table c) h

lets_by_lem : (amount most n : ℕ) (e : Entry) (k : Kind) → is_reading k ≡ false → is_never e ≡ false →
    cond (raises_by e k) (leb (amount + cond (raises_by e k) n 0) most) true ≡ true → lets_by e false amount most n ≡ true
lets_by_lem amount most n A k r h g = refl
lets_by_lem amount most n N k r h g = sym h
lets_by_lem amount most n D k r h g = refl
lets_by_lem amount most n G (sets a) r h g = g
lets_by_lem amount most n G (adds a) r h g = g
lets_by_lem amount most n G (reads m) r h g = never_true _ (sym r)

-- A granted write raises no active claim past its limit.
within : (d : Disk) (c : Claim) → Good d → MayGrant disk_table (core_in d) c → is_reading (kind_of disk_table c) ≡ false →
    Raisable d.active d.actives c.method (c.error + gap disk_table (core_in d) c)
within d c good g r i h =
    let s = core_in d in
    let x = get_or s.active i no_claim in
    let k : i < length s.active = omega (arith, row_length good.active) in
    rw get_or-take
    at
    (lets_by_lem x.amount x.error (c.error + gap disk_table s c) (entry disk_table x c) (kind_of disk_table c) r
    (all_at (λ w. NotNever disk_table w c) s.active no_claim i k g.no_never)
    (all_at (λ w. stays disk_table s c w ≡ true) s.active no_claim i k g.all_stay))

-- So it is with what the code has at hand.
pub raisable : (d : Disk) (c : Claim) → Good d → MayGrant disk_table (core_in d) c → is_reading (kind_of disk_table c) ≡ false →
    {f : CodeFigures} {n raise : ℕ} {cs : List Claim} → f ≡ figures_at d → n ≡ d.actives → raise ≡ raise_of (in_law f) c → cs ≡ d.active →
    Raisable cs n c.method raise
raisable d c good g r f n raise cs = rw (cs, n, raise, f) (within d c good g r)

-- The first n claims raised by so much, where that is what the grant of a write raises: the disk that it leaves.
pub raises : (d : Disk) (c : Claim) → is_reading (kind_of disk_table c) ≡ false → {f : CodeFigures} {n raise : ℕ} {cs new : List Claim} →
    f ≡ figures_at d → n ≡ d.actives → raise ≡ raise_of (in_law f) c → cs ≡ d.active → new ≡ map_to n (raise_with c.method raise) cs →
    with_active d new ≡ raised_of d c
unfolding raised_of
raises d c r f n raise cs new =
    rw (new, cs, n, raise, f)
    (sym
    (ap (λ (l : List Claim). with_active d (l ++ drop d.actives d.active))
    (map_congr_left {l = take d.actives d.active} (λ x _. raise_of_lem (core_in d) c x r))))

-- Raising the active claims leaves a good disk.
pub raised_good : (d : Disk) (c : Claim) → Good d → Good (raised_of d c)
unfolding raised_of
raised_good d c good =
    record { active = to_row (raised disk_table (core_in d) c) d.active d.actives good.active; waiting = good.waiting }

-- ---- the grant

-- There is a place for it.
pub grant_place : (d : Disk) (c : Claim) → Good d → MayGrant disk_table (core_in d) c → d.actives < 8
grant_place d c good g = omega (arith, row_length good.active, g.place)

read_by : (x : Claim) (n : ℕ) (e : Entry) (k : Kind) → is_reading k ≡ true → put_told x x.told (x.amount + cond (raises_by e k) n 0) ≡ x
read_by x n A k h = rw add-zero
read_by x n N k h = rw add-zero
read_by x n D k h = rw add-zero
read_by x n G (sets a) h = never_true _ h
read_by x n G (adds a) h = never_true _ h
read_by x n G (reads m) h = rw add-zero

-- The grant of a reading raises none.
raised_none : (s : Core) (c : Claim) → is_reading (kind_of disk_table c) ≡ true → (l : List Claim) → map (raised disk_table s c) l ≡ l
raised_none s c r [] = refl
raised_none s c r (x ∷ l) =
    ap (λ (y : Claim). y ∷ map (raised disk_table s c) l)
    (read_by x (c.error + gap disk_table s c) (entry disk_table x c) (kind_of disk_table c) r)
    ∙ ap {B = List Claim} (λ m. x ∷ m) (raised_none s c r l)

read_note : (f : Figures) (k : Kind) (n : ℕ) → is_reading k ≡ true → note_by f k n ≡ f
read_note f (sets a) n h = never_true _ h
read_note f (adds a) n h = never_true _ h
read_note f (reads m) n h = refl

read_amount : (k : Kind) (n : ℕ) → is_reading k ≡ true → amount_by k n ≡ n
read_amount (sets a) n h = never_true _ h
read_amount (adds a) n h = never_true _ h
read_amount (reads m) n h = refl

write_told : (c : Claim) (f : Figures) (k : Kind) (n : ℕ) → is_reading k ≡ false →
    put_told c (told_by f k) (amount_by k n) ≡ put_told c (pos 0) 0
write_told c f (sets a) n h = refl
write_told c f (adds a) n h = refl
write_told c f (reads m) n h = never_true _ (sym h)

-- A disk of the law by its figures and active claims.
abbrev disk_with : Disk → Figures → List Claim → LawDisk
disk_with d f l = record { core = core_of f d.clock l; waiting = take d.waitings d.waiting; next = d.next }

module _ (d : Disk) (c : Claim) (good : Good d) (may : MayGrant disk_table (core_in d) c) where
  -- A granted reading is told the present sum, and keeps its total.
  pub grant_reading : is_reading (kind_of disk_table c) ≡ true →
      DiskIs (with_last d d.actives (put_told c (told_by (figures_in d) (kind_of disk_table c)) (total disk_table (core_in d) c)))
      (grant_of (disk_of d) c)
  unfolding grant
  grant_reading r =
      let k = kind_of disk_table c in
      let g = put_told c (told_by (figures_in d) k) (total disk_table (core_in d) c) in
      let w = store_last good.active g (grant_place d c good may) in
      record {
        good = record { active = w.row; waiting = good.waiting };
        is =
            ap (disk_with d (figures_in d)) w.list
            ∙ sym
            (rw (
              read_note (figures_in d) k (total disk_table (core_in d) c) r,
              read_amount k (total disk_table (core_in d) c) r,
              raised_none (core_in d) c r (core_in d).active,
            ));
      }

  -- A granted write raises and notes, and is told nothing.
  pub grant_write : is_reading (kind_of disk_table c) ≡ false →
      DiskIs (with_last (noted (raised_of d c) c.method (total disk_table (core_in d) c)) d.actives (put_told c (pos 0) 0))
      (grant_of (disk_of d) c)
  unfolding grant raised_of
  grant_write r =
      let k = kind_of disk_table c in
      let n = d.actives in
      let f = raised disk_table (core_in d) c in
      let h = grant_place d c good may in
      let w = store_last (raised_good d c good).active (put_told c (pos 0) 0) h in
      record {
        good = record { active = w.row; waiting = good.waiting };
        is =
            ap (disk_with d (note_by (figures_in d) k (total disk_table (core_in d) c)))
            (w.list ∙ rw (to_front f d.active n, write_told c (figures_in d) k (total disk_table (core_in d) c) r));
      }
