-- Laws of a part that holds a disk: what is read from it and lent of it; slots that come back, and words put into its head.
use Rattle.std.specs.Prelude.{ℕ, ◌*◌, ◌^◌, ◌<◌, ◌≡◌, refl, length}
use mathlib.Core.List.{List, [], ◌++◌, append_assoc, append-nil}
use Rattle.std.proofs.Common.{sym, ◌∙◌, arith, drop-drop, take_all}
use Rattle.std.proofs.Math.Path.{ap}
use borrow.Rule.Slice.PartMut.{put_mid}
use Rattle.std.proofs.Math.ListN.{take, drop, set, length-set, drop_of_length-le}
use Rattle.std.proofs.Math.Seq.{take-add, take_at, drop_at}
use Rattle.num.specs.Word.{put_word, Bytes}
use Rattle.num.specs.Runs.{flat}
use Rattle.law.specs.declared.Claim.{Claim}
use Rattle.law.specs.Types.{Figures, Disk as LawDisk}
use Rattle.rules.specs.declared.disk.Disk.{Disk}
use Rattle.rules.specs.Disks.{Good, DiskIs}
use Rattle.rules.specs.DiskLaws.{by_value_lem}
use Rattle.part.specs.Layout.{slots, in_slots, head_words, decode, encode, decodes, AttrFits, StateFits, ClaimsFit, DiskFits}
use Rattle.part.specs.Held.{part_for, HoldsDisk}
use Rattle.part.specs.SlotLaws.{length_slots, length_in_slots, bytes_slots, slots_fit}
use Rattle.part.specs.LayoutLaws.{length_head, length_encode, part_with, put_head_word, decode_fits, decode_encode, encode_decode, encode_decodes}
use Rattle.slots.specs.Slots.{Slots}
use Rattle.slots.specs.SlotsLaws.{put_in}
use Rattle.change.specs.Holding.{Holds, with_figures, with_active, with_waiting, numbered}

-- ---- what it holds

pub holds_decode : {s : List ℕ} {d : Disk} → Holds s d → decode s ≡ d
holds_decode {s} {d} h = ap decode h.is ∙ decode_encode d h.fits

-- So it holds the one that is read from it.
pub holds_read : {s : List ℕ} {d : Disk} → Holds s d → Holds s (decode s)
holds_read {s} {d} h = rw (holds_decode h) h

-- A lent part that holds a disk holds the one that is read from it.
pub disk_holds : {s : List ℕ} → HoldsDisk s → Bytes s → Holds s (decode s)
disk_holds {s} h b = record { is = sym (encode_decode s b h.long h.whole); fits = decode_fits s b }

-- The part of a good disk holds a disk.
pub holds_disk : {s : List ℕ} {d : Disk} → Holds s d → Good d → HoldsDisk s
holds_disk {s} {d} h good =
    record {
      long = ap length h.is ∙ length_encode d h.fits.active.room h.fits.waiting.room;
      whole = ap decodes h.is ∙ encode_decodes d good h.fits;
    }

-- It is the part of the disk of the law for which its disk stands.
pub holds_part : {s : List ℕ} {d : Disk} {e : LawDisk} → Holds s d → DiskIs d e → s ≡ part_for e
unfolding part_for
holds_part h x = h.is ∙ ap encode (by_value_lem x)

-- ---- what fits in it

head_size : (d : Disk) → length (head_words d) ≡ 16
unfolding head_words
head_size d = refl

-- Eight slots hold claims that fit.
row_fits : {row : List ℕ} → Slots row → ClaimsFit (slots 8 row)
row_fits {row} r =
    record { room = length_slots 8 row; each = slots_fit 8 row (rw r.canonical at (bytes_slots (slots 8 row))) }

module _ {s : List ℕ} {d : Disk} (h : Holds s d) where
  rows_fit : {cs ws : List Claim} → ClaimsFit cs → ClaimsFit ws → DiskFits (with_waiting (with_active d cs) d.waitings ws)
  rows_fit active waiting =
      let f = h.fits in
      record {
        clock = f.clock;
        next = f.next;
        actives = f.actives;
        waitings = f.waitings;
        used = f.used;
        promised = f.promised;
        state = f.state;
        active = active;
        waiting = waiting;
      }

  numbers_fit : {clock next actives waitings : ℕ} → clock < 2 ^ 32 → next < 2 ^ 32 → actives < 2 ^ 32 → waitings < 2 ^ 32 →
      DiskFits (numbered d clock next actives waitings)
  numbers_fit clock next actives waitings =
      let f = h.fits in
      record {
        clock = clock;
        next = next;
        actives = actives;
        waitings = waitings;
        used = f.used;
        promised = f.promised;
        state = f.state;
        active = f.active;
        waiting = f.waiting;
      }

  figures_fit_lem : {f : Figures} → AttrFits f.f0 → AttrFits f.f1 → StateFits f.f2 → DiskFits (with_figures d f)
  figures_fit_lem used promised state =
      let f = h.fits in
      record {
        clock = f.clock;
        next = f.next;
        actives = f.actives;
        waitings = f.waitings;
        used = used;
        promised = promised;
        state = state;
        active = f.active;
        waiting = f.waiting;
      }

  -- ---- its slots

  eight : length (in_slots d.active) ≡ 352
  eight = omega (arith, length_in_slots d.active, h.fits.active.room)

  eight_more : length (in_slots d.waiting) ≡ 352
  eight_more = omega (arith, length_in_slots d.waiting, h.fits.waiting.room)

  head_run : take 64 s ≡ flat (head_words d)
  unfolding encode
  head_run = ap (take 64) h.is ∙ take_at (flat (head_words d)) (in_slots d.active ++ in_slots d.waiting) 64 (length_head d)

  behind_head : drop 64 s ≡ in_slots d.active ++ in_slots d.waiting
  unfolding encode
  behind_head = ap (drop 64) h.is ∙ drop_at (flat (head_words d)) (in_slots d.active ++ in_slots d.waiting) 64 (length_head d)

  active_run : take 352 (drop 64 s) ≡ in_slots d.active
  active_run = ap (take 352) behind_head ∙ take_at (in_slots d.active) (in_slots d.waiting) 352 eight

  behind_active : drop 352 (drop 64 s) ≡ in_slots d.waiting
  behind_active = ap (drop 352) behind_head ∙ drop_at (in_slots d.active) (in_slots d.waiting) 352 eight

  behind_all : drop 416 s ≡ in_slots d.waiting
  behind_all = sym (drop-drop 352 64 s) ∙ behind_active

  waiting_run : take 352 (drop 416 s) ≡ in_slots d.waiting
  waiting_run = ap (take 352) behind_all ∙ take_all 352 (in_slots d.waiting) (omega (arith, eight_more))

  -- What is lent of it are slots, and they hold its claims.
  pub active_lent : Slots (take 352 (drop 64 s))
  active_lent = (put_in h.fits.active active_run).0

  pub active_slots : slots 8 (take 352 (drop 64 s)) ≡ d.active
  active_slots = (put_in h.fits.active active_run).1

  pub waiting_lent : Slots (take 352 (drop 416 s))
  waiting_lent = (put_in h.fits.waiting waiting_run).0

  pub waiting_slots : slots 8 (take 352 (drop 416 s)) ≡ d.waiting
  waiting_slots = (put_in h.fits.waiting waiting_run).1

  -- The slots that come back hold its claims from then on.
  pub active_back : {row : List ℕ} → Slots row → Holds (put_mid 64 352 s row) (with_active d (slots 8 row))
  unfolding encode head_words
  active_back r =
      record { is = λ i. head_run i ++ (sym r.canonical i ++ behind_active i); fits = rows_fit (row_fits r) h.fits.waiting }

  pub waiting_back : {row : List ℕ} → Slots row → Holds (put_mid 416 352 s row) (with_waiting d d.waitings (slots 8 row))
  unfolding encode head_words
  waiting_back {row} r =
      let front : take 416 s ≡ flat (head_words d) ++ in_slots d.active = take-add 64 352 s ∙ (λ i. head_run i ++ active_run i) in
      let none : drop 352 (drop 416 s) ≡ [] =
      ap (drop 352) behind_all ∙ drop_of_length-le (in_slots d.waiting) {i = 352} (omega (arith, eight_more)) in
      let new = in_slots (slots 8 row) in
      record {
        is =
            (λ i. front i ++ (sym r.canonical i ++ none i))
            ∙ append_assoc (flat (head_words d)) (in_slots d.active) (new ++ [])
            ∙ ap (λ (l : List ℕ). flat (head_words d) ++ (in_slots d.active ++ l)) (append-nil new);
        fits = rows_fit h.fits.active (row_fits r);
      }

  -- ---- a word of its head

  put_word_in : (i x : ℕ) → i < 16 → put_word s (4 * i) x ≡ part_with (set (head_words d) i x) d.active d.waiting
  unfolding encode
  put_word_in i x l =
      ap (λ (r : List ℕ). put_word r (4 * i) x) h.is
      ∙ put_head_word (head_words d) d.active d.waiting i x (omega (arith, head_size d))

  module _ {x : ℕ} (l : x < 2 ^ 32) where
    pub put_clock : Holds (put_word s 0 x) (numbered d x d.next d.actives d.waitings)
    unfolding encode head_words
    put_clock = record { is = put_word_in 0 x (omega arith); fits = numbers_fit l h.fits.next h.fits.actives h.fits.waitings }

    pub put_next : Holds (put_word s 4 x) (numbered d d.clock x d.actives d.waitings)
    unfolding encode head_words
    put_next = record { is = put_word_in 1 x (omega arith); fits = numbers_fit h.fits.clock l h.fits.actives h.fits.waitings }

    pub put_actives : Holds (put_word s 8 x) (numbered d d.clock d.next x d.waitings)
    unfolding encode head_words
    put_actives = record { is = put_word_in 2 x (omega arith); fits = numbers_fit h.fits.clock h.fits.next l h.fits.waitings }

    pub put_waitings : Holds (put_word s 12 x) (numbered d d.clock d.next d.actives x)
    unfolding encode head_words
    put_waitings = record { is = put_word_in 3 x (omega arith); fits = numbers_fit h.fits.clock h.fits.next h.fits.actives l }

  -- A word of its figures, and two of them.
  module _ {f : Figures} (used : AttrFits f.f0) (promised : AttrFits f.f1) (state : StateFits f.f2) where
    pub put_figure : (i x : ℕ) → i < 16 → set (head_words d) i x ≡ head_words (with_figures d f) →
        Holds (put_word s (4 * i) x) (with_figures d f)
    unfolding encode
    put_figure i x l e =
        record {
          is = put_word_in i x l ∙ ap (λ (ws : List ℕ). part_with ws d.active d.waiting) e;
          fits = figures_fit_lem used promised state;
        }

    pub put_figures : (i x j y : ℕ) → i < 16 → j < 16 → set (set (head_words d) i x) j y ≡ head_words (with_figures d f) →
        Holds (put_word (put_word s (4 * i) x) (4 * j) y) (with_figures d f)
    unfolding encode
    put_figures i x j y l m e =
        let ws = set (head_words d) i x in
        record {
          is =
              ap (λ (r : List ℕ). put_word r (4 * j) y) (put_word_in i x l)
              ∙ put_head_word ws d.active d.waiting j y (omega (arith, length-set (head_words d) i x, head_size d))
              ∙ ap (λ (r : List ℕ). part_with r d.active d.waiting) e;
          fits = figures_fit_lem used promised state;
        }
