-- Laws: each disk of a board that calls from the empty one leave is shut, or has a life as the law says: its part and all that
-- was said on it are those of a history of the law.
use Rattle.std.specs.Prelude.{ℕ, ◌≤◌, ◌<◌, ◌^◌, true, false, ◌≡◌, refl, length}
use Rattle.std.proofs.Common.{true≢false, ◌∙◌, arith}
use mathlib.Core.List.{List, [], ◌∷◌, ◌++◌, append-nil}
use Rattle.std.proofs.Math.Path.{sym, ap}
use Rattle.std.proofs.lemmas.List.{length-replicate}
use Rattle.num.specs.Word.{Bytes}
use Rattle.num.specs.Opened.{open_at}
use Rattle.num.specs.OpenedLaws.{open_none}
use Rattle.law.specs.Base.{All}
use Rattle.law.specs.Lists.{all_append, get_d_filled}
use Rattle.law.specs.Types.{most_error, Disk as LawDisk, Item, accepted}
use Rattle.law.specs.Calls.{opened}
use Rattle.law.specs.History.{Call, History as LawHistory, begun as law_begun, after as law_after, answered, lived as law_lived}
use Rattle.law.specs.Sound.{Sound}
use Rattle.law.proofs.SoundKept.{ReadableCall, lived_sound}
use Rattle.law.proofs.ProperLaws.{disk_proper}
use Rattle.law.specs.DiskType.{disk_table}
use Rattle.desk.specs.Record.{disk_number, now_of, call_of, used_limit, promised_limit}
use Rattle.desk.specs.Board.{disks, board_bytes, part_of}
use Rattle.part.specs.Held.{held, part_for, sound_part}
use Rattle.part.specs.PartLaws.{held_part, part_sound}
use Rattle.promises.specs.Histories.{empty_board, BoardCall, BytesIn, step_by, items_in, items_on, History, begun, after, lived}
use Rattle.promises.proofs.CaseLaws.{call_readable, now_fits, served_now}
use Rattle.promises.proofs.Kept.{size_stays, bytes_stay}
use Rattle.promises.proofs.TurnLaws.{Turn, stays, opens, serves, turn, own_items}

-- ---- the life of a disk

-- A life: a disk opened with limits in range, and the calls on it since; a record can hold each of these calls.
pub record Life : Type 0 where
  pub now : ℕ
  pub limit0 : ℕ
  pub limit1 : ℕ
  pub calls : List Call
  pub fits0 : limit0 ≤ most_error
  pub fits1 : limit1 ≤ most_error
  pub readable : All ReadableCall calls
  pub clock : (law_lived disk_table (law_begun now limit0 limit1) calls).disk.core.clock < 2 ^ 32

abbrev pub life_of : Life → LawHistory
life_of l = law_lived disk_table (law_begun l.now l.limit0 l.limit1) l.calls

pub life_sound : (l : Life) → Sound disk_table (life_of l).disk
life_sound l = lived_sound disk_table disk_proper l.now l.limit0 l.limit1 l.fits0 l.fits1 l.calls l.readable

-- The part of a life holds the life's disk.
life_disk : {p : List ℕ} (l : Life) → p ≡ part_for (life_of l).disk → held p ≡ (life_of l).disk
life_disk l e = ap held e ∙ held_part (life_of l).disk (life_sound l) l.clock

-- The history after one more call.
lived_last : (h : LawHistory) (ks : List Call) (k : Call) →
    law_lived disk_table h (ks ++ (k ∷ [])) ≡ law_after (law_lived disk_table h ks) (answered disk_table (law_lived disk_table h ks).disk k)
unfolding law_lived
lived_last h [] k = refl
lived_last h (j ∷ ks) k = lived_last (law_after h (answered disk_table h.disk j)) ks k

-- ---- a disk on the board

-- The disk is shut and nothing was said on it; or it is open, its part is that of a life, and what was said is what the law said.
pub data Stands (b : List ℕ) (past : List Item) (d : ℕ) : Type 0 where
  shut : open_at b d ≡ false → past ≡ [] → Stands b past d
  lives : open_at b d ≡ true → (l : Life) → part_of b d ≡ part_for (life_of l).disk → past ≡ (life_of l).past → Stands b past d

-- If bit, part and past stay the same, so does this.
stands_same : {b c : List ℕ} {past past' : List Item} {d : ℕ} → open_at c d ≡ open_at b d → part_of c d ≡ part_of b d → past' ≡ past →
    Stands b past d → Stands c past' d
stands_same o p q (shut x y) = shut (o ∙ x) (q ∙ y)
stands_same o p q (lives x l y z) = lives (o ∙ x) l (p ∙ y) (q ∙ z)

-- The invariant of a board and its past.
pub record Whole (h : History) : Type 0 where
  pub size : length h.board ≡ board_bytes
  pub bytes : Bytes h.board
  pub each : (d : ℕ) → d < disks → Stands h.board (h.past d) d

-- ---- the empty board

pub empty_shut : (d : ℕ) → d < disks → open_at empty_board d ≡ false
empty_shut d h = open_none empty_board (λ k l. get_d_filled {A = ℕ} board_bytes k 0) d h

pub whole_begun : Whole begun
whole_begun =
    record {
      size = length-replicate {A = ℕ} board_bytes 0;
      bytes = λ k. rw (get_d_filled {A = ℕ} board_bytes k 0) (omega arith);
      each = λ d h. shut (empty_shut d h) refl;
    }

-- ---- any call keeps the board whole

module _ (h : History) (k : BoardCall) (bs : BytesIn k) where
  abbrev b : List ℕ
  b = h.board

  abbrev r : List ℕ
  r = k.asks

  abbrev dk : ℕ
  dk = disk_number k.asks

  -- An opened disk begins its life.
  begins : used_limit r ≤ most_error → promised_limit r ≤ most_error → Life
  unfolding law_lived opened
  begins f0 f1 =
      record {
        now = now_of r;
        limit0 = used_limit r;
        limit1 = promised_limit r;
        calls = [];
        fits0 = f0;
        fits1 = f1;
        readable = tt;
        clock = now_fits r bs;
      }

  each_after : {d : ℕ} → Turn b k d → Stands b (h.past d) d → Stands (step_by b k).bytes (h.past d ++ items_on b k d) d
  unfolding law_lived begins
  each_after {d} (stays o p i) s = stands_same o p (ap (λ (x : List Item). h.past d ++ x) i ∙ append-nil (h.past d)) s
  each_after (opens off f0 f1 on p i) (shut x y) =
      lives on (begins f0 f1) p (ap (λ (x : List Item). x ++ items_on b k dk) y ∙ own_items b k ∙ ap items_in i)
  each_after (opens off f0 f1 on p i) (lives x l y z) = absurd (true≢false (sym x ∙ off))
  each_after (serves w was s f items a on p i) (shut x y) = absurd (true≢false (sym was ∙ x))
  -- A served disk continues its life with that call.
  each_after (serves w was s f items a on p i) (lives x l y z) =
      lives on more (p ∙ ap part_for (sym (ap (λ (g : LawHistory). g.disk) next)))
      (ap (λ (x : List Item). x ++ items_on b k dk) z
      ∙ ap (λ (x : List Item). (life_of l).past ++ x) (own_items b k ∙ ap items_in i)
      ∙ sym (ap (λ (g : LawHistory). g.past) next))
    where
      outcome : answered disk_table (life_of l).disk (call_of r) ≡ accepted f items
      outcome = ap (λ (g : LawDisk). answered disk_table g (call_of r)) (sym (life_disk l y)) ∙ a

      next : law_lived disk_table (law_begun l.now l.limit0 l.limit1) (l.calls ++ (call_of r ∷ []))
          ≡ record { disk = f; past = (life_of l).past ++ items }
      next = lived_last (law_begun l.now l.limit0 l.limit1) l.calls (call_of r) ∙ ap (law_after (life_of l)) outcome

      more : Life
      more =
          record {
            now = l.now;
            limit0 = l.limit0;
            limit1 = l.limit1;
            calls = l.calls ++ (call_of r ∷ []);
            fits0 = l.fits0;
            fits1 = l.fits1;
            readable = all_append ReadableCall l.calls (call_of r ∷ []) l.readable (call_readable r bs w, tt);
            clock = rw next (omega (arith, served_now (part_of b dk) r bs w s f items a, now_fits r bs));
          }

pub whole_after : (h : History) (k : BoardCall) → Whole h → BytesIn k → Whole (after h k)
whole_after h k w bs =
    record {
      size = size_stays h.board k.asks k.buffer bs ∙ w.size;
      bytes = bytes_stay h.board k.asks k.buffer bs w.bytes;
      each = λ d l. each_after h k bs (turn h.board k w.size bs d l) (w.each d l);
    }

-- Any calls keep the board whole.
pub whole_lived : (h : History) (ks : List BoardCall) → All BytesIn ks → Whole h → Whole (lived h ks)
unfolding lived
whole_lived h [] bs w = w
whole_lived h (k ∷ ks) bs w = whole_lived (after h k) ks bs.1 (whole_after h k w bs.0)

-- ---- a fact of each life is a fact of each disk of such a board

module _ (ks : List BoardCall) (bs : All BytesIn ks) (d : ℕ) (known : d < disks) where
  -- Two cases: a shut disk, on which nothing was said, and a life.
  pub by_life : (P : LawDisk → List Item → Type 0) →
      (open_at (lived begun ks).board d ≡ false → (e : LawDisk) → P e []) → ((l : Life) → P (life_of l).disk (life_of l).past) →
      P (held (part_of (lived begun ks).board d)) ((lived begun ks).past d)
  by_life P none life = go ((whole_lived begun ks bs whole_begun).each d known)
    where
      go : {past : List Item} → Stands (lived begun ks).board past d → P (held (part_of (lived begun ks).board d)) past
      go (shut o e) = rw e (none o (held (part_of (lived begun ks).board d)))
      go (lives o l p e) = rw (e, life_disk l p) (life l)

  -- Nothing was said on a shut disk.
  pub shut_silent : open_at (lived begun ks).board d ≡ false → (lived begun ks).past d ≡ []
  shut_silent off = go ((whole_lived begun ks bs whole_begun).each d known)
    where
      go : {past : List Item} → Stands (lived begun ks).board past d → past ≡ []
      go (shut o e) = e
      go (lives o l p e) = absurd (true≢false (sym o ∙ off))

  pub open_sound : open_at (lived begun ks).board d ≡ true → sound_part (part_of (lived begun ks).board d) ≡ true
  open_sound on = go ((whole_lived begun ks bs whole_begun).each d known)
    where
      go : Stands (lived begun ks).board ((lived begun ks).past d) d → sound_part (part_of (lived begun ks).board d) ≡ true
      go (shut o e) = absurd (true≢false (sym on ∙ o))
      go (lives o l p e) = ap sound_part p ∙ part_sound (life_of l).disk (life_sound l) l.clock
