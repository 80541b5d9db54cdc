-- What every call keeps, whatever board is lent: an accepted call leaves a sound part with its clock at now, and nothing but
-- the call's own disk is changed or read.
use Rattle.std.specs.Prelude.{ℕ, ◌^◌, ◌≤◌, ◌<◌, Bool, cond, ◌&&◌, List, ◌≢◌, ◌≡◌, refl, length, get_or}
use Rattle.std.proofs.Math.Bool.{true, false}
use Rattle.std.proofs.Common.{sym, subst, ◌∙◌, arith}
use Rattle.std.proofs.Math.Path.{ap}
use borrow.Author.Tests.{eqb-true}
use Rattle.std.proofs.Math.Dec.{eqb}
use Rattle.num.specs.Word.{Bytes}
use Rattle.num.specs.Opened.{open_at, set_open}
use Rattle.num.specs.OpenedLaws.{length_set_open, bytes_set_open, byte_set_open, open_set_same, open_set_other, open_same}
use Rattle.law.specs.Types.{Disk as LawDisk}
use Rattle.law.specs.Calls.{opened}
use Rattle.law.specs.Sound.{Sound}
use Rattle.law.specs.DiskType.{disk_table}
use Rattle.rules.specs.Answers.{answer_of}
use Rattle.answer.specs.Answers.{code_of, answer_bytes, answer_size}
use Rattle.answer.specs.AnswerLaws.{number_range}
use Rattle.desk.specs.Record.{disk_number, now_of, used_limit, promised_limit}
use Rattle.desk.specs.Board.{disks, board_bytes, part_of, with_part}
use Rattle.desk.specs.BoardLaws.{length_with, bytes_with, part_same, part_other, part_open, open_with, byte_before}
use Rattle.part.specs.Held.{held, part_for}
use Rattle.desk.specs.Step.{Said, own_of, grants_of, Effect, effect, effect_of, Stepped, written, stepped, step_of}
use Rattle.part.specs.PartLaws.{held_part, part_sound, bytes_part_for}
use Rattle.promises.specs.Sentences.{SoundPart}
use Rattle.promises.proofs.RefusalLaws.{says_sound_part, by_lengths}
use Rattle.promises.proofs.OwnLaws.{SameDisk, said_same, own_same}
use Rattle.promises.proofs.CaseLaws.{Case, is_refused, is_opened, is_served, effect_case, now_fits, opened_sound, opened_now, opened_size, served_sound, served_now, served_size}

-- ---- no accepted call leaves an unsound part

module _ (b r a : List ℕ) (bs : Bytes r) where
  -- The disk that an accepted call leaves in its part: sound, with its clock at the record's second.
  record Left (p : List ℕ) : Type 0 where
    disk : LawDisk
    sound : Sound disk_table disk
    clock : disk.core.clock ≡ now_of r
    is : p ≡ part_for disk

  left : (step_of b r a).code ≤ 3 → Left (part_of (step_of b r a).bytes (disk_number r))
  left =
      by_lengths b r a (λ s. s.code ≤ 3 → Left (part_of s.bytes (disk_number r))) (λ n m. told n (effect_case b r n))
      (λ h. absurd (omega arith))
    where
      told : length b ≡ board_bytes → Case b r → (written (effect_of b r)).code ≤ 3 → Left (part_of (effect_of b r).bytes (disk_number r))
      told n (is_refused x t) h = absurd (omega (arith, h, ap (λ (y : Effect). (written y).code) t, (number_range x).0))
      told n (is_opened w known o f0 f1 t) h =
          record {
            disk = opened (now_of r) (used_limit r) (promised_limit r);
            sound = opened_sound r f0 f1;
            clock = opened_now r;
            is =
                ap (λ (y : Effect). part_of y.bytes (disk_number r)) t
                ∙ part_open (with_part b (disk_number r) (part_for (opened (now_of r) (used_limit r) (promised_limit r)))) (disk_number r) (disk_number r) known
                ∙ part_same b (disk_number r) n known (part_for (opened (now_of r) (used_limit r) (promised_limit r))) (opened_size r);
          }
      told n (is_served w known o s f items q t) h =
          record {
            disk = f;
            sound = served_sound (part_of b (disk_number r)) r bs w s f items q;
            clock = served_now (part_of b (disk_number r)) r bs w s f items q;
            is =
                ap (λ (y : Effect). part_of y.bytes (disk_number r)) t
                ∙ part_same b (disk_number r) n known (part_for f) (served_size (part_of b (disk_number r)) r bs w s f items q);
          }

  left_fits : {p : List ℕ} (l : Left p) → l.disk.core.clock < 2 ^ 32
  left_fits l = omega (arith, l.clock, now_fits r bs)

  -- No accepted call leaves an unsound part, whatever board was lent.
  pub no_unsound : (step_of b r a).code ≤ 3 → SoundPart (part_of (step_of b r a).bytes (disk_number r))
  no_unsound h =
      let l = left h in subst SoundPart (sym l.is) ((says_sound_part (part_for l.disk)).0 (part_sound l.disk l.sound (left_fits l)))

  -- Accepted calls set the clock to now.
  pub clock_now : (step_of b r a).code ≤ 3 → (held (part_of (step_of b r a).bytes (disk_number r))).core.clock ≡ now_of r
  clock_now h =
      let l = left h in
      ap (λ (p : List ℕ). (held p).core.clock) l.is
      ∙ ap (λ (d : LawDisk). d.core.clock) (held_part l.disk l.sound (left_fits l))
      ∙ l.clock

  -- ---- nothing but the call's own disk changes

  -- Three cases: the board stays; or the part of the call's disk is replaced; or it is replaced and the disk's bit set. A fact
  -- of each case is a fact of the board after the call.
  by_change : (P : List ℕ → Type 0) → P b →
      (length b ≡ board_bytes → disk_number r < disks → (p : List ℕ) → length p ≡ 768 → Bytes p → P (with_part b (disk_number r) p)) →
      (length b ≡ board_bytes → disk_number r < disks → (p : List ℕ) → length p ≡ 768 → P (with_part b (disk_number r) p) →
      P (set_open (with_part b (disk_number r) p) (disk_number r))) →
      P (step_of b r a).bytes
  by_change P none part opens = by_lengths b r a (λ s. P s.bytes) (λ n m. told n (effect_case b r n)) none
    where
      first : LawDisk
      first = opened (now_of r) (used_limit r) (promised_limit r)

      told : length b ≡ board_bytes → Case b r → P (effect_of b r).bytes
      told n (is_refused x t) = subst (λ (y : Effect). P y.bytes) (sym t) none
      told n (is_opened w known o f0 f1 t) =
          subst (λ (y : Effect). P y.bytes) (sym t)
          (opens n known (part_for first) (opened_size r) (part n known (part_for first) (opened_size r) (bytes_part_for first)))
      told n (is_served w known o s f items q t) =
          subst (λ (y : Effect). P y.bytes) (sym t)
          (part n known (part_for f) (served_size (part_of b (disk_number r)) r bs w s f items q) (bytes_part_for f))

  -- The parts of the other disks stay.
  pub other_parts : (e : ℕ) → e < disks → e ≢ disk_number r → part_of (step_of b r a).bytes e ≡ part_of b e
  other_parts e l n =
      by_change (λ c. part_of c e ≡ part_of b e) refl
      (λ size known p full bytes. part_other b (disk_number r) size known p full e l n)
      (λ size known p full same. part_open (with_part b (disk_number r) p) (disk_number r) e known ∙ same)

  -- Their open bits stay.
  pub other_bits : (e : ℕ) → e < disks → e ≢ disk_number r → open_at (step_of b r a).bytes e ≡ open_at b e
  other_bits e l n =
      by_change (λ c. open_at c e ≡ open_at b e) refl
      (λ size known p full bytes. open_with b (disk_number r) size known p full e l)
      (λ size known p full same.
      open_set_other (with_part b (disk_number r) p) (disk_number r) known (omega (arith, length_with b (disk_number r) size known p full)) e n
      ∙ same)

  -- The own bit: an accepted open sets it, every other call leaves it.
  pub own_bit : disk_number r < disks →
      ((step_of b r a).code ≡ 3 → open_at (step_of b r a).bytes (disk_number r) ≡ true) ×
      (((step_of b r a).code ≡ 3 → ⊥) → open_at (step_of b r a).bytes (disk_number r) ≡ open_at b (disk_number r))
  unfolding answer_of
  own_bit l = by_lengths b r a Bit (λ n m. told n (effect_case b r n)) ((λ e. absurd (omega arith)), λ x. refl)
    where
      Bit : Stepped → Type 0
      Bit s = (s.code ≡ 3 → open_at s.bytes (disk_number r) ≡ true) × ((s.code ≡ 3 → ⊥) → open_at s.bytes (disk_number r) ≡ open_at b (disk_number r))

      told : length b ≡ board_bytes → Case b r → Bit (written (effect_of b r))
      told n (is_refused x t) =
          subst (λ (y : Effect). Bit (written y)) (sym t) ((λ e. absurd (omega (arith, e, (number_range x).0))), λ e. refl)
      told n (is_opened w known o f0 f1 t) =
          let p : List ℕ = part_for (opened (now_of r) (used_limit r) (promised_limit r)) in
          subst (λ (y : Effect). Bit (written y)) (sym t) (
            (λ e.
                open_set_same (with_part b (disk_number r) p) (disk_number r) known
                (omega (arith, length_with b (disk_number r) n known p (opened_size r)))),
            λ e. absurd (e refl),
          )
      told n (is_served w known o s f items q t) =
          let same = open_with b (disk_number r) n known (part_for f) (served_size (part_of b (disk_number r)) r bs w s f items q) (disk_number r) known in
          subst (λ (y : Effect). Bit (written y)) (sym t) ((λ e. same ∙ o), λ e. same)

  -- Bytes 8 to 63 of the head stay.
  pub head_stays : (k : ℕ) → 8 ≤ k → k < 64 → get_or (step_of b r a).bytes k 0 ≡ get_or b k 0
  head_stays k l u =
      by_change (λ c. get_or c k 0 ≡ get_or b k 0) refl
      (λ size known p full bytes. byte_before b (disk_number r) size known p full k (omega arith))
      (λ size known p full same. byte_set_open (with_part b (disk_number r) p) (disk_number r) k (λ e. omega (arith, known)) ∙ same)

  -- The board keeps its length.
  pub size_stays : length (step_of b r a).bytes ≡ length b
  size_stays =
      by_change (λ c. length c ≡ length b) refl
      (λ size known p full bytes. length_with b (disk_number r) size known p full ∙ sym size)
      (λ size known p full same. length_set_open (with_part b (disk_number r) p) (disk_number r) ∙ same)

  -- Bytes stay bytes.
  pub bytes_stay : Bytes b → Bytes (step_of b r a).bytes
  bytes_stay h =
      by_change Bytes h (λ size known p full bytes. bytes_with b (disk_number r) size known p full h bytes)
      (λ size known p full bytes. bytes_set_open (with_part b (disk_number r) p) (disk_number r) bytes)

-- ---- a call reads nothing of the board but its own disk's bit and part

module _ (b c r a : List ℕ) (same : length b ≡ length c) where
  -- If two boards agree in length and in the disk's bit and part, the call returns and answers the same.
  pub reads_own : (disk_number r < disks → open_at b (disk_number r) ≡ open_at c (disk_number r)) → (disk_number r < disks → part_of b (disk_number r) ≡ part_of c (disk_number r)) →
      ((step_of b r a).code ≡ (step_of c r a).code) × ((step_of b r a).answer ≡ (step_of c r a).answer)
  unfolding step_of
  reads_own o p =
      rw same
      (go (eqb (length c) board_bytes && eqb (length a) answer_size) (effect_of b r).said (effect_of c r).said (said_same b c r o p))
    where
      go : (v : Bool) (x y : Said) → x ≡ y →
          ((cond v (written (effect (effect_of b r).bytes x)) (stepped 9 b a)).code ≡ (cond v (written (effect (effect_of c r).bytes y)) (stepped 9 c a)).code)
          × ((cond v (written (effect (effect_of b r).bytes x)) (stepped 9 b a)).answer
          ≡ (cond v (written (effect (effect_of c r).bytes y)) (stepped 9 c a)).answer)
      go true x y e = (ap (λ (z : Said). code_of (own_of z)) e, ap (λ (z : Said). answer_bytes (own_of z) (grants_of z)) e)
      go false x y e = (refl, refl)

  -- And it leaves the disk the same: its part and its bit.
  pub leaves_own : Bytes r → disk_number r < disks → open_at b (disk_number r) ≡ open_at c (disk_number r) → part_of b (disk_number r) ≡ part_of c (disk_number r) →
      (part_of (step_of b r a).bytes (disk_number r) ≡ part_of (step_of c r a).bytes (disk_number r))
      × (open_at (step_of b r a).bytes (disk_number r) ≡ open_at (step_of c r a).bytes (disk_number r))
  unfolding step_of
  leaves_own bs known o p = rw same (go (eqb (length c) board_bytes) (eqb (length a) answer_size) refl)
    where
      go : (v w : Bool) → eqb (length c) board_bytes ≡ v →
          SameDisk (disk_number r) (cond (v && w) (written (effect_of b r)) (stepped 9 b a)).bytes (cond (v && w) (written (effect_of c r)) (stepped 9 c a)).bytes
      go false w e = (p, o)
      go true false e = (p, o)
      go true true e = let m = eqb-true (length c) board_bytes e in own_same b c r bs (same ∙ m) m known o p

  -- So bytes 8 to 63 of the head are never read.
  pub head_unread : ((k : ℕ) → k < 8 → get_or b k 0 ≡ get_or c k 0) → ((d : ℕ) → d < disks → part_of b d ≡ part_of c d) →
      ((step_of b r a).code ≡ (step_of c r a).code) × ((step_of b r a).answer ≡ (step_of c r a).answer)
  head_unread bits parts = reads_own (λ h. open_same b c bits (disk_number r) h) (λ h. parts (disk_number r) h)
