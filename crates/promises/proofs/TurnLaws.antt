-- Laws: what one call does to each disk of a board of the right length. It leaves the disk as it was, opens it, or is served on it.
use Rattle.std.specs.Prelude.{ℕ, ◌≤◌, ◌<◌, Bool, true, false, List, [], ◌∷◌, ◌≡◌, refl, eqb, length}
use Rattle.std.proofs.Common.{sym, ap, subst, ◌∙◌, arith, eqb-true, eq-eqb}
use Rattle.std.proofs.lemmas.Bool.{eqb-false}
use Rattle.num.specs.Opened.{open_at}
use Rattle.num.specs.OpenedLaws.{open_set_same}
use Rattle.law.specs.Types.{most_error, Disk as LawDisk, Item, accepted}
use Rattle.law.specs.Calls.{item, opened}
use Rattle.law.specs.History.{answered}
use Rattle.law.specs.DiskType.{disk_table}
use Rattle.answer.specs.Answers.{answer_size}
use Rattle.desk.specs.Record.{well_formed, disk_number, now_of, call_of, used_limit, promised_limit}
use Rattle.desk.specs.Board.{disks, board_bytes, part_of, with_part}
use Rattle.desk.specs.BoardLaws.{length_with, part_same, part_open, open_with}
use Rattle.part.specs.Held.{held, part_for, sound_part}
use Rattle.desk.specs.Step.{accepts, Effect, effect_of, step_of}
use Rattle.promises.specs.Histories.{BoardCall, BytesIn, step_by, said_by, items_in, items_on}
use Rattle.promises.proofs.CaseLaws.{Case, is_refused, is_opened, is_served, effect_case, opened_size, served_size}
use Rattle.promises.proofs.Kept.{other_parts, other_bits}

pub data Turn (b : List ℕ) (k : BoardCall) : ℕ → Type 0 where
  stays : {d : ℕ} → open_at (step_by b k).bytes d ≡ open_at b d → part_of (step_by b k).bytes d ≡ part_of b d → items_on b k d ≡ [] →
      Turn b k d
  opens : open_at b (disk_number k.asks) ≡ false → used_limit k.asks ≤ most_error → promised_limit k.asks ≤ most_error →
      open_at (step_by b k).bytes (disk_number k.asks) ≡ true →
      part_of (step_by b k).bytes (disk_number k.asks) ≡ part_for (opened (now_of k.asks) (used_limit k.asks) (promised_limit k.asks)) →
      said_by b k ≡ accepts (item 3 0 ∷ []) → Turn b k (disk_number k.asks)
  serves : well_formed k.asks ≡ true → open_at b (disk_number k.asks) ≡ true → sound_part (part_of b (disk_number k.asks)) ≡ true →
      (e : LawDisk) (items : List Item) → answered disk_table (held (part_of b (disk_number k.asks))) (call_of k.asks) ≡ accepted e items →
      open_at (step_by b k).bytes (disk_number k.asks) ≡ true → part_of (step_by b k).bytes (disk_number k.asks) ≡ part_for e →
      said_by b k ≡ accepts items → Turn b k (disk_number k.asks)

module _ (b : List ℕ) (k : BoardCall) where
  abbrev r : List ℕ
  r = k.asks

  abbrev dk : ℕ
  dk = disk_number k.asks

  pub own_items : items_on b k dk ≡ items_in (said_by b k)
  own_items = rw (eq-eqb dk dk refl)

  module _ (size : length b ≡ board_bytes) (bs : BytesIn k) (known : dk < disks) where
    -- The board stays, and nothing is said.
    none : (step_by b k).bytes ≡ b → items_in (said_by b k) ≡ [] → Turn b k dk
    none e i = stays (ap (λ (x : List ℕ). open_at x dk) e) (ap (λ (x : List ℕ). part_of x dk) e) (own_items ∙ i)

    -- With an answer buffer of another length nothing is said and nothing changes.
    unheard : eqb (length k.buffer) answer_size ≡ false → Turn b k dk
    unfolding step_of said_by
    unheard e = none (rw (eq-eqb (length b) board_bytes size, e)) (rw (eq-eqb (length b) board_bytes size, e))

    -- With an answer buffer of the right length, the call has its effect.
    module _ (e : eqb (length k.buffer) answer_size ≡ true) where
      bytes_are : (t : Effect) → effect_of b r ≡ t → (step_by b k).bytes ≡ t.bytes
      unfolding step_of
      bytes_are t q = rw (eq-eqb (length b) board_bytes size, e) (ap (λ (y : Effect). y.bytes) q)

      said_is : (t : Effect) → effect_of b r ≡ t → said_by b k ≡ t.said
      unfolding said_by
      said_is t q = rw (eq-eqb (length b) board_bytes size, e) (ap (λ (y : Effect). y.said) q)

      told : Case b r → Turn b k dk
      told (is_refused x t) = none (bytes_are _ t) (ap items_in (said_is _ t))
      told (is_opened w l off f0 f1 t) =
          let p : List ℕ = part_for (opened (now_of r) (used_limit r) (promised_limit r)) in
          let full : length p ≡ 768 = opened_size r in
          opens off f0 f1
          (ap (λ (x : List ℕ). open_at x dk) (bytes_are _ t)
          ∙ open_set_same (with_part b dk p) dk known (omega (arith, length_with b dk size known p full)))
          (ap (λ (x : List ℕ). part_of x dk) (bytes_are _ t)
          ∙ part_open (with_part b dk p) dk dk known
          ∙ part_same b dk size known p full)
          (said_is _ t)
      told (is_served w l on s f items q t) =
          let full : length (part_for f) ≡ 768 = served_size (part_of b dk) r bs w s f items q in
          serves w on s f items q
          (ap (λ (x : List ℕ). open_at x dk) (bytes_are _ t) ∙ open_with b dk size known (part_for f) full dk known ∙ on)
          (ap (λ (x : List ℕ). part_of x dk) (bytes_are _ t) ∙ part_same b dk size known (part_for f) full)
          (said_is _ t)

    own : Turn b k dk
    own = go (eqb (length k.buffer) answer_size) refl
      where
        go : (v : Bool) → eqb (length k.buffer) answer_size ≡ v → Turn b k dk
        go true e = told e (effect_case b r size)
        go false e = unheard e

  pub turn : length b ≡ board_bytes → BytesIn k → (d : ℕ) → d < disks → Turn b k d
  turn size bs d l = go (eqb d dk) refl
    where
      go : (v : Bool) → eqb d dk ≡ v → Turn b k d
      go true v =
          let same : d ≡ dk = eqb-true d dk v in
          subst (Turn b k) (sym same) (own size bs (subst (λ (e : ℕ). e < disks) same l))
      go false v =
          let other = eqb-false d dk v in
          stays (other_bits b r k.buffer bs d l other) (other_parts b r k.buffer bs d l other) (rw v)
