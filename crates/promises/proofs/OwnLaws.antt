-- Laws: two boards that agree in the bit and the part of a call's disk. The call says the same on both, and leaves that disk the same.
use Rattle.std.specs.Prelude.{ℕ, ◌<◌, Bool, cond, List, ◌≡◌, eqb, length}
use Rattle.std.proofs.Math.Bool.{true, false}
use Rattle.std.proofs.Common.{true≢false, sym, ap, ◌∙◌, arith}
use Rattle.std.proofs.Math.Path.{refl}
use borrow.Author.Tests.{leb-false}
use Rattle.std.proofs.Math.Dec.{leb}
use Rattle.num.specs.Word.{Bytes}
use Rattle.num.specs.Opened.{open_at, set_open}
use Rattle.num.specs.OpenedLaws.{open_set_same}
use Rattle.law.specs.Types.{Disk as LawDisk, Outcome, refused, accepted}
use Rattle.law.specs.Calls.{opened, open_disk}
use Rattle.law.specs.History.{answered}
use Rattle.law.specs.DiskType.{disk_table}
use Rattle.answer.specs.declared.Refusal.TheVariants as R
use Rattle.desk.specs.Record.{kind_byte, well_formed, disk_number, now_of, call_of, used_limit, promised_limit}
use Rattle.desk.specs.Board.{disks, board_bytes, part_of, with_part}
use Rattle.desk.specs.BoardLaws.{length_with, part_same, part_open, open_with}
use Rattle.part.specs.Held.{held, part_for}
use Rattle.desk.specs.Step.{Said, refuses, accepts, Effect, refusing, serve_of, on_part, opening, on_disk, on_board, effect_of}
use Rattle.promises.proofs.CaseLaws.{Case, is_refused, is_opened, is_served, effect_case, opened_size, served_size}

-- Two boards have the same disk d: its part and its bit.
abbrev pub SameDisk : ℕ → List ℕ → List ℕ → Type 0
SameDisk d x y = (part_of x d ≡ part_of y d) × (open_at x d ≡ open_at y d)

-- ---- what a disk is after its part is put, and after it is opened

module _ (r : List ℕ) (known : disk_number r < disks) (x : List ℕ) (n : length x ≡ board_bytes) where
  abbrev d : ℕ
  d = disk_number r

  abbrev first : List ℕ
  first = part_for (opened (now_of r) (used_limit r) (promised_limit r))

  put : (f : LawDisk) → length (part_for f) ≡ 768 →
      (part_of (with_part x d (part_for f)) d ≡ part_for f) × (open_at (with_part x d (part_for f)) d ≡ open_at x d)
  put f z = (part_same x d n known (part_for f) z, open_with x d n known (part_for f) z d known)

  begins : (part_of (set_open (with_part x d first) d) d ≡ first) × (open_at (set_open (with_part x d first) d) d ≡ true)
  begins = (
    part_open (with_part x d first) d d known ∙ part_same x d n known first (opened_size r),
    open_set_same (with_part x d first) d known (omega (arith, length_with x d n known first (opened_size r))),
  )

-- ---- the two boards

module _ (b c r : List ℕ) where
  opening_said : (o : Outcome) → (opening b (disk_number r) o).said ≡ (opening c (disk_number r) o).said
  opening_said (refused n) = refl
  opening_said (accepted d items) = refl

  disk_said : open_at b (disk_number r) ≡ open_at c (disk_number r) → part_of b (disk_number r) ≡ part_of c (disk_number r) →
      (on_disk b r (disk_number r)).said ≡ (on_disk c r (disk_number r)).said
  disk_said o p = rw (o, p) (go (eqb (kind_byte r) 1) (open_at c (disk_number r)) (serve_of (part_of c (disk_number r)) (call_of r)))
    where
      outcome : Outcome
      outcome = open_disk (now_of r) (used_limit r) (promised_limit r)

      go : (opens is_open : Bool) (t : Effect) →
          (cond opens (cond is_open (refusing b R.Open) (opening b (disk_number r) outcome))
          (cond is_open (on_part b (disk_number r) t) (refusing b R.Closed))).said
          ≡ (cond opens (cond is_open (refusing c R.Open) (opening c (disk_number r) outcome))
          (cond is_open (on_part c (disk_number r) t) (refusing c R.Closed))).said
      go true true t = refl
      go true false t = opening_said outcome
      go false true t = refl
      go false false t = refl

  pub said_same : (disk_number r < disks → open_at b (disk_number r) ≡ open_at c (disk_number r)) → (disk_number r < disks → part_of b (disk_number r) ≡ part_of c (disk_number r)) →
      (effect_of b r).said ≡ (effect_of c r).said
  unfolding effect_of on_board
  said_same o p = go (well_formed r) (leb disks (disk_number r)) refl
    where
      go : (formed far : Bool) → leb disks (disk_number r) ≡ far →
          (cond formed (cond far (refusing b R.Disk) (on_disk b r (disk_number r))) (refusing b R.Record)).said
          ≡ (cond formed (cond far (refusing c R.Disk) (on_disk c r (disk_number r))) (refusing c R.Record)).said
      go false far e = refl
      go true true e = refl
      go true false e = let known = leb-false disks (disk_number r) e in disk_said (o known) (p known)

  module _ (bs : Bytes r) (n : length b ≡ board_bytes) (m : length c ≡ board_bytes) (known : disk_number r < disks)
      (o : open_at b (disk_number r) ≡ open_at c (disk_number r)) (p : part_of b (disk_number r) ≡ part_of c (disk_number r)) where
    abbrev accepting : Said → Bool
    accepting (refuses x) = false
    accepting (accepts items) = true

    -- Both calls are accepted, or both are refused.
    apart : {X : Type 0} {x y : Effect} → effect_of b r ≡ x → effect_of c r ≡ y → accepting x.said ≡ true → accepting y.said ≡ false → X
    apart t u one other =
        absurd
        (true≢false
        (sym one
        ∙ ap (λ (z : Effect). accepting z.said) (sym t)
        ∙ ap accepting (said_same (λ h. o) (λ h. p))
        ∙ ap (λ (z : Effect). accepting z.said) u
        ∙ other))

    apart' : {X : Type 0} {x y : Effect} → effect_of b r ≡ x → effect_of c r ≡ y → accepting x.said ≡ false → accepting y.said ≡ true → X
    apart' t u other one =
        absurd
        (true≢false
        (sym one
        ∙ ap (λ (z : Effect). accepting z.said) (sym u)
        ∙ ap accepting (sym (said_same (λ h. o) (λ h. p)))
        ∙ ap (λ (z : Effect). accepting z.said) t
        ∙ other))

    abbrev left : Outcome → LawDisk → LawDisk
    left (refused k) e = e
    left (accepted f items) e = f

    cases : Case b r → Case c r → SameDisk (disk_number r) (effect_of b r).bytes (effect_of c r).bytes
    cases (is_refused x t) (is_refused y u) = rw (t, u) (p, o)
    cases (is_refused x t) (is_opened w k f g h u) = apart' t u refl refl
    cases (is_refused x t) (is_served w k f s e items q u) = apart' t u refl refl
    cases (is_opened w k f g h t) (is_refused y u) = apart t u refl refl
    cases (is_served w k f s e items q t) (is_refused y u) = apart t u refl refl
    cases (is_opened w k f g h t) (is_served w' k' f' s e items q u) = absurd (true≢false (sym f' ∙ sym o ∙ f))
    cases (is_served w' k' f' s e items q t) (is_opened w k f g h u) = absurd (true≢false (sym f' ∙ o ∙ f))
    cases (is_opened w k f g h t) (is_opened w' k' f' g' h' u) =
        let x = begins r known b n in
        let y = begins r known c m in
        rw (t, u) (x.0 ∙ sym y.0, x.1 ∙ sym y.1)
    cases (is_served w k f s e items q t) (is_served w' k' f' s' e' items' q' u) =
        let x = put r known b n e (served_size (part_of b (disk_number r)) r bs w s e items q) in
        let y = put r known c m e' (served_size (part_of c (disk_number r)) r bs w' s' e' items' q') in
        let same : e ≡ e' = ap (λ (z : Outcome). left z e) (sym q ∙ ap (λ (z : List ℕ). answered disk_table (held z) (call_of r)) p ∙ q') in
        rw (t, u) (x.0 ∙ ap part_for same ∙ sym y.0, x.1 ∙ o ∙ sym y.1)

    pub own_same : SameDisk (disk_number r) (effect_of b r).bytes (effect_of c r).bytes
    own_same = cases (effect_case b r n) (effect_case c r m)
