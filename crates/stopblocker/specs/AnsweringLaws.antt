-- Laws of going through a run: the next place is within the run, every piece but the last is a whole record, and more turns
-- than there are pieces change nothing.
use Prim.Native.Nat.{ℕ, zero, suc, ◌+◌, ◌-◌, ◌≤◌, ◌<◌}
use Rattle.std.specs.Prelude.{Bool, true, false, List, ◌++◌, ◌≡◌, length, get_or, take, drop}
use Rattle.std.proofs.Common.{append_assoc, ap, ◌∙◌, eq-zero-or-pos, arith, lt-ltb, le-ltb, length-append, length-take-le, take_at}
use Rattle.std.proofs.Math.Logic.{⊎_elim}
use Rattle.std.proofs.Math.Path.{refl, sym}
use Rattle.num.specs.Runs.{splice}
use Rattle.num.specs.RunLaws.{splice_eq}
use Rattle.records.specs.Pieces.{length_of}
use Rattle.records.specs.PieceLaws.{Begins, none, whole, short, begins}
use Rattle.stopblocker.specs.Answering.{due_at, Reached, answered_to, answered_by}

-- ---- what is due

-- Every record has at least 24 bytes.
record_least : (kind : ℕ) → 24 ≤ length_of kind
unfolding length_of
record_least kind = omega arith

-- The place stays, or moves on within the run: to its end, or by at least a whole record.
pub record Due (s : List ℕ) (at to : ℕ) : Type 0 where
  pub onwards : at ≤ to
  pub within : at ≤ length s → to ≤ length s
  pub whole_before : at < to → to < length s → at + 24 ≤ to

due_by : (s : List ℕ) (at : ℕ) (last : Bool) → Begins s at → Due s at (due_at s at last)
due_by s at last (none l e) =
    rw e (record { onwards = omega arith; within = λ h. h; whole_before = λ h k. absurd (omega arith) })
due_by s at last (whole l e) =
    rw e (record { onwards = omega arith; within = λ h. l; whole_before = λ h k. omega (arith, record_least (get_or s (at + 2) 0)) })
due_by s at true (short l k e) =
    rw e (record { onwards = omega arith; within = λ h. omega arith; whole_before = λ h m. absurd (omega arith) })
due_by s at false (short l k e) =
    rw e (record { onwards = omega arith; within = λ h. h; whole_before = λ h m. absurd (omega arith) })

pub due : (s : List ℕ) (at : ℕ) (last : Bool) → Due s at (due_at s at last)
due s at last = due_by s at last (begins s at)

-- ---- turns

module _ (s : List ℕ) (last : Bool) where
  pub answered_more : (m : ℕ) (e : Reached) → e.at < due_at s e.at last →
      answered_by (suc m) s last e ≡ answered_by m s last (answered_to s e (due_at s e.at last))
  unfolding answered_by
  answered_more m e h = rw (lt-ltb e.at (due_at s e.at last) h)

  pub answered_none : (m : ℕ) (e : Reached) → due_at s e.at last ≤ e.at → answered_by m s last e ≡ e
  unfolding answered_by
  answered_none zero e h = refl
  answered_none (suc m) e h = rw (le-ltb e.at (due_at s e.at last) h)

  pub answered_enough : (m k : ℕ) (e : Reached) → e.at ≤ length s → length s ≤ e.at + m → length s ≤ e.at + k →
      answered_by m s last e ≡ answered_by k s last e
  unfolding answered_by
  answered_enough zero k e h l n =
      sym (answered_none k e (omega (arith, (due s e.at last).within h)))
  answered_enough (suc m) zero e h l n = answered_none (suc m) e (omega (arith, (due s e.at last).within h))
  answered_enough (suc m) (suc k) e h l n =
      let to = due_at s e.at last in
      ⊎_elim
      (λ (z : to - e.at ≡ 0). answered_none (suc m) e (omega arith) ∙ sym (answered_none (suc k) e (omega arith)))
      (λ (p : 0 < to - e.at).
      answered_more m e (omega arith)
      ∙ (answered_enough m k (answered_to s e to) ((due s e.at last).within h) (omega arith) (omega arith)
      ∙ sym (answered_more k e (omega arith))))
      (eq-zero-or-pos (to - e.at))

-- ---- the text so far

-- A text put right behind the text so far extends it.
pub take_splice : (l : List ℕ) (n : ℕ) (vs : List ℕ) → n + length vs ≤ length l → take (n + length vs) (splice l n vs) ≡ take n l ++ vs
take_splice l n vs h =
    let e : length (take n l ++ vs) ≡ n + length vs = length-append (take n l) vs ∙ ap (λ k. k + length vs) (length-take-le n l (omega arith)) in
    ap (take (n + length vs)) (splice_eq l n vs h ∙ sym (append_assoc (take n l) vs (drop (n + length vs) l)))
    ∙ take_at (take n l ++ vs) (drop (n + length vs) l) (n + length vs) e
