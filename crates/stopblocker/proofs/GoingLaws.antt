-- What the loop over a run of records keeps: what is left, answered from where the loop stands, is all of it answered from the start.
use Rattle.std.proofs.Common.{ℕ, suc, ◌+◌, ◌-◌, ◌*◌, ◌≤◌, ◌<◌, Bool, List, ◌++◌, ◌≡◌, sym, ap, ◌∙◌, arith, length}
use Rattle.records.specs.Pieces.{span, bytes_of}
use Rattle.stopblocker.specs.Answering.{called, answer_lines, due_at, reached, answered_to, answered_by, answered_run}
use Rattle.stopblocker.specs.AnsweringLaws.{due, answered_more, answered_none, answered_enough}

pub record Going (b₀ s : List ℕ) (from : ℕ) (last : Bool) (b text : List ℕ) (number at : ℕ) : Type 0 where
  pub within : at ≤ length s
  pub room : at < length s → length text ≤ 27 * at
  pub count : number ≤ from + at
  pub same : answered_by (length s - at) s last (reached b text number at) ≡ answered_run b₀ s from last

module _ {b₀ s : List ℕ} {from : ℕ} {last : Bool} {b text : List ℕ} {number at : ℕ} (g : Going b₀ s from last b text number at) where
  module _ {to : ℕ} (e : to ≡ due_at s at last) where
    -- The piece is within the run.
    pub inside : to ≤ length s
    inside = omega (arith, (due s at last).within g.within)

    -- There is room for its lines.
    pub free : at < to → 27 * length s + 648 ≤ 166_536 → length text + 648 ≤ 166_536
    free t wide = omega (arith, g.room (omega (arith, inside)), inside)

    abbrev piece : List ℕ
    piece = bytes_of s (span at to)

    pub again : (b' text' : List ℕ) → at < to → b' ≡ (called b piece).bytes →
        text' ≡ text ++ answer_lines b piece (number + 1) → length text' ≤ length text + 648 →
        Going b₀ s from last b' text' (number + 1) to
    again b' text' t eb et most =
        let r = reached b text number at in
        let m = length s - at - 1 in
        let q : length s - at ≡ suc m = omega (arith, inside) in
        let d : at < due_at s at last = omega arith in
        record {
          within = inside;
          room = λ h. omega (arith, g.room (omega arith), (due s at last).whole_before d (omega arith));
          count = omega (arith, g.count);
          same =
              rw (eb, et)
              (answered_enough s last (length s - to) m (answered_to s r to) inside (omega arith) (omega arith)
              ∙ (ap (λ x. answered_by m s last (answered_to s r x)) e
              ∙ (sym (answered_more s last m r d) ∙ (ap (λ x. answered_by x s last r) (sym q) ∙ g.same))));
        }

  pub done : due_at s at last ≡ at → reached b text number at ≡ answered_run b₀ s from last
  done h = sym (answered_none s last (length s - at) (reached b text number at) (omega arith)) ∙ g.same
