-- A copy within the run is the piece put at its front.
use Rattle.std.proofs.Common.{ℕ, ◌+◌, ◌-◌, ◌≤◌, List, ◌++◌, ◌≡◌, length, take, drop, arith, sym, ap, ◌∙◌, length-drop, length-take-le}
use Rattle.std.specs.List.{copy_within}
use Rattle.num.specs.Runs.{splice}
use Rattle.num.specs.RunLaws.{splice_eq}
use Rattle.stopblocker.proofs.Run.carry.Goals as goal

moved : (l : List ℕ) (at end : ℕ) → at ≤ end → end ≤ length l →
    copy_within l at end 0 ≡ splice l 0 (take (end - at) (drop at l))
moved l at end h k =
    let piece = take (end - at) (drop at l) in
    let size : length piece ≡ end - at =
    length-take-le (end - at) (drop at l) (omega (arith, length-drop at l)) in
    ap (λ n. piece ++ drop (0 + n) l) (sym size) ∙ sym (splice_eq l 0 piece (omega arith))

pub returns-clause-bytes_after : goal.returns-clause-bytes_after
returns-clause-bytes_after c =
    c.copy_within.ensures.after ∙ moved c.args.self.now.bytes c.args.at c.args.end c.requires.at_le_end (omega arith)
