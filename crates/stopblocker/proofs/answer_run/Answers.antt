-- What is left, answered from where the loop stands, is all of it answered from the start.
use Rattle.std.proofs.Common.{arith}
use Rattle.stopblocker.proofs.GoingLaws.{inside, free, again, done}
use Rattle.stopblocker.proofs.answer_run.Goals as goal

pub overflow_add-number : goal.overflow_add-number
overflow_add-number c = let d = c.in-Some.ensures in omega (arith, c.loop-to.invariant.count, inside c.loop-to.invariant d.1, d.0)

pub slice_bounds-answer_piece-end : goal.slice_bounds-answer_piece-end
slice_bounds-answer_piece-end c = inside c.loop-to.invariant c.in-Some.ensures.1

pub answer_piece-requires : goal.answer_piece-requires
answer_piece-requires c = let d = c.in-Some.ensures in free c.loop-to.invariant d.1 d.0 (omega arith)

pub loop-to-preserved : goal.loop-to-preserved
loop-to-preserved c =
    let d = c.in-Some.ensures in
    let w = c.answer_piece in
    again c.loop-to.invariant d.1 w.new.board w.new.lines.bytes d.0
    w.ensures.board_after w.ensures.lines_after w.ensures.upper_bound

pub returns-clause-at_after : goal.returns-clause-at_after
returns-clause-at_after c = done c.loop-to.invariant c.in_default.ensures
