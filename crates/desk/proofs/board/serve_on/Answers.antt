-- What is left of the part comes back in its place.
use Rattle.desk.specs.Record.{call_of}
use Rattle.desk.specs.Board.{part_of}
use Rattle.desk.specs.Step.{serve_of}
use Rattle.desk.proofs.FrameLaws.{split_part, ends_part}
use Rattle.desk.proofs.board.serve_on.Goals as goal

pub returns : goal.returns
returns c =
    let b = c.args.board.now in
    let d = c.args.d in
    let s = c.split_at_mut-from_part.ensures in
    rw (s.front, s.back, split_part b d c.serve.new.part)
    (ends_part c.serve.result b d c.serve.new.part c.serve.new.answer (serve_of (part_of b d) (call_of c.args.r.now))
    (rw (c.in-Some.ensures.cases.same, s.back) at c.serve.ensures))
