-- A whole record and a short piece end further on.
use Rattle.std.proofs.Common.{◌+◌, ◌≡◌, sym, ap, arith, get_or}
use Rattle.records.specs.declared.Piece.TheVariants.{Record, Short}
use Rattle.records.specs.Pieces.{piece_at}
use Rattle.records.specs.PieceLaws.{length_least, whole_is, short_is}
use Rattle.stopblocker.specs.Answering.{due_of}
use Rattle.stopblocker.proofs.due.Goals as goal

pub returns-in-Record : goal.returns-in-Record
returns-in-Record c =
    let a = c.args in
    let e : piece_at a.run.now a.at ≡ Record c.in-Record.to = sym c.in-Record.ensures in
    let ends = (whole_is a.run.now a.at c.in-Record.to e).0 in
    (omega (arith, ends, length_least (get_or a.run.now (a.at + 2) 0)), ap (λ p. due_of p a.at a.last) (sym e))

pub returns-then-last : goal.returns-then-last
returns-then-last c =
    let a = c.args in
    let e : piece_at a.run.now a.at ≡ Short c.in-Short.to = sym c.in-Short.ensures in
    ((short_is a.run.now a.at c.in-Short.to e).1.0, rw (e, c.if-last.true))
