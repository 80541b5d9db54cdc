-- What begins at a place, by the three tests: past the end, no room for a kind, no room for the record of that kind.
use Rattle.std.proofs.Common.{◌+◌, arith, get_or, sym, ap, ◌∙◌}
use Rattle.records.specs.declared.Piece.TheVariants.{Record}
use Rattle.records.specs.PieceLaws.{length_least, piece_end, piece_short, piece_whole}
use Rattle.records.proofs.piece_at.Goals as goal

pub returns-then-end-at : goal.returns-then-end-at
returns-then-end-at c = sym (piece_end c.args.run.now c.args.at (omega arith))

pub returns-then-left-le-KIND_AT : goal.returns-then-left-le-KIND_AT
returns-then-left-le-KIND_AT c =
    let a = c.args in
    sym (piece_short a.run.now a.at (omega arith) (omega (arith, length_least (get_or a.run.now (a.at + 2) 0))))

pub returns-then-left-n : goal.returns-then-left-n
returns-then-left-n c = sym (piece_short c.args.run.now c.args.at (omega arith) (omega (arith, c.length_of-n.ensures)))

pub returns : goal.returns
returns c =
    ap (λ n. Record (c.args.at + n)) c.length_of-n.ensures
    ∙ sym (piece_whole c.args.run.now c.args.at (omega arith) (omega (arith, c.length_of-n.ensures)))
