-- A range is zero if its two pieces are.
use Rattle.std.proofs.Common.{◌*◌, ◌-◌, ◌+◌, arith}
use Rattle.part.specs.ByteLaws.{zero_split}
use Rattle.part.proofs.whole.zero_from.Goals as goal

pub returns : goal.returns
returns c =
    let first = 4 * c.args.words in
    grind (arith, zero_split c.args.s.now c.args.from first (c.args.to - (c.args.from + first)))
