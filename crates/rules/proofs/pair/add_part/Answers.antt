-- The one method that adds adds to attribute 1.
use Rattle.std.proofs.Common.{w32, rules}
use mir.Facts.{to_z-of_z}
use mir.Val.{SFits}
use Rattle.rules.specs.Pairs.{add_of}
use Rattle.rules.proofs.EntryLaws.{add_is}
use Rattle.rules.proofs.pair.add_part.Goals as goal

pub returns-then-is_add-clause-value : goal.returns-then-is_add-clause-value
unfolding add_of
returns-then-is_add-clause-value c =
    let fits : SFits w32 c.args.x.value = search rules in
    rw (← add_is c.args.x.method, ← c.is_add.ensures, c.if-is_add.true, c.from.ensures) (rw (to_z-of_z fits) at c.size.ensures.value)

pub returns-else-is_add-clause-value : goal.returns-else-is_add-clause-value
unfolding add_of
returns-else-is_add-clause-value c =
    rw (← add_is c.args.x.method, ← c.is_add.ensures, c.if-is_add.false)
