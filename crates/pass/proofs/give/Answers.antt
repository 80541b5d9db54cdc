-- What is read is what the disk has, so that the claim is told the law's sum; the item shows it, and the total.
use Rattle.std.proofs.Common.{◌∙◌, w32, w64}
use mir.Facts.{to_z-of_z}
use Rattle.law.specs.Granting.{grant_item}
use Rattle.pass.proofs.give.Goals as goal

pub returns-clause-answer_after : goal.returns-clause-answer_after
unfolding grant_item
returns-clause-answer_after c =
    let told = to_z-of_z {w = w32} (record { sfits = c.narrow-z.type_inv })
    ∙ c.narrow-z.ensures
    ∙ to_z-of_z {w = w64} (record { sfits = c.told.type_inv })
    ∙ rw c.figures_at.ensures at c.told.ensures.value in
    c.put_grant.ensures ∙ rw (told, c.requires.total_value)
