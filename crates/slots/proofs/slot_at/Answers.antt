-- The claim read is that of the slot's bytes.
use Rattle.std.proofs.Common.{sym, ◌∙◌}
use Rattle.part.specs.SlotLaws.{slot_at}
use Rattle.slots.proofs.slot_at.Goals as goal

pub returns : goal.returns
returns c = c.claim_at.ensures ∙ sym (slot_at 8 c.args.row.now c.args.i c.requires.i_bound)
