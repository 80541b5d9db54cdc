-- The bytes put are those of the claims with this one stored.
use Rattle.std.proofs.Common.{rules, ◌≡◌, ◌∙◌, set, subst}
use Rattle.num.specs.Word.{Bytes}
use Rattle.part.specs.Layout.{ClaimFits, slots}
use Rattle.part.specs.SlotLaws.{bytes_slots}
use Rattle.slots.specs.Slots.{Slots}
use Rattle.slots.specs.SlotsLaws.{set_fits, put_claim_in, put_in}
use Rattle.slots.proofs.put_slot.Goals as goal

pub returns : goal.returns
returns c =
    let a = c.args in
    let row = a.row.now in
    let bytes : Bytes row = subst Bytes c.requires.slots.canonical (bytes_slots (slots 8 row)) in
    let fits : ClaimFits a.c = search rules in
    let both : Slots c.put_claim.new.s × (slots 8 c.put_claim.new.s ≡ set (slots 8 row) a.i a.c) =
    put_in (set_fits row bytes a.i a.c fits) (c.put_claim.ensures ∙ put_claim_in row c.requires.slots a.i a.c c.requires.i_bound) in
    record { slots_2 = both.0; row_after = both.1 }
