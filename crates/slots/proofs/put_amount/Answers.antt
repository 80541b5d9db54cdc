-- The word put is the claim's ninth.
use Rattle.std.proofs.Common.{rules, ◌≡◌, ◌<◌, ◌^◌, ◌∙◌, get_or, set, subst}
use Rattle.num.specs.Word.{Bytes}
use Rattle.law.specs.Granting.{put_told}
use Rattle.rules.specs.Rows.{no_claim}
use Rattle.part.specs.Layout.{slots}
use Rattle.part.specs.SlotLaws.{bytes_slots, slots_fit}
use Rattle.slots.specs.Slots.{Slots}
use Rattle.slots.specs.SlotsLaws.{set_fits, amount_fits, put_amount_in, put_in}
use Rattle.slots.proofs.put_amount.Goals as goal

pub returns : goal.returns
returns c =
    let a = c.args in
    let row = a.row.now in
    let bytes : Bytes row = subst Bytes c.requires.slots.canonical (bytes_slots (slots 8 row)) in
    let fits : a.amount < 2 ^ 32 = search rules in
    let x = get_or (slots 8 row) a.i no_claim in
    let f = set_fits row bytes a.i _ (amount_fits x a.amount (slots_fit 8 row bytes a.i) fits) in
    let both : Slots c.put_word.new.s × (slots 8 c.put_word.new.s ≡ set (slots 8 row) a.i (put_told x x.told a.amount)) =
    put_in f (c.put_word.ensures ∙ put_amount_in row c.requires.slots a.i a.amount c.requires.i_bound) in
    record { slots_2 = both.0; row_after = both.1 }
