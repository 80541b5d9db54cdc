-- The places behind those that wait are cleared, and the head says how many wait.
use Rattle.std.proofs.Common.{◌∙◌, arith, rules}
use Rattle.num.specs.Word.{Bytes}
use Rattle.part.specs.Layout.{decode}
use Rattle.part.specs.PartLaws.{disk_good}
use Rattle.change.specs.HoldingLaws.{disk_holds, holds_part, waiting_lent, waiting_slots, waiting_back, put_waitings}
use Rattle.pass.proofs.close.Goals as goal

pub clear_from-requires-clause-slots : goal.clear_from-requires-clause-slots
clear_from-requires-clause-slots c =
    let b : Bytes c.args.s.now = λ k. search rules in
    waiting_lent (disk_holds c.requires.holds_disk b)

pub clear_from-requires-clause-row : goal.clear_from-requires-clause-row
clear_from-requires-clause-row c =
    let b : Bytes c.args.s.now = λ k. search rules in
    rw (waiting_slots (disk_holds c.requires.holds_disk b), c.requires.n_value) (disk_good c.requires.holds_disk).waiting

pub returns : goal.returns
returns c =
    let d = decode c.args.s.now in
    let k = c.args.k in
    let b : Bytes c.args.s.now = λ k. search rules in
    let h = disk_holds c.requires.holds_disk b in
    let rest = rw (waiting_slots h) at c.clear_from.ensures.row_is in
    let held = put_waitings (waiting_back h c.clear_from.ensures.slots_2) {x = k} (omega (arith, rest.row.few)) in
    c.put_word.ensures
    ∙ holds_part held
    (record { good = record { active = (disk_good c.requires.holds_disk).active; waiting = rest.row }; is = rw rest.list })
