-- Taking one out at i of what stands now is taking it out at `at` of what stood; at the last place that is a clearing.
use Rattle.std.proofs.Common.{ℕ, ◌≡◌, ◌-◌, ◌<◌, sym, ap, ◌∙◌, arith, take, set}
use Rattle.rules.specs.Rows.{remove_at}
use Rattle.rules.specs.RowLaws.{store_row, remove_turn, remove_end, clear_last}
use Rattle.part.specs.Layout.{slots}
use Rattle.slots.proofs.take_out.Goals as goal

pub loop-i-preserved : goal.loop-i-preserved
loop-i-preserved c =
    let i = c.loop-i.i in
    let h : i < c.args.n - 1 = c.loop-i-test.true in
    let r = c.loop-i.invariant.1 in
    let e = c.put_slot.ensures.row_after ∙ ap (set (slots 8 c.loop-i.row) i) c.slot_at-x.ensures in (
      c.put_slot.ensures.slots_2,
      rw e (store_row r i _ (omega arith)),
      rw e (remove_turn r i (omega arith) ∙ c.loop-i.invariant.2),
    )

pub returns-clause-row_is : goal.returns-clause-row_is
returns-clause-row_is c =
    let n = c.args.n in
    let q : n - 1 ≡ c.loop-i.i = omega arith in
    let r = c.loop-i.invariant.1 in
    let old = slots 8 c.loop-i.row in
    let e = c.put_slot-2.ensures.row_after ∙ ap (set old (n - 1)) c.no_claim.ensures in
    let w = clear_last r (n - 1) (omega arith) (omega arith) in
    let same =
    sym (remove_end r (n - 1) (omega arith) (omega arith))
    ∙ ap (λ (k : ℕ). remove_at k (take n old)) q
    ∙ c.loop-i.invariant.2 in
    rw e (record { row = w.row; list = w.list ∙ same })
