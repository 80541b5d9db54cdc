-- Putting y in at i of what stands now is putting c in at its place in what stood; at the end that is a store.
use Rattle.std.proofs.Common.{ℕ, ◌+◌, ◌<◌, sym, ap, ◌∙◌, arith, take, set}
use Rattle.law.specs.declared.Claim.{Claim}
use Rattle.rules.specs.Rows.{insert_at}
use Rattle.rules.specs.PlaceLaws.{queue_place}
use Rattle.rules.specs.RowLaws.{store_row, store_last, insert_turn, insert_end}
use Rattle.part.specs.Layout.{slots}
use Rattle.slots.proofs.queue_in.Goals as goal

pub loop-i-init : goal.loop-i-init
loop-i-init c =
    let a = c.args in
    let cs = take a.n (slots 8 a.row.now) in
    let here = ap (λ (k : ℕ). insert_at k a.c cs) c.place-i.ensures.0 ∙ sym (queue_place a.c cs) in
    (c.requires.slots, c.requires.row, here)

pub loop-i-preserved : goal.loop-i-preserved
loop-i-preserved c =
    let n = c.args.n in
    let i = c.loop-i.i in
    let h : i < n = c.loop-i-test.true in
    let r = c.loop-i.invariant.1 in
    let turn =
    ap (λ (y : Claim). insert_at (i + 1) y (take n (set (slots 8 c.loop-i.row) i c.loop-i.y))) c.slot_at-x.ensures
    ∙ insert_turn r i c.loop-i.y h
    ∙ c.loop-i.invariant.2 in (
      c.put_slot.ensures.slots_2,
      rw c.put_slot.ensures.row_after (store_row r i _ h),
      rw c.put_slot.ensures.row_after turn,
    )

pub returns-clause-row_is : goal.returns-clause-row_is
returns-clause-row_is c =
    let r = c.loop-i.invariant.1 in
    let w = store_last r c.loop-i.y c.requires.n_bound in
    let same = sym (insert_end r c.loop-i.i c.loop-i.y (omega arith)) ∙ c.loop-i.invariant.2 in
    rw c.put_slot-2.ensures.row_after (record { row = w.row; list = w.list ∙ same })
