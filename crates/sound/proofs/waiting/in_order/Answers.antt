-- The turns of the walk, and its end.
use Rattle.std.proofs.Common.{arith, ◌≡◌, ◌+◌, ◌-◌, ◌∙◌, sym}
use Rattle.law.specs.Calls.{before}
use Rattle.part.specs.declared.status.Status.TheVariants.{Waiting}
use Rattle.sound.proofs.WalkLaws.{next_turn, next_end, order_is}
use Rattle.sound.proofs.DiskLaws.{waitings, row_in, few_waiting}
use Rattle.sound.proofs.waiting.in_order.Goals as goal

pub loop-i-init : goal.loop-i-init
loop-i-init c = order_is (waitings c.args.s.now)

pub slot_at-x-requires : goal.slot_at-x-requires
slot_at-x-requires c = omega (arith, few_waiting c.requires)

pub slot_at-y-requires : goal.slot_at-y-requires
slot_at-y-requires c = omega (arith, few_waiting c.requires)

pub returns-then-not-before : goal.returns-then-not-before
returns-then-not-before c =
    let turn = next_turn before (row_in c.requires Waiting) c.loop-i.i (omega arith) (omega arith) in
    grind arith

pub loop-i-preserved : goal.loop-i-preserved
loop-i-preserved c =
    let turn = next_turn before (row_in c.requires Waiting) c.loop-i.i (omega arith) (omega arith) in
    let back : c.loop-i.i + 1 - 1 ≡ c.loop-i.i = omega arith in
    grind arith

pub returns : goal.returns
returns c = sym (next_end before (row_in c.requires Waiting) c.loop-i.i (omega arith) (omega arith)) ∙ c.loop-i.invariant
