-- What is left, behind the text so far, is all of it.
use Rattle.std.proofs.Common.{◌≡◌, ap, arith}
use Rattle.answer.specs.Answers.{shown_at}
use Rattle.stopblocker.proofs.ItemLaws.{begun, again, no_more, last}
use Rattle.stopblocker.proofs.lines.put_lines.Goals as goal

pub loop-k-init : goal.loop-k-init
loop-k-init c =
    let a = c.args in
    begun a.to.now.bytes a.number a.disk a.answer.now c.told-answer c.put_line.new.to.bytes
    (rw (c.put_line.ensures.after, c.shown_at.ensures)) (omega arith)

pub loop-k-preserved : goal.loop-k-preserved
loop-k-preserved c =
    let a = c.args in
    let w = c.put_line-in-loop-k in
    let e : c.shown_at-grant.result.ticket ≡ (shown_at a.answer.now c.loop-k.k).ticket = ap (λ s. s.ticket) c.shown_at-grant.ensures in
    again a.to.now.bytes a.number a.disk a.answer.now c.told-answer c.loop-k.to.bytes c.loop-k.k c.loop-k.invariant (omega arith)
    (omega arith) w.new.to.bytes (rw (w.ensures.after, c.push_str.ensures.bytes, c.shown_at-grant.ensures)) (omega arith)

pub returns-after-loop-k-clause-after : goal.returns-after-loop-k-clause-after
returns-after-loop-k-clause-after c =
    let a = c.args in
    let e : c.loop-k.k ≡ 9 = omega arith in
    last a.to.now.bytes a.number a.disk a.answer.now c.loop-k.to.bytes (rw e at c.loop-k.invariant)

pub returns-then-grant-eq0-clause-after : goal.returns-then-grant-eq0-clause-after
returns-then-grant-eq0-clause-after c =
    let a = c.args in
    let e : c.shown_at-grant.result.ticket ≡ (shown_at a.answer.now c.loop-k.k).ticket = ap (λ s. s.ticket) c.shown_at-grant.ensures in
    no_more a.to.now.bytes a.number a.disk a.answer.now c.told-answer c.loop-k.to.bytes c.loop-k.k c.loop-k.invariant (omega arith)
    (omega arith)
