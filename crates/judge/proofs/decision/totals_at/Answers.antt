-- The totals so far, with the claims that are left, make the totals of all.
use Rattle.std.proofs.Common.{◌∷◌, ◌+◌, ap, sym, ◌∙◌, arith, drop}
use Rattle.law.specs.declared.Claim.{Claim}
use Rattle.rules.specs.declared.totals.Totals.{Totals}
use Rattle.rules.specs.RowLaws.{left_on, left_end}
use Rattle.rules.proofs.TotalsLaws.{sum_is, sum_within, totals_on, totals_end}
use Rattle.part.specs.Layout.{decode}
use Rattle.part.specs.PartLaws.{disk_good, adds_most}
use Rattle.judge.specs.Decisions.{actives_in}
use Rattle.judge.proofs.decision.totals_at.Goals as goal

pub slot_at-requires : goal.slot_at-requires
slot_at-requires c = let good = disk_good c.requires in omega (arith, good.active.few)

pub with_claim-t-requires : goal.with_claim-t-requires
with_claim-t-requires c =
    let ws = actives_in (decode c.args.s.now) in
    omega (
      arith,
      sum_within c.loop-i.t (drop c.loop-i.i ws),
      ap (λ (t : Totals). t.sum) c.loop-i.invariant,
      sum_is ws,
      adds_most c.fits-s c.requires,
    )

pub loop-i-preserved : goal.loop-i-preserved
loop-i-preserved c =
    let ws = actives_in (decode c.args.s.now) in
    totals_on c.loop-i.t
    (left_on (disk_good c.requires).active c.loop-i.i (omega arith)
    ∙ ap (λ (y : Claim). y ∷ drop (c.loop-i.i + 1) ws) (sym c.slot_at.ensures))
    c.with_claim-t.ensures
    ∙ c.loop-i.invariant

pub returns : goal.returns
returns c = totals_end c.loop-i.t (left_end (disk_good c.requires).active c.loop-i.i (omega arith)) ∙ c.loop-i.invariant
