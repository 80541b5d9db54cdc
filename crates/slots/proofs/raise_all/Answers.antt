-- The claims before i are raised, and those from i on stand as they were.
use Rattle.std.proofs.Common.{ℕ, ◌<◌, false, List, ap, ◌∙◌, arith, length, get_or, set}
use Rattle.law.specs.declared.Claim.{Claim}
use Rattle.law.specs.declared.Entry.{Entry}
use Rattle.law.specs.Entries.{entry_by, kind_at, kind_of}
use Rattle.law.specs.Granting.{put_told}
use Rattle.law.specs.DiskType.{disk_table}
use Rattle.rules.specs.Rows.{no_claim}
use Rattle.rules.specs.Pairs.{lets_by}
use Rattle.part.specs.Layout.{slots}
use Rattle.part.specs.SlotLaws.{length_slots}
use Rattle.slots.specs.Slots.{raise_with, raise_by}
use Rattle.slots.specs.SlotsLaws.{raise_amount, to_back, to_step}
use Rattle.slots.proofs.raise_all.Goals as goal

pub raised-requires : goal.raised-requires
raised-requires c =
    let a = c.args in
    let i = c.loop-i.i in
    let x = c.slot_at-x.result in
    let h : i < a.n = c.loop-i-test.true in
    let q =
    c.slot_at-x.ensures
    ∙ ap (λ (cs : List Claim). get_or cs i no_claim) c.loop-i.invariant.1
    ∙ to_back (raise_with a.m a.raise) (slots 8 a.row.now) i i no_claim (omega arith) in
    ap (λ (e : Entry). lets_by e false x.amount x.error a.raise) c.entry.ensures
    ∙ ap (λ (w : Claim). lets_by (entry_by (kind_of disk_table w) (kind_at disk_table a.m)) false w.amount w.error a.raise) q
    ∙ c.requires.raisable i h

pub loop-i-preserved : goal.loop-i-preserved
loop-i-preserved c =
    let a = c.args in
    let i = c.loop-i.i in
    let f = raise_with a.m a.raise in
    let cs = slots 8 a.row.now in
    let old = slots 8 c.loop-i.row in
    let x = get_or old i no_claim in
    let amount =
    c.raised.ensures
    ∙ ap (λ (e : Entry). (raise_by c.slot_at-x.result e a.raise).amount) c.entry.ensures
    ∙ ap (λ (w : Claim). (f w).amount) c.slot_at-x.ensures in
    let h : i < length cs = omega (arith, length_slots 8 a.row.now, c.requires.n_bound, c.loop-i-test.true) in (
      c.put_amount.ensures.slots_2,
      c.put_amount.ensures.row_after
          ∙ ap (λ (y : ℕ). set old i (put_told x x.told y)) amount
          ∙ ap (λ (y : Claim). set old i y) (raise_amount x (entry_by (kind_of disk_table x) (kind_at disk_table a.m)) a.raise)
          ∙ ap (λ (l : List Claim). set l i (f (get_or l i no_claim))) c.loop-i.invariant.1
          ∙ to_step f cs i no_claim h,
    )
