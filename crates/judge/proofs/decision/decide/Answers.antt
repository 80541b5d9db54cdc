-- Four tests: where one fails the claim is not granted, by DecideLaws; where all pass, the total is the law's.
use Rattle.std.proofs.Common.{ℕ, List, ◌<◌, ◌≤◌, ◌≡◌, length, sym, ap, ◌∙◌, arith, take}
use Rattle.num.specs.Word.{Bytes}
use Rattle.law.specs.declared.Claim.{Claim}
use Rattle.law.specs.Types.{a1}
use Rattle.law.specs.Granting.{adds_on}
use Rattle.law.specs.DiskType.{disk_table}
use Rattle.rules.specs.RowLaws.{row_length}
use Rattle.rules.specs.declared.totals.Totals.{Totals}
use Rattle.rules.specs.Totals.{totals_of}
use Rattle.rules.specs.Pairs.{add_of}
use Rattle.rules.specs.Disks.{figures_in}
use Rattle.rules.proofs.TotalsLaws.{sum_is}
use Rattle.part.specs.Layout.{decode}
use Rattle.part.specs.Held.{HoldsDisk}
use Rattle.part.specs.PartLaws.{disk_good, adds_most}
use Rattle.judge.specs.Decisions.{actives_in}
use Rattle.judge.proofs.DecideLaws.{full_waits, waits, not_fit, not_free, stuck, too_much, grants}
use Rattle.judge.proofs.decision.decide.Goals as goal

-- ---- the totals handed in

sum_law : (ws : List Claim) {t : Totals} → t ≡ totals_of ws → t.sum ≡ adds_on disk_table a1 ws
unfolding add_of
sum_law ws h = ap (λ (t : Totals). t.sum) h ∙ sum_is ws

small : {s : List ℕ} {t : Totals} → Bytes s → HoldsDisk s → t ≡ totals_of (actives_in (decode s)) → t.sum ≤ 17_179_869_184
small {s} b h e = omega (arith, ap (λ (t : Totals). t.sum) e ∙ sum_is (actives_in (decode s)), adds_most b h)

-- ---- the answers

pub returns-then-count_at-ge-PLACES : goal.returns-then-count_at-ge-PLACES
returns-then-count_at-ge-PLACES c =
    let d = decode c.args.s.now in
    let ahead = take c.args.ahead d.waiting in
    waits (figures_in d) c.args.second (actives_in d) ahead c.args.c
    (full_waits (figures_in d) c.args.second (actives_in d) ahead c.args.c
    (omega (arith, row_length (disk_good c.requires.holds_disk).active)))

pub preconditions-requires : goal.preconditions-requires
preconditions-requires c = omega (arith, small c.fits-s c.requires.holds_disk c.requires.t_value)

pub returns-then-not-preconditions : goal.returns-then-not-preconditions
returns-then-not-preconditions c =
    let d = decode c.args.s.now in
    let pre = rw c.figures_at-f.ensures at c.preconditions.ensures in
    not_fit (figures_in d) c.args.second (actives_in d) (take c.args.ahead d.waiting) c.args.c (sum_law (actives_in d) c.requires.t_value)
    (sym pre ∙ c.if-not-preconditions.true)

pub barred-requires-clause-adds_bound : goal.barred-requires-clause-adds_bound
barred-requires-clause-adds_bound c = small c.fits-s c.requires.holds_disk c.requires.t_value

pub returns-then-barred : goal.returns-then-barred
returns-then-barred c =
    let d = decode c.args.s.now in
    not_free (figures_in d) c.args.second (actives_in d) (take c.args.ahead d.waiting) c.args.c (sum_law (actives_in d) c.requires.t_value)
    (sym c.barred.ensures ∙ c.if-barred.true)

pub returns-in_err-sum : goal.returns-in_err-sum
returns-in_err-sum c =
    let d = decode c.args.s.now in
    c.from_residual.ensures
    ∙ stuck (figures_in d) c.args.second (actives_in d) (take c.args.ahead d.waiting) c.args.c c.in_err-sum.ensures.value

pub returns-then-total-from : goal.returns-then-total-from
returns-then-total-from c =
    let d = decode c.args.s.now in
    let few : length (actives_in d) < 8 = omega (arith, row_length (disk_good c.requires.holds_disk).active) in
    let pre = rw c.figures_at-f.ensures at c.preconditions.ensures in
    let start = rw c.figures_at-f.ensures at c.start.ensures.value in
    let limit = rw c.figures_at-f.ensures at c.limit.ensures in
    grants (figures_in d) c.args.second (actives_in d) (take c.args.ahead d.waiting) c.args.c
    (sum_law (actives_in d) c.requires.t_value) few (sym pre ∙ c.if-not-preconditions.false) (sym c.barred.ensures ∙ c.if-barred.false)
    c.in_ok-sum.ensures.value start limit (omega arith)

pub returns-else-total-from : goal.returns-else-total-from
returns-else-total-from c =
    let d = decode c.args.s.now in
    let start = rw c.figures_at-f.ensures at c.start.ensures.value in
    let limit = rw c.figures_at-f.ensures at c.limit.ensures in
    too_much (figures_in d) c.args.second (actives_in d) (take c.args.ahead d.waiting) c.args.c
    c.in_ok-sum.ensures.value start limit (omega arith)
