-- What the tests before the decision find, the decision, and whether there is a place to wait say which answer is the law's.
-- What is read is what `decode` has there.
use Rattle.std.proofs.Common.{ℕ, ◌≡◌, List, Some, Ok, take, sym, ap, ◌∙◌, arith, w32, w64, to_z-of_z}
use mir.Val.{SFits}
use Rattle.num.specs.Metric.{size}
use Rattle.law.specs.declared.Claim.{Claim}
use Rattle.answer.specs.declared.Answer.TheVariants as A
use Rattle.rules.specs.RowLaws.{row_length}
use Rattle.rules.specs.Disks.{figures_in, disk_of}
use Rattle.rules.specs.Answers.{NewOn, first_refusal, first_rules, core_at, TakesGrant}
use Rattle.rules.proofs.CallLaws.{passed_none, answer_refused, answer_granted, answer_full, answer_waits, takes_grant}
use Rattle.part.specs.Layout.{decode}
use Rattle.part.specs.Held.{HoldsSound}
use Rattle.part.specs.PartLaws.{disk_good}
use Rattle.judge.specs.Decisions.{decided}
use Rattle.judge.proofs.DecideLaws.{says_granted, says_waits}
use Rattle.judge.proofs.judged.Goals as goal

-- What the grant wants, where no test refuses.
takes : {s : List ℕ} (h : HoldsSound s) (second : ℕ) (c : Claim) → NewOn (disk_of (decode s)) c →
    Ok tt ≡ first_refusal (first_rules (figures_in (decode s)) (decode s).clock second c) → {total : ℕ} →
    Some total ≡ decided (core_at (decode s) second) (take (decode s).waitings (decode s).waiting) c → TakesGrant (decode s) second c total
takes {s} h second c new passed {total} is =
    let d = decode s in
    let says = says_granted (core_at d second) (take d.waitings d.waiting) c is in
    takes_grant d second c (passed_none (disk_of d) second c new passed) total (disk_good h.disk) h.sound says.0 (sym says.1)

pub returns-in-Err : goal.returns-in-Err
returns-in-Err c =
    let d = decode c.args.s.now in
    let refused = rw (c.figures_at-f.ensures, c.clock_at.ensures) at c.in-Err.ensures in
    answer_refused (disk_of d) c.args.second c.args.c c.requires.new_on refused

pub decide-requires-clause-ahead_bound : goal.decide-requires-clause-ahead_bound
decide-requires-clause-ahead_bound c = let good = disk_good c.requires.holds_sound.disk in omega (arith, good.waiting.few)

pub narrow-requires : goal.narrow-requires
narrow-requires c =
    let passed = rw (c.figures_at-f.ensures, c.clock_at.ensures) at c.in_default.ensures in
    let total = rw c.count_at-waitings.ensures at c.in-Some.ensures in
    let takes = takes c.requires.holds_sound c.args.second c.args.c c.requires.new_on passed total in
    let told = rw c.figures_at-f.ensures at c.told.ensures.value in
    let fits : SFits w64 c.told.result = record { sfits = c.told.type_inv } in
    rw (to_z-of_z fits) (omega (arith, ap size told, takes.told))

pub overflow_cast-result : goal.overflow_cast-result
overflow_cast-result c =
    let passed = rw (c.figures_at-f.ensures, c.clock_at.ensures) at c.in_default.ensures in
    let total = rw c.count_at-waitings.ensures at c.in-Some.ensures in
    let takes = takes c.requires.holds_sound c.args.second c.args.c c.requires.new_on passed total in
    record { fits = omega (arith, takes.few) }

pub returns-in-Some : goal.returns-in-Some
returns-in-Some c =
    let d = decode c.args.s.now in
    let passed = rw (c.figures_at-f.ensures, c.clock_at.ensures) at c.in_default.ensures in
    let total = rw c.count_at-waitings.ensures at c.in-Some.ensures in
    let says = says_granted (core_at d c.args.second) (take d.waitings d.waiting) c.args.c total in
    let told = rw c.figures_at-f.ensures at c.told.ensures.value in
    let wide : SFits w64 c.told.result = record { sfits = c.told.type_inv } in
    let fits : SFits w32 c.narrow.result = record { sfits = c.narrow.type_inv } in
    let tells = to_z-of_z fits ∙ c.narrow.ensures ∙ to_z-of_z wide ∙ told in
    (λ i. A.Granted c.args.c.ticket (tells i) (sym says.1 i))
    ∙ answer_granted (disk_of d) c.args.second c.args.c c.requires.new_on passed says.0

pub returns-then-waitings-ge-PLACES : goal.returns-then-waitings-ge-PLACES
returns-then-waitings-ge-PLACES c =
    let d = decode c.args.s.now in
    let passed = rw (c.figures_at-f.ensures, c.clock_at.ensures) at c.in_default.ensures in
    let none = rw c.count_at-waitings.ensures at c.in_default-decide.ensures in
    answer_full (disk_of d) c.args.second c.args.c c.requires.new_on passed
    (says_waits (core_at d c.args.second) (take d.waitings d.waiting) c.args.c none)
    (omega (arith, row_length (disk_good c.requires.holds_sound.disk).waiting))

pub returns : goal.returns
returns c =
    let d = decode c.args.s.now in
    let passed = rw (c.figures_at-f.ensures, c.clock_at.ensures) at c.in_default.ensures in
    let none = rw c.count_at-waitings.ensures at c.in_default-decide.ensures in
    answer_waits (disk_of d) c.args.second c.args.c c.requires.new_on passed
    (says_waits (core_at d c.args.second) (take d.waitings d.waiting) c.args.c none)
    (omega (arith, row_length (disk_good c.requires.holds_sound.disk).waiting))
