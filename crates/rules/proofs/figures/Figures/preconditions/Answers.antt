-- Each answer is the four tests at the kind of the claim's method, of which at most two are not plainly true.
use Rattle.std.proofs.Common.{◌+◌, ◌<◌, ◌≤◌, sym, ◌∙◌, arith, w32, rules}
use mir.Facts.{to_z-of_z}
use mir.Val.{SFits}
use Rattle.law.specs.Entries.{kind_at}
use Rattle.law.specs.DiskType.{disk_table}
use Rattle.rules.specs.Methods.{in_law, pre_of}
use Rattle.rules.proofs.RuleLaws.{pre_over, pre_adds, pre_carries, pre_reads, pre_sets}
use Rattle.rules.proofs.figures.Figures.preconditions.Goals as goal

pub returns-then-from : goal.returns-then-from
unfolding pre_of
returns-then-from c =
    let a = c.args in
    let add = sym c.is_add.ensures ∙ c.if-is_add.true in
    let over : c.written-a.result.limit < c.written-a.result.amount + a.c.error = omega arith in
    sym (pre_over (in_law a.self.now) a.now a.adds a.c (kind_at disk_table a.c.method) add (rw c.written-a.ensures at over))

pub returns-then-is_add : goal.returns-then-is_add
unfolding pre_of
returns-then-is_add c =
    let a = c.args in
    let add = sym c.is_add.ensures ∙ c.if-is_add.true in
    let within : c.written-a.result.amount + a.c.error ≤ c.written-a.result.limit = omega arith in
    let e = pre_adds (in_law a.self.now) a.now a.adds a.c (kind_at disk_table a.c.method) add (rw c.written-a.ensures at within) in
    let own : SFits w32 a.c.value = search rules in
    let old : SFits w32 c.written-a.result.value = search rules in
    rw (
      c.from-then-is_add-3.ensures,
      c.size.ensures.value,
      to_z-of_z old,
      c.from-then-is_add-4.ensures,
      c.size-then-is_add.ensures.value,
      to_z-of_z own,
      c.from-then-is_add-5.ensures,
      c.written-a.ensures,
    )
    (sym e)

pub returns-then-from-carried : goal.returns-then-from-carried
unfolding pre_of
returns-then-from-carried c =
    let a = c.args in
    let reading = sym c.is_reading.ensures ∙ c.if-is_reading.true in
    let over : a.c.error < c.carried.result = omega arith in
    sym (pre_carries (in_law a.self.now) a.now a.adds a.c (kind_at disk_table a.c.method) reading (rw c.carried.ensures.value at over))

pub returns-then-is_reading : goal.returns-then-is_reading
unfolding pre_of
returns-then-is_reading c =
    let a = c.args in
    let reading = sym c.is_reading.ensures ∙ c.if-is_reading.true in
    let bears : c.carried.result ≤ a.c.error = omega arith in
    c.fresh.ensures
    ∙ sym (pre_reads (in_law a.self.now) a.now a.adds a.c (kind_at disk_table a.c.method) reading (rw c.carried.ensures.value at bears))

pub returns : goal.returns
unfolding pre_of
returns c =
    let a = c.args in
    let reading = sym c.is_reading.ensures ∙ c.if-is_reading.false in
    let add = sym c.is_add.ensures ∙ c.if-is_add.false in
    sym (pre_sets (in_law a.self.now) a.now a.adds a.c (kind_at disk_table a.c.method) reading add)
