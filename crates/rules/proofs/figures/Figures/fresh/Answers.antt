-- A reading with the flag is fresh where none of the attributes that it reads is stale.
use Rattle.std.proofs.Common.{◌≡◌, ℕ, not, [], ◌∷◌, sym}
use mathlib.Core.Bool.{and-true}
use Rattle.law.specs.Base.{all_true}
use Rattle.law.specs.Types.{a0, a1, a2, Figures}
use Rattle.law.specs.Entries.{kind_at}
use Rattle.law.specs.DiskType.{disk_table}
use Rattle.rules.specs.Methods.{read_mask, in_law, fresh_at}
use Rattle.rules.proofs.RuleLaws.{stale_in, fresh_unasked, fresh_asked}
use Rattle.rules.proofs.figures.Figures.fresh.Goals as goal

-- With the flag the answer is that of three tests.
tests : (f : Figures) (now m flag : ℕ) → (flag ≡ 0 → ⊥) →
    fresh_at f now (kind_at disk_table m) flag
    ≡ all_true
    (not (stale_in f now flag (read_mask m) a0)
    ∷ not (stale_in f now flag (read_mask m) a1)
    ∷ not (stale_in f now flag (read_mask m) a2)
    ∷ [])
unfolding read_mask
tests f now m flag h = fresh_asked f now (kind_at disk_table m) flag h

pub returns-then-flag-eq0 : goal.returns-then-flag-eq0
returns-then-flag-eq0 c =
    let a = c.args in
    sym (fresh_unasked (in_law a.self.now) a.now (kind_at disk_table a.m) a.flag c.if-flag-eq0.true)

pub returns-then-stale : goal.returns-then-stale
returns-then-stale c =
    let a = c.args in
    let s0 = sym (rw (c.bit.ensures, c.reads-mask.ensures) at c.stale.ensures) in
    rw (tests (in_law a.self.now) a.now a.m a.flag c.if-flag-eq0.false, s0, c.if-stale.true)

pub returns-then-stale-2 : goal.returns-then-stale-2
returns-then-stale-2 c =
    let a = c.args in
    let s0 = sym (rw (c.bit.ensures, c.reads-mask.ensures) at c.stale.ensures) in
    let s1 = sym (rw (c.bit-2.ensures, c.reads-mask.ensures) at c.stale-2.ensures) in
    rw (
      tests (in_law a.self.now) a.now a.m a.flag c.if-flag-eq0.false,
      s0,
      c.if-stale.false,
      s1,
      c.if-stale-2.true,
    )

pub returns : goal.returns
returns c =
    let a = c.args in
    let s0 = sym (rw (c.bit.ensures, c.reads-mask.ensures) at c.stale.ensures) in
    let s1 = sym (rw (c.bit-2.ensures, c.reads-mask.ensures) at c.stale-2.ensures) in
    let s2 = sym (rw (c.bit-3.ensures, c.reads-mask.ensures) at c.stale-3.ensures) in
    rw (
      tests (in_law a.self.now) a.now a.m a.flag c.if-flag-eq0.false,
      s0,
      c.if-stale.false,
      s1,
      c.if-stale-2.false,
      s2,
      and-true,
    )
