-- The decision says which turn it is: a grant, with its item behind the others, or a place among those that wait.
use Rattle.std.proofs.Common.{ℕ, Bool, true, false, cond, ◌||◌, leb, ◌≡◌, Some, None, refl, sym, ⊎_elim, arith}
use Rattle.std.proofs.lemmas.Bool.{leb-true, or_cases}
use Rattle.std.proofs.lemmas.Option.{cond_some}
use Rattle.law.specs.declared.Claim.{Claim}
use Rattle.law.specs.Granting.{granted, total}
use Rattle.law.proofs.GrantLaws.{grant_says}
use Rattle.law.specs.DiskType.{disk_table}
use Rattle.rules.specs.RowLaws.{row_length}
use Rattle.rules.specs.Pairs.{core_of}
use Rattle.rules.specs.Totals.{totals_of, keep_out}
use Rattle.rules.proofs.TotalsLaws.{one_never}
use Rattle.rules.specs.declared.disk.Disk.{Disk}
use Rattle.rules.specs.Disks.{figures_in, core_in, Good}
use Rattle.part.specs.Layout.{decode}
use Rattle.part.specs.PartLaws.{disk_good}
use Rattle.judge.specs.Decisions.{actives_in, decided}
use Rattle.judge.proofs.DecideLaws.{full_waits, never_waits}
use Rattle.pass.specs.Turns.{front}
use Rattle.pass.proofs.PassLaws.{told_fits, total_most}
use Rattle.pass.proofs.turn.Goals as goal

module _ (d : Disk) (k : ℕ) (c : Claim) where
  -- With eight active, or one whose entry is N, it is not granted.
  stuck : Good d → (leb 8 d.actives || keep_out (totals_of (actives_in d)) c.method) ≡ true →
      granted disk_table (core_in d) (front d k) c ≡ false
  stuck good h =
      let ws = actives_in d in
      ⊎_elim
      (λ full. sym (full_waits (figures_in d) d.clock ws (front d k) c (omega (arith, row_length good.active, leb-true 8 d.actives full))))
      (λ never. sym (never_waits (figures_in d) d.clock ws (front d k) c (one_never c ws never)))
      (or_cases (leb 8 d.actives) (keep_out (totals_of ws) c.method) h)

  -- The decision at the clock that is read: it is granted, with its total; or it is not.
  module _ {now : ℕ} (n : now ≡ d.clock) where
    grants : {sum : ℕ} → Some sum ≡ decided (core_of (figures_in d) now (actives_in d)) (front d k) c →
        (granted disk_table (core_in d) (front d k) c ≡ true) × (total disk_table (core_in d) c ≡ sum)
    unfolding decided
    grants v = cond_some (granted disk_table (core_in d) (front d k) c) (total disk_table (core_in d) c) _ (sym (rw n at v))

    waits : None ≡ decided (core_of (figures_in d) now (actives_in d)) (front d k) c → granted disk_table (core_in d) (front d k) c ≡ false
    unfolding decided
    waits v = go (granted disk_table (core_in d) (front d k) c) (rw n at v)
      where
        go : (b : Bool) → None ≡ cond b (Some (total disk_table (core_in d) c)) None → b ≡ false
        go true h = cc
        go false h = refl

pub returns-then-count_at-keep_out-clause-turned : goal.returns-then-count_at-keep_out-clause-turned
returns-then-count_at-keep_out-clause-turned c =
    let e = rw (c.count_at.ensures, c.keep_out.ensures, c.requires.t_value) at c.if-count_at-keep_out.true in
    let no = stuck (decode c.args.s.now) c.args.k c.slot_at-m.result (disk_good c.requires.holds_disk) e in
    rw (← c.slot_at-m.ensures, no) (c.keep.ensures.value, c.keep.ensures.s_after, refl)

pub overflow_cast-total : goal.overflow_cast-total
overflow_cast-total c =
    let d = decode c.args.s.now in
    let x = c.slot_at-c.result in
    let g = grants d c.args.k x c.clock_at.ensures c.in-Some.ensures in
    let may = grant_says disk_table (core_in d) (front d c.args.k) x g.0 in
    record { fits = omega (arith, total_most d c.args.i c.requires.turn_fits x c.slot_at-c.ensures may, g.1) }

pub give-requires-clause-may_grant : goal.give-requires-clause-may_grant
give-requires-clause-may_grant c =
    let d = decode c.args.s.now in
    let x = c.slot_at-c.result in
    grant_says disk_table (core_in d) (front d c.args.k) x (grants d c.args.k x c.clock_at.ensures c.in-Some.ensures).0

pub give-requires-clause-told_fits : goal.give-requires-clause-told_fits
give-requires-clause-told_fits c = told_fits (decode c.args.s.now) c.args.i c.requires.turn_fits c.slot_at-c.result

pub give-requires-clause-total_value : goal.give-requires-clause-total_value
give-requires-clause-total_value c =
    sym (grants (decode c.args.s.now) c.args.k c.slot_at-c.result c.clock_at.ensures c.in-Some.ensures).1

pub returns-in-Some-clause-turned : goal.returns-in-Some-clause-turned
returns-in-Some-clause-turned c =
    let g = grants (decode c.args.s.now) c.args.k c.slot_at-c.result c.clock_at.ensures c.in-Some.ensures in
    let e = c.slot_at-c.ensures in
    rw (← e, g.0) (refl, rw e at c.give.ensures.disk_is, rw e at c.give.ensures.answer_after)

pub returns-clause-turned : goal.returns-clause-turned
returns-clause-turned c =
    let no = waits (decode c.args.s.now) c.args.k c.slot_at-c.result c.clock_at.ensures c.in_default.ensures in
    rw (← c.slot_at-c.ensures, no) (c.keep-2.ensures.value, c.keep-2.ensures.s_after, refl)
