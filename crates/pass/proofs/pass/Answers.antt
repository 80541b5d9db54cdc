-- Where nothing waits nothing is done. Else what is left of the pass, over the disk so far, is the pass of the law: each turn keeps
-- it, by PassLaws, and the totals are those of the active claims so far.
use Rattle.std.proofs.Common.{sym, ap, ◌∙◌, arith, rules}
use Rattle.num.specs.Word.{Bytes}
use Rattle.part.specs.Layout.{decode}
use Rattle.part.specs.Held.{part_for}
use Rattle.part.specs.PartLaws.{disk_good, sound_part_lem, part_held}
use Rattle.pass.proofs.PassLaws.{turn_fits, run_start, run_turn, run_disk, run_behind, idle_disk, idle_behind}
use Rattle.pass.proofs.pass.Goals as goal

-- ---- nothing waits

pub returns-then-n-eq0-clause-s_after : goal.returns-then-n-eq0-clause-s_after
returns-then-n-eq0-clause-s_after c =
    let s = c.args.s.now in
    let h = c.requires.holds_sound in
    let b : Bytes s = λ k. search rules in
    sym (part_held s b h.disk.long (sound_part_lem s h.disk.whole h.sound)) ∙ ap part_for (idle_disk (decode s) (omega arith))

pub returns-then-n-eq0-clause-behind : goal.returns-then-n-eq0-clause-behind
returns-then-n-eq0-clause-behind c = idle_behind (decode c.args.s.now) (omega arith) c.args.answer.now

-- ---- the walk

pub loop-i-init : goal.loop-i-init
loop-i-init c =
    let h = c.requires.holds_sound in
    record {
      holds = h.disk;
      run = run_start (decode c.args.s.now) c.args.answer.now (disk_good h.disk) h.sound;
      totals = c.totals_at-t.ensures;
    }

pub turn-waits-requires-clause-turn_fits : goal.turn-waits-requires-clause-turn_fits
turn-waits-requires-clause-turn_fits c = turn_fits c.loop-i.invariant.run.going (omega arith)

pub loop-i-preserved : goal.loop-i-preserved
loop-i-preserved c =
    record {
      holds = c.turn-waits.ensures.holds_disk_2;
      run = run_turn c.loop-i.invariant.run (omega arith) c.turn-waits.ensures.turned;
      totals = c.after_turn-t.ensures;
    }

pub returns-clause-s_after : goal.returns-clause-s_after
returns-clause-s_after c = c.close.ensures ∙ ap part_for (run_disk c.loop-i.invariant.run (omega arith))

pub returns-clause-behind : goal.returns-clause-behind
returns-clause-behind c = run_behind c.loop-i.invariant.run (omega arith)
