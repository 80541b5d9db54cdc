-- The constant table follows the rule by kinds; a method that there is not reads nothing, and its entries are A.
use Rattle.std.proofs.Common.{sym, ◌∙◌, ltb-true, ltb-false}
use Rattle.law.specs.DiskType.{disk_entries}
use Rattle.law.proofs.TableLaws.{disk_entry}
use Rattle.rules.proofs.EntryLaws.{entry_row_past, entry_col_past}
use Rattle.rules.proofs.method.entry.Goals as goal
use Rattle.rules.proofs.method.entry.Goals.{else-is_known-via-then-is_known+else-is_known-2, else-is_known-via-else-is_known}

pub returns-then-is_known-2 : goal.returns-then-is_known-2
unfolding disk_entries
returns-then-is_known-2 c =
    disk_entry c.args.row c.args.col
    (ltb-true c.args.row 7 (sym c.is_known.ensures ∙ c.if-is_known.true))
    (ltb-true c.args.col 7 (sym c.is_known-then-is_known.ensures ∙ c.if-is_known-2.true))

pub returns : goal.returns
returns c =
    elim c.else-is_known.branch [
      | else-is_known-via-then-is_known+else-is_known-2 w ↦
          entry_col_past c.args.row c.args.col (ltb-false c.args.col 7 (sym w.is_known-then-is_known.ensures ∙ w.if-is_known-2.false))
      | else-is_known-via-else-is_known w ↦
          entry_row_past c.args.row c.args.col (ltb-false c.args.row 7 (sym c.is_known.ensures ∙ w.if-is_known.false))
    ]
