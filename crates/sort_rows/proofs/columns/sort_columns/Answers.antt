use Rattle.std.proofs.Common.{ap, ◌∙◌, Vec, Global}
use Rattle.pg_base.specs.Sets.{has}
use Rattle.sort_rows.specs.declared.columns.SortColumn.{SortColumn}
use Rattle.sort_rows.proofs.ColumnLemmas.{columns_pushed, columns_passed}
use Rattle.sort_rows.proofs.columns.sort_columns.Goals.{in-Some+in_ok-push, in_default}
use Rattle.sort_rows.proofs.columns.sort_columns.Goals as goal

pub loop-key-preserved : goal.loop-key-preserved
loop-key-preserved c = elim c.match-sort_column.branch [
  | in-Some+in_ok-push w ↦
      ap (λ (v : Vec SortColumn Global). v.items) w.columns-is ∙ w.in_ok-push.ensures.items
      ∙ columns_pushed c.args.classes.now (has c.args.set.0) c.args.keys.now c.loop-key.key-index _ c.loop-key-test.true c.loop-key.columns.items c.loop-key.invariant w.in-Some.column w.in-Some.ensures
  | in_default w ↦
      ap (λ (v : Vec SortColumn Global). v.items) w.columns-is
      ∙ columns_passed c.args.classes.now (has c.args.set.0) c.args.keys.now c.loop-key.key-index _ c.loop-key-test.true c.loop-key.columns.items c.loop-key.invariant w.in_default.ensures
]
