use Rattle.std.proofs.Common.{◌≡◌, ◌≤◌, IsTrue, drop, map}
use Rattle.pg_expr.specs.Columns.{each_column_of}
use Rattle.pg_expr.specs.Typed.{AreTyped}
use Rattle.pg_expr.specs.work.View.{cond, conds}
use Rattle.path_cost.specs.declared.shares.TheConstants.{ALL_ROWS}
use Rattle.path_cost.specs.work.Columns.{is_column_in}
use Rattle.catalog.specs.Range.{type_in}
use Rattle.path_cost.specs.work.Relations.{range_of}
use Rattle.path_cost.specs.Selectivity.{of_all, of_any}
use Rattle.path_cost.proofs.conditions.+share.Given as goal

-- what is left, after the share so far, gives that of all
abbrev pub invariant-all_share-loop-part : goal.invariant-all_share-loop-part
invariant-all_share-loop-part l =
    let range = range_of l.relations in
    let rest = conds (drop l.part-index l.parts) in
    record {
      count : l.n ≡ l.part-index;
      share : of_all l.cat range (map cond l.parts) l.part-index l.all rest ≡ of_all l.cat range (map cond l.parts) 0 ALL_ROWS (conds l.parts);
      part : l.all ≤ 1000000000;
      columns : IsTrue (each_column_of (is_column_in l.cat range) rest);
      typed : AreTyped (type_in l.cat range) rest;
    }

abbrev pub invariant-any_share-loop-part : goal.invariant-any_share-loop-part
invariant-any_share-loop-part l =
    let range = range_of l.relations in
    let rest = conds (drop l.part-index l.parts) in
    record {
      share : of_any l.cat range l.any rest ≡ of_any l.cat range 0 (conds l.parts);
      part : l.any ≤ 1000000000;
      columns : IsTrue (each_column_of (is_column_in l.cat range) rest);
      typed : AreTyped (type_in l.cat range) rest;
    }
