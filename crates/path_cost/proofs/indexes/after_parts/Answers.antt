use Rattle.std.proofs.Common.{◌∙◌, ◌≤◌, length, map, sym, ap, arith, subst}
use Rattle.std.proofs.lemmas.List.{length-map}
use Rattle.std.proofs.lemmas.List.Elements.{All-map}
use Rattle.pg_expr.specs.work.AtomSets.{contains}
use Rattle.pg_expr.specs.work.View as view
use Rattle.exact_rows.specs.Rows.{share_kept}
use Rattle.path_cost.specs.work.Columns.{IsOver}
use Rattle.path_cost.proofs.KeptLemmas.{kept-no, kept-yes, share-some}
use Rattle.path_cost.proofs.indexes.after_parts.Goals.{then-has, else-has}
use Rattle.path_cost.proofs.indexes.after_parts.Goals as goal

pub weight-requires-clause-over : goal.weight-requires-clause-over
weight-requires-clause-over c = All-map (IsOver c.args.cat.now c.args.range.now) view.cond c.args.parts.now c.requires.over

pub loop-n-preserved : goal.loop-n-preserved
loop-n-preserved c =
    let es = map view.cond c.args.parts.now in
    let set = contains c.args.chosen.now in
    elim c.if-has.branch [
      | then-has w ↦ record {
        rows = sym (kept-yes c.args.cat.now c.args.range.now es set (length es) c.loop-n.n c.loop-n.left c.if-has.left
            (omega (arith, c.loop-n-test.true, length-map c.args.parts.now view.cond)) (sym c.has.ensures ∙ w.if-has.true)
            (w.left-is ∙ w.keep.ensures.rows ∙ ap (share_kept c.loop-n.left) w.weight.ensures.weight))
            ∙ c.loop-n.invariant.rows;
        some = share-some c.loop-n.left w.weight.result c.if-has.left (w.left-is ∙ w.keep.ensures.rows);
      }
      | else-has w ↦ record {
        rows = sym (kept-no c.args.cat.now c.args.range.now es set (length es) c.loop-n.n c.loop-n.left c.if-has.left
            (omega (arith, c.loop-n-test.true, length-map c.args.parts.now view.cond)) (sym c.has.ensures ∙ w.if-has.false) w.left-is)
            ∙ c.loop-n.invariant.rows;
        some = subst (λ x. 1 ≤ x) (sym w.left-is) c.loop-n.invariant.some;
      }
    ]
