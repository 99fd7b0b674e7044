use Rattle.std.proofs.Common.{◌∙◌, length, sym, ap, arith, subst, ◌≤◌}
use Rattle.std.proofs.lemmas.List.Elements.{All-map}
use Rattle.eq_classes.specs.Clauses.{Clause}
use Rattle.exact_rows.specs.Rows.{share_kept}
use Rattle.path_cost.specs.work.Columns.{IsOver}
use Rattle.path_cost.specs.work.Estimates.{either}
use Rattle.path_cost.specs.Ranges.{conditions}
use Rattle.path_cost.proofs.KeptLemmas.{kept-no, kept-yes, share-some}
use Rattle.path_cost.proofs.estimates.left_of.Goals.{then-is_in_either, else-is_in_either}
use Rattle.path_cost.proofs.estimates.left_of.Goals as goal

pub weight-requires-clause-over : goal.weight-requires-clause-over
weight-requires-clause-over c =
    All-map (IsOver c.args.cat.now c.args.range.now) (λ (k : Clause). k.cond) c.args.classes.now.clauses c.requires.clauses

pub loop-n-preserved : goal.loop-n-preserved
loop-n-preserved c =
    let es = conditions c.args.classes.now in
    let set = either c.args.one.now c.args.other.now in
    let len = length c.args.classes.now.clauses in
    elim c.if-is_in_either.branch [
      | then-is_in_either w ↦ record {
        rows = sym (kept-yes c.args.cat.now c.args.range.now es set len c.loop-n.n c.loop-n.left c.if-is_in_either.left
            (omega (arith, c.loop-n-test.true, c.count-n-end.ensures.count)) (sym c.is_in_either.ensures ∙ w.if-is_in_either.true)
            (w.left-is ∙ w.keep.ensures.rows ∙ ap (share_kept c.loop-n.left) w.weight.ensures.weight))
            ∙ c.loop-n.invariant.rows;
        some = share-some c.loop-n.left w.weight.result c.if-is_in_either.left (w.left-is ∙ w.keep.ensures.rows);
      }
      | else-is_in_either w ↦ record {
        rows = sym (kept-no c.args.cat.now c.args.range.now es set len c.loop-n.n c.loop-n.left c.if-is_in_either.left
            (omega (arith, c.loop-n-test.true, c.count-n-end.ensures.count)) (sym c.is_in_either.ensures ∙ w.if-is_in_either.false) w.left-is)
            ∙ c.loop-n.invariant.rows;
        some = subst (λ x. 1 ≤ x) (sym w.left-is) c.loop-n.invariant.some;
      }
    ]
