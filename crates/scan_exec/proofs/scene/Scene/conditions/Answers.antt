use Rattle.std.proofs.Common.{◌∙◌, ap}
use Rattle.std.proofs.lemmas.Result.{IfOk-weaker}
use Rattle.pg_base.specs.Sets.{has}
use Rattle.pg_expr.specs.work.AtomSets.{contains}
use Rattle.eq_classes.specs.Clauses.{ClassTable}
use Rattle.path_cost.specs.Estimates.{conditions_from}
use Rattle.plan_tree.proofs.ConditionLemmas.{names-listed}
use Rattle.scan_exec.proofs.scene.Scene.conditions.Goals as goal

pub returns : goal.returns
returns g c =
    let s = c.args.self.now in
    IfOk-weaker c.chosen.result _ _
    (λ v h. h ∙ ap (λ (t : ClassTable). conditions_from 0 (contains c.conditions_found-found.result) t.clauses) c.classes_of.ensures
    ∙ names-listed s.cat.now s.q.now.classes c.args.i s.rel.0 (has s.param.0) (contains c.conditions_found-found.result) c.conditions_found-found.ensures)
    c.chosen.ensures
