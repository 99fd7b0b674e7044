use Rattle.std.proofs.Common.{◌∙◌}
use Rattle.std.proofs.lemmas.Result.{IfOk-weaker}
use Rattle.pg_base.specs.Sets.{has}
use Rattle.pg_expr.specs.work.AtomSets.{contains}
use Rattle.scan_exec.proofs.ClauseLemmas.{both_are}
use Rattle.scan_exec.proofs.scene.Scene.clauses.Goals as goal

pub returns : goal.returns
returns g c =
    let s = c.args.self.now in
    IfOk-weaker c.chosen.result _ _
    (λ v h. h ∙ both_are s.q.now.classes c.classes_of-classes.result.now c.classes_of-classes.ensures s.rel.0 (has s.param.0) c.count.result c.count.ensures.count
    (contains c.base_clauses-base.result) (contains c.param_clauses-param.result) (contains c.either-both.result)
    c.base_clauses-base.ensures c.param_clauses-param.ensures c.either-both.ensures)
    c.chosen.ensures
