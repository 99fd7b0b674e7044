use Rattle.std.proofs.Common.{◌∙◌}
use Rattle.std.proofs.lemmas.Result.{IfOk-weaker}
use Rattle.pg_expr.specs.work.AtomSets.{contains}
use Rattle.eq_classes.specs.Parts.{is_base}
use Rattle.scan_probes.proofs.PickedLemmas.{chosen-are as chosen_are}
use Rattle.scan_exec.proofs.scene.Scene.base.Goals as goal

pub returns : goal.returns
returns g c =
    let s = c.args.self.now in
    IfOk-weaker c.chosen.result _ _
    (λ v h. h ∙ chosen_are s.q.now.classes c.classes_of-classes.result.now c.classes_of-classes.ensures (is_base s.rel.0) (contains c.base_clauses-base.result) c.base_clauses-base.ensures)
    c.chosen.ensures
