use Rattle.std.proofs.Common.{◌∙◌, ap, map, refl}
use Rattle.pg_expr.specs.work.View.{cond}
use Rattle.worked_plans.proofs.ClauseLemmas.{no-clause}
use Rattle.worked_plans.proofs.scans.no_classes.Goals as goal

pub returns : goal.returns
returns c =
    no-clause _ c.in_ok-classes.classes c.in_ok-classes.ensures.table (ap (λ v. map cond v.items) c.from_vec.ensures ∙ ap (map cond) c.new.ensures.items) refl
