use Rattle.std.proofs.Common.{ap, ◌∙◌}
use Rattle.pg_expr.specs.Cond.{any_of}
use Rattle.pg_expr.specs.work.View.{conds}
use Rattle.expr_reader.proofs.PartLemmas.{cond-or, many-or}
use Rattle.expr_reader.proofs.expr.or_of.Goals as goal

pub returns-in-None : goal.returns-in-None
returns-in-None c = cond-or c.from_vec.result ∙ (ap (λ v. any_of (conds v.items)) (c.from_vec.ensures ∙ c.in-None.ensures.0) ∙ many-or c.args.parts.items c.requires c.in-None.ensures.1)
