use Rattle.std.proofs.Common.{ap, ◌∙◌}
use Rattle.pg_expr.specs.Cond.{all_of}
use Rattle.pg_expr.specs.work.View.{conds}
use Rattle.expr_reader.proofs.PartLemmas.{cond-and-of, many-and}
use Rattle.expr_reader.proofs.expr.and_of.Goals as goal

pub returns-in-None : goal.returns-in-None
returns-in-None c = cond-and-of c.from_vec.result ∙ (ap (λ v. all_of (conds v.items)) (c.from_vec.ensures ∙ c.in-None.ensures.0) ∙ many-and c.args.parts.items c.requires c.in-None.ensures.1)
