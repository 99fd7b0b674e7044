use Rattle.std.proofs.Common.{ap, Option}
use Rattle.std.specs.Option.{option_map}
use Rattle.pg_expr.specs.work.AtomSets.{contains}
use Rattle.pg_expr.specs.work.View.{cond}
use Rattle.pg_expr.specs.declared.expr.Expr.{Expr}
use Rattle.catalog.specs.work.Entries.{index_of}
use Rattle.eq_classes.specs.Parts.{is_base}
use Rattle.index_match.proofs.FoundLemmas.{placed_are}
use Rattle.index_match.proofs.UsableLemmas.{usable_by}
use Rattle.index_match.proofs.usability.usable.Goals as goal

pub returns-in-Some : goal.returns-in-Some
returns-in-Some c = record {
  usable = usable_by c.args.cat.now c.args.classes.now c.args.i c.args.r.0 (index_of c.index-def.result.now) _ _ _ c.implies.result c.index-def.ensures.value
      (ap (λ (o : Option Expr). option_map cond o) c.in-Some.is)
      (placed_are c.args.classes.now (is_base c.args.r.0) (contains c.base_clauses-base.result) c.base_clauses-base.ensures)
      c.columns.ensures c.implies.ensures.derived;
}
