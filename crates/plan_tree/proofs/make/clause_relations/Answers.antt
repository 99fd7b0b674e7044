use Rattle.std.proofs.Common.{◌∙◌, ap, sym, subst, IsTrue}
use Rattle.pg_expr.specs.work.Columns.{rels_below}
use Rattle.pg_expr.specs.Cond.{Cond}
use Rattle.eq_classes.specs.Clauses.{ClassTable}
use Rattle.eq_classes.specs.Listing.{clause_at}
use Rattle.plan_tree.proofs.NamedLemmas.{few-relations}
use Rattle.plan_tree.proofs.make.clause_relations.Goals as goal

pub rels-requires : goal.rels-requires
rels-requires c =
    let same = c.clause.ensures ∙ ap (λ (t : ClassTable). (clause_at t.clauses c.args.n).cond) c.classes_of.ensures in
    subst (λ (e : Cond). IsTrue (rels_below 16 e)) (sym same) (few-relations c.args.cat.now c.args.q.now c.args.n c.requires.query c.requires.clause)
