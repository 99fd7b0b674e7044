use Rattle.std.proofs.Common.{◌<◌, ◌↔◌, ℕ, IsTrue, length, subst}
use Rattle.pg_base.specs.Sets.{has}
use Rattle.pg_expr.specs.work.AtomSets.{contains}
use Rattle.eq_classes.specs.Clauses.{ClassTable}
use Rattle.plan_tree.proofs.ConditionLemmas.{some-condition}
use Rattle.plan_tree.proofs.index_scans.has_condition.Goals as goal

pub returns : goal.returns
returns c =
    some-condition c.args.cat.now c.args.q.now.classes c.args.i c.args.r.0 (has c.args.p.0) c.has_some.result (contains c.args.found.now) c.requires.found
    (subst (λ (t : ClassTable). IsTrue c.has_some.result ↔ ((n : ℕ) × (n < length t.clauses) × IsTrue (contains c.args.found.now n))) c.classes_of.ensures c.has_some.ensures)
