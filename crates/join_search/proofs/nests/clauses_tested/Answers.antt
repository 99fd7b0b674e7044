use Rattle.std.proofs.Common.{arith}
use Rattle.plan_tree.specs.work.Views.{path}
use Rattle.join_search.proofs.TestedLemmas.{few-relation, tested-given, tested-whole}
use Rattle.join_search.proofs.nests.clauses_tested.Goals as goal

pub join_param_clauses-requires : goal.join_param_clauses-requires
join_param_clauses-requires c = few-relation c.args.j.now.cat.now c.args.j.now.q.now c.args.j.now (path c.args.inner.now) c.some_relation.result.0 c.requires.over.query c.requires.inner c.some_relation.ensures

pub returns-then-inner-eq0 : goal.returns-then-inner-eq0
returns-then-inner-eq0 c =
    tested-whole c.args.j.now.cat.now c.args.j.now.q.now c.args.j.now (path c.args.inner.now) c.classes_of-classes.result.now c.join_clauses.result c.requires.inner c.if-inner-eq0.true c.classes_of-classes.ensures c.join_clauses.ensures

pub returns-else-inner-eq0 : goal.returns-else-inner-eq0
returns-else-inner-eq0 c =
    tested-given c.args.j.now.cat.now c.args.j.now.q.now c.args.j.now (path c.args.inner.now) c.some_relation.result c.classes_of-classes.result.now c.join_param_clauses.result c.requires.inner (λ e. omega (arith, e, c.if-inner-eq0.false)) c.some_relation.ensures c.classes_of-classes.ensures c.join_param_clauses.ensures
