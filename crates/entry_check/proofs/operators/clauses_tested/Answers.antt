use Rattle.std.proofs.Common.{arith}
use Rattle.pg_base.proofs.SetLaws.{has-below}
use Rattle.entry_check.proofs.TestedLemmas.{tested-given, tested-none, tested-whole}
use Rattle.entry_check.proofs.operators.clauses_tested.Goals as goal

pub join_param_clauses-requires : goal.join_param_clauses-requires
join_param_clauses-requires c = has-below c.args.b.0 c.in-Some.r.0 (omega arith) c.in-Some.ensures.found

pub returns-then-p-eq0 : goal.returns-then-p-eq0
returns-then-p-eq0 c = λ i reads given. tested-whole c.args.classes.now.clauses c.args.a c.args.b c.args.p c.join_clauses.result i reads given c.if-p-eq0.true c.join_clauses.ensures

pub returns-in-Some : goal.returns-in-Some
returns-in-Some c = λ i reads given.
    tested-given c.args.classes.now.clauses c.args.a c.args.b c.args.p c.join_param_clauses.result i reads given c.in-Some.r c.if-p-eq0.false c.in-Some.ensures.found c.join_param_clauses.ensures

pub returns-in-None : goal.returns-in-None
returns-in-None c = λ i reads given. tested-none c.args.classes.now.clauses c.args.a c.args.b c.args.p c.empty.result i reads given c.in-None.ensures.none
