use Rattle.plan_tree.specs.work.Views.{plan}
use Rattle.plan_tree.proofs.JoinLemmas.{joining-given, joining-whole}
use Rattle.plan_tree.proofs.joins.joining.Goals as goal

pub join_param_clauses-requires : goal.join_param_clauses-requires
join_param_clauses-requires c = c.in-Some.ensures.below 16 c.requires.inner

pub returns-in-Some : goal.returns-in-Some
returns-in-Some c =
    joining-given c.args.classes.now.clauses c.join_param_clauses.result c.set_of.result (plan c.args.outer.now) (plan c.args.inner.now) c.in-Some.rel c.in-Some.param c.given_scan.result
    c.join_param_clauses.ensures c.set_of.ensures.members c.given_scan.ensures.scan c.in-Some.is

pub returns-in-None : goal.returns-in-None
returns-in-None c =
    joining-whole c.args.classes.now.clauses c.join_clauses.result c.set_of-in-None.result c.set_of-in-None-2.result (plan c.args.outer.now) (plan c.args.inner.now) c.given_scan.result
    c.join_clauses.ensures c.set_of-in-None.ensures.members c.set_of-in-None-2.ensures.members c.given_scan.ensures.scan c.in-None.is
