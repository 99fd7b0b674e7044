use Rattle.std.proofs.Common.{List, subst, sym}
use Rattle.std.specs.Prelude.{IfNone, IfSome}
use Rattle.pg_base.specs.Sets.{has}
use Rattle.eq_classes.specs.declared.classes.ClassNo.{ClassNo}
use Rattle.pathkeys.specs.work.Finding.{class_numbers}
use Rattle.plan_tree.specs.Least.{IsAdmissible}
use Rattle.plan_tree.specs.Plans.{Plan, merge}
use Rattle.plan_tree.specs.Space.{IsBuilt, IsMergeList}
use Rattle.plan_check.specs.Certificates.{sorted_if}
use Rattle.plan_check.specs.work.Views.{entry}
use Rattle.plan_check.specs.work.Beating.{IsRight, candidate}
use Rattle.entry_check.proofs.merges.merge_of.Goals as goal

pub merge_with-requires-clause-list : goal.merge_with-requires-clause-list
merge_with-requires-clause-list c = subst (λ (xs : List ClassNo). IsMergeList c.args.cat.now c.args.q.now (has c.args.a.now.set.0) (has c.args.b.now.set.0) (class_numbers xs)) (sym c.merge_work-work.ensures.list) c.requires.list

pub returns-clause-some : goal.returns-clause-some
returns-clause-some c = subst (λ (xs : List ClassNo). IfSome c.merge_with.result (λ x. (o i : Plan) → IsRight c.args.cat.now c.args.q.now (entry c.args.a.now) o → IsRight c.args.cat.now c.args.q.now (entry c.args.b.now) i → IsRight c.args.cat.now c.args.q.now (candidate x) (merge (class_numbers xs) (sorted_if c.args.sorts.0 (class_numbers xs) o) (sorted_if c.args.sorts.1 (class_numbers xs) i))))
    c.merge_work-work.ensures.list c.merge_with.ensures.some

pub returns-clause-none : goal.returns-clause-none
returns-clause-none c = subst (λ (xs : List ClassNo). IfNone c.merge_with.result ((o i : Plan) → IsRight c.args.cat.now c.args.q.now (entry c.args.a.now) o → IsRight c.args.cat.now c.args.q.now (entry c.args.b.now) i → IsBuilt c.args.cat.now c.args.q.now (merge (class_numbers xs) (sorted_if c.args.sorts.0 (class_numbers xs) o) (sorted_if c.args.sorts.1 (class_numbers xs) i)) → ¬ IsAdmissible c.args.cat.now c.args.q.now (merge (class_numbers xs) (sorted_if c.args.sorts.0 (class_numbers xs) o) (sorted_if c.args.sorts.1 (class_numbers xs) i))))
    c.merge_work-work.ensures.list c.merge_with.ensures.none
