use Rattle.std.proofs.Common.{◌∙◌, length, arith}
use Rattle.std.specs.List.{list_all}
use Rattle.pg_base.specs.Sets.{has}
use Rattle.std.proofs.lemmas.Bool.{and_parts}
use Rattle.pg_expr.specs.work.View.{cond}
use Rattle.sql_query.specs.catalog_Contents.{index_at}
use Rattle.cost_rules.specs.work.Costs.{capped}
use Rattle.index_match.specs.Arms.{arm_parts, takes_parts}
use Rattle.index_match.specs.Conditions.{is_condition}
use Rattle.index_match.proofs.ArmLemmas.{parts_few}
use Rattle.path_cost.specs.Costs.{arm_part}
use Rattle.plan_tree.proofs.parts.arm_part_of.Goals as goal

pub arm_part-requires-clause-few : goal.arm_part-requires-clause-few
arm_part-requires-clause-few c =
    let d = index_at c.args.cat.now c.args.i in
    let e = cond c.args.arm.now in
    let each = (and_parts (takes_parts d.method (length (arm_parts e))) (list_all (is_condition d c.args.r.0) (arm_parts e)) c.requires.matched).1 in
    let fewer = parts_few d c.args.r.0 e each in
    omega (arith, fewer, c.requires.few)

pub returns-clause-part : goal.returns-clause-part
returns-clause-part c =
    let e = cond c.args.arm.now in
    c.arm_part.ensures.rule
    ∙ (λ z. capped (arm_part c.args.cat.now (c.range_of-range.ensures z) (c.classes_of.ensures z) c.args.i c.args.r.0 (has c.args.p.0) (arm_parts e) (λ n. c.in-Some.ensures.bounds n z)))
